-- Programs whose annotations name strings of a part of the table that ascends: those that were read, also with further strings behind.
use Rattle.std.specs.Prelude.{◌<◌, ℕ, List, take}
use Rattle.std.specs.List.{AllByRecursion}
use Rattle.dex_pools.specs.declared.used.Named.{Named}
use Rattle.dex_pools.specs.declared.used.Named.TheVariants.{Text}
use Rattle.dex_pools.specs.Finds.{Ascends}
use Rattle.dex_pools.specs.Order.{list_below}
use Rattle.dex_pools.specs.Used.{marks_names}
use Rattle.program_model.specs.declared.value.Mark.{Mark}
use Rattle.program_model.specs.declared.program.Class.{Class}
use Rattle.program_model.specs.declared.program.Program.{Program}

-- a name is none of a string, or of one of so many first ones
abbrev pub IsLow : ℕ → Named → Type 0
IsLow strings (Text n) = n < strings
IsLow strings name = Unit {0}

abbrev pub MarksLow : ℕ → List Mark → Type 0
MarksLow strings marks = AllByRecursion (IsLow strings) (marks_names marks)

pub record ClassLow (strings : ℕ) (c : Class) : Type 0 where
  pub own : MarksLow strings c.marks
  pub fields : AllByRecursion (λ f. MarksLow strings f.marks) c.fields
  pub methods : AllByRecursion (λ m. MarksLow strings m.marks × AllByRecursion (MarksLow strings) m.parameter_marks) c.methods

pub record NamesRise (p : Program) : Type 0 where
  pub strings : ℕ
  pub ascend : Ascends list_below (take strings p.strings)
  pub classes : AllByRecursion (ClassLow strings) p.classes
