-- The numbers of a program as values of their types: what every program in memory has.
use Rattle.std.specs.Prelude.{◌≡◌, ◌<◌, ◌^◌, ℕ, List}
use Rattle.std.specs.List.{AllByRecursion}
use Rattle.program_model.specs.declared.value.Mark.{Mark}
use Rattle.program_model.specs.declared.program.Field.{Field}
use Rattle.program_model.specs.declared.program.Method.{Method}
use Rattle.program_model.specs.declared.program.Class.{Class}
use Rattle.program_model.specs.declared.program.Program.{Program}

abbrev pub AreHalves : List ℕ → Type 0
AreHalves text = AllByRecursion (λ u. u < 2 ^ 16) text

abbrev pub MarksFit : List Mark → Type 0
MarksFit marks = AllByRecursion (λ m. m.visibility < 2 ^ 8) marks

pub record FieldFits (f : Field) : Type 0 where
  pub flags : f.flags.0 < 2 ^ 32
  pub marks : MarksFit f.marks

pub record MethodFits (m : Method) : Type 0 where
  pub flags : m.flags.0 < 2 ^ 32
  pub marks : MarksFit m.marks
  pub parameter_marks : AllByRecursion MarksFit m.parameter_marks

pub record ClassFits (c : Class) : Type 0 where
  pub flags : c.flags.0 < 2 ^ 32
  pub marks : MarksFit c.marks
  pub fields : AllByRecursion FieldFits c.fields
  pub methods : AllByRecursion MethodFits c.methods

pub record HasWidths (p : Program) : Type 0 where
  pub strings : AllByRecursion AreHalves p.strings
  pub classes : AllByRecursion ClassFits p.classes
