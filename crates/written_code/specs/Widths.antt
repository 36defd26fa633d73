-- The numbers of code as values of their types: what every body in memory has.
use Rattle.std.specs.List.{AllByRecursion}
use Rattle.program_model.specs.declared.program.Program.{Program}
use Rattle.widths.specs.Code.{WideCode}

abbrev pub HasWideCode : Program → Type 0
HasWideCode p = AllByRecursion (λ c. AllByRecursion (λ m. WideCode m.body) c.methods) p.classes
