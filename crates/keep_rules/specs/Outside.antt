-- What an answer says of the program's tables.
use Rattle.std.specs.Prelude.{ℕ, ◌<◌, List, length, All}
use Rattle.std.specs.List.{AllPairs}
use Rattle.program_model.specs.declared.program.Program.{Program}
use Rattle.program_model.specs.declared.pass.Outside.{Outside}

-- numbers of a table of this size, in order and without duplicates
pub record AreNumbers (size : ℕ) (numbers : List ℕ) : Type 0 where
  pub below : All (λ n. n < size) numbers
  pub ascend : AllPairs (λ a b. a < b) numbers

-- all numbers are of the program's tables
pub record IsWithin (program : Program) (outside : Outside) : Type 0 where
  pub classes : AreNumbers (length program.types) outside.classes
  pub methods : AreNumbers (length program.methods) outside.methods
  pub fields : AreNumbers (length program.fields) outside.fields
  pub methods_if : AreNumbers (length program.methods) outside.methods_if
  pub fields_if : AreNumbers (length program.fields) outside.fields_if
  pub classes_if : All (λ pair. pair.class < length program.types) outside.classes_if
  pub owners : All (λ pair. pair.owner < length program.types) outside.classes_if
  pub silent : AreNumbers (length program.methods) outside.silent
