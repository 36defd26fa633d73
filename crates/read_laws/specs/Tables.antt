-- The sizes with which a reader of code compares numbers are no greater than those of a program's tables.
use Rattle.std.specs.Prelude.{◌≤◌, length}
use Rattle.program_model.specs.declared.program.Program.{Program}
use Rattle.code_read.specs.declared.sizes.Sizes.{Sizes}

pub record AreWithin (p : Program) (sizes : Sizes) : Type 0 where
  pub strings : sizes.strings ≤ length p.strings
  pub types : sizes.types ≤ length p.types
  pub fields : sizes.fields ≤ length p.fields
  pub methods : sizes.methods ≤ length p.methods
