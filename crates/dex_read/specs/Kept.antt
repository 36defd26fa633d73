-- The limits that tables and classes keep.
use Rattle.std.specs.Prelude.{ℕ, ◌≤◌, ◌<◌, ◌^◌, length}
use Rattle.program_model.specs.declared.program.Program.{Program}

-- the tables that the limits speak of, and classes that have numbers of 32 bits
pub record KeepsLimits (program : Program) : Type 0 where
  pub types : length program.types ≤ 65535
  pub protos : length program.protos ≤ 65535
  pub fields : length program.fields ≤ 65536
  pub methods : length program.methods ≤ 65536
  pub classes : length program.classes < 2 ^ 32
