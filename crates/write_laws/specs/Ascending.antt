-- Tables in the order of the format.
use Rattle.std.specs.Prelude.{nat_lt}
use Rattle.dex_pools.specs.Finds.{Ascends}
use Rattle.dex_pools.specs.Order.{list_below, proto_below, field_below, method_below}
use Rattle.program_model.specs.declared.program.Program.{Program}

pub record AllAscend (q : Program) : Type 0 where
  pub strings : Ascends list_below q.strings
  pub types : Ascends nat_lt q.types
  pub protos : Ascends proto_below q.protos
  pub fields : Ascends field_below q.fields
  pub methods : Ascends method_below q.methods
