-- Numbers below the sizes of their tables.
use Rattle.std.specs.Prelude.{ℕ, ◌<◌, All, length}
use Rattle.program_model.specs.declared.pools.Proto.{Proto}
use Rattle.program_model.specs.declared.pools.FieldName.{FieldName}
use Rattle.program_model.specs.declared.pools.MethodName.{MethodName}
use Rattle.dex_pools.specs.declared.pools.Pools.{Pools}

pub record ProtoInRange (strings types : ℕ) (p : Proto) : Type 0 where
  pub shorty : p.shorty < strings
  pub outcome : p.result < types
  pub parameters : All (λ n. n < types) p.parameters

pub record FieldInRange (strings types : ℕ) (f : FieldName) : Type 0 where
  pub class : f.class < types
  pub kind : f.kind < types
  pub name : f.name < strings

pub record MethodInRange (strings types protos : ℕ) (m : MethodName) : Type 0 where
  pub class : m.class < types
  pub proto : m.proto < protos
  pub name : m.name < strings

-- each number in the tables is below the size of the table that it goes into
pub record PoolsInRange (pools : Pools) : Type 0 where
  pub types : All (λ n. n < length pools.strings) pools.types
  pub protos : All (ProtoInRange (length pools.strings) (length pools.types)) pools.protos
  pub fields : All (FieldInRange (length pools.strings) (length pools.types)) pools.fields
  pub methods : All (MethodInRange (length pools.strings) (length pools.types) (length pools.protos)) pools.methods
