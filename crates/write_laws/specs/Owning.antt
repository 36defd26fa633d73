-- What the entries of tables name, the tables have.
use Rattle.std.specs.Prelude.{◌<◌, ◌≤◌, ℕ, length}
use Rattle.std.specs.List.{AllByRecursion}
use Rattle.program_model.specs.declared.pools.Proto.{Proto}
use Rattle.program_model.specs.declared.pools.FieldName.{FieldName}
use Rattle.program_model.specs.declared.pools.MethodName.{MethodName}
use Rattle.program_model.specs.declared.program.Program.{Program}

pub record OwnsProto (q : Program) (x : Proto) : Type 0 where
  pub shorty : x.shorty < length q.strings
  pub result : x.result < length q.types
  pub parameters : AllByRecursion (λ n. n < length q.types) x.parameters

pub record OwnsField (q : Program) (x : FieldName) : Type 0 where
  pub class : x.class < length q.types
  pub kind : x.kind < length q.types
  pub name : x.name < length q.strings

pub record OwnsMethod (q : Program) (x : MethodName) : Type 0 where
  pub class : x.class < length q.types
  pub proto : x.proto < length q.protos
  pub name : x.name < length q.strings

pub record OwnsAll (q : Program) : Type 0 where
  pub types : AllByRecursion (λ n. n < length q.strings) q.types
  pub protos : AllByRecursion (OwnsProto q) q.protos
  pub fields : AllByRecursion (OwnsField q) q.fields
  pub methods : AllByRecursion (OwnsMethod q) q.methods

-- no table is longer than that of another program
pub record IsNoLonger (q p : Program) : Type 0 where
  pub strings : length q.strings ≤ length p.strings
  pub types : length q.types ≤ length p.types
  pub protos : length q.protos ≤ length p.protos
  pub fields : length q.fields ≤ length p.fields
  pub methods : length q.methods ≤ length p.methods
