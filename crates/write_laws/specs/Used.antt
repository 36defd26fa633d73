-- What it is that a program uses an entry of one of its tables, and that it uses what the entry names.
use Rattle.std.specs.Prelude.{◌≡◌, ◌<◌, ◌^◌, ℕ, List, length, Bool, true, false, Some, slice_get, slice_index_or}
use Rattle.std.specs.List.{AllByRecursion}
use Rattle.dex_pools.specs.declared.used.Named.{Named}
use Rattle.dex_pools.specs.declared.used.Named.TheVariants as named
use Rattle.dex_pools.specs.declared.used.Used.{Used}
use Rattle.program_model.specs.declared.pools.Proto.{Proto}
use Rattle.program_model.specs.declared.pools.FieldName.{FieldName}
use Rattle.program_model.specs.declared.pools.MethodName.{MethodName}
use Rattle.program_model.specs.declared.program.Program.{Program}

-- the flag of this number is set, where there is one
abbrev pub IsSet : List Bool → ℕ → Type 0
IsSet flags n = n < length flags → slice_index_or flags n false ≡ true

abbrev pub IsUsed : Used → Named → Type 0
IsUsed u (named.Text n) = IsSet u.strings n
IsUsed u (named.Kind n) = IsSet u.types n
IsUsed u (named.Proto n) = IsSet u.protos n
IsUsed u (named.Field n) = IsSet u.fields n
IsUsed u (named.Method n) = IsSet u.methods n

-- what a proto, a field and a method that are used name is used too
pub record UsesProto (u : Used) (x : Proto) : Type 0 where
  pub shorty : IsUsed u (named.Text x.shorty)
  pub result : IsUsed u (named.Kind x.result)
  pub parameters : AllByRecursion (λ n. IsUsed u (named.Kind n)) x.parameters

pub record UsesField (u : Used) (x : FieldName) : Type 0 where
  pub class : IsUsed u (named.Kind x.class)
  pub kind : IsUsed u (named.Kind x.kind)
  pub name : IsUsed u (named.Text x.name)

pub record UsesMethod (u : Used) (x : MethodName) : Type 0 where
  pub class : IsUsed u (named.Kind x.class)
  pub proto : IsUsed u (named.Proto x.proto)
  pub name : IsUsed u (named.Text x.name)

-- the flags are as many as the entries, and what is used uses what it names
pub record IsClosed (p : Program) (u : Used) : Type 0 where
  pub types : (n string : ℕ) → slice_get p.types n ≡ Some string → IsUsed u (named.Kind n) → IsUsed u (named.Text string)
  pub protos : (n : ℕ) (x : Proto) → slice_get p.protos n ≡ Some x → IsUsed u (named.Proto n) → UsesProto u x
  pub fields : (n : ℕ) (x : FieldName) → slice_get p.fields n ≡ Some x → IsUsed u (named.Field n) → UsesField u x
  pub methods : (n : ℕ) (x : MethodName) → slice_get p.methods n ≡ Some x → IsUsed u (named.Method n) → UsesMethod u x

-- the tables have fewer entries than 32 bits number
pub record IsShort (p : Program) : Type 0 where
  pub strings : length p.strings < 2 ^ 32
  pub types : length p.types < 2 ^ 32
  pub protos : length p.protos < 2 ^ 32
  pub fields : length p.fields < 2 ^ 32
  pub methods : length p.methods < 2 ^ 32

-- the numbers in order are numbers of the table
abbrev pub AllIn : {X : Type 0} → List X → List ℕ → Type 0
AllIn table order = AllByRecursion (λ n. n < length table) order
