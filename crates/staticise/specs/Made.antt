-- What is known of the methods that are made static, and of the tables behind them.
use Rattle.std.specs.Prelude.{◌≡◌, ℕ, Bool, true, List, ◌∷◌, Some, slice_get}
use Rattle.program_model.specs.declared.pass.Outside.{Outside}
use Rattle.program_model.specs.declared.pools.MethodName.{MethodName}
use Rattle.program_model.specs.declared.pools.Proto.{Proto}
use Rattle.program_model.specs.declared.program.Class.{Class}
use Rattle.program_model.specs.declared.program.Method.{Method}
use Rattle.program_model.specs.declared.program.Program.{Program}
use Rattle.facts.specs.declared.facts.Facts.{Facts}
use Rattle.static_protos.specs.Growing.{AreBehind}
use Rattle.static_protos.specs.Tables.{Tables, tables_of}
use Rattle.staticise.specs.Judging.{is_loose}
use Rattle.staticise.specs.Loosened.{given_at}

module _ (p : Program) (facts : Facts) (o : Outside) (admitted : List Bool) where
  -- a method of the program, which is loose behind the tables of its turn
  pub record WasLoose (n : ℕ) : Type 0 where
    pub place : ℕ
    pub class : Class
    pub at : ℕ
    pub method : Method
    pub name : MethodName
    pub proto : Proto
    pub tables : Tables
    pub is_class : slice_get p.classes place ≡ Some class
    pub is_method : slice_get class.methods at ≡ Some method
    pub is_number : method.name ≡ n
    pub is_name : slice_get p.methods n ≡ Some name
    pub is_proto : slice_get p.protos name.proto ≡ Some proto
    pub behind : AreBehind (tables_of p) tables
    pub holds : is_loose p facts o admitted tables place class method name proto ≡ true

  -- its new proto is that at a place of the tables, with its class in front of the parameters
  pub record IsMade (t : Tables) (n v : ℕ) : Type 0 where
    pub was : WasLoose n
    pub new : Proto
    pub there : slice_get t.protos v ≡ Some new
    pub result : new.result ≡ was.proto.result
    pub parameters : new.parameters ≡ was.class.name ∷ was.proto.parameters

  -- Each method with a new proto is one, and what the tables get stands behind what they had.
  pub record AreMade (t : Tables) : Type 0 where
    pub each : (n v : ℕ) → given_at t.given n ≡ Some v → IsMade t n v
    pub behind : AreBehind (tables_of p) t

-- no method number has its name and its new proto
abbrev pub IsFresh : Program → MethodName → Proto → Class → Type 0
IsFresh p name proto class = (r : ℕ) (other : MethodName) (x : Proto) → slice_get p.methods r ≡ Some other → other.name ≡ name.name → slice_get p.protos other.proto ≡ Some x → x.result ≡ proto.result
    → x.parameters ≡ class.name ∷ proto.parameters → ⊥
