-- Which marks tell which methods may be static.
use Rattle.std.specs.Prelude.{◌≡◌, ℕ, List, Bool, Some, slice_get}
use Rattle.program_model.specs.declared.pass.Outside.{Outside}
use Rattle.program_model.specs.declared.pools.MethodName.{MethodName}
use Rattle.program_model.specs.declared.program.Class.{Class}
use Rattle.program_model.specs.declared.program.Method.{Method}
use Rattle.program_model.specs.declared.program.Program.{Program}
use Rattle.facts.specs.declared.facts.Facts.{Facts}
use Rattle.loose_methods.specs.Candidates.{may_be_static}
use Rattle.loose_methods.specs.Marking.{is_on}

-- just those methods are marked that may be static as far as the tables have room
pub record IsSieved (p : Program) (facts : Facts) (o : Outside) (admitted marks : List Bool) : Type 0 where
  pub are : (place i : ℕ) (k : Class) (m : Method) (q : MethodName) → slice_get p.classes place ≡ Some k → slice_get k.methods i ≡ Some m → slice_get p.methods m.name ≡ Some q
      → is_on marks m.name ≡ may_be_static p facts o admitted place k q m
