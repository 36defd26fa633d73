-- What the law of coverage asks of kept constructors, by number.
use Rattle.std.specs.Prelude.{◌≡◌, ◌&&◌, not, ℕ, Bool, true, Some, codes, slice_get, Contains}
use Rattle.program_model.specs.declared.pass.Outside.{Outside}
use Rattle.program_model.specs.declared.pools.MethodName.{MethodName}
use Rattle.program_model.specs.declared.program.Class.{Class}
use Rattle.program_model.specs.declared.program.Method.{Method}
use Rattle.program_model.specs.declared.program.Program.{Program}
use Rattle.program_model.specs.MemberRules.{has_flag}
use Rattle.class_defs.specs.Members.{string_is}

-- neither abstract nor an interface
abbrev pub can_be_made : Class → Bool
can_be_made c = not (has_flag c.flags 1024) && not (has_flag c.flags 512)

-- a kept constructor of a class that can have objects is one that the class defines
abbrev pub MakersAreOwn : Program → Outside → Type 0
MakersAreOwn p o = (n : ℕ) (q : MethodName) (c : ℕ) (k : Class) → Contains o.methods n → slice_get p.methods n ≡ Some q → string_is p q.name (codes "<init>") ≡ true
    → slice_get p.classes c ≡ Some k → k.name ≡ q.class
    → can_be_made k ≡ true → (j : ℕ) × ((m : Method) × ((slice_get k.methods j ≡ Some m) × (m.name ≡ n)))
