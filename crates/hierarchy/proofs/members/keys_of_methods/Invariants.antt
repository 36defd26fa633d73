use Rattle.std.proofs.Common.{◌≡◌, map, take}
use Rattle.hierarchy.specs.Membership.{key_at}
use Rattle.hierarchy.proofs.members.keys_of_methods.Given as goal

abbrev pub invariant-loop-method : goal.invariant-loop-method
invariant-loop-method l = l.row ≡ map (λ x. key_at l.keys x.name) (take l.method-index l.class.methods)
