use Rattle.std.proofs.Common.{◌≡◌, map, take}
use Rattle.hierarchy.specs.Membership.{key_at}
use Rattle.hierarchy.proofs.members.keys_of_fields.Given as goal

abbrev pub invariant-loop-field : goal.invariant-loop-field
invariant-loop-field l = l.row ≡ map (λ x. key_at l.keys x.name) (take l.field-index l.class.fields)
