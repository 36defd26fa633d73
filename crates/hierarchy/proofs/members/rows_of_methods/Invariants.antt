use Rattle.std.proofs.Common.{◌≡◌, take}
use Rattle.hierarchy.specs.Membership.{method_rows}
use Rattle.hierarchy.proofs.members.rows_of_methods.Given as goal

abbrev pub invariant-loop-class : goal.invariant-loop-class
invariant-loop-class l = l.rows ≡ method_rows l.keys (take l.class-index l.classes)
