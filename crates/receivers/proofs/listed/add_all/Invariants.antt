use Rattle.std.proofs.Common.{◌≡◌, drop}
use Rattle.hierarchy.specs.Touring.{add_to_all}
use Rattle.receivers.proofs.listed.add_all.Given as goal

abbrev pub invariant-loop-kind : goal.invariant-loop-kind
invariant-loop-kind l = add_to_all l.rows (drop l.kind-index l.kinds) l.class ≡ add_to_all l.initial.rows l.kinds l.class
