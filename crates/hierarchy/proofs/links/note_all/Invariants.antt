use Rattle.std.proofs.Common.{◌≡◌, drop}
use Rattle.hierarchy.specs.Touring.{add_to_all}
use Rattle.hierarchy.proofs.links.note_all.Given as goal

abbrev pub invariant-loop-up : goal.invariant-loop-up
invariant-loop-up l = add_to_all l.below.rows (drop l.up-index l.list) l.class ≡ add_to_all l.initial.below.rows l.list l.class
