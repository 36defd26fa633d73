use Rattle.std.proofs.Common.{◌≡◌, ◌++◌, drop}
use Rattle.flow_cfg.specs.Starts.{places_from}
use Rattle.flow_cfg.proofs.starts.marked_places.Given as goal

abbrev pub invariant-loop-is_marked : goal.invariant-loop-is_marked
invariant-loop-is_marked l = record {
  next : l.place ≡ l.is_marked-index;
  places : l.places.items ++ places_from l.place (drop l.is_marked-index l.marks) ≡ places_from 0 l.marks;
}
