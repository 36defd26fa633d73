use Rattle.std.proofs.Common.{◌≡◌, ◌++◌, drop}
use Rattle.std.specs.Prelude.{flat_map}
use Rattle.class_defs.specs.Finding.{beside}
use Rattle.hierarchy.specs.Tables.{read_at, row_of}
use Rattle.hierarchy.specs.Walking.{waits}
use Rattle.hierarchy.proofs.build.Hierarchy.push_above.Given as goal

abbrev pub invariant-loop-at : goal.invariant-loop-at
invariant-loop-at l = record {
  waits : waits l.walk ≡ flat_map (λ f. row_of l.self.shape.lists.rows f.class ++ beside (read_at l.self.shape.supers.items f.class)) (drop l.at l.candidates) ++ waits l.initial.walk;
  seen : l.walk.seen ≡ l.initial.walk.seen;
  list : l.walk.list ≡ l.initial.walk.list;
}
