use Rattle.std.proofs.Common.{◌≡◌, ◌++◌, drop}
use Rattle.std.specs.Prelude.{flat_map}
use Rattle.hierarchy.specs.Tables.{row_of}
use Rattle.hierarchy.specs.Walking.{waits}
use Rattle.hierarchy.proofs.walk.Walk.push_rows.Given as goal

abbrev pub invariant-loop-at : goal.invariant-loop-at
invariant-loop-at l = record {
  waits : waits l.self ≡ flat_map (row_of l.rows.rows) (drop l.at l.places) ++ waits l.initial.self;
  seen : l.self.seen ≡ l.initial.self.seen;
  list : l.self.list ≡ l.initial.self.list;
}
