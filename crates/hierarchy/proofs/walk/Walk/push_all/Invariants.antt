use Rattle.std.proofs.Common.{◌≡◌, ◌++◌, drop}
use Rattle.hierarchy.specs.Walking.{waits}
use Rattle.hierarchy.proofs.walk.Walk.push_all.Given as goal

abbrev pub invariant-loop-at : goal.invariant-loop-at
invariant-loop-at l = record {
  waits : waits l.self ≡ drop l.at l.classes ++ waits l.initial.self;
  seen : l.self.seen ≡ l.initial.self.seen;
  list : l.self.list ≡ l.initial.self.list;
}
