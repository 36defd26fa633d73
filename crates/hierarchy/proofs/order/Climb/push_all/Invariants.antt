use Rattle.std.proofs.Common.{◌≡◌, ◌++◌, drop, map}
use Rattle.hierarchy.specs.Climbing.{todo}
use Rattle.hierarchy.specs.declared.order.Task.TheVariants.{Come}
use Rattle.hierarchy.proofs.order.Climb.push_all.Given as goal

abbrev pub invariant-loop-at : goal.invariant-loop-at
invariant-loop-at l = record {
  todo : todo l.self ≡ map (λ c. Come c) (drop l.at l.classes) ++ todo l.initial.self;
  seen : l.self.seen ≡ l.initial.self.seen;
  left : l.self.left ≡ l.initial.self.left;
  order : l.self.order ≡ l.initial.self.order;
}
