use Rattle.std.proofs.Common.{◌≡◌, drop}
use Rattle.dalvik_steps.specs.Turns.{left_in}
use Rattle.dalvik_steps.proofs.starting.left_of.Given as goal

abbrev pub invariant-loop-at : goal.invariant-loop-at
invariant-loop-at l = left_in l.state.statuses.items (drop l.at l.above) ≡ left_in l.state.statuses.items (drop l.next l.above)
