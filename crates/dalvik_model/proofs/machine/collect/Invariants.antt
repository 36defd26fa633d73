use Rattle.std.proofs.Common.{◌≡◌, ◌≤◌, vec_len}
use Rattle.dalvik_defs.specs.State.{opening}
use Rattle.dalvik_model.specs.Standing.{HasShown, IsAt, IsIdle, MakesOnlyArrays, ShowsNothing, Subject}
use Rattle.dalvik_model.proofs.machine.collect.Given as goal

abbrev pub invariant-loop-at : goal.invariant-loop-at
invariant-loop-at l = record {
  counted : l.machine.steps ≡ l.at;
  few : vec_len l.events ≤ l.at;
  shown : (s : Subject) → IsAt s l.fn.machine (opening s.script) → MakesOnlyArrays s l.n → HasShown s l.at l.machine l.events.items;
  silent : IsIdle l.fn.machine → ShowsNothing l.machine l.events.items;
}
