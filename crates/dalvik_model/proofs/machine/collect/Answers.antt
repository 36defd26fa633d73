use Rattle.std.proofs.Common.{◌≡◌, ◌+◌, ◌≤◌, List, length, arith, subst, sym, vec_len}
use Rattle.std.specs.Prelude.{None}
use Rattle.dalvik_defs.specs.State.{opening}
use Rattle.dalvik_defs.specs.Step.{after}
use Rattle.dalvik_defs.specs.declared.events.Event.{Event}
use Rattle.dalvik_model.specs.Standing.{bodies_for, setting_for, HasShown}
use Rattle.dalvik_model.proofs.Showing.{few_more, has_next, none_more}
use Rattle.dalvik_model.proofs.machine.collect.Goals as goal

pub loop-at-preserved : goal.loop-at-preserved
loop-at-preserved c =
    let k = c.loop-at.at in
    let old = c.loop-at.machine in
    let new = c.step.new.self in
    let event = c.in_ok-event.event in
    let done = c.in_ok-event.ensures.done in
    let counted = c.loop-at.invariant.counted in
    let most = few_more c.loop-at.events.items c.add.new.events.items event c.in_ok-add.ensures in
    let before = c.loop-at.events.ok.0 in
    let behind = c.add.new.events.ok.0 in
    let few = c.loop-at.invariant.few in
    record {
      counted = omega (arith, done, counted);
      few = omega (arith, most, before, behind, few);
      shown = λ s at arrays.
          let h = c.loop-at.invariant.shown s at arrays in
          subst (HasShown s (k + 1) new) (sym c.in_ok-add.ensures)
          (has_next s k old new c.loop-at.events.items event h (c.in_ok-event.ensures.step s (after (setting_for s) (bodies_for s) (opening s.script) k) h.at (arrays.at k c.loop-at-test.true)));
      silent = λ idle.
          let h = c.loop-at.invariant.silent idle in
          let same = c.in_ok-event.ensures.silent h.idle in
          let none : event ≡ None = cc in
          record { idle = c.in_ok-event.ensures.idle h.idle; are = none_more c.loop-at.events.items c.add.new.events.items event c.in_ok-add.ensures none h.are };
    }
