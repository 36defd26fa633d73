use Rattle.std.proofs.Common.{ℕ, List, sym, subst, arith}
use Rattle.live_regs.specs.Liveness.{IsBack}
use Rattle.live_regs.proofs.Seen.{marks_none, marks_more, back_is}
use Rattle.live_regs.proofs.sight.marks_by_walks.Goals as goal

pub loop-register-init : goal.loop-register-init
loop-register-init c = marks_none c.args.body.now c.in_ok-marks.marks.items c.in_ok-marks.ensures.items

pub live_before-requires-clause-turned : goal.live_before-requires-clause-turned
live_before-requires-clause-turned c = subst (λ (l : List (List ℕ)). IsBack c.args.body.now l) (sym c.deref-in-loop-register.ensures.value)
    (back_is c.args.body.now c.deref.result.now c.in_ok-forth.forth.items c.in_ok-back.back.items c.len.result (omega (arith, c.len.ensures, c.in_ok-forth.ensures.long)) c.in_ok-forth.ensures.rows c.deref.ensures.value c.in_ok-back.ensures.turned)

pub loop-register-preserved : goal.loop-register-preserved
loop-register-preserved c = marks_more c.args.body.now c.loop-register.marks.items c.push.new.self.items c.loop-register.register c.from.result c.in_ok-live_before.field-0 c.loop-register.invariant c.from.ensures c.in_ok-live_before.ensures c.in_ok-push.ensures.items

pub returns : goal.returns
returns c = λ r lt. c.loop-register.invariant.each r (omega (arith, lt))
