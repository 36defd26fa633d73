use Rattle.std.proofs.Common.{arith, refl, ap, get_or, length, ◌∙◌}
use Rattle.pipeline.specs.Advised.{verdict}
use Rattle.pipeline.specs.Asks.{asked_one, NoneLeft}
use Rattle.pipeline.specs.Replies.{turns_one, AreFirstOf}
use Rattle.redex_outside.proofs.Runs.{run_start}
use Rattle.pipeline.proofs.AskLemmas.{item_answered, all_answered}
use Rattle.pipeline.proofs.Turns.{on_err, item_run, item_begun, all_run, taken_by, first_none}
use Rattle.pipeline.proofs.asks.ask_class.Goals as goal

pub loop-method-init : goal.loop-method-init
loop-method-init g c = record { answered = NoneLeft _ _; count = refl; run = run_start _ _ }

pub loop-method-preserved : goal.loop-method-preserved
loop-method-preserved g c = record {
  answered = item_answered (asked_one c.args.live.now) (length c.args.panel.now.advisers.items) (length c.loop-method.panel.advisers.items) c.args.class.now.methods c.loop-method.method-index _ c.method-item.result c.args.panel.now.answers.items c.loop-method.panel.answers.items c.ask_live.new.panel.answers.items
      (verdict c.args.advice.now) (verdict c.loop-method.advice) (verdict c.ask_live.new.advice) (omega (arith, ap length c.as_slice-method-items.ensures)) (c.method-item.is ∙ ap (λ l. get_or l c.loop-method.method-index c.method-item.result) c.as_slice-method-items.ensures) c.loop-method.invariant.count
      c.loop-method.invariant.answered c.in_ok-ask_live.ensures.answered;
  count = c.ask_live.ensures.count ∙ c.loop-method.invariant.count;
  run = item_run (turns_one c.args.live.now c.args.program.now c.args.class.now) c.args.class.now.methods _ _ _ _ _ _ c.loop-method.method-index _ c.method-item.result (omega (arith, ap length c.as_slice-method-items.ensures))
      (c.method-item.is ∙ ap (λ l. get_or l c.loop-method.method-index c.method-item.result) c.as_slice-method-items.ensures) c.loop-method.invariant.run c.in_ok-ask_live.ensures.run;
}

pub returns-in_err-ask_live-clause-begun : goal.returns-in_err-ask_live-clause-begun
returns-in_err-ask_live-clause-begun g c =
    let f = turns_one c.args.live.now c.args.program.now c.args.class.now in
    on_err _ (item_begun f c.args.class.now.methods _ _ _ _ _ _ c.loop-method.method-index _ c.method-item.result (omega (arith, ap length c.as_slice-method-items.ensures))
    (c.method-item.is ∙ ap (λ l. get_or l c.loop-method.method-index c.method-item.result) c.as_slice-method-items.ensures) c.loop-method.invariant.run
    (taken_by (AreFirstOf (f c.method-item.result)) _ _ _ _ _ c.in_err-ask_live.ensures.begun (first_none _)))

pub returns-clause-answered : goal.returns-clause-answered
returns-clause-answered g c = all_answered (asked_one c.args.live.now) _ c.args.class.now.methods c.loop-method.method-index _ _ _ _ (omega (arith, ap length c.as_slice-method-items.ensures)) c.loop-method.invariant.answered

pub returns-clause-run : goal.returns-clause-run
returns-clause-run g c = all_run (turns_one c.args.live.now c.args.program.now c.args.class.now) c.args.class.now.methods _ _ _ _ c.loop-method.method-index (omega (arith, ap length c.as_slice-method-items.ensures)) c.loop-method.invariant.run
