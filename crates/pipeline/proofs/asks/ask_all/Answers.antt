use Rattle.std.proofs.Common.{arith, refl, ap, get_or, length, ◌∙◌}
use Rattle.pipeline.specs.Advised.{verdict}
use Rattle.pipeline.specs.Asks.{asked_in, no_verdict}
use Rattle.pipeline.specs.Replies.{turns_in, turns_about, AreFirstOf}
use Rattle.redex_outside.proofs.Runs.{run_start}
use Rattle.pipeline.proofs.AskLemmas.{item_answered, all_answered, none_yet}
use Rattle.pipeline.proofs.Turns.{on_err, item_run, item_begun, all_run, taken_by, first_none}
use Rattle.pipeline.proofs.asks.ask_all.Goals as goal

pub returns-in_err-advice-clause-begun : goal.returns-in_err-advice-clause-begun
returns-in_err-advice-clause-begun g c = on_err _ (taken_by (AreFirstOf (turns_about c.args.live.now c.args.program.now)) _ _ _ _ _ (run_start _ _) (first_none _))

pub loop-class-init : goal.loop-class-init
loop-class-init g c = record { answered = none_yet _ _ _ _ c.in_ok-advice.ensures; count = refl; run = run_start _ _ }

pub loop-class-preserved : goal.loop-class-preserved
loop-class-preserved g c = record {
  answered = item_answered (asked_in c.args.live.now) (length c.args.panel.now.advisers.items) (length c.loop-class.panel.advisers.items) c.args.program.now.classes c.loop-class.class-index _ c.class-item.result c.args.panel.now.answers.items c.loop-class.panel.answers.items c.ask_class.new.panel.answers.items
      (no_verdict c.args.program.now) (verdict c.loop-class.advice) (verdict c.ask_class.new.advice) (omega (arith, ap length c.as_slice-class-items.ensures)) (c.class-item.is ∙ ap (λ l. get_or l c.loop-class.class-index c.class-item.result) c.as_slice-class-items.ensures) c.loop-class.invariant.count
      c.loop-class.invariant.answered c.in_ok-ask_class.ensures.answered;
  count = c.ask_class.ensures.count ∙ c.loop-class.invariant.count;
  run = item_run (turns_in c.args.live.now c.args.program.now) c.args.program.now.classes _ _ _ _ _ _ c.loop-class.class-index _ c.class-item.result (omega (arith, ap length c.as_slice-class-items.ensures))
      (c.class-item.is ∙ ap (λ l. get_or l c.loop-class.class-index c.class-item.result) c.as_slice-class-items.ensures) c.loop-class.invariant.run c.in_ok-ask_class.ensures.run;
}

pub returns-in_err-ask_class-clause-begun : goal.returns-in_err-ask_class-clause-begun
returns-in_err-ask_class-clause-begun g c =
    on_err _ (item_begun (turns_in c.args.live.now c.args.program.now) c.args.program.now.classes _ _ _ _ _ _ c.loop-class.class-index _ c.class-item.result (omega (arith, ap length c.as_slice-class-items.ensures))
    (c.class-item.is ∙ ap (λ l. get_or l c.loop-class.class-index c.class-item.result) c.as_slice-class-items.ensures) c.loop-class.invariant.run c.in_err-ask_class.ensures.begun)

pub returns-clause-answered : goal.returns-clause-answered
returns-clause-answered g c = all_answered (asked_in c.args.live.now) _ c.args.program.now.classes c.loop-class.class-index _ _ _ _ (omega (arith, ap length c.as_slice-class-items.ensures)) c.loop-class.invariant.answered

pub returns-clause-count : goal.returns-clause-count
returns-clause-count g c = c.loop-class.invariant.count

pub returns-clause-run : goal.returns-clause-run
returns-clause-run g c = all_run (turns_in c.args.live.now c.args.program.now) c.args.program.now.classes _ _ _ _ c.loop-class.class-index (omega (arith, ap length c.as_slice-class-items.ensures)) c.loop-class.invariant.run
