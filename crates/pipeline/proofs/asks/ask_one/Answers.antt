use Rattle.std.proofs.Common.{ap}
use Rattle.redex_outside.proofs.Runs.{run_start}
use Rattle.pipeline.specs.Replies.{ask_about}
use Rattle.pipeline.proofs.AskLemmas.{as_many, one_answered}
use Rattle.pipeline.proofs.Turns.{on_err, none_run, one_run}
use Rattle.pipeline.proofs.asks.ask_one.Goals as goal

pub returns-in_err-ask-clause-begun : goal.returns-in_err-ask-clause-begun
returns-in_err-ask-clause-begun g c = on_err _ (run_start _ _)

pub returns-in_err-admitted-clause-begun : goal.returns-in_err-admitted-clause-begun
returns-in_err-admitted-clause-begun g c =
    on_err _ (none_run (λ b. (goal.Adviser-dyn g (b.vtable, b.value)).replies b.value) c.args.panel.now.advisers.items c.ask.new.self.advisers.items _ _ (ap (λ v. v.items) c.in_err-admitted.ensures.unasked) c.in_err-admitted.ensures.refused)

pub returns-clause-answered : goal.returns-clause-answered
returns-clause-answered g c = one_answered (λ b. (goal.Adviser-dyn g (b.vtable, b.value)).replies b.value) _ c.args.panel.now.advisers.items c.ask.new.self.advisers.items _ _ _ c.args.method.now.name _ _ c.in_ok-admitted.ensures.asked c.judge.ensures

pub returns-clause-count : goal.returns-clause-count
returns-clause-count g c = as_many (λ b. (goal.Adviser-dyn g (b.vtable, b.value)).replies b.value) _ c.args.panel.now.advisers.items c.ask.new.self.advisers.items _ _ _ c.in_ok-admitted.ensures.asked

pub returns-clause-run : goal.returns-clause-run
returns-clause-run g c = one_run _ (ask_about c.args.program.now c.args.class.now c.args.method.now) _ _ _ _ c.in_ok-ask.ensures (c.in_ok-admitted.ensures.runs _ _ _ (run_start _ _))
