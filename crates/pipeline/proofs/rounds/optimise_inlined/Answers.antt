use Rattle.std.proofs.Common.{length, sym}
use Rattle.std.proofs.lemmas.List.{length-map}
use Rattle.pipeline.specs.Advised.{verdict}
use Rattle.pipeline.proofs.Preparing.{inlined, methods_begun, calls_begun, inlined_begun}
use Rattle.pipeline.proofs.Turns.{on_err}
use Rattle.pipeline.proofs.rounds.optimise_inlined.Goals as goal

pub returns-in_err-advice-clause-begun : goal.returns-in_err-advice-clause-begun
returns-in_err-advice-clause-begun g c = λ formed. on_err _ (methods_begun c.args.outside.now c.args.program (length c.args.panel.now.advisers.items) _ _ _ _ (c.in_err-advice.ensures.begun formed))

pub returns-in_err-first-clause-begun : goal.returns-in_err-first-clause-begun
returns-in_err-first-clause-begun g c = λ formed.
    on_err _ (calls_begun c.args.outside.now c.args.program c.in_ok-advice.program (length c.args.panel.now.advisers.items) _ _ (verdict c.in_ok-advice.advice) _ _ _ _
    (c.in_ok-advice.ensures.prepared formed) c.in_err-first.ensures.begun)

pub returns-in_err-outcome-clause-begun : goal.returns-in_err-outcome-clause-begun
returns-in_err-outcome-clause-begun g c = λ formed.
    on_err _ (inlined_begun c.args.outside.now c.args.program c.in_ok-advice.program (length c.args.panel.now.advisers.items) _ _ (verdict c.in_ok-advice.advice) c.in_ok-first.first _ _ _ _
    (c.in_ok-advice.ensures.prepared formed) c.in_ok-first.ensures.inlined)

pub returns-clause-optimised : goal.returns-clause-optimised
returns-clause-optimised g c = λ formed.
    inlined c.args.outside.now c.args.program c.in_ok-advice.program (length c.args.panel.now.advisers.items) _ _ (verdict c.in_ok-advice.advice) c.in_ok-first.first
    (record { program = c.in_ok-outcome.outcome.program; origins = c.in_ok-outcome.outcome.origins }) c.in_ok-outcome.outcome.spared c.in_ok-outcome.outcome.rounds _ _ _ _
    (sym (length-map c.args.panel.now.advisers.items (λ b. (goal.Adviser-dyn g (b.vtable, b.value)).replies b.value))) (c.in_ok-advice.ensures.prepared formed) c.in_ok-first.ensures.inlined
    c.in_ok-outcome.ensures.spared c.in_ok-outcome.ensures.ran
