use Rattle.std.proofs.Common.{◌≡◌, length, sym, subst}
use Rattle.std.proofs.lemmas.List.{length-map}
use Rattle.pipeline.specs.declared.traces.Traced.{Traced}
use Rattle.pipeline.specs.Advised.{verdict}
use Rattle.pipeline.specs.Rounds.{HaveRunFrom}
use Rattle.pipeline.proofs.Preparing.{optimised, optimised_by, prepared_begun}
use Rattle.pipeline.proofs.Turns.{on_err}
use Rattle.pipeline.proofs.rounds.optimise.Goals as goal

pub returns-in_err-advice-clause-begun : goal.returns-in_err-advice-clause-begun
returns-in_err-advice-clause-begun g c = λ formed. on_err _ (c.in_err-advice.ensures.begun formed)

pub returns-in_err-outcome-clause-begun : goal.returns-in_err-outcome-clause-begun
returns-in_err-outcome-clause-begun g c = λ formed.
    on_err _ (prepared_begun c.args.outside.now c.args.program c.in_ok-advice.program (length c.args.panel.now.advisers.items) _ _ (verdict c.in_ok-advice.advice) _ _ (c.in_ok-advice.ensures.prepared formed))

pub returns-clause-optimised : goal.returns-clause-optimised
returns-clause-optimised g c = λ formed.
    let v = verdict c.in_ok-advice.advice in
    let t : Traced = record { program = c.in_ok-outcome.outcome.program; origins = c.in_ok-outcome.outcome.origins } in
    optimised c.args.outside.now c.args.program c.in_ok-advice.program (length c.args.panel.now.advisers.items) _ _ v t c.in_ok-outcome.outcome.spared c.in_ok-outcome.outcome.rounds _ _
    (c.in_ok-advice.ensures.prepared formed) c.in_ok-outcome.ensures.spared
    (subst (λ (first : Traced). HaveRunFrom c.args.outside.now v.admitted first t c.in_ok-outcome.outcome.rounds) c.unmoved-first.ensures c.in_ok-outcome.ensures.ran)

pub returns-clause-asked : goal.returns-clause-asked
returns-clause-asked g c = λ formed.
    let v = verdict c.in_ok-advice.advice in
    let t : Traced = record { program = c.in_ok-outcome.outcome.program; origins = c.in_ok-outcome.outcome.origins } in
    optimised_by c.args.outside.now c.args.program c.in_ok-advice.program (length c.args.panel.now.advisers.items) _ _ v t c.in_ok-outcome.outcome.spared c.in_ok-outcome.outcome.rounds _ _
    (sym (length-map c.args.panel.now.advisers.items (λ b. (goal.Adviser-dyn g (b.vtable, b.value)).replies b.value))) (c.in_ok-advice.ensures.prepared formed) c.in_ok-outcome.ensures.spared
    (subst (λ (first : Traced). HaveRunFrom c.args.outside.now v.admitted first t c.in_ok-outcome.outcome.rounds) c.unmoved-first.ensures c.in_ok-outcome.ensures.ran)
