use Rattle.std.proofs.Common.{◌≡◌, false, inl, length, rules}
use Rattle.pipeline.proofs.Preparing.{none_answered, none_begun}
use Rattle.pipeline.proofs.Turns.{on_err}
use Rattle.pipeline.proofs.rounds.advice_on.Goals as goal

pub returns-else-outside-clause-advised : goal.returns-else-outside-clause-advised
returns-else-outside-clause-advised g c =
    let barred : c.args.outside.now.optimise ≡ false = search rules in
    λ formed. none_answered c.args.outside.now c.args.program.now c.no_advice.result (length c.args.panel.now.advisers.items) _ _ (inl barred) c.no_advice.ensures

pub returns-else-outside-clause-begun : goal.returns-else-outside-clause-begun
returns-else-outside-clause-begun g c = λ formed. on_err c.no_advice.result (none_begun c.args.outside.now c.args.program.now _ _)
