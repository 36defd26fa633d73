use Rattle.std.proofs.Common.{length}
use Rattle.pipeline.specs.Advised.{verdict}
use Rattle.pipeline.proofs.Preparing.{prepared, advised_begun}
use Rattle.pipeline.proofs.Turns.{on_err}
use Rattle.pipeline.proofs.rounds.prepare.Goals as goal

pub returns-in_err-advice-clause-begun : goal.returns-in_err-advice-clause-begun
returns-in_err-advice-clause-begun g c = λ formed. on_err _ (c.in_err-advice.ensures.begun formed)

pub returns-in_err-silenced-clause-begun : goal.returns-in_err-silenced-clause-begun
returns-in_err-silenced-clause-begun g c = λ formed. on_err _ (advised_begun c.args.outside.now c.args.program (length c.args.panel.now.advisers.items) _ _ _ _ (verdict c.in_ok-advice.advice) (c.in_ok-advice.ensures.advised formed))

pub returns-clause-prepared : goal.returns-clause-prepared
returns-clause-prepared g c = λ formed. prepared c.args.outside.now c.args.program c.in_ok-silenced.silenced (length c.args.panel.now.advisers.items) _ _ _ _ (verdict c.in_ok-advice.advice) formed
    c.in_ok-advice.ensures.advised c.in_ok-silenced.ensures.exact c.in_ok-silenced.ensures.formed
