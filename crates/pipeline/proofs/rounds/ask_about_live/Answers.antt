use Rattle.pipeline.proofs.Preparing.{none_begun}
use Rattle.pipeline.proofs.Turns.{on_err}
use Rattle.pipeline.proofs.rounds.ask_about_live.Goals as goal

pub returns-in_err-live-clause-begun : goal.returns-in_err-live-clause-begun
returns-in_err-live-clause-begun g c = λ formed. on_err _ (none_begun c.args.outside.now c.args.program.now _ _)

pub returns-clause-advised : goal.returns-clause-advised
returns-clause-advised g c = λ formed. c.ask_marked.ensures.advised c.args.outside.now c.requires (c.in_ok-live.ensures formed)

pub returns-clause-begun : goal.returns-clause-begun
returns-clause-begun g c = λ formed. c.ask_marked.ensures.begun c.args.outside.now c.requires (c.in_ok-live.ensures formed)
