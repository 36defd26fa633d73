use Rattle.std.proofs.Common.{sym}
use Rattle.redex_outside.proofs.Runs.{run_start}
use Rattle.pipeline.proofs.AskLemmas.{not_asked}
use Rattle.pipeline.proofs.Turns.{not_run}
use Rattle.pipeline.proofs.asks.ask_live.Goals as goal

pub returns-else-is_asked-clause-answered : goal.returns-else-is_asked-clause-answered
returns-else-is_asked-clause-answered g c = not_asked _ c.args.live.now c.args.method.now _ _ (sym c.if-is_asked.ensures)

pub returns-else-is_asked-clause-run : goal.returns-else-is_asked-clause-run
returns-else-is_asked-clause-run g c = not_run c.args.live.now c.args.program.now c.args.class.now c.args.method.now _ _ _ _ (sym c.if-is_asked.ensures) (run_start _ _)
