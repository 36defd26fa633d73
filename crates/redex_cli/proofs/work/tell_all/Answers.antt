use Rattle.std.proofs.Common.{arith}
use Rattle.redex_outside.proofs.Runs.{run_start}
use Rattle.pipeline.proofs.Turns.{item_run}
use Rattle.redex_cli.proofs.Tells.{turns_one, all_told}
use Rattle.redex_cli.proofs.work.tell_all.Goals as goal

pub loop-tell-init : goal.loop-tell-init
loop-tell-init g c = run_start _ _

pub loop-tell-preserved : goal.loop-tell-preserved
loop-tell-preserved g c = item_run turns_one c.args.tells.now _ _ _ _ _ _ c.loop-tell.tell-index _ c.tell-item.result (omega arith) c.tell-item.is c.loop-tell.invariant c.in_ok-tell_one.ensures

pub returns : goal.returns
returns g c = all_told c.args.tells.now _ _ _ _ c.loop-tell.tell-index (omega arith) c.loop-tell.invariant
