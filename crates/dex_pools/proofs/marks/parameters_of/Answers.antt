use Rattle.std.proofs.Common.{arith}
use Rattle.std.proofs.lemmas.Grind.{common_steps}
use Rattle.std.proofs.lemmas.Result.{err_from_is_err_and}
use Rattle.dex_pools.proofs.Loop.{goes_on, ends}
use Rattle.dex_pools.proofs.marks.parameters_of.Goals as goal

pub returns-in_err-marks-clause-gives : goal.returns-in_err-marks-clause-gives
returns-in_err-marks-clause-gives c =
    let p = err_from_is_err_and c.from_residual.result c.from_residual.ensures.1 in
    rw (p.1, p.2) (ends _ _ _ _ _ _ _ _ c.loop-i.invariant.reads c.loop-i-test.true c.in_err-marks.ensures.gives)

pub loop-i-preserved : goal.loop-i-preserved
loop-i-preserved c = record {
  reads = goes_on _ _ _ _ _ _ _ _ _ c.loop-i.invariant.reads c.loop-i-test.true c.in_ok-marks.ensures.gives c.in_ok-push.ensures.items;
  range = grind (arith, common_steps);
}
