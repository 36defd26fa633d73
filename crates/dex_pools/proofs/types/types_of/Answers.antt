use Rattle.std.proofs.Common.{arith}
use Rattle.std.proofs.lemmas.Grind.{common_steps}
use Rattle.std.proofs.lemmas.Result.{err_from_is_err_and}
use Rattle.dex_pools.proofs.Loop.{each_goes_on, each_ends}
use Rattle.dex_pools.proofs.types.types_of.Goals as goal

pub returns-in_err-string-clause-gives : goal.returns-in_err-string-clause-gives
returns-in_err-string-clause-gives c =
    let p = err_from_is_err_and c.from_residual.result c.from_residual.ensures.1 in
    rw (p.1, p.2) (each_ends _ _ _ _ _ _ _ c.loop-i.invariant.reads c.loop-i-test.true c.in_err-string.ensures.gives)

pub loop-i-preserved : goal.loop-i-preserved
loop-i-preserved c = record {
  reads = each_goes_on _ _ _ _ _ _ _ c.loop-i.invariant.reads c.loop-i-test.true c.in_ok-string.ensures.gives c.in_ok-push.ensures.items;
  sized = grind (arith, common_steps);
  below = grind (arith, common_steps);
}
