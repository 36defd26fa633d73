use Rattle.std.proofs.Common.{arith}
use Rattle.std.proofs.lemmas.Grind.{common_steps}
use Rattle.std.proofs.lemmas.Result.{err_from_is_err_and}
use Rattle.dex_pools.proofs.Loop.{goes_on, ends}
use Rattle.dex_read.proofs.reader.class_list.Goals as goal

pub returns-in_err-class-clause-gives : goal.returns-in_err-class-clause-gives
returns-in_err-class-clause-gives c =
    let p = err_from_is_err_and c.from_residual.result c.from_residual.ensures.1 in
    rw (p.1, p.2) (ends _ _ _ _ _ _ _ _ c.loop-place.invariant.reads c.loop-place-test.true c.in_err-class.ensures.gives)

pub loop-place-preserved : goal.loop-place-preserved
loop-place-preserved c = record {
  reads = goes_on _ _ _ _ _ _ _ _ _ c.loop-place.invariant.reads c.loop-place-test.true c.in_ok-class.ensures.gives c.in_ok-push.ensures.items;
  count = grind (arith, common_steps);
}
