use Rattle.std.proofs.lemmas.Result.{err_from_is_err_and}
use Rattle.dex_pools.proofs.Loop.{goes_on, ends}
use Rattle.dex_read.proofs.class_data.methods_of.Goals as goal

pub loop-place-preserved : goal.loop-place-preserved
loop-place-preserved c = record {
  reads = goes_on _ _ _ _ _ _ _ _ _ c.loop-place.invariant.reads c.loop-place-test.true c.in_ok-entry.ensures.gives c.in_ok-push.ensures.items;
  inside = c.in_ok-entry.ensures.inside;
}

pub returns-in_err-entry-clause-gives : goal.returns-in_err-entry-clause-gives
returns-in_err-entry-clause-gives c =
    let p = err_from_is_err_and c.from_residual.result c.from_residual.ensures.1 in
    rw (p.1, p.2) (ends _ _ _ _ _ _ _ _ c.loop-place.invariant.reads c.loop-place-test.true c.in_err-entry.ensures.gives)
