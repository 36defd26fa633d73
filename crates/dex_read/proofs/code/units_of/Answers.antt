use Rattle.std.proofs.Common.{arith}
use Rattle.std.proofs.lemmas.Grind.{common_steps}
use Rattle.std.proofs.lemmas.Result.{err_from_is_err_and}
use Rattle.dex_pools.proofs.Loop.{each_goes_on, each_ends}
use Rattle.dex_read.specs.Code.{units_at}
use Rattle.dex_read.proofs.code.units_of.Goals as goal

pub returns-in_err-unit-clause-gives : goal.returns-in_err-unit-clause-gives
unfolding units_at
returns-in_err-unit-clause-gives c =
    let p = err_from_is_err_and c.from_residual-in_err-unit.result c.from_residual-in_err-unit.ensures.1 in
    rw (p.1, p.2) (each_ends _ _ _ _ _ _ _ c.loop-i.invariant.reads c.loop-i-test.true c.in_err-unit.ensures.gives)

pub loop-i-preserved : goal.loop-i-preserved
loop-i-preserved c = record {
  reads = each_goes_on _ _ _ _ _ _ _ c.loop-i.invariant.reads c.loop-i-test.true c.in_ok-unit.ensures.gives c.in_ok-push.ensures.items;
  count = grind (arith, common_steps);
}
