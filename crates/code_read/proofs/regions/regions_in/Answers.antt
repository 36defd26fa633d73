use Rattle.std.proofs.Common.{ℕ, ◌-◌, ap, arith}
use Rattle.std.proofs.lemmas.Grind.{common_steps}
use Rattle.std.proofs.lemmas.Result.{err_from_is_err_and}
use Rattle.code_read.proofs.Apart.{apart_push, end_push}
use Rattle.code_read.proofs.Reading.{regions_skip, regions_go_on, regions_fail}
use Rattle.code_read.proofs.regions.regions_in.Goals as goal

pub returns-in_err-kept-clause-gives : goal.returns-in_err-kept-clause-gives
returns-in_err-kept-clause-gives c =
    let p = err_from_is_err_and c.from_residual.result c.from_residual.ensures.1 in
    rw (p.1, p.2) (regions_fail _ _ _ _ _ _ _ _ _ _ _ _ c.loop-place.invariant.reads c.loop-place-test.true c.in_err-kept.ensures.gives)

pub loop-place-preserved-in-None : goal.loop-place-preserved-in-None
loop-place-preserved-in-None c =
    let is = rw c.in-None.is at c.in_ok-kept.ensures.gives in
    record {
      reads = regions_skip _ _ _ _ _ _ _ _ _ _ c.loop-place.invariant.reads c.loop-place-test.true is;
      inside = c.loop-place.invariant.inside;
      apart = c.loop-place.invariant.apart;
      last = c.loop-place.invariant.last;
    }

pub loop-place-preserved : goal.loop-place-preserved
loop-place-preserved c =
    let is = rw c.in-Some.is at c.in_ok-kept.ensures.gives in
    let inside = rw c.in-Some.is at c.in_ok-kept.ensures.inside in
    let behind = rw c.in-Some.is at c.in_ok-kept.ensures.behind in
    let least = ap (λ (n : ℕ). c.loop-place.left - n) c.count_of-left.ensures in
    record {
      reads = regions_go_on _ _ _ _ _ _ _ _ _ _ _ _ _ c.loop-place.invariant.reads c.loop-place-test.true is least c.in_ok-push-in-Some.ensures.items;
      inside = grind (arith, common_steps);
      apart = grind (arith, common_steps, apart_push);
      last = grind (arith, common_steps, end_push);
    }
