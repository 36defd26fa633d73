use Rattle.std.proofs.lemmas.Result.{err_from_is_err_and}
use Rattle.dex_read.proofs.Steps.{steps_go_on, steps_fail}
use Rattle.dex_read.proofs.first_values.give_firsts.Goals as goal

pub returns-in_err-give_first-clause-gives : goal.returns-in_err-give_first-clause-gives
returns-in_err-give_first-clause-gives c =
    let p = err_from_is_err_and c.from_residual.result c.from_residual.ensures.1 in
    rw (p.1, p.2) (steps_fail _ _ _ _ _ _ _ c.loop-place.invariant c.loop-place-test.true c.in_err-give_first.ensures.gives)

pub loop-place-preserved : goal.loop-place-preserved
loop-place-preserved c = steps_go_on _ _ _ _ _ _ c.loop-place.invariant c.loop-place-test.true c.in_ok-give_first.ensures.gives
