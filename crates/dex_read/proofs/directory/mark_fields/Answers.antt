use Rattle.std.proofs.lemmas.Result.{err_from_is_err_and}
use Rattle.dex_read.proofs.Steps.{steps_go_on, steps_fail}
use Rattle.dex_read.proofs.directory.mark_fields.Goals as goal

pub returns-in_err-mark_field-clause-gives : goal.returns-in_err-mark_field-clause-gives
returns-in_err-mark_field-clause-gives c =
    let p = err_from_is_err_and c.from_residual.result c.from_residual.ensures.1 in
    rw (p.1, p.2) (steps_fail _ _ _ _ _ _ _ c.loop-i.invariant c.loop-i-test.true c.in_err-mark_field.ensures.gives)

pub loop-i-preserved : goal.loop-i-preserved
loop-i-preserved c = steps_go_on _ _ _ _ _ _ c.loop-i.invariant c.loop-i-test.true c.in_ok-mark_field.ensures.gives
