use Rattle.std.proofs.Common.{arith}
use Rattle.redex_outside.proofs.Telling.{told_next, told_all, told_some, on_err}
use Rattle.redex_outside.proofs.Runs.{run_told}
use Rattle.redex_outside.proofs.panel.tell_all.Goals as goal

pub loop-adviser-preserved : goal.loop-adviser-preserved
loop-adviser-preserved g c = told_next _ _ _ _ _ c.adviser-item.result _ c.loop-adviser.invariant (omega arith) c.in_ok-tell_one.ensures.told

pub returns-in_err-tell_one-clause-refused : goal.returns-in_err-tell_one-clause-refused
returns-in_err-tell_one-clause-refused g c =
    on_err c.from_residual.result (told_some _ _ _ _ _ c.adviser-item.result c.tell_one.new.adviser c.loop-adviser.invariant (omega arith) c.in_err-tell_one.ensures.refused)

pub returns-clause-told : goal.returns-clause-told
returns-clause-told g c = told_all _ _ _ _ _ c.loop-adviser.invariant (omega arith)

pub returns-clause-runs : goal.returns-clause-runs
returns-clause-runs g c = λ turns olds before after run. run_told turns _ _ _ olds _ _ before _ run (told_all _ _ _ _ _ c.loop-adviser.invariant (omega arith))
