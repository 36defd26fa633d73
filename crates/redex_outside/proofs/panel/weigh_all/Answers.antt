use Rattle.std.proofs.Common.{rules, arith, refl, []}
use Rattle.std.proofs.lemmas.Grind.{common_steps}
use Rattle.redex_outside.proofs.Asking.{asked_next, asked_all}
use Rattle.redex_outside.proofs.Runs.{run_asked}
use Rattle.redex_outside.proofs.panel.weigh_all.Goals as goal

pub loop-adviser-init : goal.loop-adviser-init
loop-adviser-init g c = (record { given = []; grown = search rules; answered = refl; all_yes = refl }, omega arith)

pub loop-adviser-preserved : goal.loop-adviser-preserved
loop-adviser-preserved g c =
    (asked_next _ _ _ _ _ _ _ _ _ _ c.adviser-item.result _ c.weigh_one-yes.result c.loop-adviser.invariant.0 (omega arith) c.weigh_one-yes.ensures (grind (arith, common_steps)) refl, grind (arith, common_steps))

pub returns-clause-asked : goal.returns-clause-asked
returns-clause-asked g c = asked_all _ _ _ _ _ _ _ _ c.loop-adviser.invariant.0 (omega arith)

pub returns-clause-runs : goal.returns-clause-runs
returns-clause-runs g c = λ turns olds before run. run_asked turns _ olds _ _ before _ _ _ run (asked_all _ _ _ _ _ _ _ _ c.loop-adviser.invariant.0 (omega arith))
