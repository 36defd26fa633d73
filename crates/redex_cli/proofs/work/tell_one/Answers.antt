use Rattle.std.proofs.Common.{sym, ap, ◌∙◌}
use Rattle.redex_outside.specs.Turns.{Told}
use Rattle.redex_outside.specs.declared.adviser.Key.TheVariants as key
use Rattle.redex_cli.specs.Finished.{turn_told}
use Rattle.redex_cli.proofs.Tells.{one_told}
use Rattle.redex_cli.proofs.work.tell_one.Goals as goal

pub returns-in-Spare : goal.returns-in-Spare
returns-in-Spare g c = one_told c.tell.result key.Spare 0 c.as_str.result.now _ _ _ _ _ (ap (λ t. turn_told t) c.in-Spare.is ∙ ap (λ text. Told key.Spare 0 text) (sym c.as_str.ensures)) c.tell.ensures.runs

pub returns-in-AtMost : goal.returns-in-AtMost
returns-in-AtMost g c = one_told c.tell-in-AtMost.result key.AtMost c.in-AtMost.number _ _ _ _ _ _ (ap (λ t. turn_told t) c.in-AtMost.is) c.tell-in-AtMost.ensures.runs
