use Rattle.std.proofs.Common.{List, subst, sym}
use Rattle.std.proofs.lemmas.Result.{IfOk-weaker}
use Rattle.rule_text.specs.Related.{AreEach}
use Rattle.if_text.specs.Readings.{IsIfOf}
use Rattle.if_rules.proofs.fire.add_by.Goals as goal

pub returns-clause-adds : goal.returns-clause-adds
returns-clause-adds c = λ rs formed resolved are is. IfOk-weaker c.add_each.result _ _
    (λ count round. record { live = c.in_ok-live.live; is_live = record { closed = c.in_ok-live.ensures.closed formed resolved; least = c.in_ok-live.ensures.least formed resolved }; round = round })
    (c.add_each.ensures.adds rs formed (subst (λ (xs : List _). AreEach IsIfOf xs rs) (sym c.as_slice.ensures.value) are) is)
