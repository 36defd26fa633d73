use Rattle.std.proofs.Common.{◌≡◌, ◌∙◌, None, Some, slice_get, ap, sym}
use Rattle.std.specs.Option.{option_copied}
use Rattle.std.proofs.lemmas.Result.{IfOk-weaker}
use Rattle.if_text.specs.Readings.{IsIfOf}
use Rattle.if_rules.proofs.Lives.{EachThere, each_past, each_there}
use Rattle.if_rules.proofs.Rounds.{holds_no_rule, holds_rule}
use Rattle.if_rules.proofs.live.holds.Goals as goal

pub returns-in-Some : goal.returns-in-Some
returns-in-Some c = λ rs formed are.
    let at : slice_get c.args.rules.now c.args.instance.now.rule ≡ Some c.in-Some.rule.now = sym c.rule_there.ensures ∙ ap option_copied c.in-Some.is in
    let there : EachThere IsIfOf rs c.args.instance.now.rule c.in-Some.rule.now = each_there IsIfOf c.args.rules.now rs c.args.instance.now.rule c.in-Some.rule.now are at in
    IfOk-weaker c.holds_at.result _ _ (λ b is. is ∙ sym (holds_rule c.args.program.now c.args.live.now rs c.args.instance.now there.one there.is)) (c.holds_at.ensures there.one formed there.related)

pub returns-in-None : goal.returns-in-None
returns-in-None c = λ rs formed are.
    let at : slice_get c.args.rules.now c.args.instance.now.rule ≡ None = sym c.rule_there.ensures ∙ ap option_copied c.in-None.is in
    holds_no_rule c.args.program.now c.args.live.now rs c.args.instance.now (each_past IsIfOf c.args.rules.now rs c.args.instance.now.rule are at)
