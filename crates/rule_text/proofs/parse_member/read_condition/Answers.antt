use Rattle.std.proofs.Common.{◌≡◌, ◌++◌, ◌∷◌, refl, subst, rules, false}
use Rattle.rule_text.specs.Spelling.{bang, access_word, is_member_condition}
use Rattle.rule_text.specs.Steps.{words_at}
use Rattle.rule_text.proofs.MemberLemmas.{member_mark, any_access}
use Rattle.rule_text.proofs.RefusalLemmas.{passed}
use Rattle.rule_text.proofs.LineRefusals.{no_mark_here, bare_bang}
use Rattle.rule_text.specs.Places.{InLine}
use Rattle.rule_text.specs.Refusals.{IsRefused}
use Rattle.rule_text.proofs.parse_member.read_condition.Goals as goal

pub returns-in-Some-clause-step : goal.returns-in-Some-clause-step
returns-in-Some-clause-step c = member_mark c.args.tokens.now c.args.at.now c.read_mark.new.at c.in-Some.mark (search rules)

pub returns-in-Some-2-clause-step : goal.returns-in-Some-2-clause-step
returns-in-Some-2-clause-step c =
    let same : c.read_mark.new.at ≡ c.args.at.now = search rules in
    let is : words_at c.args.tokens.now c.read_mark.new.at ≡ bang c.in-Some-2.negated ++ (access_word c.in-Some-2.access ∷ words_at c.args.tokens.now c.read_access.new.at) = search rules in
    any_access is_member_condition c.args.tokens.now c.args.at.now c.read_access.new.at c.in-Some-2.negated c.in-Some-2.access refl
    (subst (λ at. words_at c.args.tokens.now at ≡ bang c.in-Some-2.negated ++ (access_word c.in-Some-2.access ∷ words_at c.args.tokens.now c.read_access.new.at)) same is)

pub returns-in_err-mark-clause-halt : goal.returns-in_err-mark-clause-halt
returns-in_err-mark-clause-halt c =
    passed c.from_residual.result c.in_err-mark.field-0.0 c.from_residual.ensures.1 (no_mark_here c.args.tokens.now c.args.at.now c.read_mark.new.at) c.in_err-mark.ensures.stop

pub returns-in_err-negated-clause-halt : goal.returns-in_err-negated-clause-halt
returns-in_err-negated-clause-halt c =
    let same : c.read_mark.new.at ≡ c.args.at.now = search rules in
    passed c.from_residual-in_err-negated.result c.in_err-negated.field-0.0 c.from_residual-in_err-negated.ensures.1
    (λ bare. subst (λ k. IsRefused (InLine false) c.args.tokens.now k c.read_access.new.at) same (bare_bang false c.args.tokens.now c.read_mark.new.at c.read_access.new.at bare)) c.in_err-negated.ensures.stop
