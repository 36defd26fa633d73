use Rattle.std.proofs.Common.{◌≡◌, ◌∷◌, codes, subst, ◌∙◌, rules, false}
use Rattle.rule_text.specs.Steps.{words_at}
use Rattle.rule_text.proofs.MemberLemmas.{what_all, what_fields, what_methods, what_init}
use Rattle.rule_text.proofs.RefusalLemmas.{passed}
use Rattle.rule_text.proofs.LineRefusals.{behind_star, behind_fields, behind_methods, behind_init, in_init}
use Rattle.rule_text.proofs.parse_member.read_what.Goals as goal

pub returns-then-accept_all-clause-step : goal.returns-then-accept_all-clause-step
returns-then-accept_all-clause-step c _ = what_all c.args.tokens.now c.args.at.now c.accept_all.new.at (search rules)

pub returns-then-accept-clause-step : goal.returns-then-accept-clause-step
returns-then-accept-clause-step c _ =
    let same : c.accept_all.new.at ≡ c.args.at.now = search rules in
    let is : words_at c.args.tokens.now c.accept_all.new.at ≡ codes "<fields>" ∷ words_at c.args.tokens.now c.accept.new.at = search rules in
    what_fields c.args.tokens.now c.args.at.now c.accept.new.at (subst (λ at. words_at c.args.tokens.now at ≡ codes "<fields>" ∷ words_at c.args.tokens.now c.accept.new.at) same is)

pub returns-then-accept-2-clause-step : goal.returns-then-accept-2-clause-step
returns-then-accept-2-clause-step c _ =
    let first : c.accept_all.new.at ≡ c.args.at.now = search rules in
    let second : c.accept.new.at ≡ c.accept_all.new.at = search rules in
    let is : words_at c.args.tokens.now c.accept.new.at ≡ codes "<methods>" ∷ words_at c.args.tokens.now c.accept-2.new.at = search rules in
    what_methods c.args.tokens.now c.args.at.now c.accept-2.new.at (subst (λ at. words_at c.args.tokens.now at ≡ codes "<methods>" ∷ words_at c.args.tokens.now c.accept-2.new.at) (second ∙ first) is)

pub returns-then-accept-3-clause-step : goal.returns-then-accept-3-clause-step
returns-then-accept-3-clause-step c _ =
    let first : c.accept_all.new.at ≡ c.args.at.now = search rules in
    let second : c.accept.new.at ≡ c.accept_all.new.at = search rules in
    let third : c.accept-2.new.at ≡ c.accept.new.at = search rules in
    let is : words_at c.args.tokens.now c.accept-2.new.at ≡ codes "<init>" ∷ words_at c.args.tokens.now c.accept-3.new.at = search rules in
    what_init c.args.tokens.now c.args.at.now c.accept-3.new.at c.read_arguments.new.at c.in_ok-read_arguments.field-0
    (subst (λ at. words_at c.args.tokens.now at ≡ codes "<init>" ∷ words_at c.args.tokens.now c.accept-3.new.at) (third ∙ second ∙ first) is) (search rules)

pub returns-then-accept_all-clause-last : goal.returns-then-accept_all-clause-last
returns-then-accept_all-clause-last c named =
    behind_star false c.args.tokens.now c.args.at.now c.accept_all.new.at (search rules) (search rules)

pub returns-then-accept-clause-last : goal.returns-then-accept-clause-last
returns-then-accept-clause-last c named =
    behind_fields c.args.tokens.now c.args.at.now c.accept_all.new.at c.accept.new.at (search rules) (search rules)

pub returns-then-accept-2-clause-last : goal.returns-then-accept-2-clause-last
returns-then-accept-2-clause-last c named =
    let first : c.accept_all.new.at ≡ c.args.at.now = search rules in
    let second : c.accept.new.at ≡ c.accept_all.new.at = search rules in
    behind_methods false c.args.tokens.now c.args.at.now c.accept.new.at c.accept-2.new.at (second ∙ first) (search rules)

pub returns-then-accept-3-clause-last : goal.returns-then-accept-3-clause-last
returns-then-accept-3-clause-last c named =
    let first : c.accept_all.new.at ≡ c.args.at.now = search rules in
    let second : c.accept.new.at ≡ c.accept_all.new.at = search rules in
    let third : c.accept-2.new.at ≡ c.accept.new.at = search rules in
    behind_init c.args.tokens.now c.args.at.now c.accept-2.new.at c.accept-3.new.at c.read_arguments.new.at c.in_ok-read_arguments.field-0 (third ∙ second ∙ first) (search rules) (search rules)

pub returns-in_err-read_arguments-clause-halt : goal.returns-in_err-read_arguments-clause-halt
returns-in_err-read_arguments-clause-halt c named =
    let first : c.accept_all.new.at ≡ c.args.at.now = search rules in
    let second : c.accept.new.at ≡ c.accept_all.new.at = search rules in
    let third : c.accept-2.new.at ≡ c.accept.new.at = search rules in
    passed c.from_residual.result c.in_err-read_arguments.field-0.0 c.from_residual.ensures.1 (in_init c.args.tokens.now c.args.at.now c.accept-2.new.at c.accept-3.new.at c.read_arguments.new.at (third ∙ second ∙ first) (search rules)) (c.in_err-read_arguments.ensures.halt false)
