use Rattle.std.proofs.Common.{◌≡◌, ◌∷◌, codes, subst, rules, true}
use Rattle.rule_text.specs.Steps.{words_at}
use Rattle.rule_text.proofs.MemberLemmas.{assumed_all, assumed_methods}
use Rattle.rule_text.proofs.LineRefusals.{behind_star, behind_methods}
use Rattle.rule_text.proofs.parse_member.read_assumed_what.Goals as goal

pub returns-then-accept_all-clause-step : goal.returns-then-accept_all-clause-step
returns-then-accept_all-clause-step c _ = assumed_all c.args.tokens.now c.args.at.now c.accept_all.new.at (search rules)

pub returns-then-accept-clause-step : goal.returns-then-accept-clause-step
returns-then-accept-clause-step c _ =
    let same : c.accept_all.new.at ≡ c.args.at.now = search rules in
    let is : words_at c.args.tokens.now c.accept_all.new.at ≡ codes "<methods>" ∷ words_at c.args.tokens.now c.accept.new.at = search rules in
    assumed_methods c.args.tokens.now c.args.at.now c.accept.new.at (subst (λ at. words_at c.args.tokens.now at ≡ codes "<methods>" ∷ words_at c.args.tokens.now c.accept.new.at) same is)

pub returns-then-accept_all-clause-last : goal.returns-then-accept_all-clause-last
returns-then-accept_all-clause-last c bare =
    behind_star true c.args.tokens.now c.args.at.now c.accept_all.new.at (search rules) (search rules)

pub returns-then-accept-clause-last : goal.returns-then-accept-clause-last
returns-then-accept-clause-last c bare =
    behind_methods true c.args.tokens.now c.args.at.now c.accept_all.new.at c.accept.new.at (search rules) (search rules)
