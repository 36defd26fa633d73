use Rattle.std.proofs.Common.{◌≡◌, ◌∙◌, ap, sym}
use Rattle.std.specs.Prelude.{◌&&◌}
use Rattle.std.proofs.lemmas.Result.{IfOk-weaker}
use Rattle.rule_defs.specs.Patterns.{member_name_fits, type_fits}
use Rattle.keep_rules.proofs.members.name_and_type.Goals as goal

pub returns : goal.returns
returns c = λ n k is kind.
    IfOk-weaker c.type_fits.result (λ b. b ≡ type_fits k c.args.descriptor.now) (λ b. b ≡ (member_name_fits n c.args.units.now && type_fits k c.args.descriptor.now))
    (λ b e. e ∙ ap (λ x. x && type_fits k c.args.descriptor.now) (sym (sym (c.in_ok-named.ensures n is) ∙ c.if-not-named.false))) (c.type_fits.ensures k kind)
