use Rattle.std.proofs.Common.{◌∙◌, ap, sym}
use Rattle.std.specs.Option.{option_copied}
use Rattle.domains.specs.declared.values.Value.{Value}
use Rattle.loose_methods.specs.Loose.{holds_no_null, is_not_null}
use Rattle.loose_methods.proofs.calls.Sifter.knows_not_null.Goals as goal

pub returns-in-Some : goal.returns-in-Some
returns-in-Some c =
    c.is_not_null.ensures ∙ (ap is_not_null (c.nullness.ensures ∙ ap (λ (v : Value). v.nullness) c.get.ensures)
    ∙ sym (ap (λ o. holds_no_null o c.args.register) (sym c.at.ensures ∙ ap option_copied c.in-Some.is)))

pub returns-in-None : goal.returns-in-None
returns-in-None c = sym (ap (λ o. holds_no_null o c.args.register) (sym c.at.ensures ∙ ap option_copied c.in-None.is))
