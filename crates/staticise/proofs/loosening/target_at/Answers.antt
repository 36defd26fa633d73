use Rattle.std.proofs.Common.{◌∙◌, ap, sym}
use Rattle.std.specs.Option.{option_copied}
use Rattle.staticise.specs.Loosened.{target_method}
use Rattle.staticise.proofs.loosening.target_at.Goals as goal

pub returns-in-Some : goal.returns-in-Some
returns-in-Some c = c.if_given.ensures ∙ sym (ap (target_method c.args.given.now) (sym c.method_at.ensures ∙ ap option_copied c.in-Some.is))

pub returns-in-None : goal.returns-in-None
returns-in-None c = sym (ap (target_method c.args.given.now) (sym c.method_at.ensures ∙ ap option_copied c.in-None.is))
