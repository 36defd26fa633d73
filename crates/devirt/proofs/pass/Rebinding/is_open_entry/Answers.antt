use Rattle.std.proofs.Common.{◌∙◌, sym}
use Rattle.lemmas.proofs.Options.{none_some}
use Rattle.devirt.proofs.pass.Rebinding.is_open_entry.Goals as goal

pub returns-in-Some : goal.returns-in-Some
returns-in-Some c = λ b e. c.has_other.ensures b.finding c.args.old.now (c.in-Some.ensures b c.args.old.now e)

pub returns-in-None : goal.returns-in-None
returns-in-None c = λ b e. none_some c.args.old.now (sym (c.in-None.ensures b) ∙ e)
