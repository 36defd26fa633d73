use Rattle.std.proofs.Common.{sym, ap, ◌∙◌}
use Rattle.std.specs.List.{list_all}
use Rattle.premises.specs.Plain.{is_plain_class}
use Rattle.premises.proofs.Plainly.{plainly}
use Rattle.premises.proofs.plain.lists_plainly.Goals as goal

pub returns-clause-sound : goal.returns-clause-sound
returns-clause-sound c = λ tables yes. plainly c.args.program.now (sym (ap (list_all (is_plain_class c.args.program.now)) c.as_slice.ensures) ∙ sym (c.are_plain_classes.ensures tables) ∙ yes)
