use Rattle.std.proofs.Common.{sym, ◌∙◌}
use Rattle.verify.proofs.Standing.{meets_where}
use Rattle.verify.proofs.tables.Tables.are_sound.Goals as goal

pub returns-in-None-clause-sound : goal.returns-in-None-clause-sound
returns-in-None-clause-sound c = λ e f. meets_where c.args.self.now c.args.bases c.args.classes
    (sym c.args.self.now.bases.ok.0 ∙ sym c.len-known.ensures ∙ c.if-known-bases.false) (sym c.count-count.ensures ∙ c.if-count-classes.false) f
    (sym c.has_objects.ensures ∙ c.if-not-has_objects.false) c.in_default.ensures.none c.in-None.ensures.none
