use Rattle.std.proofs.Common.{◌∙◌, ap}
use Rattle.pass_defs.specs.Thinned.{left}
use Rattle.body_edit.specs.Fates.{fates_of}
use Rattle.body_edit.specs.Places.{place_in}
use Rattle.body_edit.proofs.Left.{edited_left}
use Rattle.body_edit.proofs.thinning.thin_insns.Goals as goal

pub returns : goal.returns
returns c = c.keep_left.ensures ∙ ap (λ l. left (fates_of c.args.fates.now) l) c.edit_insns.ensures ∙ edited_left (place_in c.args.places.now) (fates_of c.args.fates.now) c.args.insns.now.items
