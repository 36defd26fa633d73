use Rattle.std.proofs.Common.{refl, sym, ◌∙◌}
use Rattle.pipeline.proofs.Looking.{same_marks}
use Rattle.pipeline.proofs.rounds.are_same.Goals as goal

pub returns : goal.returns
returns c = λ e. same_marks _ refl refl c.args.marks.now.methods.items c.args.admitted.now.methods.items (sym c.eq.ensures ∙ e)
