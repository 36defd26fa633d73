use Rattle.std.proofs.Common.{refl, sym, ◌∙◌}
use Rattle.stub_library.proofs.Steps.{same_marks}
use Rattle.stub_library.proofs.others.are_same.Goals as goal

pub returns : goal.returns
returns c = λ e. same_marks _ refl refl c.args.one.now c.args.other.now (sym c.eq.ensures ∙ e)
