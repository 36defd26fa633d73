use Rattle.std.proofs.Common.{is_some}
use Rattle.quiet_methods.proofs.forms.Search.note_method.Goals as goal
use Rattle.std.proofs.Common.{ap, sym, ◌∙◌}
use Rattle.std.proofs.lemmas.Bool.{false≢true}
use Rattle.quiet_methods.proofs.Collecting.{passed}

-- src/methods.rt:96:5
pub returns-in-None : goal.returns-in-None
returns-in-None c = λ done resolved a. passed c.args.self.now.program.now c.args.frames.now done c.args.method.now c.args.owns.now.nodes.items c.args.owns.now.ranks.items (λ b e lt. false≢true (ap is_some (sym c.in-None.is ∙ e))) a
