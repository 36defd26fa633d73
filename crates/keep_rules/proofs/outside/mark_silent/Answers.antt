use Rattle.std.proofs.Common.{refl}
use Rattle.keep_rules.proofs.EntryLemmas.{silent_alone}
use Rattle.keep_rules.proofs.outside.mark_silent.Goals as goal

pub returns : goal.returns
returns c = λ a ready is. silent_alone c.args.view.now.program.now a c.args.marks.now _ refl refl refl (c.in_ok-silence_by.ensures a ready is)
