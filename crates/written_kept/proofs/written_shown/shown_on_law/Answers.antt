use Rattle.written_kept.proofs.Looks.{shown_on}
use Rattle.written_kept.proofs.written_shown.shown_on_law.Goals as goal

pub returns : goal.returns
returns c = shown_on
