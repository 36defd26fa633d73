use Rattle.calls_kept.proofs.Stayed.{inlined_stays}
use Rattle.calls_kept.proofs.inline_kept.inlined_stays_law.Goals as goal

pub returns : goal.returns
returns c = inlined_stays
