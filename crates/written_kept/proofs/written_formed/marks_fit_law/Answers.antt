use Rattle.written_kept.proofs.Values.{marks_now}
use Rattle.written_kept.proofs.written_formed.marks_fit_law.Goals as goal

pub returns : goal.returns
returns c = marks_now
