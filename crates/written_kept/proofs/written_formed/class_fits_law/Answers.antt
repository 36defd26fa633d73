use Rattle.written_kept.proofs.Members.{class_now}
use Rattle.written_kept.proofs.written_formed.class_fits_law.Goals as goal

pub returns : goal.returns
returns c = class_now
