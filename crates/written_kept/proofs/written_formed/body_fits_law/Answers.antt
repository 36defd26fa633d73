use Rattle.written_kept.proofs.Bodies.{body_now}
use Rattle.written_kept.proofs.written_formed.body_fits_law.Goals as goal

pub returns : goal.returns
returns c = body_now
