use Rattle.written_kept.proofs.Written.{written_shows}
use Rattle.written_kept.proofs.written_shown.written_shows_law.Goals as goal

pub returns : goal.returns
returns c = written_shows
