use Rattle.written_kept.proofs.Whole.{written_but_items}
use Rattle.written_kept.proofs.written_formed.written_formed_within_law.Goals as goal

pub returns : goal.returns
returns c = written_but_items
