use Rattle.layout_law.proofs.Shortened.{shortened}
use Rattle.layout_law.proofs.layout_law.shortened_law.Goals as goal

pub returns : goal.returns
returns c = shortened
