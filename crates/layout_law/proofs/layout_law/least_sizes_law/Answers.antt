use Rattle.layout_law.proofs.Least.{least_under}
use Rattle.layout_law.proofs.layout_law.least_sizes_law.Goals as goal

pub returns : goal.returns
returns c = least_under
