use Rattle.std.proofs.Common.{length}
use Rattle.crate_rows.proofs.lines.+ascend.Given as goal

abbrev pub decreases-ascend : goal.decreases-ascend
decreases-ascend l = length l.starts.now
