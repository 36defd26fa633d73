use Rattle.pass_defs.proofs.Sums.{sum_closed, sum_foldable}
use Rattle.pass_defs.proofs.passes.a_sum_is_foldable.Goals as goal

pub returns-clause-closed : goal.returns-clause-closed
returns-clause-closed c = sum_closed

pub returns-clause-foldable : goal.returns-clause-foldable
returns-clause-foldable c = sum_foldable
