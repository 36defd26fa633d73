use Rattle.pass_defs.proofs.Folds.{sum_folded}
use Rattle.pass_defs.proofs.passes.a_sum_may_become_a_constant.Goals as goal

pub returns : goal.returns
returns c = sum_folded
