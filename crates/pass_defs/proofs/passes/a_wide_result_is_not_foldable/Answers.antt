use Rattle.pass_defs.proofs.Spins.{not_foldable}
use Rattle.pass_defs.proofs.passes.a_wide_result_is_not_foldable.Goals as goal

pub returns : goal.returns
returns c = not_foldable
