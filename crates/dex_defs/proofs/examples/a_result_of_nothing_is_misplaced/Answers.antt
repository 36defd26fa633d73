use Rattle.dex_defs.proofs.Faulty.{misplaced}
use Rattle.dex_defs.proofs.examples.a_result_of_nothing_is_misplaced.Goals as goal

pub returns : goal.returns
returns c = λ sizes. misplaced sizes
