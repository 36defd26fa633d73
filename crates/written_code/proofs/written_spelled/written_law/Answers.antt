use Rattle.written_code.proofs.Whole.{written_is_valid}
use Rattle.written_code.proofs.written_spelled.written_law.Goals as goal

pub returns : goal.returns
returns c = written_is_valid
