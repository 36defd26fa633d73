use Rattle.write_laws.proofs.Last.{written_is_valid}
use Rattle.write_laws.proofs.write_laws.written_file_law.Goals as goal

pub returns : goal.returns
returns c = λ p bytes w parts sets sealed few rest. written_is_valid p bytes w parts sets sealed few rest
