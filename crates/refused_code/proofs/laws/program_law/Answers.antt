use Rattle.refused_code.proofs.Joined.{fails_program}
use Rattle.refused_code.proofs.laws.program_law.Goals as goal

pub returns : goal.returns
returns c = λ bytes are e h. (fails_program bytes are).fault e h
