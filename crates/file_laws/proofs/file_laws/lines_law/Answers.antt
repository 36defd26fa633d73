use Rattle.file_laws.proofs.Lines.{founds_lines}
use Rattle.file_laws.proofs.file_laws.lines_law.Goals as goal

pub returns : goal.returns
returns c = λ bytes debug starts left ascend. founds_lines bytes debug starts left ascend
