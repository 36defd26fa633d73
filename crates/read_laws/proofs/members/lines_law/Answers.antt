use Rattle.read_laws.proofs.LineReading.{reads_lined}
use Rattle.read_laws.proofs.members.lines_law.Goals as goal

pub returns : goal.returns
returns c = λ bytes starts debug left r h. (reads_lined bytes debug starts left).found r h
