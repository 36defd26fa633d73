use Rattle.layout_law.proofs.Programs.{program_lies}
use Rattle.layout_law.proofs.read_lays.read_lays_out_law.Goals as goal

pub returns : goal.returns
returns c = λ bytes p are h. program_lies bytes are p h
