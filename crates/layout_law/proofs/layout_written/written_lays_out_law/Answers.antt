use Rattle.layout_law.proofs.Written.{written_lies}
use Rattle.layout_law.proofs.layout_written.written_lays_out_law.Goals as goal

pub returns : goal.returns
returns c = written_lies
