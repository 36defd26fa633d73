use Rattle.program_model.proofs.Formed.{formed}
use Rattle.layout_law.proofs.Falling.{read_ascends}
use Rattle.layout_law.proofs.layout_written.read_tables_law.Goals as goal

pub returns : goal.returns
returns c = λ p well strings types. read_ascends p (formed p well).tables strings types
