use Rattle.written_file.proofs.Stated.{used_all}
use Rattle.written_file.proofs.written_tables.used_law.Goals as goal

pub returns : goal.returns
returns c = used_all
