use Rattle.written_file.proofs.Nothing.{bare}
use Rattle.written_file.proofs.written_classes.bare_law.Goals as goal

pub returns : goal.returns
returns c = bare
