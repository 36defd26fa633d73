use Rattle.written_file.proofs.Whole.{whole}
use Rattle.written_file.proofs.written_classes.whole_law.Goals as goal

pub returns : goal.returns
returns c = whole
