use Rattle.written_file.proofs.Filed.{filed}
use Rattle.written_file.proofs.written_classes.filed_law.Goals as goal

pub returns : goal.returns
returns c = filed
