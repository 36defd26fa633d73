use Rattle.form_laws.proofs.Uses.{same_reads}
use Rattle.form_laws.proofs.form_law.reads_law.Goals as goal

pub returns : goal.returns
returns c = same_reads
