use Rattle.dex_defs.proofs.Computed.{spelled}
use Rattle.dex_defs.proofs.examples.the_least_file.Goals as goal

pub returns-clause-spelled : goal.returns-clause-spelled
returns-clause-spelled c = spelled
