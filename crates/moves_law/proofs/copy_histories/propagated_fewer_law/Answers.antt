use Rattle.moves_law.proofs.Fewer.{fewer}
use Rattle.moves_law.proofs.HistoriesPropagated.{reads_no_later}
use Rattle.moves_law.proofs.copy_histories.propagated_fewer_law.Goals as goal

pub returns-clause-reads : goal.returns-clause-reads
returns-clause-reads c = reads_no_later

pub returns-clause-holds : goal.returns-clause-holds
returns-clause-holds c = λ w b d x. fewer b d (reads_no_later w b d x)
