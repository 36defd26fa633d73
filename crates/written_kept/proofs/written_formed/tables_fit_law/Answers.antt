use Rattle.written_kept.proofs.Tables.{tables_now}
use Rattle.written_kept.proofs.written_formed.tables_fit_law.Goals as goal

pub returns : goal.returns
returns c = tables_now
