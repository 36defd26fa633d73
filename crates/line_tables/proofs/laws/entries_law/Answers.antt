use Rattle.line_tables.proofs.ByEntries.{lines_are}
use Rattle.line_tables.proofs.laws.entries_law.Goals as goal

pub returns : goal.returns
returns c = lines_are
