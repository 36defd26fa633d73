use Rattle.refused_law.proofs.Headers.{fails_class_table}
use Rattle.refused_law.proofs.laws.class_table_law.Goals as goal

pub returns : goal.returns
returns c = λ bytes count offset size place some e h. (fails_class_table bytes count offset size place some).fault e h
