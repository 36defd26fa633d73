use Rattle.table_rules.proofs.Tables.{tables_kept, class_same}
use Rattle.table_rules.proofs.laws.tables_law.Goals as goal

pub returns-clause-tables : goal.returns-clause-tables
returns-clause-tables c = λ p classes l h. tables_kept p classes l h

pub returns-clause-classes : goal.returns-clause-classes
returns-clause-classes c = λ p classes x. class_same p classes x
