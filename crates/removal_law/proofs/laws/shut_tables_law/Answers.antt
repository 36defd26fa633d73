use Rattle.removal_law.proofs.ShutTables.{nothing_shut, narrowed}
use Rattle.removal_law.proofs.laws.shut_tables_law.Goals as goal

pub returns-clause-nothing : goal.returns-clause-nothing
returns-clause-nothing c = nothing_shut

pub returns-clause-narrowed : goal.returns-clause-narrowed
returns-clause-narrowed c = narrowed
