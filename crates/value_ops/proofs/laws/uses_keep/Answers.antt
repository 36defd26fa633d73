use Rattle.value_ops.proofs.Lefts.{held_so, null_so}
use Rattle.value_ops.proofs.laws.uses_keep.Goals as goal

pub returns-clause-held : goal.returns-clause-held
returns-clause-held c = held_so

pub returns-clause-null : goal.returns-clause-null
returns-clause-null c = null_so
