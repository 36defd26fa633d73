use Rattle.pass_defs.proofs.Copies.{copy_stale, old_copy_stays}
use Rattle.pass_defs.proofs.passes.a_read_of_a_copy_is_stale.Goals as goal

pub returns-clause-stale : goal.returns-clause-stale
returns-clause-stale c = copy_stale

pub returns-clause-old : goal.returns-clause-old
returns-clause-old c = old_copy_stays
