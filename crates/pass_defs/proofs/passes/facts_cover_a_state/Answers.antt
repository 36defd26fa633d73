use Rattle.pass_defs.proofs.Covering.{covered, not_covered}
use Rattle.pass_defs.proofs.passes.facts_cover_a_state.Goals as goal

pub returns-clause-covers : goal.returns-clause-covers
returns-clause-covers c = covered

pub returns-clause-not_another : goal.returns-clause-not_another
returns-clause-not_another c = not_covered
