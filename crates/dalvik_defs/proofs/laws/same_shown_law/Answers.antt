use Rattle.dalvik_defs.proofs.Same.{same_shown_refl, same_shown_on}
use Rattle.dalvik_defs.proofs.laws.same_shown_law.Goals as goal

pub returns-clause-reflexive : goal.returns-clause-reflexive
returns-clause-reflexive c = same_shown_refl

pub returns-clause-composes : goal.returns-clause-composes
returns-clause-composes c = same_shown_on
