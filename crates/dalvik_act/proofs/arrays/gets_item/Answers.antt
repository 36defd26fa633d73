use Rattle.std.proofs.Common.{subst}
use Rattle.dalvik_act.specs.Acted.{IsGivenBack}
use Rattle.dalvik_act.proofs.arrays.gets_item.Goals as goal

pub returns-in-Some-clause-safe : goal.returns-in-Some-clause-safe
returns-in-Some-clause-safe c = λ l size found low k. c.sets_item.ensures.safe l size (subst (IsGivenBack l size) c.in-Some.is found) low k
