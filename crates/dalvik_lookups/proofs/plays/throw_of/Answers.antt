use Rattle.std.proofs.Common.{refl}
use Rattle.dalvik_lookups.proofs.plays.throw_of.Goals as goal

pub returns-clause-is : goal.returns-clause-is
returns-clause-is c = λ p r. record { value = c.args.value.now; is = refl; given = c.in_ok-value.ensures.is r }
