use Rattle.std.proofs.Common.{refl}
use Rattle.dalvik_lookups.proofs.plays.array_get_of.Goals as goal

pub returns-clause-is : goal.returns-clause-is
returns-clause-is c = λ p r. record { on = c.args.on.now; is = refl; held = c.in_ok-on.ensures.is r }
