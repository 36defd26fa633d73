use Rattle.dalvik_lookups.proofs.Accepted.{no_cause}
use Rattle.dalvik_lookups.proofs.lookups.refuse.Goals as goal

pub returns-in_default : goal.returns-in_default
returns-in_default c = λ p cause a. no_cause p c.args.fault a cause c.in_default.not-NoMemory
