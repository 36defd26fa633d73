use Rattle.std.proofs.Common.{subst}
use Rattle.dalvik_steps.specs.Reaching.{FirstThere}
use Rattle.dalvik_steps.proofs.fields.given_first.Goals as goal

pub returns-in-Some-clause-fine : goal.returns-in-Some-clause-fine
returns-in-Some-clause-fine c = λ size r h. c.first_value.ensures.fine size r (subst (FirstThere c.args.tables.now.lookups.program.now) c.in-Some.is h)
