use Rattle.std.proofs.Common.{sym}
use Rattle.class_defs.proofs.WellFormed.{sound}
use Rattle.keep_rules.proofs.DescribedLemmas.{class_unknown}
use Rattle.keep_rules.proofs.describe.class_named.Goals as goal

pub returns-in-Some : goal.returns-in-Some
returns-in-Some c = λ ready. c.if_defined.ensures c.args.units.now ready (sym c.in-Some.ensures.value)

pub returns-in-None : goal.returns-in-None
returns-in-None c = λ ready n l. class_unknown c.args.view.now.program.now (sound c.args.view.now.program.now ready.formed) c.args.view.now.types ready.types n l c.args.units.now (sym c.in-None.ensures.value)
