use Rattle.std.proofs.Common.{sym}
use Rattle.class_defs.proofs.WellFormed.{sound}
use Rattle.keep_rules.proofs.DescribedLemmas.{class_found, class_outside}
use Rattle.keep_rules.proofs.describe.if_defined.Goals as goal

pub returns-in-Some : goal.returns-in-Some
returns-in-Some c = λ t ready named n l. class_found c.args.view.now.program.now (sound c.args.view.now.program.now ready.formed) c.args.view.now.types ready.types n l t c.args.kind _ named (sym (c.in-Some.ensures ready.of))

pub returns-in-None : goal.returns-in-None
returns-in-None c = λ t ready named n l. class_outside c.args.view.now.program.now (sound c.args.view.now.program.now ready.formed) c.args.view.now.types ready.types n l t c.args.kind named (sym (c.in-None.ensures ready.of))
