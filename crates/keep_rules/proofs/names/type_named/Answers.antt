use Rattle.std.proofs.Common.{sym}
use Rattle.keep_rules.proofs.TriedLemmas.{type_found, type_lacks}
use Rattle.keep_rules.proofs.names.type_named.Goals as goal

pub returns-in-Some : goal.returns-in-Some
returns-in-Some c = λ ready. type_found c.args.view.now.program.now c.args.view.now.types c.args.units.now c.in-Some.kind.now ready.types (sym c.in-Some.ensures.value)

pub returns-in-None : goal.returns-in-None
returns-in-None c = λ ready. type_lacks c.args.view.now.program.now c.args.view.now.types c.args.units.now ready.types (sym c.in-None.ensures.value)
