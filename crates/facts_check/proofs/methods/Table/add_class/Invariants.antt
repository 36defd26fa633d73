use Rattle.facts_check.specs.Tables.{IsFilledTo}
use Rattle.facts_check.specs.Known.{AreKnown}
use Rattle.facts_check.proofs.methods.Table.add_class.Given as goal

abbrev pub invariant-loop-method : goal.invariant-loop-method
invariant-loop-method l = AreKnown l.known → IsFilledTo l.known l.self l.place l.method-index
