use Rattle.facts_check.specs.Tables.{IsFilledTo}
use Rattle.facts_check.specs.Known.{AreKnown}
use Rattle.facts_check.proofs.methods.fill.Given as goal

abbrev pub invariant-loop-place : goal.invariant-loop-place
invariant-loop-place l = AreKnown l.known → IsFilledTo l.known l.table l.place 0
