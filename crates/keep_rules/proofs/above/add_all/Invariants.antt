use Rattle.rule_text.specs.Rules.{Above}
use Rattle.rule_text.specs.Related.{IsAboveOf}
use Rattle.keep_rules.specs.View.{IsReady}
use Rattle.keep_rules.specs.Below.{AreWantedTo}
use Rattle.keep_rules.proofs.above.add_all.Given as goal

abbrev pub invariant-loop-kind : goal.invariant-loop-kind
invariant-loop-kind l = (a : Above) → IsReady l.view → IsAboveOf l.above a → AreWantedTo l.view.program.now a l.kinds.items l.kind
