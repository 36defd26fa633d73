use Rattle.rule_text.specs.Rules.{Above}
use Rattle.keep_rules.specs.View.{IsReady}
use Rattle.keep_rules.specs.Below.{IsSearch}
use Rattle.keep_rules.proofs.above.search.Given as goal

abbrev pub invariant-loop-at : goal.invariant-loop-at
invariant-loop-at l = (a : Above) → IsReady l.view → IsSearch l.view.program.now a l.initial.under.items l.initial.kinds.items 0 → IsSearch l.view.program.now a l.under.items l.kinds.items l.at
