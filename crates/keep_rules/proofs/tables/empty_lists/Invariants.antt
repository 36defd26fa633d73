use Rattle.keep_rules.specs.View.{AreEmpty}
use Rattle.keep_rules.proofs.tables.empty_lists.Given as goal

abbrev pub invariant-loop : goal.invariant-loop
invariant-loop l = AreEmpty l.counter l.lists.items
