use Rattle.copy_prop.specs.Searches.{AreCopies}
use Rattle.copy_prop.proofs.stale.add_all_stale.Given as goal

abbrev pub invariant-loop-at : goal.invariant-loop-at
invariant-loop-at l = AreCopies l.widths l.body l.at l.table.items
