use Rattle.copy_prop.specs.Searches.{AreGood}
use Rattle.copy_prop.proofs.stale.good_reads.Given as goal

abbrev pub invariant-loop-position : goal.invariant-loop-position
invariant-loop-position l = AreGood l.widths l.body l.copy l.position l.good.items
