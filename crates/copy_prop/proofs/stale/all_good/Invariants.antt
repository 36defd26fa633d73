use Rattle.copy_prop.specs.Searches.{AllGood}
use Rattle.copy_prop.proofs.stale.all_good.Given as goal

abbrev pub invariant-loop-position : goal.invariant-loop-position
invariant-loop-position l = AllGood l.body l.register l.marks l.good l.position
