use Rattle.copy_prop.specs.Searches.{HasNoCopy}
use Rattle.copy_prop.proofs.stale.has_copy.Given as goal

abbrev pub invariant-loop-position : goal.invariant-loop-position
invariant-loop-position l = HasNoCopy l.body l.position
