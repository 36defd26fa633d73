use Rattle.std.proofs.Common.{◌≡◌}
use Rattle.copy_prop.specs.Searches.{seeds_to}
use Rattle.copy_prop.proofs.searches.seeds.Given as goal

abbrev pub invariant-loop-position : goal.invariant-loop-position
invariant-loop-position l = l.found.items ≡ seeds_to l.body l.steps.reached.items l.copy l.position
