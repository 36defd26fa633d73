use Rattle.std.proofs.Common.{◌≡◌}
use Rattle.copy_prop.specs.Searches.{AreRows}
use Rattle.copy_prop.proofs.walking.steps_of.Given as goal

abbrev pub invariant-loop-position : goal.invariant-loop-position
invariant-loop-position l = record {
  rows : AreRows l.body l.position l.steps.rows.items l.steps.fronts.items l.steps.backs.items;
  reached : l.steps.reached ≡ l.initial.steps.reached;
}
