use Rattle.std.proofs.Common.{◌≡◌, take}
use Rattle.std.specs.Prelude.{not}
use Rattle.call_targets.specs.Adding.{Adds}
use Rattle.call_targets.specs.Beginning.{static_notes, is_empty}
use Rattle.call_targets.proofs.entered.enter_statics.Given as goal

abbrev pub invariant-loop-own : goal.invariant-loop-own
invariant-loop-own l = record {
  some : l.any ≡ not (is_empty (static_notes l.kept l.initialiser 0 (take l.own l.methods)));
  adds : Adds (static_notes l.kept l.initialiser 0 (take l.own l.methods)) l.fn.targets l.targets;
}
