use Rattle.std.proofs.Common.{◌≤◌, length, take}
use Rattle.hierarchy.specs.Shapes.{IsOf}
use Rattle.call_targets.specs.Adding.{Adds}
use Rattle.call_targets.specs.Leaving.{all_name_notes}
use Rattle.call_targets.proofs.leaving.note_leaving.Given as goal

abbrev pub invariant-loop-method : goal.invariant-loop-method
invariant-loop-method l = IsOf l.at.program.now l.at.hierarchy.now → length l.at.program.now.methods ≤ 65536 → Adds (all_name_notes l.at.program.now 0 (take l.method l.at.program.now.methods)) l.fn.targets l.targets
