use Rattle.std.proofs.Common.{◌<◌, ◌^◌, length, take}
use Rattle.hierarchy.specs.Shapes.{IsResolved}
use Rattle.call_targets.specs.Adding.{Adds}
use Rattle.call_targets.specs.Beginning.{all_class_notes}
use Rattle.call_targets.proofs.entered.begin.Given as goal

abbrev pub invariant-loop-place : goal.invariant-loop-place
invariant-loop-place l = length l.at.program.now.classes < 2 ^ 32 → IsResolved l.at.program.now l.at.hierarchy.now → Adds (all_class_notes l.at.program.now l.kept 0 (take l.place l.at.program.now.classes)) l.fn.targets l.targets
