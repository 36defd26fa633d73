use Rattle.std.proofs.Common.{◌≡◌, take}
use Rattle.program_model.specs.Cells.{capped}
use Rattle.rewrite_pass.specs.Plans.{class_edits}
use Rattle.rewrite_pass.proofs.write.count_class.Given as goal

abbrev pub invariant-loop-edits : goal.invariant-loop-edits
invariant-loop-edits l = l.count ≡ capped (class_edits (take l.edits-index l.plan))
