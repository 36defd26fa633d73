use Rattle.std.proofs.Common.{◌≡◌, take, sum_by}
use Rattle.program_model.specs.Cells.{capped}
use Rattle.pipeline.specs.Counts.{class_members}
use Rattle.pipeline.proofs.counts.count_members.Given as goal

abbrev pub invariant-loop-class : goal.invariant-loop-class
invariant-loop-class l = l.total ≡ capped (sum_by class_members (take l.class-index l.program.classes))
