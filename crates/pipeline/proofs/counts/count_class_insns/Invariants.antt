use Rattle.std.proofs.Common.{◌≡◌, take, sum_by}
use Rattle.program_model.specs.Cells.{capped}
use Rattle.pipeline.specs.Counts.{method_insns}
use Rattle.pipeline.proofs.counts.count_class_insns.Given as goal

abbrev pub invariant-loop-method : goal.invariant-loop-method
invariant-loop-method l = l.total ≡ capped (sum_by method_insns (take l.method-index l.class.methods))
