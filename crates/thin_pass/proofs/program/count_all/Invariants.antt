use Rattle.std.proofs.Common.{◌≡◌, take}
use Rattle.program_model.specs.Cells.{capped}
use Rattle.thin_pass.specs.Plans.{all_changes}
use Rattle.thin_pass.proofs.program.count_all.Given as goal

abbrev pub invariant-loop-fates : goal.invariant-loop-fates
invariant-loop-fates l = l.count ≡ capped (all_changes (take l.fates-index l.plan))
