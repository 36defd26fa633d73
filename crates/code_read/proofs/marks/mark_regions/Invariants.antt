use Rattle.std.proofs.Common.{◌≡◌, drop}
use Rattle.code_read.specs.Marks.{set_regions}
use Rattle.code_read.proofs.marks.mark_regions.Given as goal

abbrev pub invariant-loop-region : goal.invariant-loop-region
invariant-loop-region l = set_regions l.marks (drop l.region-index l.regions) ≡ set_regions l.initial.marks l.regions
