use Rattle.std.proofs.Common.{◌≡◌, ◌≤◌, take, min, length}
use Rattle.verify.specs.Flow.{greatest}
use Rattle.verify.proofs.Covering.{Covered}
use Rattle.verify.proofs.flow.covering.Given as goal

abbrev pub invariant-loop-region : goal.invariant-loop-region
invariant-loop-region l = record {
  covered : length l.body.regions ≤ greatest → Covered (length l.body.insns) (take l.region-index l.body.regions) l.covering.items;
  place : l.place ≡ min l.region-index greatest;
}
