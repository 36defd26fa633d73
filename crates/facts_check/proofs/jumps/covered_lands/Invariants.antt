use Rattle.std.proofs.Common.{◌≡◌, drop}
use Rattle.flow_cfg.specs.Walks.{handlers_at}
use Rattle.facts_check.proofs.jumps.covered_lands.Given as goal

abbrev pub invariant-loop-region : goal.invariant-loop-region
invariant-loop-region l = handlers_at (drop l.region-index l.regions) l.position ≡ handlers_at l.regions l.position
