use Rattle.std.proofs.Common.{◌≡◌, ◌++◌, drop}
use Rattle.flow_cfg.specs.Starts.{regions_starts}
use Rattle.flow_cfg.proofs.starts.add_all_handlers.Given as goal

abbrev pub invariant-loop-region : goal.invariant-loop-region
invariant-loop-region l = l.found.items ++ regions_starts (drop l.region-index l.regions) ≡ l.initial.found.items ++ regions_starts l.regions
