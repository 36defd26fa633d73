use Rattle.std.proofs.Common.{◌≡◌, drop}
use Rattle.std.specs.Prelude.{find}
use Rattle.dalvik_steps.specs.Flights.{covers_in}
use Rattle.dalvik_steps.proofs.throwing.region_at.Given as goal

abbrev pub invariant-loop-region : goal.invariant-loop-region
invariant-loop-region l = find (covers_in l.position) (drop l.region-index l.regions) ≡ find (covers_in l.position) l.regions
