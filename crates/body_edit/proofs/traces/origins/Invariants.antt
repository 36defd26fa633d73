use Rattle.std.proofs.Common.{◌≡◌, ◌++◌, map, drop}
use Rattle.pass_defs.specs.Thinned.{origins_from}
use Rattle.body_edit.specs.Fates.{fates_of, origin_in, origins_of}
use Rattle.body_edit.proofs.traces.origins.Given as goal

abbrev pub invariant-loop-position : goal.invariant-loop-position
invariant-loop-position l = l.origins.items ++ map (origin_in l.method) (origins_from l.position (fates_of (drop l.position l.fates))) ≡ origins_of l.method (fates_of l.fates)
