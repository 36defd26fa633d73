use Rattle.std.proofs.Common.{◌≡◌, take, replicate}
use Rattle.dalvik_lookups.proofs.types.depth_of.Given as goal

abbrev pub invariant-loop-unit : goal.invariant-loop-unit
invariant-loop-unit l = record {
  count : l.depth ≡ l.unit-index;
  brackets : take l.unit-index l.units ≡ replicate l.unit-index 91;
}
