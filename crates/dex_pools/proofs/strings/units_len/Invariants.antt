use Rattle.std.proofs.Common.{◌≡◌, ◌≤◌, ◌*◌, length, take}
use Rattle.std.specs.List.{flat_map}
use Rattle.dex_base.specs.Mutf8.{unit_bytes}
use Rattle.dex_pools.proofs.strings.units_len.Given as goal

abbrev pub invariant-loop-unit : goal.invariant-loop-unit
invariant-loop-unit l = record {
  value : l.len ≡ length (flat_map unit_bytes (take l.unit-index l.units));
  few : l.len ≤ 3 * l.unit-index;
}
