use Rattle.std.proofs.Common.{◌≡◌, ◌<◌, ◌-◌, ◌^◌, length, vec_len}
use Rattle.hierarchy.specs.Membership.{method_pair}
use Rattle.hierarchy.proofs.Keyed.{KeyedSoFar}
use Rattle.hierarchy.proofs.keys.method_keys.Given as goal

abbrev pub invariant-loop-method : goal.invariant-loop-method
invariant-loop-method l = record {
  long : vec_len l.keys ≡ l.method-index;
  keyed : length l.methods < 2 ^ 32 - 1 → KeyedSoFar method_pair l.methods l.known.keys l.keys.items l.method-index;
}
