use Rattle.std.proofs.Common.{◌≡◌, ◌<◌, ◌-◌, ◌^◌, length, vec_len}
use Rattle.hierarchy.specs.Membership.{field_pair}
use Rattle.hierarchy.proofs.Keyed.{KeyedSoFar}
use Rattle.hierarchy.proofs.keys.field_keys.Given as goal

abbrev pub invariant-loop-field : goal.invariant-loop-field
invariant-loop-field l = record {
  long : vec_len l.keys ≡ l.field-index;
  keyed : length l.fields < 2 ^ 32 - 1 → KeyedSoFar field_pair l.fields l.known.keys l.keys.items l.field-index;
}
