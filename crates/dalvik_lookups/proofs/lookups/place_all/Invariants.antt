use Rattle.std.proofs.Common.{◌≡◌, ◌<◌, ◌^◌, ℕ, length, replicate}
use Rattle.dalvik_lookups.specs.Tables.{AreBelow}
use Rattle.dalvik_lookups.proofs.Making.{PlacedSoFar}
use Rattle.dalvik_lookups.proofs.lookups.place_all.Given as goal

abbrev pub invariant-loop-kind : goal.invariant-loop-kind
invariant-loop-kind l = record {
  size : length l.places ≡ length l.initial.places;
  count : length l.class_kinds < 2 ^ 32 → l.place ≡ l.kind-index;
  placed : (count : ℕ) → l.initial.places ≡ replicate count 4294967295 → length l.class_kinds < 2 ^ 32 → AreBelow count l.class_kinds → PlacedSoFar l.class_kinds l.places l.kind-index;
}
