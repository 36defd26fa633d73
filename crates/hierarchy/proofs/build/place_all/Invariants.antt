use Rattle.std.proofs.Common.{◌≡◌, ◌<◌, ◌^◌, length, drop}
use Rattle.hierarchy.specs.Placing.{place_from}
use Rattle.hierarchy.proofs.build.place_all.Given as goal

abbrev pub invariant-loop-place : goal.invariant-loop-place
invariant-loop-place l = record {
  size : length l.places ≡ length l.initial.places;
  placed : length l.classes < 2 ^ 32 → place_from 0 l.classes l.initial.places ≡ place_from l.place (drop l.place l.classes) l.places;
}
