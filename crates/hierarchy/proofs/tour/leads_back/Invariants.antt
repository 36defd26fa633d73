use Rattle.std.proofs.Common.{◌≡◌, ◌<◌, ℕ, Some, slice_index}
use Rattle.std.specs.Prelude.{slice_get}
use Rattle.hierarchy.proofs.tour.leads_back.Given as goal

abbrev pub invariant-loop-place : goal.invariant-loop-place
invariant-loop-place l = (c : ℕ) → c < l.place → slice_get l.back (slice_index l.numbers c) ≡ Some c
