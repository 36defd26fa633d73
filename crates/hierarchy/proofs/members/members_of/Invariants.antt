use Rattle.std.proofs.Common.{◌≡◌, ℕ, take}
use Rattle.hierarchy.specs.Membership.{AreShort, found_in, place_in_rows}
use Rattle.hierarchy.proofs.members.members_of.Given as goal

abbrev pub invariant-loop-place : goal.invariant-loop-place
invariant-loop-place l = AreShort l.rows.rows → (c k : ℕ) → found_in l.members c k ≡ place_in_rows (take l.place l.rows.rows) c k
