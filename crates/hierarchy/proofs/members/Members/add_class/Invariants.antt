use Rattle.std.proofs.Common.{◌≡◌, ◌<◌, ◌^◌, ℕ, take, length}
use Rattle.std.specs.Option.{option_or}
use Rattle.hierarchy.specs.Membership.{found_in, index_of_row}
use Rattle.hierarchy.proofs.members.Members.add_class.Given as goal

abbrev pub invariant-loop-place : goal.invariant-loop-place
invariant-loop-place l = length l.keys < 2 ^ 32 → (c k : ℕ) → found_in l.self c k ≡ option_or (found_in l.initial.self c k) (index_of_row l.class (take l.place l.keys) c k)
