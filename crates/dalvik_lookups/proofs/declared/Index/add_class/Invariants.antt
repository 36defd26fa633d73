use Rattle.std.proofs.Common.{◌≡◌, ◌<◌, ◌^◌, ℕ, take, length}
use Rattle.std.specs.Option.{option_or}
use Rattle.dalvik_lookups.specs.Declaring.{Key, found_in, index_of_row}
use Rattle.dalvik_lookups.proofs.declared.Index.add_class.Given as goal

abbrev pub invariant-loop-place : goal.invariant-loop-place
invariant-loop-place l = length l.keys < 2 ^ 32 → (c : ℕ) (k : Key) → found_in l.self c k ≡ option_or (found_in l.initial.self c k) (index_of_row l.class (take l.place l.keys) c k)
