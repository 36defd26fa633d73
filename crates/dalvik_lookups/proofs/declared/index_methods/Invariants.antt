use Rattle.std.proofs.Common.{◌≡◌, ℕ, map, take}
use Rattle.dalvik_lookups.specs.Declaring.{Key, AreFew, found_in, place_in_rows, method_row}
use Rattle.dalvik_lookups.proofs.declared.index_methods.Given as goal

abbrev pub invariant-loop-place : goal.invariant-loop-place
invariant-loop-place l = AreFew (λ k. k.methods) l.program.classes → (c : ℕ) (k : Key) → found_in l.index c k ≡ place_in_rows (map (method_row l.program l.strings l.protos) (take l.place l.program.classes)) c k
