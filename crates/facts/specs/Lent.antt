-- What facts lend: entries of tables, and what stands for an entry that a table lacks.
use Rattle.std.specs.Prelude.{ℕ, List, [], Option, None, slice_index_or}

-- the frame at a position of a method, none where the position isn't reached
abbrev pub frame_at : {F : Type 0} → List (List (Option F)) → ℕ → ℕ → Option F
frame_at frames method position = slice_index_or (slice_index_or frames method []) position None

-- the value of a parameter word of a method, any where there is none
abbrev pub word_at : {V : Type 0} → V → List (List V) → ℕ → ℕ → V
word_at any parameters method word = slice_index_or (slice_index_or parameters method []) word any
