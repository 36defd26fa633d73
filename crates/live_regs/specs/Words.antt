-- Registers below 64 as the bits of a word.
use Rattle.std.specs.Prelude.{◌≡◌, ℕ, ◌<◌, Bool, nat_eq, List, slice_index_or}
use Rattle.std.specs.List.{list_any}
use Rattle.std.specs.Int.{bit_at}

-- whether a word has a register
abbrev pub has : ℕ → ℕ → Bool
has word r = nat_eq (bit_at word r) 1

-- of the registers below 64 the word has those that the test names, and no others
abbrev pub IsMask : (ℕ → Bool) → ℕ → Type 0
IsMask test word = (r : ℕ) → r < 64 → has word r ≡ test r

-- the word at a place, one without registers past the end
abbrev pub word_at : List ℕ → ℕ → ℕ
word_at words n = slice_index_or words n 0

-- whether the word at one of some places has a register
abbrev pub has_any : List ℕ → ℕ → List ℕ → Bool
has_any words r places = list_any (λ n. has (word_at words n) r) places
