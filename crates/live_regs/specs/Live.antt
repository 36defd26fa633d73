-- The answer of the analysis.
use Rattle.std.specs.Prelude.{ℕ, Bool, ◌||◌, nat_eq, [], length, slice_index_or}
use Rattle.walk_marks.specs.Walks.{is_on}
use Rattle.live_regs.specs.Words.{has, word_at}
use Rattle.live_regs.specs.declared.table.Live.{Live}

-- whether the register is live before the position
abbrev pub is_live : Live → ℕ → ℕ → Bool
is_live live n r = has (word_at live.words.items n) r || is_on (slice_index_or live.marks.items r []) n

-- whether the words say all of the registers below 64
abbrev pub has_words : Live → Bool
has_words live = nat_eq (length live.marks.items) 0
