-- What an edge back does to a counter's range.
use Rattle.std.specs.Prelude.{ℤ, pos, ◌+ℤ◌, if◌then◌else◌}
use Rattle.std.specs.Int.RustNames.{int_lt}
use Rattle.domains.specs.Ranges.{Bounds, is_empty, last_word, words_between}

-- the next word, none past the last one
abbrev pub next_word : ℤ → ℤ
next_word word = if int_lt word last_word then word +ℤ pos 1 else word

-- a range with one word more at its high end
abbrev pub one_more : Bounds → Bounds
one_more r = if is_empty r then r else words_between r.low (next_word r.high)
