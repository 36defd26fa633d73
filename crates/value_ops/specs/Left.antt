-- What is left of a value where more is known of what it holds of.
use Rattle.std.specs.Prelude.{ℕ, ℤ, pos, negsuc, Bool, true, false, ◌==◌, ◌&&◌, ◌||◌, not, ◌+ℤ◌, ◌-ℤ◌, if◌then◌else◌, List, [], ◌∷◌, Option, Some, None}
use Rattle.std.specs.Int.{w32, cast_signed, cast_unsigned, int_min, int_max}
use Rattle.std.specs.Ordering.{int_eq}
use Rattle.domains.specs.declared.nulls.Nullness.{Nullness}
use Rattle.domains.specs.declared.nulls.Nullness.TheVariants.{Bottom, Null, NotNull, Any}
use Rattle.domains.specs.declared.numbers.Word.{Word}
use Rattle.domains.specs.declared.numbers.Word.TheVariants as word
use Rattle.domains.specs.Ranges.{Bounds, words_between, first_word, last_word}
use Rattle.domains.specs.ClassSets.{is_no_set}
use Rattle.domains.specs.Values.{Parts, constant_value, objects_value, any_value}
use Rattle.domains.specs.Reducing.{reduced}

-- ---- nothing, or something

abbrev pub is_bottom : Nullness → Bool
is_bottom Bottom = true
is_bottom n = false

abbrev pub is_nothing : Parts → Bool
is_nothing x = is_bottom x.nullness

-- the value, where it holds of anything
abbrev pub goes_on : Parts → Option Parts
goes_on x = if is_nothing x then None else Some x

abbrev pub both_go_on : Parts → Parts → Option (Parts × Parts)
both_go_on x y = if is_nothing x || is_nothing y then None else Some (x, y)

-- ---- null

-- what isn't the word 0, or is
abbrev pub without_null : Nullness → Nullness
without_null Bottom = Bottom
without_null Null = Bottom
without_null NotNull = NotNull
without_null Any = NotNull

abbrev pub with_null : Nullness → Nullness
with_null Bottom = Bottom
with_null Null = Null
with_null NotNull = Bottom
with_null Any = Null

abbrev pub held_value : Parts → Parts
held_value x = reduced (record x { nullness = without_null x.nullness })

abbrev pub null_value : Parts → Parts
null_value x = reduced (record x { nullness = with_null x.nullness })

-- ---- objects

abbrev pub any_object : Parts
any_object = objects_value None

-- an object of the class at a place of the program, or of none of it
abbrev pub of_class : Option ℕ → Parts
of_class (Some c) = objects_value (Some (c ∷ []))
of_class None = any_object

-- ---- numbers

abbrev pub any_number : Parts
any_number = record any_value { classes = Some [] }

-- the number of either width that it knows
abbrev pub number_in : Word → Option ℕ
number_in (word.Known n) = Some n
number_in (word.KnownWide n) = Some n
number_in x = None

abbrev pub is_unknown : Word → Bool
is_unknown word.Any = true
is_unknown x = false

-- A value that a word has is the constant where one word is left.
abbrev pub settled : Parts → Parts
settled x = if is_unknown x.word && int_eq x.interval.low x.interval.high && is_no_set x.classes then constant_value (cast_unsigned w32 x.interval.low) else x

-- the words of a range
abbrev pub words_of : Bounds → Parts
words_of r = settled (reduced (record { word = word.Any; interval = r; nullness = Any; classes = Some [] }))

-- ---- both values hold

abbrev pub word_met : Word → Word → Word
word_met word.Any y = y
word_met (word.Known a) (word.Known b) = if a == b then word.Known a else word.Bottom
word_met (word.KnownWide a) (word.KnownWide b) = if a == b then word.KnownWide a else word.Bottom
word_met x word.Any = x
word_met x y = word.Bottom

abbrev pub range_met : Bounds → Bounds → Bounds
range_met a b = words_between (int_max a.low b.low) (int_min a.high b.high)

abbrev pub null_met : Nullness → Nullness → Nullness
null_met Any y = y
null_met Null Null = Null
null_met NotNull NotNull = NotNull
null_met x Any = x
null_met x y = Bottom

-- the first value where both are of one content; an object may be seen under two types, so the classes don't meet
abbrev pub same_as : Parts → Parts → Parts
same_as x y = settled (reduced (record {
  word = word_met x.word y.word;
  interval = range_met x.interval y.interval;
  nullness = null_met x.nullness y.nullness;
  classes = if is_no_set y.classes then Some [] else x.classes;
}))

-- ---- without a word, and within a range

-- the next word and the one before, where there is one
abbrev pub next_word : ℤ → ℤ
next_word z = if int_eq z last_word then z else z +ℤ pos 1

abbrev pub previous_word : ℤ → ℤ
previous_word z = if int_eq z first_word then z else z -ℤ pos 1

abbrev pub word_without : ℕ → Word → Word
word_without c (word.Known a) = if a == c then word.Bottom else word.Known a
word_without c x = x

-- an end that isn't a word
abbrev pub low_without : ℤ → ℤ → ℤ
low_without z low = if int_eq low z then next_word z else low

abbrev pub high_without : ℤ → ℤ → ℤ
high_without z high = if int_eq high z then previous_word z else high

-- a range without a word where that is one of its ends
abbrev pub range_without : ℤ → Bounds → Bounds
range_without z r = words_between (low_without z r.low) (high_without z r.high)

abbrev pub null_without : ℕ → Nullness → Nullness
null_without c n = if c == 0 then without_null n else n

abbrev pub without : ℕ → Parts → Parts
without c x = settled (reduced (record x {
  word = word_without c x.word;
  interval = range_without (cast_signed w32 c) x.interval;
  nullness = null_without c x.nullness;
}))

-- the words of a value that are in a range
abbrev pub narrowed : Parts → Bounds → Parts
narrowed x r = settled (reduced (record x { interval = range_met x.interval r; classes = Some [] }))
