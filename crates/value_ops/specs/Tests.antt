-- What a test, or the way that a switch goes, says of its operands.
use Rattle.std.specs.Prelude.{ℕ, zero, suc, ℤ, pos, Bool, true, false, ◌==◌, ◌&&◌, not, ◌+◌}
use Rattle.std.specs.Prelude.{◌%◌, ◌^◌, ◌+ℤ◌, ◌-ℤ◌, if◌then◌else◌, List, [], ◌∷◌, ◌++◌, fold, Option, Some, None}
use Rattle.std.specs.Option.{option_map}
use Rattle.std.specs.Ordering.{int_eq}
use Rattle.std.specs.Int.{w32, cast_signed, cast_unsigned}
use Rattle.insn_set.specs.declared.ops.Test.{Test}
use Rattle.insn_set.specs.declared.ops.Test.TheVariants.{Eq, Ne, Lt, Ge, Gt, Le}
use Rattle.domains.specs.declared.nulls.Nullness.{Nullness}
use Rattle.domains.specs.declared.nulls.Nullness.TheVariants.{Bottom, Null, NotNull, Any}
use Rattle.domains.specs.declared.numbers.Word.{Word}
use Rattle.domains.specs.declared.numbers.Word.TheVariants as word
use Rattle.domains.specs.Ranges.{Bounds, no_words, first_word, last_word, words_between}
use Rattle.domains.specs.Values.{Parts, constant_value, known_of}
use Rattle.domains.specs.Reducing.{in_range}
use Rattle.value_ops.specs.Left.{goes_on, both_go_on, same_as, without, narrowed}

-- ---- tests

-- the words below a word, and those above
abbrev pub words_below : ℤ → Bounds
words_below z = if int_eq z first_word then no_words else words_between first_word (z -ℤ pos 1)

abbrev pub words_above : ℤ → Bounds
words_above z = if int_eq z last_word then no_words else words_between (z +ℤ pos 1) last_word

-- the first value without the word that the second one is
abbrev pub other_than : Parts → Option ℕ → Parts
other_than x (Some c) = without c x
other_than x None = x

abbrev pub equal_values : Parts → Parts → Option (Parts × Parts)
equal_values x y = both_go_on (same_as x y) (same_as y x)

abbrev pub different_values : Parts → Parts → Option (Parts × Parts)
different_values x y = both_go_on (other_than x (known_of y)) (other_than y (known_of x))

-- the first is less than the second
abbrev pub less_values : Parts → Parts → Option (Parts × Parts)
less_values x y = both_go_on (narrowed x (words_below y.interval.high)) (narrowed y (words_above x.interval.low))

-- the first is at least the second
abbrev pub least_values : Parts → Parts → Option (Parts × Parts)
least_values x y = both_go_on (narrowed x (words_between y.interval.low last_word)) (narrowed y (words_between first_word x.interval.high))

abbrev pub turned : Option (Parts × Parts) → Option (Parts × Parts)
turned o = option_map (λ v. (v.1, v.0)) o

abbrev pub passed_values : Test → Parts → Parts → Option (Parts × Parts)
passed_values Eq x y = equal_values x y
passed_values Ne x y = different_values x y
passed_values Lt x y = less_values x y
passed_values Ge x y = least_values x y
passed_values Gt x y = turned (less_values y x)
passed_values Le x y = turned (least_values y x)

abbrev pub opposite : Test → Test
opposite Eq = Ne
opposite Ne = Eq
opposite Lt = Ge
opposite Ge = Lt
opposite Gt = Le
opposite Le = Gt

-- both operands where the test answers so
abbrev pub tested_values : Bool → Test → Parts → Parts → Option (Parts × Parts)
tested_values b t x y = passed_values (if b then t else opposite t) x y

-- ---- switches

abbrev pub word_has : Word → ℕ → Bool
word_has word.Any w = true
word_has (word.Known a) w = a == w
word_has x w = false

abbrev pub null_has : Nullness → Bool → Bool
null_has Bottom z = false
null_has Null z = z
null_has NotNull z = not z
null_has Any z = true

abbrev pub has_word : Parts → ℤ → Bool
has_word x z = word_has x.word (cast_unsigned w32 z) && in_range x.interval z && null_has x.nullness (int_eq z (pos 0))

-- the operand where it is a key
abbrev pub keyed_value : ℤ → Parts → Option Parts
keyed_value z x = if has_word x z then Some (constant_value (cast_unsigned w32 z)) else None

-- and where it is none of some keys
abbrev pub without_all : List ℤ → Parts → Parts
without_all zs x = fold (λ v z. without (cast_unsigned w32 z) v) x zs

abbrev pub unkeyed_value : List ℤ → Parts → Option Parts
unkeyed_value zs x = goes_on (without_all zs x)

-- the key at a place of consecutive ones, which wrap, as a word and as a number
abbrev pub key_word : ℕ → ℕ → ℕ
key_word start n = (start + n) % 2 ^ 32

abbrev pub key_at : ℤ → ℕ → ℤ
key_at first n = cast_signed w32 (key_word (cast_unsigned w32 first) n)

abbrev pub consecutive : ℤ → ℕ → List ℤ
consecutive first zero = []
consecutive first (suc n) = consecutive first n ++ key_at first n ∷ []

-- a value that is none of so many consecutive words
abbrev pub without_run : ℕ → ℕ → Parts → Parts
without_run start zero x = x
without_run start (suc n) x = without (key_word start n) (without_run start n x)

abbrev pub unpacked_value : ℤ → ℕ → Parts → Option Parts
unpacked_value first n x = goes_on (without_run (cast_unsigned w32 first) n x)
