-- The value that is made of four parts.
use Rattle.std.specs.Prelude.{◌≡◌, ℕ, ℤ, pos, negsuc, Bool, true, false, not, ◌==◌, ◌&&◌, ◌||◌, int_lt, if◌then◌else◌, List, Option}
use Rattle.std.specs.Int.RustNames.{int_le}
use Rattle.std.specs.Ordering.{int_eq}
use Rattle.std.specs.Int.{w32, cast_signed}
use Rattle.domains.specs.declared.numbers.Word.{Word}
use Rattle.domains.specs.declared.numbers.Word.TheVariants.{Bottom, Known, KnownWide, Any}
use Rattle.domains.specs.declared.nulls.Nullness.{Nullness}
use Rattle.domains.specs.declared.nulls.Nullness.TheVariants.{Bottom as NoNull, Null, NotNull, Any as AnyNull}
use Rattle.domains.specs.Ranges.{Bounds, no_words, only_word, words_between}
use Rattle.domains.specs.ClassSets.{is_no_set}
use Rattle.domains.specs.Values.{Parts, least_value, constant_value, objects_value}

abbrev pub in_range : Bounds → ℤ → Bool
in_range r z = int_le r.low z && int_le z r.high

-- the range without the word 0 where that is an end
abbrev pub past_zero : ℤ → ℤ
past_zero low = if int_eq low (pos 0) then pos 1 else low

abbrev pub before_zero : ℤ → ℤ
before_zero high = if int_eq high (pos 0) then negsuc 0 else high

abbrev pub without_zero : Bounds → Bounds
without_zero r = words_between (past_zero r.low) (before_zero r.high)

abbrev pub has_zero : Word → Bool
has_zero Bottom = false
has_zero (Known w) = w == 0
has_zero (KnownWide d) = false
has_zero Any = true

-- a known word beside objects
abbrev pub known_value : ℕ → Option (List ℕ) → Parts
known_value w cs = record {
  word = Known w;
  interval = only_word (cast_signed w32 w);
  nullness = if w == 0 then (if is_no_set cs then Null else AnyNull) else NotNull;
  classes = cs;
}

-- any word of a range, any wide number, and objects
abbrev pub any_number : Bool → Bounds → Option (List ℕ) → Parts
any_number true i cs = record { word = Any; interval = i; nullness = if in_range i (pos 0) then AnyNull else NotNull; classes = cs }
any_number false i cs = record { word = Any; interval = without_zero i; nullness = NotNull; classes = cs }

-- numbers and objects, where all but the word 0 are allowed, and that too where `zero`
abbrev pub with_number : Bool → Word → Bounds → Option (List ℕ) → Parts
with_number zero Bottom i cs = objects_value cs
with_number zero (Known w) i cs = if in_range i (cast_signed w32 w) && (zero || not (w == 0)) then known_value w cs else objects_value cs
with_number zero (KnownWide d) i cs = record { word = KnownWide d; interval = no_words; nullness = NotNull; classes = cs }
with_number zero Any i cs = any_number zero i cs

abbrev pub reduced_by : Nullness → Parts → Parts
reduced_by NoNull v = least_value
reduced_by Null v = if has_zero v.word && in_range v.interval (pos 0) then constant_value 0 else least_value
reduced_by NotNull v = with_number false v.word v.interval v.classes
reduced_by AnyNull v = with_number true v.word v.interval v.classes

-- the reduced value that holds of what these parts hold of together
abbrev pub reduced : Parts → Parts
reduced v = reduced_by v.nullness v
