-- What a value holds of.
use Rattle.std.specs.Prelude.{◌≡◌, ℕ, ℤ, pos, negsuc, Bool, true, false, ◌+◌, ◌<ℤ◌, ◌≤ℤ◌, ◌==◌, if◌then◌else◌, ◌<◌, ◌≤◌, ◌⊎◌, IsTrue, ◌↔◌, List, [], ◌∷◌, Contains, Option, None, Some, refl}
use Rattle.std.specs.Int.{w32, cast_signed}
use Rattle.std.proofs.Common.{sym, ◌∙◌, arith, inl, inr, subst, ap}
use Rattle.lattice_core.specs.Laws.{IsUpper, IsWidened}
use Rattle.domains.specs.declared.numbers.Word.{Word}
use Rattle.domains.specs.declared.numbers.Word.TheVariants.{Bottom, Known, KnownWide, Any}
use Rattle.domains.specs.declared.nulls.Nullness.{Nullness}
use Rattle.domains.specs.declared.nulls.Nullness.TheVariants.{Bottom as NoNull, Null, NotNull, Any as AnyNull}
use Rattle.domains.specs.Datum.{Number, Single, Double, Datum, Plain, Object, is_zero, Within}
use Rattle.domains.specs.Words.{word_holds, word_joined, word_rank, word_known, word_known_wide}
use Rattle.domains.specs.Nulls.{Allows, null_holds, null_joined, null_rank}
use Rattle.domains.specs.Ranges.{Bounds, no_words, all_words, only_word, range_holds, is_empty, range_joined, range_widened, range_rank}
use Rattle.domains.specs.ClassSets.{is_no_set, set_holds, set_joined, set_rank}

-- the four parts of a value
pub record Parts : Type 0 where
  pub word : Word
  pub interval : Bounds
  pub nullness : Nullness
  pub classes : Option (List ℕ)

-- what the parts that speak of a datum's kind hold of: word and interval of words, word alone of wide numbers, classes of objects
abbrev pub kind_holds : Parts → Datum → Type 0
kind_holds v (Plain (Single w)) = word_holds v.word (Single w) × range_holds v.interval (cast_signed w32 w)
kind_holds v (Plain (Double d)) = word_holds v.word (Double d)
kind_holds v (Object class) = set_holds v.classes class

-- what a value holds of: nullness speaks of every datum
abbrev pub value_holds : Parts → Datum → Type 0
value_holds v d = kind_holds v d × null_holds v.nullness d

-- it holds of this and of nothing else
pub record HoldsOnly (v : Parts) (d : Datum) : Type 0 where
  pub this : value_holds v d
  pub only : (e : Datum) → value_holds v e → e ≡ d

-- it holds of no object, and of no number but those that a word holds of
abbrev pub NumberIn : Word → Datum → Type 0
NumberIn z (Plain n) = word_holds z n
NumberIn z (Object class) = ⊥

abbrev pub HoldsAtMost : Parts → Word → Type 0
HoldsAtMost v z = (d : Datum) → value_holds v d → NumberIn z d

-- both hold of the same
abbrev pub HoldAlike : Parts → Parts → Type 0
HoldAlike v w = (d : Datum) → value_holds v d ↔ value_holds w d

abbrev pub least_value : Parts
least_value = record { word = Bottom; interval = no_words; nullness = NoNull; classes = Some [] }

abbrev pub constant_value : ℕ → Parts
constant_value w = record {
  word = Known w;
  interval = only_word (cast_signed w32 w);
  nullness = if w == 0 then Null else NotNull;
  classes = Some [];
}

abbrev pub wide_value : ℕ → Parts
wide_value d = record { word = KnownWide d; interval = no_words; nullness = NotNull; classes = Some [] }

-- objects of these classes, and nothing else
abbrev pub objects_value : Option (List ℕ) → Parts
objects_value classes = record {
  word = Bottom;
  interval = no_words;
  nullness = if is_no_set classes then NoNull else NotNull;
  classes = classes;
}

abbrev pub any_value : Parts
any_value = record { word = Any; interval = all_words; nullness = AnyNull; classes = None }

abbrev pub value_joined : Parts → Parts → Parts
value_joined x y = record {
  word = word_joined x.word y.word;
  interval = range_joined x.interval y.interval;
  nullness = null_joined x.nullness y.nullness;
  classes = set_joined x.classes y.classes;
}

-- the interval alone is widened, the others join
abbrev pub value_widened : Parts → Parts → Parts
value_widened x y = record (value_joined x y) { interval = range_widened x.interval y.interval }

abbrev pub value_rank : Parts → ℕ
value_rank v = word_rank v.word + range_rank v.interval + null_rank v.nullness + set_rank v.classes

-- it holds of this signed word
abbrev pub Attains : Parts → ℤ → Type 0
Attains v z = (w : ℕ) × (cast_signed w32 w ≡ z) × value_holds v (Plain (Single w))

-- each number that its word part knows is held
abbrev pub AttainsWord : Parts → Word → Type 0
AttainsWord v Bottom = Unit {0}
AttainsWord v (Known w) = value_holds v (Plain (Single w))
AttainsWord v (KnownWide d) = value_holds v (Plain (Double d))
AttainsWord v Any = Allows v.nullness false

-- each part says no more than the value as a whole holds of
pub record IsReduced (v : Parts) : Type 0 where
  pub word : AttainsWord v v.word
  pub ends : is_empty v.interval ≡ false → Attains v v.interval.low × Attains v v.interval.high
  pub zero : Allows v.nullness true → value_holds v (Plain (Single 0))
  pub other : Allows v.nullness false → (d : Datum) × (is_zero d ≡ false) × value_holds v d
  pub objects : (class : Option ℕ) → set_holds v.classes class → Allows v.nullness false

-- the word, or the wide number, of which alone it holds
abbrev pub known_of : Parts → Option ℕ
known_of v = if is_no_set v.classes then word_known v.word else None

abbrev pub known_wide_of : Parts → Option ℕ
known_wide_of v = if is_no_set v.classes then word_known_wide v.word else None
