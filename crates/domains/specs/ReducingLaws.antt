-- The value that is made of four parts is reduced, and holds of the same.
use Rattle.std.specs.Prelude.{◌≡◌, ℕ, ℤ, pos, negsuc, Bool, true, false, not, ◌==◌, ◌&&◌, ◌||◌, ◌<ℤ◌, ◌≤ℤ◌, int_lt, if◌then◌else◌, IsTrue, ◌↔◌, List, Option, None, Some, FitsSigned, refl}
use Rattle.std.specs.Int.RustNames.{int_le}
use Rattle.std.specs.Ordering.{int_eq}
use Rattle.std.specs.Int.{w32, cast_signed, cast_unsigned}
use Rattle.std.proofs.Common.{sym, ◌∙◌, arith, rules, subst, ap}
use Rattle.std.proofs.lemmas.Grind.{common_steps}
use Rattle.std.proofs.lemmas.Bool.Decides.{Decides-int_eq}
use Rattle.std.proofs.lemmas.Int.{ints, to_z-of_z, by_lt_z}
use Rattle.domains.specs.declared.numbers.Word.{Word}
use Rattle.domains.specs.declared.numbers.Word.TheVariants.{Bottom, Known, KnownWide, Any}
use Rattle.domains.specs.declared.nulls.Nullness.{Nullness}
use Rattle.domains.specs.declared.nulls.Nullness.TheVariants.{Bottom as NoNull, Null, NotNull, Any as AnyNull}
use Rattle.domains.specs.Datum.{Number, Single, Double, Datum, Plain, Object, is_zero}
use Rattle.domains.specs.Words.{word_holds}
use Rattle.domains.specs.Nulls.{Allows}
use Rattle.domains.specs.Ranges.{Bounds, range_holds, is_empty, no_words, only_word, words_between, nothing_in_it}
use Rattle.domains.specs.ClassSets.{set_holds, is_no_set, no_class, some_object, no_object}
use Rattle.domains.specs.Values.{Parts, value_holds, HoldAlike, least_value, constant_value, objects_value, Attains, IsReduced}
use Rattle.domains.specs.ValueLaws.{constant_reduced, objects_reduced, least_reduced}
use Rattle.domains.specs.Reducing.{in_range, past_zero, before_zero, without_zero, has_zero, known_value, any_number, with_number, reduced_by, reduced}

-- the ends are words of 32 bits
pub record AreEnds (r : Bounds) : Type 0 where
  pub low : FitsSigned w32 r.low
  pub high : FitsSigned w32 r.high

in_range_is : (r : Bounds) (z : ℤ) → (in_range r z ≡ true) ↔ range_holds r z
in_range_is r z = (λ t. (grind (arith, ints), grind (arith, ints)), λ h. grind (arith, ints))

cast_zero : (w : ℕ) → cast_signed w32 w ≡ pos 0 → w ≡ 0
cast_zero w e = grind (arith, ints)

single_same : (a b : ℕ) → Single a ≡ Single b → a ≡ b
single_same a b k = cc

both_true : {P : Type 0} (a b : Bool) → (a && b) ≡ true → (a ≡ true → b ≡ true → P) → P
both_true true b e f = f refl e
both_true false b e f = absurd (cc)

both_false : (a b : Bool) → (a && b) ≡ false → a ≡ true → b ≡ true → ⊥
both_false true true e p q = absurd (cc)
both_false true false e p q = absurd (cc)
both_false false b e p q = absurd (cc)

-- which of the two it is where more than null is allowed
abbrev other_null : Bool → Nullness
other_null zero = if zero then AnyNull else NotNull

allows_other : (zero : Bool) → Allows (other_null zero) false
allows_other true = tt
allows_other false = refl

allows_word : (zero b : Bool) → Allows (other_null zero) b → (zero || not b) ≡ true
allows_word true b a = refl
allows_word false true a = absurd (cc)
allows_word false false a = refl

allows_word_from : (zero b : Bool) → (zero || not b) ≡ true → Allows (other_null zero) b
allows_word_from true b e = tt
allows_word_from false true e = absurd (cc)
allows_word_from false false e = refl

-- ---- reduced

-- null or not null, beside objects
null_with : (b s : Bool) → Allows (if b then (if s then Null else AnyNull) else NotNull) b
null_with true true = refl
null_with true false = tt
null_with false s = refl

pub known_reduced : (k : ℕ) (cs : Option (List ℕ)) → IsReduced (known_value k cs)
known_reduced k cs = record {
  word = it;
  ends = λ some. ((k, refl, it), (k, refl, it));
  zero = λ a. subst (λ n. value_holds (known_value k cs) (Plain (Single n))) (zero_of (k == 0) (is_no_set cs) refl a) it;
  other = λ a. other_of (k == 0) (is_no_set cs) refl refl a;
  objects = λ c h. object_of (k == 0) (is_no_set cs) refl c h;
}
  where
    it : value_holds (known_value k cs) (Plain (Single k))
    it = ((refl, (omega (arith, ints), omega (arith, ints))), null_with (k == 0) (is_no_set cs))

    zero_of : (b s : Bool) → (k == 0) ≡ b → Allows (if b then (if s then Null else AnyNull) else NotNull) true → k ≡ 0
    zero_of true s e a = grind (arith, common_steps)
    zero_of false s e a = absurd (cc)

    object_of : (b s : Bool) → is_no_set cs ≡ s → (c : Option ℕ) → set_holds cs c → Allows (if b then (if s then Null else AnyNull) else NotNull) false
    object_of true true e c h = absurd (no_object cs c e h)
    object_of true false e c h = tt
    object_of false s e c h = refl

    other_of : (b s : Bool) → (k == 0) ≡ b → is_no_set cs ≡ s → Allows (if b then (if s then Null else AnyNull) else NotNull) false → (d : Datum) × (is_zero d ≡ false) × value_holds (known_value k cs) d
    other_of true true e i a = absurd (cc)
    other_of true false e i a = some_object cs i (λ c h. (Object c, refl, (h, object_of (k == 0) (is_no_set cs) refl c h)))
    other_of false s e i a = (Plain (Single k), e, it)

pub wide_with_reduced : (d : ℕ) (cs : Option (List ℕ)) → IsReduced (record { word = KnownWide d; interval = no_words; nullness = NotNull; classes = cs })
wide_with_reduced d cs = record {
  word = (refl, refl);
  ends = λ some. absurd (cc);
  zero = λ a. absurd (cc);
  other = λ a. (Plain (Double d), refl, (refl, refl));
  objects = λ c h. refl;
}

-- a signed word is that of some word without a sign
word_of : (v : Parts) (z : ℤ) → FitsSigned w32 z → ((w : ℕ) → cast_signed w32 w ≡ z → value_holds v (Plain (Single w))) → Attains v z
word_of v z fits f = let e : cast_signed w32 (cast_unsigned w32 z) ≡ z = to_z-of_z w32 z fits in (cast_unsigned w32 z, e, f (cast_unsigned w32 z) e)

filled : (r : Bounds) → is_empty r ≡ false → r.low ≤ℤ r.high
filled r e = grind (arith, ints)

module _ (i : Bounds) (cs : Option (List ℕ)) where
  any_allows : (s b : Bool) → (b ≡ true → s ≡ true) → Allows (if s then AnyNull else NotNull) b
  any_allows true b f = tt
  any_allows false true f = absurd (let e : false ≡ true = f refl in cc)
  any_allows false false f = refl

  any_with_zero : AreEnds i → IsReduced (any_number true i cs)
  any_with_zero fits = record {
    word = any_allows (in_range i (pos 0)) false (λ e. absurd (cc));
    ends = λ some. let le = filled i some in (
      word_of (any_number true i cs) i.low fits.low (λ w e. held w (omega (arith, ints, e), omega (arith, ints, e, le))),
      word_of (any_number true i cs) i.high fits.high (λ w e. held w (omega (arith, ints, e, le), omega (arith, ints, e))),
    );
    zero = λ a. held 0 ((in_range_is i (pos 0)).0 (zero_of (in_range i (pos 0)) a));
    other = λ a. (Plain (Double 0), refl, (tt, a));
    objects = λ c h. any_allows (in_range i (pos 0)) false (λ e. absurd (cc));
  }
    where
      zero_of : (s : Bool) → Allows (if s then AnyNull else NotNull) true → s ≡ true
      zero_of true a = refl
      zero_of false a = absurd (cc)

      held : (w : ℕ) → range_holds i (cast_signed w32 w) → value_holds (any_number true i cs) (Plain (Single w))
      held w r = ((tt, r), any_allows (in_range i (pos 0)) (w == 0) (λ e. let z : w ≡ 0 = grind (arith, common_steps) in (in_range_is i (pos 0)).1 (subst (λ n. range_holds i (cast_signed w32 n)) z r)))

-- ends without the word 0
past_zero_is : (z : ℤ) → (z ≤ℤ past_zero z) × (past_zero z ≡ pos 0 → ⊥) × ((y : ℤ) → z ≤ℤ y → (y ≡ pos 0 → ⊥) → past_zero z ≤ℤ y)
past_zero_is z = by (int_eq z (pos 0)) refl
  where
    by : (b : Bool) → int_eq z (pos 0) ≡ b → let e = if b then pos 1 else z in (z ≤ℤ e) × (e ≡ pos 0 → ⊥) × ((y : ℤ) → z ≤ℤ y → (y ≡ pos 0 → ⊥) → e ≤ℤ y)
    by true t = let s : z ≡ pos 0 = (Decides-int_eq z (pos 0)).0 t in (omega (arith, ints, s), (λ e. omega (arith, ints, e)), λ y l n. omega (arith, ints, s, l, n))
    by false t = (omega (arith, ints), (λ e. let f : int_eq z (pos 0) ≡ true = (Decides-int_eq z (pos 0)).1 e in absurd (cc)), λ y l n. l)

before_zero_is : (z : ℤ) → (before_zero z ≤ℤ z) × (before_zero z ≡ pos 0 → ⊥) × ((y : ℤ) → y ≤ℤ z → (y ≡ pos 0 → ⊥) → y ≤ℤ before_zero z)
before_zero_is z = by (int_eq z (pos 0)) refl
  where
    by : (b : Bool) → int_eq z (pos 0) ≡ b → let e = if b then negsuc 0 else z in (e ≤ℤ z) × (e ≡ pos 0 → ⊥) × ((y : ℤ) → y ≤ℤ z → (y ≡ pos 0 → ⊥) → y ≤ℤ e)
    by true t = let s : z ≡ pos 0 = (Decides-int_eq z (pos 0)).0 t in (omega (arith, ints, s), (λ e. omega (arith, ints, e)), λ y l n. omega (arith, ints, s, l, n))
    by false t = (omega (arith, ints), (λ e. let f : int_eq z (pos 0) ≡ true = (Decides-int_eq z (pos 0)).1 e in absurd (cc)), λ y l n. l)

between_is : (l h z : ℤ) → range_holds (words_between l h) z ↔ ((l ≤ℤ z) × (z ≤ℤ h))
between_is l h z = by (int_lt h l) refl
  where
    by : (b : Bool) → int_lt h l ≡ b → range_holds (if b then no_words else record { low = l; high = h }) z ↔ ((l ≤ℤ z) × (z ≤ℤ h))
    by true t = (λ r. absurd (nothing_in_it z r), λ r. let lt : h <ℤ l = grind (arith, ints) in absurd (omega (arith, ints, r.0, r.1)))
    by false t = (λ r. r, λ r. r)

without_zero_in : (r : Bounds) (z : ℤ) → range_holds (without_zero r) z → range_holds r z
without_zero_in r z h =
    let b = (between_is (past_zero r.low) (before_zero r.high) z).0 h in
    (omega (arith, ints, b.0, (past_zero_is r.low).0), omega (arith, ints, b.1, (before_zero_is r.high).0))

without_zero_all : (r : Bounds) (z : ℤ) → range_holds r z → (z ≡ pos 0 → ⊥) → range_holds (without_zero r) z
without_zero_all r z h n = (between_is (past_zero r.low) (before_zero r.high) z).1 ((past_zero_is r.low).2 z h.0 n, (before_zero_is r.high).2 z h.1 n)

past_zero_fits : (z : ℤ) → FitsSigned w32 z → FitsSigned w32 (past_zero z)
past_zero_fits z f = by (int_eq z (pos 0))
  where
    by : (b : Bool) → FitsSigned w32 (if b then pos 1 else z)
    by true = search rules
    by false = f

before_zero_fits : (z : ℤ) → FitsSigned w32 z → FitsSigned w32 (before_zero z)
before_zero_fits z f = by (int_eq z (pos 0))
  where
    by : (b : Bool) → FitsSigned w32 (if b then negsuc 0 else z)
    by true = search rules
    by false = f

pub without_zero_fits : (r : Bounds) → AreEnds r → AreEnds (without_zero r)
without_zero_fits r f = by (int_lt (before_zero r.high) (past_zero r.low))
  where
    by : (b : Bool) → AreEnds (if b then no_words else record { low = past_zero r.low; high = before_zero r.high })
    by true = record { low = search rules; high = search rules }
    by false = record { low = past_zero_fits r.low f.low; high = before_zero_fits r.high f.high }

not_zero_word : (w : ℕ) (z : ℤ) → cast_signed w32 w ≡ z → (z ≡ pos 0 → ⊥) → (w == 0) ≡ false
not_zero_word w z e n = by (w == 0) refl
  where
    by : (b : Bool) → (w == 0) ≡ b → b ≡ false
    by true t = let s : w ≡ 0 = grind (arith, common_steps) in absurd (n (sym e ∙ ap (cast_signed w32) s))
    by false t = refl

any_without_zero : (i : Bounds) (cs : Option (List ℕ)) → AreEnds i → IsReduced (any_number false i cs)
any_without_zero i cs fits = record {
  word = refl;
  ends = λ some. ends (int_lt (before_zero i.high) (past_zero i.low)) refl some;
  zero = λ a. absurd (cc);
  other = λ a. (Plain (Double 0), refl, (tt, refl));
  objects = λ c h. refl;
}
  where
    l : (past_zero i.low ≡ pos 0 → ⊥)
    l = (past_zero_is i.low).1

    h : (before_zero i.high ≡ pos 0 → ⊥)
    h = (before_zero_is i.high).1

    held : (z : ℤ) → (z ≡ pos 0 → ⊥) → past_zero i.low ≤ℤ z → z ≤ℤ before_zero i.high → (w : ℕ) → cast_signed w32 w ≡ z → value_holds (any_number false i cs) (Plain (Single w))
    held z n lo hi w e = ((tt, (between_is (past_zero i.low) (before_zero i.high) (cast_signed w32 w)).1 (omega (arith, ints, e, lo), omega (arith, ints, e, hi))), not_zero_word w z e n)

    ends : (b : Bool) → int_lt (before_zero i.high) (past_zero i.low) ≡ b → let r = if b then no_words else record { low = past_zero i.low; high = before_zero i.high } in
        is_empty r ≡ false → Attains (any_number false i cs) r.low × Attains (any_number false i cs) r.high
    ends true t some = absurd (cc)
    ends false t some =
        let le : past_zero i.low ≤ℤ before_zero i.high = grind (arith, ints) in (
          word_of (any_number false i cs) (past_zero i.low) (past_zero_fits i.low fits.low) (held (past_zero i.low) l (omega (arith, ints)) le),
          word_of (any_number false i cs) (before_zero i.high) (before_zero_fits i.high fits.high) (held (before_zero i.high) h le (omega (arith, ints))),
        )

pub number_reduced : (zero : Bool) (a : Word) (i : Bounds) (cs : Option (List ℕ)) → AreEnds i → IsReduced (with_number zero a i cs)
number_reduced zero Bottom i cs fits = objects_reduced cs
number_reduced zero (Known w) i cs fits = by (in_range i (cast_signed w32 w) && (zero || not (w == 0)))
  where
    by : (b : Bool) → IsReduced (if b then known_value w cs else objects_value cs)
    by true = known_reduced w cs
    by false = objects_reduced cs
number_reduced zero (KnownWide d) i cs fits = wide_with_reduced d cs
number_reduced true Any i cs fits = any_with_zero i cs fits
number_reduced false Any i cs fits = any_without_zero i cs fits

pub reduced_is : (v : Parts) → AreEnds v.interval → IsReduced (reduced v)
reduced_is v fits = by v.nullness
  where
    by : (n : Nullness) → IsReduced (reduced_by n v)
    by NoNull = least_reduced
    by Null = null (has_zero v.word && in_range v.interval (pos 0))
      where
        null : (b : Bool) → IsReduced (if b then constant_value 0 else least_value)
        null true = constant_reduced 0
        null false = least_reduced
    by NotNull = number_reduced false v.word v.interval v.classes fits
    by AnyNull = number_reduced true v.word v.interval v.classes fits

-- ---- holds of the same

-- the parts that are given
abbrev given : Bool → Word → Bounds → Option (List ℕ) → Parts
given zero a i cs = record { word = a; interval = i; nullness = other_null zero; classes = cs }

objects_alike : (zero : Bool) (a : Word) (i : Bounds) (cs : Option (List ℕ)) → ((n : Number) → value_holds (given zero a i cs) (Plain n) → ⊥) → HoldAlike (objects_value cs) (given zero a i cs)
objects_alike zero a i cs none (Plain (Single w)) = (λ h. absurd h.0.0, λ h. absurd (none (Single w) h))
objects_alike zero a i cs none (Plain (Double d)) = (λ h. absurd h.0, λ h. absurd (none (Double d) h))
objects_alike zero a i cs none (Object c) = (λ h. (h.0, allows_other zero), λ h. (h.0, (objects_reduced cs).objects c h.0))

module _ (zero : Bool) (k : ℕ) (i : Bounds) (cs : Option (List ℕ)) where
  none_of_known : (in_range i (cast_signed w32 k) && (zero || not (k == 0))) ≡ false → (n : Number) → value_holds (given zero (Known k) i cs) (Plain n) → ⊥
  none_of_known t (Single w) h =
      let e : w ≡ k = single_same w k h.0.0 in
      both_false (in_range i (cast_signed w32 k)) (zero || not (k == 0)) t
      ((in_range_is i (cast_signed w32 k)).1 (subst (λ n. range_holds i (cast_signed w32 n)) e h.0.1))
      (allows_word zero (k == 0) (subst (λ n. Allows (other_null zero) (n == 0)) e h.1))
  none_of_known t (Double d) h = let e : Double d ≡ Single k = h.0 in absurd (cc)

  known_alike : (in_range i (cast_signed w32 k) && (zero || not (k == 0))) ≡ true → HoldAlike (known_value k cs) (given zero (Known k) i cs)
  known_alike t (Plain (Single w)) = both_true (in_range i (cast_signed w32 k)) (zero || not (k == 0)) t (λ r a. (
    λ h. subst (λ n. value_holds (given zero (Known k) i cs) (Plain (Single n))) (sym (single_same w k h.0.0)) ((refl, (in_range_is i (cast_signed w32 k)).0 r), allows_word_from zero (k == 0) a),
    λ h. subst (λ n. value_holds (known_value k cs) (Plain (Single n))) (sym (single_same w k h.0.0)) (known_reduced k cs).word,
  ))
  known_alike t (Plain (Double d)) = (λ h. let e : Double d ≡ Single k = h.0 in absurd (cc), λ h. let e : Double d ≡ Single k = h.0 in absurd (cc))
  known_alike t (Object c) = (λ h. (h.0, allows_other zero), λ h. (h.0, (known_reduced k cs).objects c h.0))

number_alike : (zero : Bool) (a : Word) (i : Bounds) (cs : Option (List ℕ)) → HoldAlike (with_number zero a i cs) (given zero a i cs)
number_alike zero Bottom i cs d = objects_alike zero Bottom i cs none d
  where
    none : (n : Number) → value_holds (given zero Bottom i cs) (Plain n) → ⊥
    none (Single w) h = h.0.0
    none (Double d) h = h.0
number_alike zero (Known k) i cs d = by (in_range i (cast_signed w32 k) && (zero || not (k == 0))) refl d
  where
    by : (b : Bool) → (in_range i (cast_signed w32 k) && (zero || not (k == 0))) ≡ b → HoldAlike (if b then known_value k cs else objects_value cs) (given zero (Known k) i cs)
    by true t = known_alike zero k i cs t
    by false t = objects_alike zero (Known k) i cs (none_of_known zero k i cs t)
number_alike zero (KnownWide d) i cs (Plain (Single w)) = (λ h. let e : Single w ≡ Double d = h.0.0 in absurd (cc), λ h. let e : Single w ≡ Double d = h.0.0 in absurd (cc))
number_alike zero (KnownWide d) i cs (Plain (Double m)) = (λ h. (h.0, allows_other zero), λ h. (h.0, refl))
number_alike zero (KnownWide d) i cs (Object c) = (λ h. (h.0, allows_other zero), λ h. (h.0, refl))
number_alike true Any i cs (Plain (Single w)) = (λ h. (h.0, tt), λ h. (h.0, any_allows i cs (in_range i (pos 0)) (w == 0) (λ e. let z : w ≡ 0 = grind (arith, common_steps) in (in_range_is i (pos 0)).1 (subst (λ n. range_holds i (cast_signed w32 n)) z h.0.1))))
number_alike true Any i cs (Plain (Double d)) = (λ h. (h.0, tt), λ h. (h.0, any_allows i cs (in_range i (pos 0)) false (λ e. absurd (cc))))
number_alike true Any i cs (Object c) = (λ h. (h.0, tt), λ h. (h.0, any_allows i cs (in_range i (pos 0)) false (λ e. absurd (cc))))
number_alike false Any i cs (Plain (Single w)) = (
  λ h. ((tt, without_zero_in i (cast_signed w32 w) h.0.1), h.1),
  λ h. ((tt, without_zero_all i (cast_signed w32 w) h.0.1 (λ e. let z : w ≡ 0 = cast_zero w e in let f : (w == 0) ≡ false = h.1 in grind (arith, common_steps))), h.1),
)
number_alike false Any i cs (Plain (Double d)) = (λ h. h, λ h. h)
number_alike false Any i cs (Object c) = (λ h. h, λ h. h)

zero_held : (a : Word) → has_zero a ≡ true → word_holds a (Single 0)
zero_held Bottom e = absurd (cc)
zero_held (Known w) e = let z : w ≡ 0 = grind (arith, common_steps) in ap Single (sym z)
zero_held (KnownWide d) e = absurd (cc)
zero_held Any e = tt

has_zero_from : (a : Word) → word_holds a (Single 0) → has_zero a ≡ true
has_zero_from Bottom h = absurd h
has_zero_from (Known w) h = let z : 0 ≡ w = single_same 0 w h in grind (arith, common_steps)
has_zero_from (KnownWide d) h = absurd (cc)
has_zero_from Any h = refl

word_is_zero : (w : ℕ) → (w == 0) ≡ true → w ≡ 0
word_is_zero w e = grind (arith, common_steps)

not_null_at_all : {P : Type 0} → false ≡ true → P
not_null_at_all e = absurd (cc)

-- of parts that allow null alone
null_alike : (a : Word) (i : Bounds) (cs : Option (List ℕ)) (b : Bool) → (has_zero a && in_range i (pos 0)) ≡ b
    → HoldAlike (if b then constant_value 0 else least_value) (record { word = a; interval = i; nullness = Null; classes = cs })
null_alike a i cs true t (Object c) = (λ h. absurd (no_class c h.0), λ h. not_null_at_all h.1)
null_alike a i cs false t (Object c) = (λ h. absurd h.1, λ h. not_null_at_all h.1)
null_alike a i cs true t (Plain (Double d)) = (λ h. let e : Double d ≡ Single 0 = h.0 in absurd (cc), λ h. not_null_at_all h.1)
null_alike a i cs false t (Plain (Double d)) = (λ h. absurd h.1, λ h. not_null_at_all h.1)
null_alike a i cs true t (Plain (Single w)) = (
  λ h. both_true (has_zero a) (in_range i (pos 0)) t (λ z r.
      subst (λ n. value_holds (record { word = a; interval = i; nullness = Null; classes = cs }) (Plain (Single n))) (sym (single_same w 0 h.0.0)) ((zero_held a z, (in_range_is i (pos 0)).0 r), refl)),
  λ h. subst (λ n. value_holds (constant_value 0) (Plain (Single n))) (sym (word_is_zero w h.1)) (constant_reduced 0).word,
)
null_alike a i cs false t (Plain (Single w)) = (
  λ h. absurd h.1,
  λ h. let z : w ≡ 0 = word_is_zero w h.1 in
      absurd (both_false (has_zero a) (in_range i (pos 0)) t
      (has_zero_from a (subst (λ n. word_holds a (Single n)) z h.0.0))
      ((in_range_is i (pos 0)).1 (subst (λ n. range_holds i (cast_signed w32 n)) z h.0.1))),
)

pub reduced_alike : (v : Parts) → HoldAlike (reduced v) v
reduced_alike v = by v.nullness
  where
    by : (n : Nullness) → HoldAlike (reduced_by n v) (record v { nullness = n })
    by NoNull d = (λ h. absurd h.1, λ h. absurd h.1)
    by Null d = null_alike v.word v.interval v.classes (has_zero v.word && in_range v.interval (pos 0)) refl d
    by NotNull d = number_alike false v.word v.interval v.classes d
    by AnyNull d = number_alike true v.word v.interval v.classes d
