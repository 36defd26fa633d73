-- What is left of a value holds of what it is left for.
use Rattle.std.proofs.Common.{◌≡◌, ℕ, ◌+◌, ◌<◌, ℤ, pos, negsuc, Bool, true, false, true≢false, List, [], ◌∷◌, Option, Some, None, refl, sym, ap, ◌∙◌, subst, arith}
use Rattle.std.specs.Prelude.{◌%◌, ◌^◌, ◌==◌, ◌&&◌, ◌||◌, not, if◌then◌else◌, int_lt, ◌≤ℤ◌, ◌<ℤ◌, ◌+ℤ◌, ◌-ℤ◌}
use Rattle.std.specs.Int.RustNames.{int_le}
use Rattle.std.specs.Int.{w32, cast_signed, cast_unsigned, int_min, int_max}
use Rattle.std.specs.Ordering.{int_eq}
use Rattle.std.proofs.lemmas.Int.{ints, of_z-to_z, clamps, by_lt_z}
use Rattle.std.proofs.lemmas.Grind.{common_steps}
use Rattle.domains.specs.declared.numbers.Word.{Word}
use Rattle.domains.specs.declared.numbers.Word.TheVariants as word
use Rattle.domains.specs.declared.nulls.Nullness.{Nullness}
use Rattle.domains.specs.declared.nulls.Nullness.TheVariants.{Bottom, Null, NotNull, Any}
use Rattle.domains.specs.Datum.{Number, Single, Double, Datum, Plain, Object, is_zero}
use Rattle.domains.specs.Words.{word_holds}
use Rattle.domains.specs.Nulls.{Allows, null_holds}
use Rattle.domains.specs.Ranges.{Bounds, no_words, words_between, range_holds, first_word, last_word}
use Rattle.domains.specs.ClassSets.{set_holds, is_no_set, no_object}
use Rattle.domains.specs.Values.{Parts, kind_holds, value_holds, constant_value}
use Rattle.domains.specs.ValueLaws.{constant_reduced}
use Rattle.domains.specs.Reducing.{reduced}
use Rattle.domains.specs.ReducingLaws.{reduced_alike}
use Rattle.value_ops.specs.Left.{is_bottom, is_nothing, goes_on, both_go_on, without_null, with_null, held_value, null_value, is_unknown, settled, words_of, word_met, range_met, null_met, same_as, next_word, previous_word, word_without, range_without, null_without, without, narrowed}
use Rattle.value_ops.specs.Sound.{HoldsSome, HoldsBoth, IsNarrow, AreSame}

-- ---- something

something : (n : Nullness) (b : Bool) → Allows n b → is_bottom n ≡ false
something Bottom b h = absurd h
something Null b h = refl
something NotNull b h = refl
something Any b h = refl

pub is_something : (x : Parts) (d : Datum) → value_holds x d → is_nothing x ≡ false
is_something x d h = something x.nullness (is_zero d) h.1

pub going_on : (x : Parts) (d : Datum) → value_holds x d → HoldsSome (goes_on x) d
going_on x d h = subst (λ b. HoldsSome (if b then None else Some x) d) (sym (is_something x d h)) h

neither : (p q : Bool) → p ≡ false → q ≡ false → (p || q) ≡ false
neither true q e k = absurd (true≢false e)
neither false true e k = absurd (true≢false k)
neither false false e k = refl

pub both_something : (x y : Parts) (d e : Datum) → value_holds x d → value_holds y e → (is_nothing x || is_nothing y) ≡ false
both_something x y d e h k = neither (is_nothing x) (is_nothing y) (is_something x d h) (is_something y e k)

pub both_going_on : (x y : Parts) (d e : Datum) → value_holds x d → value_holds y e → HoldsBoth (both_go_on x y) d e
both_going_on x y d e h k = subst (λ b. HoldsBoth (if b then None else Some (x, y)) d e) (sym (both_something x y d e h k)) (h, k)

-- ---- null

allows_without : (n : Nullness) (b : Bool) → b ≡ false → Allows n b → Allows (without_null n) b
allows_without Bottom b e h = h
allows_without Null b e h = absurd (true≢false (sym h ∙ e))
allows_without NotNull b e h = h
allows_without Any b e h = e

allows_with : (n : Nullness) (b : Bool) → b ≡ true → Allows n b → Allows (with_null n) b
allows_with Bottom b e h = h
allows_with Null b e h = h
allows_with NotNull b e h = absurd (true≢false (sym e ∙ h))
allows_with Any b e h = e

pub held_so : (x : Parts) (d : Datum) → is_zero d ≡ false → value_holds x d → HoldsSome (goes_on (held_value x)) d
held_so x d e h = going_on (held_value x) d ((reduced_alike (record x { nullness = without_null x.nullness }) d).1 (kind d h.0, allows_without x.nullness (is_zero d) e h.1))
  where
    kind : (d : Datum) → kind_holds x d → kind_holds (record x { nullness = without_null x.nullness }) d
    kind (Plain (Single w)) k = k
    kind (Plain (Double n)) k = k
    kind (Object c) k = k

pub null_so : (x : Parts) (d : Datum) → is_zero d ≡ true → value_holds x d → HoldsSome (goes_on (null_value x)) d
null_so x d e h = going_on (null_value x) d ((reduced_alike (record x { nullness = with_null x.nullness }) d).1 (kind d h.0, allows_with x.nullness (is_zero d) e h.1))
  where
    kind : (d : Datum) → kind_holds x d → kind_holds (record x { nullness = with_null x.nullness }) d
    kind (Plain (Single w)) k = k
    kind (Plain (Double n)) k = k
    kind (Object c) k = k

-- ---- constants

pub constant_holds : (w : ℕ) → value_holds (constant_value w) (Plain (Single w))
constant_holds w = (constant_reduced w).word

and_first : (p q : Bool) → (p && q) ≡ true → p ≡ true
and_first true q e = refl
and_first false q e = e

and_second : (p q : Bool) → (p && q) ≡ true → q ≡ true
and_second true q e = e
and_second false q e = absurd (true≢false (sym e))

equal_ends : (a b : ℤ) → int_eq a b ≡ true → a ≡ b
equal_ends a b e = grind (arith, ints, common_steps)

-- the only word between two equal ends
only_between : (low high z : ℤ) → low ≡ high → low ≤ℤ z → z ≤ℤ high → low ≡ z
only_between low high z e l h = grind (arith, ints)

pub settled_so : (x : Parts) (d : Datum) → IsNarrow d → value_holds x d → value_holds (settled x) d
settled_so x d n h = by (is_unknown x.word && int_eq x.interval.low x.interval.high && is_no_set x.classes) refl
  where
    alone : (d : Datum) → IsNarrow d → value_holds x d → int_eq x.interval.low x.interval.high ≡ true → is_no_set x.classes ≡ true → value_holds (constant_value (cast_unsigned w32 x.interval.low)) d
    alone (Plain (Single w)) n h e k =
        let same : x.interval.low ≡ cast_signed w32 w = only_between x.interval.low x.interval.high (cast_signed w32 w) (equal_ends x.interval.low x.interval.high e) h.0.1.0 h.0.1.1 in
        let it : cast_unsigned w32 x.interval.low ≡ w = ap (cast_unsigned w32) same ∙ of_z-to_z w32 w n in
        subst (λ m. value_holds (constant_value m) (Plain (Single w))) (sym it) (constant_holds w)
    alone (Plain (Double m)) n h e k = absurd n
    alone (Object c) n h e k = absurd (no_object x.classes c k h.0)

    by : (b : Bool) → (is_unknown x.word && int_eq x.interval.low x.interval.high && is_no_set x.classes) ≡ b → value_holds (if b then constant_value (cast_unsigned w32 x.interval.low) else x) d
    by true e = alone d n h (and_second (is_unknown x.word) (int_eq x.interval.low x.interval.high) (and_first (is_unknown x.word && int_eq x.interval.low x.interval.high) (is_no_set x.classes) e)) (and_second (is_unknown x.word && int_eq x.interval.low x.interval.high) (is_no_set x.classes) e)
    by false e = h

-- what parts hold of, what they leave holds of
pub left_so : (v : Parts) (d : Datum) → IsNarrow d → value_holds v d → value_holds (settled (reduced v)) d
left_so v d n h = settled_so (reduced v) d n ((reduced_alike v d).1 h)

pub words_so : (r : Bounds) (w : ℕ) → w < 2 ^ 32 → range_holds r (cast_signed w32 w) → value_holds (words_of r) (Plain (Single w))
words_so r w l h = left_so (record { word = word.Any; interval = r; nullness = Any; classes = Some [] }) (Plain (Single w)) l ((tt, h), tt)

-- ---- both

pub between_so : (low high z : ℤ) → low ≤ℤ z → z ≤ℤ high → range_holds (words_between low high) z
between_so low high z l h = by (int_lt high low) refl
  where
    by : (b : Bool) → int_lt high low ≡ b → range_holds (if b then no_words else record { low = low; high = high }) z
    by true e = absurd (grind (arith, ints))
    by false e = (l, h)

pub met_so : (a b : Bounds) (z : ℤ) → range_holds a z → range_holds b z → range_holds (range_met a b) z
met_so a b z h k = between_so (int_max a.low b.low) (int_min a.high b.high) z (omega (arith, ints, clamps, h.0, k.0)) (omega (arith, ints, clamps, h.1, k.1))

word_met_so : (x y : Word) (n : Number) → word_holds x n → word_holds y n → word_holds (word_met x y) n
word_met_so word.Any y n h k = k
word_met_so word.Bottom y n h k = absurd h
word_met_so (word.Known a) (word.Known b) n h k = by (a == b) refl
  where
    by : (t : Bool) → (a == b) ≡ t → word_holds (if t then word.Known a else word.Bottom) n
    by true e = h
    by false e = let i : Single a ≡ Single b = sym h ∙ k in absurd (grind (arith, common_steps))
word_met_so (word.KnownWide a) (word.KnownWide b) n h k = by (a == b) refl
  where
    by : (t : Bool) → (a == b) ≡ t → word_holds (if t then word.KnownWide a else word.Bottom) n
    by true e = h
    by false e = let i : Double a ≡ Double b = sym h ∙ k in absurd (grind (arith, common_steps))
word_met_so (word.Known a) word.Bottom n h k = k
word_met_so (word.Known a) (word.KnownWide b) n h k = let i : Single a ≡ Double b = sym h ∙ k in absurd (cc)
word_met_so (word.Known a) word.Any n h k = h
word_met_so (word.KnownWide a) word.Bottom n h k = k
word_met_so (word.KnownWide a) (word.Known b) n h k = let i : Double a ≡ Single b = sym h ∙ k in absurd (cc)
word_met_so (word.KnownWide a) word.Any n h k = h

null_met_so : (x y : Nullness) (b : Bool) → Allows x b → Allows y b → Allows (null_met x y) b
null_met_so Any y b h k = k
null_met_so Bottom y b h k = absurd h
null_met_so Null Bottom b h k = k
null_met_so Null Null b h k = h
null_met_so Null NotNull b h k = absurd (true≢false (sym h ∙ k))
null_met_so Null Any b h k = h
null_met_so NotNull Bottom b h k = k
null_met_so NotNull Null b h k = absurd (true≢false (sym k ∙ h))
null_met_so NotNull NotNull b h k = h
null_met_so NotNull Any b h k = h

pub same_so : (x y : Parts) (d e : Datum) → IsNarrow d → AreSame d e → value_holds x d → value_holds y e → value_holds (same_as x y) d
same_so x y d e n s h k = left_so met d n (both d e s h k)
  where
    met : Parts
    met = record {
      word = word_met x.word y.word;
      interval = range_met x.interval y.interval;
      nullness = null_met x.nullness y.nullness;
      classes = if is_no_set y.classes then Some [] else x.classes;
    }

    both : (d e : Datum) → AreSame d e → value_holds x d → value_holds y e → value_holds met d
    both (Plain (Single a)) (Plain (Single b)) s h k =
        let k' : value_holds y (Plain (Single a)) = subst (λ m. value_holds y (Plain (Single m))) (sym s) k in
        ((word_met_so x.word y.word (Single a) h.0.0 k'.0.0, met_so x.interval y.interval (cast_signed w32 a) h.0.1 k'.0.1), null_met_so x.nullness y.nullness (a == 0) h.1 k'.1)
    both (Plain (Single a)) (Plain (Double b)) s h k = absurd s
    both (Plain (Single a)) (Object c) s h k = absurd s
    both (Plain (Double a)) e s h k = absurd s
    both (Object c) (Plain m) s h k = absurd s
    both (Object c) (Object f) s h k = (by (is_no_set y.classes) refl, null_met_so x.nullness y.nullness false h.1 k.1)
      where
        by : (b : Bool) → is_no_set y.classes ≡ b → set_holds (if b then Some [] else x.classes) c
        by true i = absurd (no_object y.classes f i k.0)
        by false i = h.0

pub narrowed_so : (x : Parts) (r : Bounds) (w : ℕ) → w < 2 ^ 32 → value_holds x (Plain (Single w)) → range_holds r (cast_signed w32 w) → value_holds (narrowed x r) (Plain (Single w))
narrowed_so x r w l h k = left_so (record x { interval = range_met x.interval r; classes = Some [] }) (Plain (Single w)) l ((h.0.0, met_so x.interval r (cast_signed w32 w) h.0.1 k), h.1)

-- ---- without a word

signed_apart : (a c : ℕ) → a < 2 ^ 32 → c < 2 ^ 32 → (a ≡ c → ⊥) → cast_signed w32 a ≡ cast_signed w32 c → ⊥
signed_apart a c la lc ne e = ne (sym (of_z-to_z w32 a la) ∙ ap (cast_unsigned w32) e ∙ of_z-to_z w32 c lc)

word_without_so : (c : ℕ) (x : Word) (n : Number) → (n ≡ Single c → ⊥) → word_holds x n → word_holds (word_without c x) n
word_without_so c word.Bottom n ne h = h
word_without_so c (word.Known a) n ne h = by (a == c) refl
  where
    by : (t : Bool) → (a == c) ≡ t → word_holds (if t then word.Bottom else word.Known a) n
    by true e = ne (h ∙ ap Single (grind (arith, common_steps)))
    by false e = h
word_without_so c (word.KnownWide a) n ne h = h
word_without_so c word.Any n ne h = h

past_low : (low z c : ℤ) → low ≤ℤ z → (z ≡ c → ⊥) → z ≤ℤ last_word → (if int_eq low c then next_word c else low) ≤ℤ z
past_low low z c l ne top = by (int_eq low c) refl
  where
    by : (b : Bool) → int_eq low c ≡ b → (if b then next_word c else low) ≤ℤ z
    by false e = l
    by true e = more (int_eq c last_word) refl
      where
        more : (t : Bool) → int_eq c last_word ≡ t → (if t then c else c +ℤ pos 1) ≤ℤ z
        more true i = grind (arith, ints, common_steps)
        more false i = grind (arith, ints, common_steps)

before_high : (high z c : ℤ) → z ≤ℤ high → (z ≡ c → ⊥) → first_word ≤ℤ z → (z ≤ℤ (if int_eq high c then previous_word c else high))
before_high high z c l ne low = by (int_eq high c) refl
  where
    by : (b : Bool) → int_eq high c ≡ b → z ≤ℤ (if b then previous_word c else high)
    by false e = l
    by true e = more (int_eq c first_word) refl
      where
        more : (t : Bool) → int_eq c first_word ≡ t → z ≤ℤ (if t then c else c -ℤ pos 1)
        more true i = grind (arith, ints, common_steps)
        more false i = grind (arith, ints, common_steps)

-- a word is one of the signed words
pub is_word : (w : ℕ) → w < 2 ^ 32 → (first_word ≤ℤ cast_signed w32 w) × (cast_signed w32 w ≤ℤ last_word)
is_word w l = (grind (arith, ints), grind (arith, ints))

range_without_so : (c : ℤ) (r : Bounds) (w : ℕ) → w < 2 ^ 32 → (cast_signed w32 w ≡ c → ⊥) → range_holds r (cast_signed w32 w) → range_holds (range_without c r) (cast_signed w32 w)
range_without_so c r w l ne h = between_so (if int_eq r.low c then next_word c else r.low) (if int_eq r.high c then previous_word c else r.high) (cast_signed w32 w)
    (past_low r.low (cast_signed w32 w) c h.0 ne (is_word w l).1) (before_high r.high (cast_signed w32 w) c h.1 ne (is_word w l).0)

null_without_so : (c : ℕ) (n : Nullness) (b : Bool) → ((c == 0) ≡ true → b ≡ false) → Allows n b → Allows (null_without c n) b
null_without_so c n b f h = by (c == 0) refl
  where
    by : (t : Bool) → (c == 0) ≡ t → Allows (if t then without_null n else n) b
    by true e = allows_without n b (f e) h
    by false e = h

pub without_so : (c : ℕ) (x : Parts) (d : Datum) → c < 2 ^ 32 → IsNarrow d → (d ≡ Plain (Single c) → ⊥) → value_holds x d → value_holds (without c x) d
without_so c x d lc n ne h = left_so left d n (by d n ne h)
  where
    left : Parts
    left = record x {
      word = word_without c x.word;
      interval = range_without (cast_signed w32 c) x.interval;
      nullness = null_without c x.nullness;
    }

    by : (d : Datum) → IsNarrow d → (d ≡ Plain (Single c) → ⊥) → value_holds x d → value_holds left d
    by (Plain (Single w)) n ne h =
        let apart : w ≡ c → ⊥ = λ e. ne (ap (λ m. Plain (Single m)) e) in (
          (
            word_without_so c x.word (Single w) (λ e. ne (ap Plain e)) h.0.0,
            range_without_so (cast_signed w32 c) x.interval w n (signed_apart w c n lc apart) h.0.1,
          ),
          null_without_so c x.nullness (w == 0) (λ e. not_zero (w == 0) refl e apart) h.1,
        )
      where
        not_zero : (t : Bool) → (w == 0) ≡ t → (c == 0) ≡ true → (w ≡ c → ⊥) → (w == 0) ≡ false
        not_zero true i e apart = absurd (apart (grind (arith, common_steps)))
        not_zero false i e apart = i
    by (Plain (Double m)) n ne h = absurd n
    by (Object o) n ne h = (h.0, null_without_so c x.nullness false (λ e. refl) h.1)
