-- What is left behind a test or a switch holds of its operands.
use Rattle.std.proofs.Common.{◌≡◌, ℕ, ◌+◌, ◌<◌, ℤ, pos, negsuc, Bool, true, false, true≢false, List, [], ◌∷◌, Option, Some, None, refl, sym, ap, ◌∙◌, subst, arith}
use Rattle.std.specs.Prelude.{◌%◌, ◌^◌, ◌==◌, ◌&&◌, ◌||◌, not, if◌then◌else◌, int_lt, nat_eq, ◌≤ℤ◌, ◌<ℤ◌, ◌+ℤ◌, ◌-ℤ◌, fold}
use Rattle.std.specs.Int.RustNames.{int_le}
use Rattle.std.specs.Int.{w32, cast_signed, cast_unsigned}
use Rattle.std.specs.Ordering.{int_eq}
use Rattle.std.specs.Option.{option_map}
use Rattle.std.proofs.lemmas.Int.{ints, of_z-to_z}
use Rattle.std.proofs.lemmas.Bool.{eqb-true, eq-eqb}
use Rattle.std.proofs.lemmas.Grind.{common_steps}
use Rattle.std.proofs.Math.Nat.{mod-eq_of_lt}
use Rattle.insn_set.specs.declared.ops.Test.{Test}
use Rattle.insn_set.specs.declared.ops.Test.TheVariants.{Eq, Ne, Lt, Ge, Gt, Le}
use Rattle.dalvik_defs.specs.Arith.{signed}
use Rattle.domains.specs.declared.numbers.Word.{Word}
use Rattle.domains.specs.declared.numbers.Word.TheVariants as word
use Rattle.domains.specs.declared.nulls.Nullness.{Nullness}
use Rattle.domains.specs.declared.nulls.Nullness.TheVariants.{Bottom, Null, NotNull, Any}
use Rattle.domains.specs.Datum.{Number, Single, Double, Datum, Plain, Object}
use Rattle.domains.specs.Words.{word_holds, word_known}
use Rattle.domains.specs.Nulls.{Allows}
use Rattle.domains.specs.Ranges.{Bounds, no_words, words_between, range_holds, first_word, last_word}
use Rattle.domains.specs.ClassSets.{is_no_set, no_object}
use Rattle.domains.specs.Values.{Parts, value_holds, constant_value, known_of}
use Rattle.domains.specs.Reducing.{in_range}
use Rattle.value_ops.specs.Left.{goes_on, both_go_on, same_as, without, narrowed}
use Rattle.value_ops.specs.Tests.{words_below, words_above, other_than, equal_values, different_values, less_values, least_values, turned, passed_values, opposite, tested_values, word_has, null_has, has_word, keyed_value, without_all, unkeyed_value}
use Rattle.value_ops.specs.Sound.{HoldsSome, HoldsBoth, IsNarrow, AreSame, AreOther, IsNone, AreWords, passes_words}
use Rattle.value_ops.proofs.Lefts.{going_on, both_going_on, constant_holds, between_so, same_so, narrowed_so, without_so, is_word}

-- ---- equality

same_back : (d e : Datum) → AreSame d e → AreSame e d
same_back (Plain (Single a)) (Plain (Single b)) s = sym s
same_back (Plain (Single a)) (Plain (Double b)) s = absurd s
same_back (Plain (Single a)) (Object c) s = absurd s
same_back (Plain (Double a)) e s = absurd s
same_back (Object c) (Plain m) s = absurd s
same_back (Object c) (Object f) s = tt

pub equal_so : (x y : Parts) (d e : Datum) → IsNarrow d → IsNarrow e → AreSame d e → value_holds x d → value_holds y e → HoldsBoth (equal_values x y) d e
equal_so x y d e n m s h k = both_going_on (same_as x y) (same_as y x) d e (same_so x y d e n s h k) (same_so y x e d m (same_back d e s) k h)

-- a word that is known is the one that is held, where no object is
known_is : (y : Parts) (c : ℕ) (e : Datum) → known_of y ≡ Some c → IsNarrow e → value_holds y e → e ≡ Plain (Single c)
known_is y c e i n h = by (is_no_set y.classes) refl i e n h
  where
    of_word : (a : Word) (c w : ℕ) → word_known a ≡ Some c → word_holds a (Single w) → Single w ≡ Single c
    of_word word.Bottom c w i h = absurd h
    of_word (word.Known a) c w i h = h ∙ ap Single (some_same a c i)
      where
        some_same : (a c : ℕ) → Some a ≡ Some c → a ≡ c
        some_same a c e = cc
    of_word (word.KnownWide a) c w i h = let e : Single w ≡ Double a = h in absurd (cc)
    of_word word.Any c w i h = absurd (cc)

    by : (b : Bool) → is_no_set y.classes ≡ b → (if b then word_known y.word else None) ≡ Some c → (e : Datum) → IsNarrow e → value_holds y e → e ≡ Plain (Single c)
    by false s i e n h = absurd (cc)
    by true s i (Plain (Single w)) n h = ap Plain (of_word y.word c w i h.0.0)
    by true s i (Plain (Double m)) n h = absurd n
    by true s i (Object o) n h = absurd (no_object y.classes o s h.0)

other_back : (d e : Datum) → AreOther d e → AreOther e d
other_back (Plain (Single a)) (Plain (Single b)) s = λ e. s (sym e)
other_back (Plain (Single a)) (Plain (Double b)) s = tt
other_back (Plain (Single a)) (Object c) s = tt
other_back (Plain (Double a)) (Plain m) s = by m
  where
    by : (m : Number) → AreOther (Plain m) (Plain (Double a))
    by (Single b) = tt
    by (Double b) = tt
other_back (Plain (Double a)) (Object c) s = tt
other_back (Object c) (Plain (Single b)) s = tt
other_back (Object c) (Plain (Double b)) s = tt
other_back (Object c) (Object f) s = tt

not_it : (d : Datum) (c : ℕ) → AreOther d (Plain (Single c)) → d ≡ Plain (Single c) → ⊥
not_it (Plain (Single a)) c s e = s (inner a c e)
  where
    inner : (a c : ℕ) → Plain (Single a) ≡ Plain (Single c) → a ≡ c
    inner a c e = cc
not_it (Plain (Double a)) c s e = cc
not_it (Object o) c s e = cc

other_so : (x y : Parts) (d e : Datum) → IsNarrow d → IsNarrow e → AreOther d e → value_holds x d → value_holds y e → value_holds (other_than x (known_of y)) d
other_so x y d e n m s h k = by (known_of y) refl
  where
    by : (o : Option ℕ) → known_of y ≡ o → value_holds (other_than x o) d
    by None i = h
    by (Some c) i =
        let is : e ≡ Plain (Single c) = known_is y c e i m k in
        without_so c x d (subst IsNarrow is m) n (not_it d c (subst (AreOther d) is s)) h

pub different_so : (x y : Parts) (d e : Datum) → IsNarrow d → IsNarrow e → AreOther d e → value_holds x d → value_holds y e → HoldsBoth (different_values x y) d e
different_so x y d e n m s h k = both_going_on (other_than x (known_of y)) (other_than y (known_of x)) d e (other_so x y d e n m s h k) (other_so y x e d m n (other_back d e s) k h)

-- ---- order

below_so : (z w : ℤ) → w <ℤ z → first_word ≤ℤ w → range_holds (words_below z) w
below_so z w l low = by (int_eq z first_word) refl
  where
    by : (b : Bool) → int_eq z first_word ≡ b → range_holds (if b then no_words else words_between first_word (z -ℤ pos 1)) w
    by true e = absurd (grind (arith, ints, common_steps))
    by false e = between_so first_word (z -ℤ pos 1) w low (omega (arith, ints, l))

above_so : (z w : ℤ) → z <ℤ w → w ≤ℤ last_word → range_holds (words_above z) w
above_so z w l high = by (int_eq z last_word) refl
  where
    by : (b : Bool) → int_eq z last_word ≡ b → range_holds (if b then no_words else words_between (z +ℤ pos 1) last_word) w
    by true e = absurd (grind (arith, ints, common_steps))
    by false e = between_so (z +ℤ pos 1) last_word w (omega (arith, ints, l)) high

module _ (x y : Parts) (a b : ℕ) (la : a < 2 ^ 32) (lb : b < 2 ^ 32) (h : value_holds x (Plain (Single a))) (k : value_holds y (Plain (Single b))) where
  pub less_so : cast_signed w32 a <ℤ cast_signed w32 b → HoldsBoth (less_values x y) (Plain (Single a)) (Plain (Single b))
  less_so l = both_going_on (narrowed x (words_below y.interval.high)) (narrowed y (words_above x.interval.low)) (Plain (Single a)) (Plain (Single b))
      (narrowed_so x (words_below y.interval.high) a la h (below_so y.interval.high (cast_signed w32 a) (omega (arith, ints, l, k.0.1.1)) (is_word a la).0))
      (narrowed_so y (words_above x.interval.low) b lb k (above_so x.interval.low (cast_signed w32 b) (omega (arith, ints, l, h.0.1.0)) (is_word b lb).1))

  pub least_so : cast_signed w32 b ≤ℤ cast_signed w32 a → HoldsBoth (least_values x y) (Plain (Single a)) (Plain (Single b))
  least_so l = both_going_on (narrowed x (words_between y.interval.low last_word)) (narrowed y (words_between first_word x.interval.high)) (Plain (Single a)) (Plain (Single b))
      (narrowed_so x (words_between y.interval.low last_word) a la h (between_so y.interval.low last_word (cast_signed w32 a) (omega (arith, ints, l, k.0.1.0)) (is_word a la).1))
      (narrowed_so y (words_between first_word x.interval.high) b lb k (between_so first_word x.interval.high (cast_signed w32 b) (is_word b lb).0 (omega (arith, ints, l, h.0.1.1))))

turned_so : (o : Option (Parts × Parts)) (d e : Datum) → HoldsBoth o e d → HoldsBoth (turned o) d e
turned_so None d e h = h
turned_so (Some v) d e h = (h.1, h.0)

signed_is : (a : ℕ) → a < 2 ^ 32 → signed false a ≡ cast_signed w32 a
signed_is a l = ap (cast_signed w32) (mod-eq_of_lt l)

-- what an answered comparison says
is_less : (a b : ℤ) → int_lt a b ≡ true → a <ℤ b
is_less a b e = grind (arith, ints)

is_least : (a b : ℤ) → int_lt a b ≡ false → b ≤ℤ a
is_least a b e = grind (arith, ints)

is_most : (a b : ℤ) → int_le a b ≡ true → a ≤ℤ b
is_most a b e = grind (arith, ints)

is_more : (a b : ℤ) → int_le a b ≡ false → b <ℤ a
is_more a b e = grind (arith, ints)

pub words_asked : (t : Test) (x y : Parts) (a b : ℕ) → a < 2 ^ 32 → b < 2 ^ 32 → value_holds x (Plain (Single a)) → value_holds y (Plain (Single b))
    → HoldsBoth (tested_values (passes_words t a b) t x y) (Plain (Single a)) (Plain (Single b))
words_asked t x y a b la lb h k = by t
  where
    lt : (a b : ℕ) → a < 2 ^ 32 → b < 2 ^ 32 → int_lt (signed false a) (signed false b) ≡ int_lt (cast_signed w32 a) (cast_signed w32 b)
    lt a b la lb = ap (λ z. int_lt z (signed false b)) (signed_is a la) ∙ ap (int_lt (cast_signed w32 a)) (signed_is b lb)

    le : (a b : ℕ) → a < 2 ^ 32 → b < 2 ^ 32 → int_le (signed false a) (signed false b) ≡ int_le (cast_signed w32 a) (cast_signed w32 b)
    le a b la lb = ap (λ z. int_le z (signed false b)) (signed_is a la) ∙ ap (int_le (cast_signed w32 a)) (signed_is b lb)

    by : (t : Test) → HoldsBoth (tested_values (passes_words t a b) t x y) (Plain (Single a)) (Plain (Single b))
    by Eq = go (nat_eq a b) refl
      where
        go : (c : Bool) → nat_eq a b ≡ c → HoldsBoth (passed_values (if c then Eq else Ne) x y) (Plain (Single a)) (Plain (Single b))
        go true e = equal_so x y (Plain (Single a)) (Plain (Single b)) la lb (eqb-true a b e) h k
        go false e = different_so x y (Plain (Single a)) (Plain (Single b)) la lb (λ i. true≢false (sym (eq-eqb a b i) ∙ e)) h k
    by Ne = go (nat_eq a b) refl
      where
        go : (c : Bool) → nat_eq a b ≡ c → HoldsBoth (passed_values (if not c then Ne else Eq) x y) (Plain (Single a)) (Plain (Single b))
        go true e = equal_so x y (Plain (Single a)) (Plain (Single b)) la lb (eqb-true a b e) h k
        go false e = different_so x y (Plain (Single a)) (Plain (Single b)) la lb (λ i. true≢false (sym (eq-eqb a b i) ∙ e)) h k
    by Lt = go (int_lt (signed false a) (signed false b)) refl
      where
        go : (c : Bool) → int_lt (signed false a) (signed false b) ≡ c → HoldsBoth (passed_values (if c then Lt else Ge) x y) (Plain (Single a)) (Plain (Single b))
        go true e = less_so x y a b la lb h k (is_less _ _ (sym (lt a b la lb) ∙ e))
        go false e = least_so x y a b la lb h k (is_least _ _ (sym (lt a b la lb) ∙ e))
    by Ge = go (int_le (signed false b) (signed false a)) refl
      where
        go : (c : Bool) → int_le (signed false b) (signed false a) ≡ c → HoldsBoth (passed_values (if c then Ge else Lt) x y) (Plain (Single a)) (Plain (Single b))
        go true e = least_so x y a b la lb h k (is_most _ _ (sym (le b a lb la) ∙ e))
        go false e = less_so x y a b la lb h k (is_more _ _ (sym (le b a lb la) ∙ e))
    by Gt = go (int_lt (signed false b) (signed false a)) refl
      where
        go : (c : Bool) → int_lt (signed false b) (signed false a) ≡ c → HoldsBoth (passed_values (if c then Gt else Le) x y) (Plain (Single a)) (Plain (Single b))
        go true e = turned_so (less_values y x) (Plain (Single a)) (Plain (Single b)) (less_so y x b a lb la k h (is_less _ _ (sym (lt b a lb la) ∙ e)))
        go false e = turned_so (least_values y x) (Plain (Single a)) (Plain (Single b)) (least_so y x b a lb la k h (is_least _ _ (sym (lt b a lb la) ∙ e)))
    by Le = go (int_le (signed false a) (signed false b)) refl
      where
        go : (c : Bool) → int_le (signed false a) (signed false b) ≡ c → HoldsBoth (passed_values (if c then Le else Gt) x y) (Plain (Single a)) (Plain (Single b))
        go true e = turned_so (least_values y x) (Plain (Single a)) (Plain (Single b)) (least_so y x b a lb la k h (is_most _ _ (sym (le a b la lb) ∙ e)))
        go false e = turned_so (less_values y x) (Plain (Single a)) (Plain (Single b)) (less_so y x b a lb la k h (is_more _ _ (sym (le a b la lb) ∙ e)))

-- ---- switches

word_had : (x : Word) (w : ℕ) → word_holds x (Single w) → word_has x w ≡ true
word_had word.Bottom w h = absurd h
word_had (word.Known a) w h = let e : Single w ≡ Single a = h in grind (arith, common_steps)
word_had (word.KnownWide a) w h = let e : Single w ≡ Double a = h in absurd (cc)
word_had word.Any w h = refl

null_had : (n : Nullness) (b : Bool) → Allows n b → null_has n b ≡ true
null_had Bottom b h = absurd h
null_had Null b h = h
null_had NotNull true h = absurd (true≢false h)
null_had NotNull false h = refl
null_had Any b h = refl

all_three : (p q r : Bool) → p ≡ true → q ≡ true → r ≡ true → (p && q && r) ≡ true
all_three true true true e k l = refl
all_three true true false e k l = absurd (true≢false (sym l))
all_three true false r e k l = absurd (true≢false (sym k))
all_three false q r e k l = absurd (true≢false (sym e))

in_range_so : (r : Bounds) (z : ℤ) → range_holds r z → in_range r z ≡ true
in_range_so r z h = grind (arith, ints)

zero_word : (w : ℕ) → w < 2 ^ 32 → int_eq (cast_signed w32 w) (pos 0) ≡ (w == 0)
zero_word w l = grind (arith, ints, common_steps)

pub keyed_so : (z : ℤ) (x : Parts) (w : ℕ) → w < 2 ^ 32 → cast_signed w32 w ≡ z → value_holds x (Plain (Single w)) → HoldsSome (keyed_value z x) (Plain (Single w))
keyed_so z x w l e h = subst (λ b. HoldsSome (if b then Some (constant_value (cast_unsigned w32 z)) else None) (Plain (Single w))) (sym has) (subst (λ m. value_holds (constant_value m) (Plain (Single w))) (sym it) (constant_holds w))
  where
    it : cast_unsigned w32 z ≡ w
    it = ap (cast_unsigned w32) (sym e) ∙ of_z-to_z w32 w l

    zero : int_eq z (pos 0) ≡ (w == 0)
    zero = ap (λ z. int_eq z (pos 0)) (sym e) ∙ zero_word w l

    has : has_word x z ≡ true
    has = all_three (word_has x.word (cast_unsigned w32 z)) (in_range x.interval z) (null_has x.nullness (int_eq z (pos 0)))
        (ap (word_has x.word) it ∙ word_had x.word w h.0.0)
        (in_range_so x.interval z (subst (range_holds x.interval) e h.0.1))
        (ap (null_has x.nullness) zero ∙ null_had x.nullness (w == 0) h.1)

key_less : (k : ℤ) → (first_word ≤ℤ k) × (k ≤ℤ last_word) → cast_unsigned w32 k < 2 ^ 32
key_less k l = grind (arith, ints)

key_back : (k : ℤ) → (first_word ≤ℤ k) × (k ≤ℤ last_word) → cast_signed w32 (cast_unsigned w32 k) ≡ k
key_back k l = grind (arith, ints)

without_all_so : (zs : List ℤ) (x : Parts) (w : ℕ) → w < 2 ^ 32 → AreWords zs → IsNone zs (cast_signed w32 w) → value_holds x (Plain (Single w)) → value_holds (without_all zs x) (Plain (Single w))
without_all_so [] x w l a n h = h
without_all_so (z ∷ zs) x w l a n h = without_all_so zs (without (cast_unsigned w32 z) x) w l a.1 n.1
    (without_so (cast_unsigned w32 z) x (Plain (Single w)) (key_less z a.0) l (λ e. n.0 (sym (key_back z a.0) ∙ ap (cast_signed w32) (sym (inner w (cast_unsigned w32 z) e)))) h)
  where
    inner : (a c : ℕ) → Plain (Single a) ≡ Plain (Single c) → a ≡ c
    inner a c e = cc

pub unkeyed_so : (zs : List ℤ) (x : Parts) (w : ℕ) → w < 2 ^ 32 → AreWords zs → IsNone zs (cast_signed w32 w) → value_holds x (Plain (Single w)) → HoldsSome (unkeyed_value zs x) (Plain (Single w))
unkeyed_so zs x w l a n h = going_on (without_all zs x) (Plain (Single w)) (without_all_so zs x w l a n h)
