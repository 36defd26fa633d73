-- Flat values are a sound analysis.
use Rattle.std.proofs.Common.{◌≡◌, ℕ, ℤ, pos, Bool, true, false, true≢false, List, [], ◌∷◌, Option, Some, None, refl, sym, ap, ◌∙◌, subst}
use Rattle.std.specs.Prelude.{◌||◌, ◌&&◌, ◌%◌, ◌^◌, if◌then◌else◌}
use Rattle.std.specs.Int.{w32, cast_unsigned}
use Rattle.std.specs.List.{list_any}
use Rattle.std.specs.Ordering.{int_eq}
use Rattle.insn_set.specs.Flow.{divides, divides_by_literal}
use Rattle.insn_set.specs.declared.ops.Item.{Item}
use Rattle.insn_set.specs.declared.ops.Test.{Test}
use Rattle.insn_set.specs.declared.ops.CmpOp.{CmpOp}
use Rattle.insn_set.specs.declared.ops.CmpOp.TheVariants as cmp
use Rattle.insn_set.specs.declared.ops.UnaryOp.{UnaryOp}
use Rattle.insn_set.specs.declared.ops.UnaryOp.TheVariants as unary
use Rattle.insn_set.specs.declared.ops.BinaryOp.{BinaryOp}
use Rattle.insn_set.specs.declared.ops.BinaryOp.TheVariants as binaries
use Rattle.insn_set.specs.declared.ops.LiteralOp.TheVariants as letters
use Rattle.std.proofs.lemmas.Bool.{eqb-true}
use Rattle.std.specs.Cmp.{signed_Decides}
use Rattle.insn_set.specs.declared.ops.LiteralOp.{LiteralOp}
use Rattle.dalvik_defs.specs.Names.{Text}
use Rattle.dalvik_defs.specs.Arith.{answer, literal_answer, signed, passes, compared}
use Rattle.dalvik_defs.specs.Operators.{Number, OneWord, OneWide, Sort, OnWord, OnWide, Shifts, OnFloat, OnDouble, sort_of, unary_answer, comparison}
use Rattle.dalvik_defs.specs.Items.{stored}
use Rattle.dalvik_defs.specs.State.{word_of}
use Rattle.dalvik_defs.specs.declared.state.Value.{Value}
use Rattle.dalvik_defs.specs.declared.state.Value.TheVariants.{Word, Low}
use Rattle.dalvik_defs.specs.declared.tables.Floats.{Floats}
use Rattle.run_laws.proofs.Climbs.{none_some, some_one}
use Rattle.pass_defs.specs.Flat.{Flat, Bottom, KnownWord, KnownWide, Any, FlatBelow, of_words, of_wides, of_shift, of_number, word_or_none, wide_or_none, flat_of, flat_sort, flat_literal, flat_stored, flat_unary, flat_compared, flat_outcome, flat_zero, flat_number, no_floats, is_exact}
use Rattle.pass_defs.specs.Analysis.{IsSound, Holds, HoldsBoth, IsNone, on_sort, on_number}
use Rattle.pass_defs.specs.FlatAnalysis.{flat_holds, same_bool, flat_tested, flat_keyed, flat_unkeyed, flat_analysis}

grows : (x y : Flat) (k : Text) (v : Value) → FlatBelow x y → flat_holds x k v → flat_holds y k v
grows Bottom y k v b h = absurd h
grows x Any k v b h = tt
grows (KnownWord m) (KnownWord n) k v b h = h ∙ ap Word b
grows (KnownWide m) (KnownWide n) k v b h = h ∙ ap Low b
grows (KnownWord m) Bottom k v b h = absurd b
grows (KnownWord m) (KnownWide n) k v b h = absurd b
grows (KnownWide m) Bottom k v b h = absurd b
grows (KnownWide m) (KnownWord n) k v b h = absurd b
grows Any Bottom k v b h = absurd b
grows Any (KnownWord n) k v b h = absurd b
grows Any (KnownWide n) k v b h = absurd b

knows : (k : Text) (v : Value) → flat_holds (flat_of v) k v
knows k (Word n) = refl
knows k (Low n) = refl
knows k v = tt

-- ---- numbers

number_holds : (n : Number) (l : Text) → flat_holds (flat_number n) l (on_number n)
number_holds (OneWord n) l = refl
number_holds (OneWide n) l = refl

exact_same : (floats : Floats) (op : UnaryOp) (n : ℕ) → is_exact op ≡ true → unary_answer no_floats op n ≡ unary_answer floats op n
exact_same floats unary.NegInt n e = refl
exact_same floats unary.NotInt n e = refl
exact_same floats unary.NegLong n e = refl
exact_same floats unary.NotLong n e = refl
exact_same floats unary.IntToLong n e = refl
exact_same floats unary.LongToInt n e = refl
exact_same floats unary.IntToByte n e = refl
exact_same floats unary.IntToChar n e = refl
exact_same floats unary.IntToShort n e = refl
exact_same floats op n e = absurd (true≢false (sym e))

on_known : (floats : Floats) (op : UnaryOp) (x : Flat) (k l : Text) (v : Value) → is_exact op ≡ true → flat_holds x k v
    → flat_holds (of_number (λ n. flat_number (unary_answer no_floats op n)) x) l (on_number (unary_answer floats op (word_of v)))
on_known floats op Bottom k l v i h = absurd h
on_known floats op (KnownWord n) k l v i h = subst (λ u. flat_holds (flat_number (unary_answer no_floats op n)) l (on_number (unary_answer floats op (word_of u)))) (sym h)
    (subst (λ m. flat_holds (flat_number (unary_answer no_floats op n)) l (on_number m)) (exact_same floats op n i) (number_holds (unary_answer no_floats op n) l))
on_known floats op (KnownWide n) k l v i h = subst (λ u. flat_holds (flat_number (unary_answer no_floats op n)) l (on_number (unary_answer floats op (word_of u)))) (sym h)
    (subst (λ m. flat_holds (flat_number (unary_answer no_floats op n)) l (on_number m)) (exact_same floats op n i) (number_holds (unary_answer no_floats op n) l))
on_known floats op Any k l v i h = tt

unaries : (floats : Floats) (op : UnaryOp) (x : Flat) (k l : Text) (v : Value) → flat_holds x k v → flat_holds (flat_unary op x) l (on_number (unary_answer floats op (word_of v)))
unaries floats op x k l v h = by (is_exact op) refl
  where
    by : (b : Bool) → is_exact op ≡ b → flat_holds (if b then of_number (λ n. flat_number (unary_answer no_floats op n)) x else Any) l (on_number (unary_answer floats op (word_of v)))
    by true i = on_known floats op x k l v i h
    by false i = tt

word_held : (o : Option ℕ) (l : Text) (z : Value) → (elim o as (λ o. Option Value) [ Some n ↦ Some (Word n) | None ↦ None ]) ≡ Some z → flat_holds (word_or_none o) l z
word_held None l z e = none_some z e
word_held (Some n) l z e = sym (some_one (Word n) z e)

wide_held : (o : Option ℕ) (l : Text) (z : Value) → (elim o as (λ o. Option Value) [ Some n ↦ Some (Low n) | None ↦ None ]) ≡ Some z → flat_holds (wide_or_none o) l z
wide_held None l z e = none_some z e
wide_held (Some n) l z e = sym (some_one (Low n) z e)

module _ (k l m : Text) (v u z : Value) where
  on_words : (g : ℕ → ℕ → Option ℕ) (x y : Flat) → flat_holds x k v → flat_holds y l u → (elim (g (word_of v) (word_of u)) as (λ o. Option Value) [ Some n ↦ Some (Word n) | None ↦ None ]) ≡ Some z
      → flat_holds (of_words (λ a b. word_or_none (g a b)) x y) m z
  on_words g Bottom y h i e = absurd h
  on_words g x Bottom h i e = absurd i
  on_words g (KnownWord a) (KnownWord b) h i e =
      word_held (g a b) m z (sym (ap (λ o. elim o as (λ o. Option Value) [ Some n ↦ Some (Word n) | None ↦ None ]) (ap (λ c. g (word_of c) (word_of u)) h ∙ ap (λ c. g a (word_of c)) i)) ∙ e)
  on_words g x y h i e = tt

  on_wides : (g : ℕ → ℕ → Option ℕ) (x y : Flat) → flat_holds x k v → flat_holds y l u → (elim (g (word_of v) (word_of u)) as (λ o. Option Value) [ Some n ↦ Some (Low n) | None ↦ None ]) ≡ Some z
      → flat_holds (of_wides (λ a b. wide_or_none (g a b)) x y) m z
  on_wides g Bottom y h i e = absurd h
  on_wides g x Bottom h i e = absurd i
  on_wides g (KnownWide a) (KnownWide b) h i e =
      wide_held (g a b) m z (sym (ap (λ o. elim o as (λ o. Option Value) [ Some n ↦ Some (Low n) | None ↦ None ]) (ap (λ c. g (word_of c) (word_of u)) h ∙ ap (λ c. g a (word_of c)) i)) ∙ e)
  on_wides g x y h i e = tt

  on_shift : (g : ℕ → ℕ → Option ℕ) (x y : Flat) → flat_holds x k v → flat_holds y l u → (elim (g (word_of v) (word_of u)) as (λ o. Option Value) [ Some n ↦ Some (Low n) | None ↦ None ]) ≡ Some z
      → flat_holds (of_shift (λ a b. wide_or_none (g a b)) x y) m z
  on_shift g Bottom y h i e = absurd h
  on_shift g x Bottom h i e = absurd i
  on_shift g (KnownWide a) (KnownWord b) h i e =
      wide_held (g a b) m z (sym (ap (λ o. elim o as (λ o. Option Value) [ Some n ↦ Some (Low n) | None ↦ None ]) (ap (λ c. g (word_of c) (word_of u)) h ∙ ap (λ c. g a (word_of c)) i)) ∙ e)
  on_shift g x y h i e = tt

  by_sort : (floats : Floats) (s : Sort) (x y : Flat) → flat_holds x k v → flat_holds y l u → on_sort floats s (word_of v) (word_of u) ≡ Some z → flat_holds (flat_sort s x y) m z
  by_sort floats (OnWord g) x y h i e = on_words (λ a b. answer g false (a % 2 ^ 32) (b % 2 ^ 32)) x y h i e
  by_sort floats (OnWide g) x y h i e = on_wides (λ a b. answer g true a b) x y h i e
  by_sort floats (Shifts g) x y h i e = on_shift (λ a b. answer g true a b) x y h i e
  by_sort floats (OnFloat op) x y h i e = tt
  by_sort floats (OnDouble op) x y h i e = tt

-- equal integers
int_same : (x y : ℤ) → int_eq x y ≡ true → x ≡ y
int_same x y e = (signed_Decides x y).0 e

-- ---- divisions: what is surely 0 has no answer

zero_word : (x : Flat) (k : Text) (v : Value) → flat_zero x ≡ true → flat_holds x k v → word_of v ≡ 0
zero_word Bottom k v e h = absurd h
zero_word (KnownWord n) k v e h = ap word_of h ∙ eqb-true n 0 e
zero_word (KnownWide n) k v e h = ap word_of h ∙ eqb-true n 0 e
zero_word Any k v e h = absurd (true≢false (sym e))

-- a division by 0 of any width
no_division : (floats : Floats) (op : BinaryOp) (m : ℕ) (z : Value) → divides op ≡ true → on_sort floats (sort_of op) m 0 ≡ Some z → ⊥
no_division floats binaries.DivInt m z e i = none_some z i
no_division floats binaries.RemInt m z e i = none_some z i
no_division floats binaries.DivLong m z e i = none_some z i
no_division floats binaries.RemLong m z e i = none_some z i
no_division floats op m z e i = absurd (true≢false (sym e))

binaries_hold : (floats : Floats) (op : BinaryOp) (x y : Flat) (k l m : Text) (v u z : Value) → flat_holds x k v → flat_holds y l u → on_sort floats (sort_of op) (word_of v) (word_of u) ≡ Some z
    → Holds flat_analysis (if divides op && flat_zero y then None else Some (flat_sort (sort_of op) x y)) m z
binaries_hold floats op x y k l m v u z h i e = by (divides op) (flat_zero y) refl refl
  where
    by : (b d : Bool) → divides op ≡ b → flat_zero y ≡ d → Holds flat_analysis (if b && d then None else Some (flat_sort (sort_of op) x y)) m z
    by true true j n = absurd (no_division floats op (word_of v) z j (ap (λ w. on_sort floats (sort_of op) (word_of v) w) (sym (zero_word y l u n i)) ∙ e))
    by true false j n = by_sort k l m v u z floats (sort_of op) x y h i e
    by false d j n = by_sort k l m v u z floats (sort_of op) x y h i e

letters_hold : (op : LiteralOp) (x : Flat) (c : ℤ) (k l : Text) (v : Value) (n : ℕ) → flat_holds x k v → literal_answer op (word_of v % 2 ^ 32) (cast_unsigned w32 c) ≡ Some n → flat_holds (flat_literal op x c) l (Word n)
letters_hold op Bottom c k l v n h e = absurd h
letters_hold op (KnownWord a) c k l v n h e = word_held (literal_answer op (a % 2 ^ 32) (cast_unsigned w32 c)) l (Word n) (ap (λ o. elim o as (λ o. Option Value) [ Some n ↦ Some (Word n) | None ↦ None ]) (sym (ap (λ u. literal_answer op (word_of u % 2 ^ 32) (cast_unsigned w32 c)) h) ∙ e))
letters_hold op (KnownWide a) c k l v n h e = word_held (literal_answer op (a % 2 ^ 32) (cast_unsigned w32 c)) l (Word n) (ap (λ o. elim o as (λ o. Option Value) [ Some n ↦ Some (Word n) | None ↦ None ]) (sym (ap (λ u. literal_answer op (word_of u % 2 ^ 32) (cast_unsigned w32 c)) h) ∙ e))
letters_hold op Any c k l v n h e = tt

no_letter : (op : LiteralOp) (m n : ℕ) → divides_by_literal op ≡ true → literal_answer op m (cast_unsigned w32 (pos 0)) ≡ Some n → ⊥
no_letter letters.DivInt m n e i = none_some n i
no_letter letters.RemInt m n e i = none_some n i
no_letter op m n e i = absurd (true≢false (sym e))

literals_hold : (op : LiteralOp) (x : Flat) (c : ℤ) (k l : Text) (v : Value) (n : ℕ) → flat_holds x k v → literal_answer op (word_of v % 2 ^ 32) (cast_unsigned w32 c) ≡ Some n
    → Holds flat_analysis (if divides_by_literal op && int_eq c (pos 0) then None else Some (flat_literal op x c)) l (Word n)
literals_hold op x c k l v n h e = by (divides_by_literal op) (int_eq c (pos 0)) refl refl
  where
    by : (b d : Bool) → divides_by_literal op ≡ b → int_eq c (pos 0) ≡ d → Holds flat_analysis (if b && d then None else Some (flat_literal op x c)) l (Word n)
    by true true j i = absurd (no_letter op (word_of v % 2 ^ 32) n j (ap (λ z. literal_answer op (word_of v % 2 ^ 32) (cast_unsigned w32 z)) (sym (int_same c (pos 0) i)) ∙ e))
    by true false j i = letters_hold op x c k l v n h e
    by false d j i = letters_hold op x c k l v n h e

compares : (floats : Floats) (op : CmpOp) (x y : Flat) (k l m : Text) (v u : Value) → flat_holds x k v → flat_holds y l u → flat_holds (flat_compared op x y) m (Word (comparison floats op (word_of v) (word_of u)))
compares floats cmp.CmpLong x y k l m v u h i = longs x y h i
  where
    longs : (x y : Flat) → flat_holds x k v → flat_holds y l u → flat_holds (of_wides (λ a b. KnownWord (compared (signed true a) (signed true b))) x y) m (Word (compared (signed true (word_of v)) (signed true (word_of u))))
    longs Bottom y h i = absurd h
    longs x Bottom h i = absurd i
    longs (KnownWide a) (KnownWide b) h i = ap (λ c. Word (compared (signed true (word_of c)) (signed true (word_of u)))) h ∙ ap (λ c. Word (compared (signed true a) (signed true (word_of c)))) i
    longs x y h i = tt
compares floats op x y k l m v u h i = tt

stores : (i : Item) (x : Flat) (k : Text) (v : Value) → flat_holds x k v → flat_holds (flat_stored i x) k (stored i v)
stores i Bottom k v h = absurd h
stores i (KnownWord n) k v h = subst (λ u. flat_holds (flat_of (stored i (Word n))) k (stored i u)) (sym h) (knows k (stored i (Word n)))
stores i (KnownWide n) k v h = subst (λ u. flat_holds (flat_of (stored i (Low n))) k (stored i u)) (sym h) (knows k (stored i (Low n)))
stores i Any k v h = tt

-- ---- branches

same_is : (b : Bool) → same_bool b b ≡ true
same_is true = refl
same_is false = refl

tests : (test : Test) (x y : Flat) (k l : Text) (v u : Value) → flat_holds x k v → flat_holds y l u → HoldsBoth flat_analysis (flat_tested (passes test v u) test x y) k v l u
tests test x y k l v u h i = by (flat_outcome test x y) (outcome x y h i)
  where
    -- where the outcome is known it is this one
    Told : Option Bool → Type 0
    Told None = Unit {0}
    Told (Some d) = d ≡ passes test v u

    outcome : (x y : Flat) → flat_holds x k v → flat_holds y l u → Told (flat_outcome test x y)
    outcome (KnownWord a) (KnownWord b) h i = sym (ap (λ c. passes test c u) h ∙ ap (λ c. passes test (Word a) c) i)
    outcome x y h i = tt

    by : (o : Option Bool) → Told o → HoldsBoth flat_analysis (elim o as (λ o. Option (Flat × Flat)) [ Some d ↦ if same_bool (passes test v u) d then Some (x, y) else None | None ↦ Some (x, y) ]) k v l u
    by None e = (h, i)
    by (Some d) e = subst (λ b. HoldsBoth flat_analysis (if b then Some (x, y) else None) k v l u) (sym (ap (same_bool (passes test v u)) e ∙ same_is (passes test v u))) (h, i)

differ : (x y : ℤ) → (x ≡ y → ⊥) → int_eq x y ≡ false
differ x y d = by (int_eq x y) refl
  where
    by : (b : Bool) → int_eq x y ≡ b → b ≡ false
    by true e = absurd (d (int_same x y e))
    by false e = refl

same : (x y : ℤ) → x ≡ y → int_eq x y ≡ true
same x y e = (signed_Decides x y).1 e

keys : (z : ℤ) (x : Flat) (k : Text) (v : Value) → flat_holds x k v → signed false (word_of v) ≡ z → Holds flat_analysis (flat_keyed z x) k v
keys z Bottom k v h e = absurd h
keys z (KnownWord n) k v h e = subst (λ b. Holds flat_analysis (if b then Some (KnownWord n) else None) k v) (sym (same (signed false n) z (ap (λ u. signed false (word_of u)) (sym h) ∙ e))) h
keys z (KnownWide n) k v h e = h
keys z Any k v h e = tt

none_of : (zs : List ℤ) (z : ℤ) → IsNone zs z → list_any (int_eq z) zs ≡ false
none_of [] z h = refl
none_of (y ∷ zs) z h = ap (λ b. b || list_any (int_eq z) zs) (differ z y (λ e. h.0 (sym e))) ∙ none_of zs z h.1

others : (zs : List ℤ) (x : Flat) (k : Text) (v : Value) → flat_holds x k v → IsNone zs (signed false (word_of v)) → Holds flat_analysis (flat_unkeyed zs x) k v
others zs Bottom k v h n = absurd h
others zs (KnownWord m) k v h n = subst (λ b. Holds flat_analysis (if b then None else Some (KnownWord m)) k v) (sym (none_of zs (signed false m) (subst (λ u. IsNone zs (signed false (word_of u))) h n))) h
others zs (KnownWide m) k v h n = h
others zs Any k v h n = tt

pub flat_sound : (under : Text → Text → Bool) (floats : Floats) → IsSound flat_analysis under floats
flat_sound under floats = record {
  grows = grows;
  all = λ k v r. tt;
  knows = knows;
  makes = λ t n. tt;
  lengths = λ k n r. tt;
  truths = λ k. (tt, tt);
  items = λ i k v r. tt;
  outers = λ t k v r. tt;
  catches = λ k v r. tt;
  unaries = unaries floats;
  binaries = binaries_hold floats;
  literals = literals_hold;
  comparisons = compares floats;
  stores = stores;
  holders = λ x k v h e. h;
  casts = λ t x k v h e. h;
  tests = tests;
  keys = keys;
  others = others;
}
