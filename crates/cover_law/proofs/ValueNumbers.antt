-- What the operators make of values holds of what the machine makes of numbers that these hold of.
use Rattle.std.proofs.lemmas.Int.{ints}
use Rattle.std.proofs.Common.{◌≡◌, ℕ, ◌<◌, ℤ, pos, negsuc, Bool, true, false, List, [], ◌∷◌, Option, Some, None, refl, sym, ap, ◌∙◌, subst, arith}
use Rattle.std.specs.Prelude.{◌≤ℤ◌, ◌%◌, ◌^◌, ◌-◌, if◌then◌else◌, int_lt}
use Rattle.std.specs.Int.{w8, w16, w32, cast_signed, cast_unsigned}
use Rattle.insn_set.specs.Widths.{unary_reads_wide, binary_is_wide, second_is_wide, compares_wide}
use Rattle.insn_set.specs.declared.ops.BinaryOp.{BinaryOp}
use Rattle.insn_set.specs.declared.ops.BinaryOp.TheVariants as two
use Rattle.insn_set.specs.declared.ops.CmpOp.{CmpOp}
use Rattle.insn_set.specs.declared.ops.CmpOp.TheVariants as cmp
use Rattle.insn_set.specs.declared.ops.Item.{Item}
use Rattle.insn_set.specs.declared.ops.Item.TheVariants as item
use Rattle.insn_set.specs.declared.ops.LiteralOp.{LiteralOp}
use Rattle.insn_set.specs.declared.ops.UnaryOp.{UnaryOp}
use Rattle.insn_set.specs.declared.ops.UnaryOp.TheVariants as unary
use Rattle.dalvik_defs.specs.Arith.{Kind, answer, compared, literal_answer, low_signed, signed}
use Rattle.dalvik_defs.specs.Items.{stored}
use Rattle.dalvik_defs.specs.Names.{Text}
use Rattle.dalvik_defs.specs.Operators.{Sort, OnWord, OnWide, Shifts, OnFloat, OnDouble, sort_of, Number, OneWord, OneWide, unary_answer, comparison, float_word, float_wide}
use Rattle.dalvik_defs.specs.State.{word_of}
use Rattle.dalvik_defs.specs.declared.program.NamedProgram.{NamedProgram}
use Rattle.dalvik_defs.specs.declared.state.Value.{Value}
use Rattle.dalvik_defs.specs.declared.state.Value.TheVariants.{Word, Low}
use Rattle.dalvik_defs.specs.declared.tables.Floats.{Floats}
use Rattle.domains.specs.Datum.{Datum, Plain, Single, Double}
use Rattle.domains.specs.Datum as datum
use Rattle.domains.specs.Ranges.{Bounds, words_between, range_holds}
use Rattle.domains.specs.Values.{Parts, value_holds, least_value, constant_value}
use Rattle.domains.specs.ValueLaws.{wide_reduced}
use Rattle.domains.specs.Words.{word_holds}
use Rattle.domains.specs.declared.numbers.Word.TheVariants as word
use Rattle.domains.specs.declared.numbers.Word.{Word as Known}
use Rattle.pass_defs.specs.Analysis.{Analysis, Holds, IsNone, on_number, on_sort}
use Rattle.run_facts.specs.ValueAnalysis.{datum_of, value_analysis}
use Rattle.run_laws.proofs.Climbs.{none_some, some_one}
use Rattle.value_ops.specs.Left.{any_number, number_in}
use Rattle.value_ops.specs.Numbers.{binary_value, boolean_range, byte_range, char_range, compared_known, comparison_of, cut_value, kept_value, literal_value, number_value, short_range, sorted_value, unary_known, unary_value, unknown_answer}
use Rattle.value_ops.specs.Sound.{HoldsSome, AreWords, IsNone as IsNoneOf}
use Rattle.value_ops.specs.Tests.{keyed_value, unkeyed_value}
use Rattle.value_ops.proofs.Answers.{any_word, binary_words, binary_wides, binary_shifts, literal_so}
use Rattle.value_ops.proofs.Asked.{keyed_so, unkeyed_so}
use Rattle.value_ops.proofs.Lefts.{between_so, both_something, constant_holds, is_something, words_so}
use Rattle.cover_law.specs.Sound.{AreSmall, IsSmall, IsWord, NumberOf, Storable}
use Rattle.cover_law.proofs.Numbers.{MaybeLess, NumberLess, answer_less, compared_less, cut, float_less, literal_less, unary_less}
use Rattle.cover_law.proofs.Ranges.{small_bits}
use Rattle.cover_law.specs.Operators.{operators}

-- ---- numbers of 32 bits

whole : (n : ℕ) → n < 2 ^ 32 → n % 2 ^ 32 ≡ n
whole n l = omega (arith, l)

cut_byte : (n : ℕ) → n % 2 ^ 8 < 2 ^ 8
cut_byte n = omega arith

cut_half : (n : ℕ) → n % 2 ^ 16 < 2 ^ 16
cut_half n = omega arith

byte_less : (m : ℕ) → m < 2 ^ 8 → cast_unsigned w32 (cast_signed w8 m) < 2 ^ 32
byte_less m l = omega (arith, ints, l)

byte_in : (m : ℕ) → m < 2 ^ 8 → range_holds byte_range (cast_signed w32 (cast_unsigned w32 (cast_signed w8 m)))
byte_in m l = between_so (negsuc 127) (pos 127) (cast_signed w32 (cast_unsigned w32 (cast_signed w8 m))) (low m l) (high m l)
  where
    low : (m : ℕ) → m < 2 ^ 8 → negsuc 127 ≤ℤ cast_signed w32 (cast_unsigned w32 (cast_signed w8 m))
    low m l = omega (arith, ints, l)

    high : (m : ℕ) → m < 2 ^ 8 → cast_signed w32 (cast_unsigned w32 (cast_signed w8 m)) ≤ℤ pos 127
    high m l = omega (arith, ints, l)

half_less : (m : ℕ) → m < 2 ^ 16 → cast_unsigned w32 (cast_signed w16 m) < 2 ^ 32
half_less m l = omega (arith, ints, l)

half_in : (m : ℕ) → m < 2 ^ 16 → range_holds short_range (cast_signed w32 (cast_unsigned w32 (cast_signed w16 m)))
half_in m l = between_so (negsuc 32767) (pos 32767) (cast_signed w32 (cast_unsigned w32 (cast_signed w16 m))) (low m l) (high m l)
  where
    low : (m : ℕ) → m < 2 ^ 16 → negsuc 32767 ≤ℤ cast_signed w32 (cast_unsigned w32 (cast_signed w16 m))
    low m l = omega (arith, ints, l)

    high : (m : ℕ) → m < 2 ^ 16 → cast_signed w32 (cast_unsigned w32 (cast_signed w16 m)) ≤ℤ pos 32767
    high m l = omega (arith, ints, l)

char_less : (m : ℕ) → m < 2 ^ 16 → m < 2 ^ 32
char_less m l = omega (arith, l)

char_in : (m : ℕ) → m < 2 ^ 16 → range_holds char_range (cast_signed w32 m)
char_in m l = between_so (pos 0) (pos 65535) (cast_signed w32 m) (low m l) (high m l)
  where
    low : (m : ℕ) → m < 2 ^ 16 → pos 0 ≤ℤ cast_signed w32 m
    low m l = omega (arith, ints, l)

    high : (m : ℕ) → m < 2 ^ 16 → cast_signed w32 m ≤ℤ pos 65535
    high m l = omega (arith, ints, l)

boolean_less : (m : ℕ) → m < 2 ^ 8 → m < 2 ^ 32
boolean_less m l = omega (arith, l)

boolean_in : (m : ℕ) → m < 2 ^ 8 → range_holds boolean_range (cast_signed w32 m)
boolean_in m l = between_so (pos 0) (pos 255) (cast_signed w32 m) (low m l) (high m l)
  where
    low : (m : ℕ) → m < 2 ^ 8 → pos 0 ≤ℤ cast_signed w32 m
    low m l = omega (arith, ints, l)

    high : (m : ℕ) → m < 2 ^ 8 → cast_signed w32 m ≤ℤ pos 255
    high m l = omega (arith, ints, l)

compared_in : (z w : ℤ) → range_holds (words_between (negsuc 0) (pos 1)) (cast_signed w32 (compared z w))
compared_in z w = by (int_lt z w) (int_lt w z)
  where
    by : (b c : Bool) → range_holds (words_between (negsuc 0) (pos 1)) (cast_signed w32 (elim b as (λ b. ℕ) [ true ↦ 2 ^ 32 - 1 | false ↦ elim c as (λ c. ℕ) [ true ↦ 1 | false ↦ 0 ] ]))
    by true c = between_so (negsuc 0) (pos 1) (cast_signed w32 (2 ^ 32 - 1)) (omega (arith, ints)) (omega (arith, ints))
    by false true = between_so (negsuc 0) (pos 1) (cast_signed w32 1) (omega (arith, ints)) (omega (arith, ints))
    by false false = between_so (negsuc 0) (pos 1) (cast_signed w32 0) (omega (arith, ints)) (omega (arith, ints))

-- ---- known numbers

abbrev size : datum.Number → ℕ
size (Single n) = n
size (Double n) = n

known_size : (u : Known) (n : ℕ) (d : datum.Number) → number_in u ≡ Some n → word_holds u d → size d ≡ n
known_size (word.Known a) n d e h = ap size h ∙ some_one a n e
known_size (word.KnownWide a) n d e h = ap size h ∙ some_one a n e
known_size word.Any n d e h = none_some n e
known_size word.Bottom n d e h = absurd h

word_held : (x : Parts) (d : datum.Number) → value_holds x (Plain d) → word_holds x.word d
word_held x (Single n) h = h.0.0
word_held x (Double n) h = h.0

are_words : (zs : List ℤ) → AreSmall zs → AreWords zs
are_words [] h = tt
are_words (z ∷ zs) h = (h.0, are_words zs h.1)

none_of : (zs : List ℤ) (z : ℤ) → IsNone zs z → IsNoneOf zs z
none_of [] z h = tt
none_of (k ∷ ks) z h = (h.0, none_of ks z h.1)

-- ---- sorts

abbrev wide_first : Sort → Bool
wide_first (OnWord k) = false
wide_first (OnWide k) = true
wide_first (Shifts k) = true
wide_first (OnFloat op) = false
wide_first (OnDouble op) = true

abbrev wide_second : Sort → Bool
wide_second (OnWord k) = false
wide_second (OnWide k) = true
wide_second (Shifts k) = false
wide_second (OnFloat op) = false
wide_second (OnDouble op) = true

first_sorted : (op : BinaryOp) → binary_is_wide op ≡ wide_first (sort_of op)
first_sorted two.AddInt = refl
first_sorted op = refl

second_sorted : (op : BinaryOp) → second_is_wide op ≡ wide_second (sort_of op)
second_sorted two.AddInt = refl
second_sorted op = refl

module _ (p : NamedProgram) (floats : Floats) where
  abbrev a : Analysis Parts
  a = value_analysis p operators

  some_holds : (o : Option Parts) (k : Text) (v : Value) → HoldsSome o (datum_of p k v) → Holds a o k v
  some_holds None k v h = h
  some_holds (Some x) k v h = h

  any_wide : (n : ℕ) → value_holds any_number (Plain (Double n))
  any_wide n = (tt, tt)

  -- ---- one operand

  any_one : (l : Text) (y : Number) → NumberLess y → value_holds any_number (datum_of p l (on_number y))
  any_one l (OneWord n) h = any_word n h
  any_one l (OneWide n) h = any_wide n

  any_unary : (op : UnaryOp) (l : Text) (n : ℕ) → value_holds any_number (datum_of p l (on_number (unary_answer floats op n)))
  any_unary op l n = any_one l (unary_answer floats op n) (unary_less floats op n)

  one_holds : (l : Text) (y : Number) → value_holds (number_value y) (datum_of p l (on_number y))
  one_holds l (OneWord n) = constant_holds n
  one_holds l (OneWide n) = (wide_reduced n).word

  exact_unary : (op : UnaryOp) (l : Text) (n : ℕ) → value_holds (unary_known op (Some n)) (datum_of p l (on_number (unary_answer floats op n)))
  exact_unary unary.NegInt l n = one_holds l (unary_answer floats unary.NegInt n)
  exact_unary unary.NotInt l n = one_holds l (unary_answer floats unary.NotInt n)
  exact_unary unary.NegLong l n = one_holds l (unary_answer floats unary.NegLong n)
  exact_unary unary.NotLong l n = one_holds l (unary_answer floats unary.NotLong n)
  exact_unary unary.IntToLong l n = one_holds l (unary_answer floats unary.IntToLong n)
  exact_unary unary.LongToInt l n = one_holds l (unary_answer floats unary.LongToInt n)
  exact_unary unary.IntToByte l n = one_holds l (unary_answer floats unary.IntToByte n)
  exact_unary unary.IntToChar l n = one_holds l (unary_answer floats unary.IntToChar n)
  exact_unary unary.IntToShort l n = one_holds l (unary_answer floats unary.IntToShort n)
  exact_unary op l n = any_unary op l n

  unknown_unary : (op : UnaryOp) (l : Text) (n : ℕ) → value_holds (unknown_answer op) (datum_of p l (on_number (unary_answer floats op n)))
  unknown_unary unary.IntToByte l n = words_so byte_range (low_signed w8 8 n) (byte_less (n % 2 ^ 8) (cut_byte n)) (byte_in (n % 2 ^ 8) (cut_byte n))
  unknown_unary unary.IntToChar l n = words_so char_range (n % 2 ^ 16) (char_less (n % 2 ^ 16) (cut_half n)) (char_in (n % 2 ^ 16) (cut_half n))
  unknown_unary unary.IntToShort l n = words_so short_range (low_signed w16 16 n) (half_less (n % 2 ^ 16) (cut_half n)) (half_in (n % 2 ^ 16) (cut_half n))
  unknown_unary op l n = any_unary op l n

  unary_holds : (op : UnaryOp) (x : Parts) (d : datum.Number) (l : Text) → value_holds x (Plain d) → value_holds (unary_value op x) (datum_of p l (on_number (unary_answer floats op (size d))))
  unary_holds op x d l h = subst (λ b. value_holds (if b then least_value else unary_known op (number_in x.word)) (datum_of p l (on_number (unary_answer floats op (size d))))) (sym (is_something x (Plain d) h)) (by (number_in x.word) refl)
    where
      by : (o : Option ℕ) → number_in x.word ≡ o → value_holds (unary_known op o) (datum_of p l (on_number (unary_answer floats op (size d))))
      by (Some n) e = subst (λ m. value_holds (unary_known op (Some m)) (datum_of p l (on_number (unary_answer floats op (size d))))) (known_size x.word n d e (word_held x d h)) (exact_unary op l (size d))
      by None e = unknown_unary op l (size d)

  pub unaries : (op : UnaryOp) (x : Parts) (k l : Text) (v : Value) → NumberOf (unary_reads_wide op) v → a.holds x k v → a.holds (a.unary op x) l (on_number (unary_answer floats op (word_of v)))
  unaries op x k l v = by (unary_reads_wide op) v
    where
      by : (b : Bool) (v : Value) → NumberOf b v → value_holds x (datum_of p k v) → value_holds (unary_value op x) (datum_of p l (on_number (unary_answer floats op (word_of v))))
      by true (Low n) o h = unary_holds op x (Double n) l h
      by true v o h = absurd o
      by false (Word n) o h = unary_holds op x (Single n) l h
      by false v o h = absurd o

  -- ---- two operands

  by_sort : (op : BinaryOp) (s : Sort) (x y : Parts) (d e r : Datum) → sort_of op ≡ s → value_holds x d → value_holds y e → HoldsSome (sorted_value s x y) r → HoldsSome (binary_value op x y) r
  by_sort op s x y d e r i h j g = subst (λ b. HoldsSome (if b then None else sorted_value (sort_of op) x y) r) (sym (both_something x y d e h j)) (subst (λ s. HoldsSome (sorted_value s x y) r) (sym i) g)

  module _ (op : BinaryOp) (x y : Parts) (k l m : Text) (z : Value) where
    abbrev Given : Sort → Value → Value → Type 0
    Given s v u = sort_of op ≡ s → value_holds x (datum_of p k v) → value_holds y (datum_of p l u) → on_sort floats s (word_of v) (word_of u) ≡ Some z → Holds a (binary_value op x y) m z

    on_words : (kd : Kind) (v u : Value) → NumberOf false v → NumberOf false u → Given (OnWord kd) v u
    on_words kd (Word n) (Word q) ln lq i h j e = by (answer kd false (n % 2 ^ 32) (q % 2 ^ 32)) refl (answer_less kd (n % 2 ^ 32) (q % 2 ^ 32) (cut n) (cut q)) e
      where
        by : (r : Option ℕ) → answer kd false (n % 2 ^ 32) (q % 2 ^ 32) ≡ r → MaybeLess r → (elim r as (λ r. Option Value) [ Some w ↦ Some (Word w) | None ↦ None ]) ≡ Some z → Holds a (binary_value op x y) m z
        by None c less e = none_some z e
        by (Some w) c less e = subst (Holds a (binary_value op x y) m) (some_one (Word w) z e) (some_holds (binary_value op x y) m (Word w) (binary_words op kd x y n q w i ln lq less h j
            (ap (λ b. answer kd false b q) (sym (whole n ln)) ∙ (ap (λ b. answer kd false (n % 2 ^ 32) b) (sym (whole q lq)) ∙ c))))
    on_words kd (Word n) u ln lu i h j e = absurd lu
    on_words kd v u lv lu i h j e = absurd lv

    on_wides : (kd : Kind) (v u : Value) → NumberOf true v → NumberOf true u → Given (OnWide kd) v u
    on_wides kd (Low n) (Low q) ln lq i h j e = by (answer kd true n q) refl e
      where
        by : (r : Option ℕ) → answer kd true n q ≡ r → (elim r as (λ r. Option Value) [ Some w ↦ Some (Low w) | None ↦ None ]) ≡ Some z → Holds a (binary_value op x y) m z
        by None c e = none_some z e
        by (Some w) c e = subst (Holds a (binary_value op x y) m) (some_one (Low w) z e) (some_holds (binary_value op x y) m (Low w) (binary_wides op kd x y n q w i h j c))
    on_wides kd (Low n) u ln lu i h j e = absurd lu
    on_wides kd v u lv lu i h j e = absurd lv

    on_shifts : (kd : Kind) (v u : Value) → NumberOf true v → NumberOf false u → Given (Shifts kd) v u
    on_shifts kd (Low n) (Word q) ln lq i h j e = by (answer kd true n q) refl e
      where
        by : (r : Option ℕ) → answer kd true n q ≡ r → (elim r as (λ r. Option Value) [ Some w ↦ Some (Low w) | None ↦ None ]) ≡ Some z → Holds a (binary_value op x y) m z
        by None c e = none_some z e
        by (Some w) c e = subst (Holds a (binary_value op x y) m) (some_one (Low w) z e) (some_holds (binary_value op x y) m (Low w) (binary_shifts op kd x y n q w i h j c))
    on_shifts kd (Low n) u ln lu i h j e = absurd lu
    on_shifts kd v u lv lu i h j e = absurd lv

    by_kind : (s : Sort) (v u : Value) → sort_of op ≡ s → NumberOf (wide_first s) v → NumberOf (wide_second s) u → value_holds x (datum_of p k v) → value_holds y (datum_of p l u)
        → on_sort floats s (word_of v) (word_of u) ≡ Some z → Holds a (binary_value op x y) m z
    by_kind (OnWord kd) v u i o q h j e = on_words kd v u o q i h j e
    by_kind (OnWide kd) v u i o q h j e = on_wides kd v u o q i h j e
    by_kind (Shifts kd) v u i o q h j e = on_shifts kd v u o q i h j e
    by_kind (OnFloat fo) v u i o q h j e = subst (Holds a (binary_value op x y) m) (some_one (Word (float_word floats fo (word_of v) (word_of u))) z e) (some_holds (binary_value op x y) m (Word (float_word floats fo (word_of v) (word_of u)))
        (by_sort op (OnFloat fo) x y (datum_of p k v) (datum_of p l u) (Plain (Single (float_word floats fo (word_of v) (word_of u)))) i h j (any_word (float_word floats fo (word_of v) (word_of u)) (float_less floats fo (word_of v) (word_of u)))))
    by_kind (OnDouble fo) v u i o q h j e = subst (Holds a (binary_value op x y) m) (some_one (Low (float_wide floats fo (word_of v) (word_of u))) z e) (some_holds (binary_value op x y) m (Low (float_wide floats fo (word_of v) (word_of u)))
        (by_sort op (OnDouble fo) x y (datum_of p k v) (datum_of p l u) (Plain (Double (float_wide floats fo (word_of v) (word_of u)))) i h j (any_wide (float_wide floats fo (word_of v) (word_of u)))))

  pub binaries : (op : BinaryOp) (x y : Parts) (k l m : Text) (v u z : Value) → NumberOf (binary_is_wide op) v → NumberOf (second_is_wide op) u → a.holds x k v → a.holds y l u → on_sort floats (sort_of op) (word_of v) (word_of u) ≡ Some z
      → Holds a (a.binary op x y) m z
  binaries op x y k l m v u z o q h j e = by_kind op x y k l m z (sort_of op) v u refl (subst (λ b. NumberOf b v) (first_sorted op) o) (subst (λ b. NumberOf b u) (second_sorted op) q) h j e

  pub literals : (op : LiteralOp) (x : Parts) (c : ℤ) (k l : Text) (v : Value) (n : ℕ) → IsWord v → IsSmall c → a.holds x k v → literal_answer op (word_of v % 2 ^ 32) (cast_unsigned w32 c) ≡ Some n → Holds a (a.literal op x c) l (Word n)
  literals op x c k l (Word q) n o s h e = some_holds (literal_value op x c) l (Word n)
      (literal_so op x c q n o (subst MaybeLess e (literal_less op (q % 2 ^ 32) (cast_unsigned w32 c) (cut q) (small_bits c s))) s.0 s.1 h (ap (λ b. literal_answer op b (cast_unsigned w32 c)) (sym (whole q o)) ∙ e))
  literals op x c k l v n o s h e = absurd o

  -- ---- comparisons

  longs : (r s : Known) (n q : ℕ) → word_holds r (Double n) → word_holds s (Double q) → value_holds (comparison_of r s) (Plain (Single (compared (signed true n) (signed true q))))
  longs (word.KnownWide i) (word.KnownWide j) n q h g = subst (λ b. value_holds (constant_value (compared (signed true b) (signed true j))) (Plain (Single (compared (signed true n) (signed true q))))) (ap size h)
      (subst (λ b. value_holds (constant_value (compared (signed true n) (signed true b))) (Plain (Single (compared (signed true n) (signed true q))))) (ap size g) (constant_holds (compared (signed true n) (signed true q))))
  longs r s n q h g = words_so (words_between (negsuc 0) (pos 1)) (compared (signed true n) (signed true q)) (compared_less floats cmp.CmpLong n q) (compared_in (signed true n) (signed true q))

  known_cmp : (op : CmpOp) (x y : Parts) (k l : Text) (v u : Value) → NumberOf (compares_wide op) v → NumberOf (compares_wide op) u → value_holds x (datum_of p k v) → value_holds y (datum_of p l u)
      → value_holds (compared_known op x.word y.word) (Plain (Single (comparison floats op (word_of v) (word_of u))))
  known_cmp cmp.CmpLong x y k l (Low n) (Low q) o i h j = longs x.word y.word n q h.0 j.0
  known_cmp cmp.CmpLong x y k l (Low n) u o i h j = absurd i
  known_cmp cmp.CmpLong x y k l v u o i h j = absurd o
  known_cmp op x y k l v u o i h j = any_word (comparison floats op (word_of v) (word_of u)) (compared_less floats op (word_of v) (word_of u))

  pub comparisons : (op : CmpOp) (x y : Parts) (k l m : Text) (v u : Value) → NumberOf (compares_wide op) v → NumberOf (compares_wide op) u → a.holds x k v → a.holds y l u → a.holds (a.compared op x y) m (Word (comparison floats op (word_of v) (word_of u)))
  comparisons op x y k l m v u o i h j = subst (λ b. value_holds (if b then least_value else compared_known op x.word y.word) (Plain (Single (comparison floats op (word_of v) (word_of u)))))
      (sym (both_something x y (datum_of p k v) (datum_of p l u) h j)) (known_cmp op x y k l v u o i h j)

  -- ---- what is stored

  cut_holds : (f : ℕ → ℕ) (r : Bounds) (x : Parts) (n : ℕ) → f n < 2 ^ 32 → range_holds r (cast_signed w32 (f n)) → value_holds x (Plain (Single n)) → value_holds (cut_value f r (number_in x.word)) (Plain (Single (f n)))
  cut_holds f r x n l i h = by (number_in x.word) refl
    where
      by : (o : Option ℕ) → number_in x.word ≡ o → value_holds (cut_value f r o) (Plain (Single (f n)))
      by (Some m) e = subst (λ b. value_holds (constant_value (f b)) (Plain (Single (f n)))) (known_size x.word m (Single n) e (word_held x (Single n) h)) (constant_holds (f n))
      by None e = words_so r (f n) l i

  kept : (i : Item) (x : Parts) (k : Text) (v : Value) → Storable i v → value_holds x (datum_of p k v) → value_holds (kept_value i x) (datum_of p k (stored i v))
  kept item.Plain x k v o h = h
  kept item.Wide x k v o h = h
  kept item.Object x k v o h = h
  kept item.Boolean x k (Word n) o h = cut_holds (λ n. n % 2 ^ 8) boolean_range x n (boolean_less (n % 2 ^ 8) (cut_byte n)) (boolean_in (n % 2 ^ 8) (cut_byte n)) h
  kept item.Byte x k (Word n) o h = cut_holds (low_signed w8 8) byte_range x n (byte_less (n % 2 ^ 8) (cut_byte n)) (byte_in (n % 2 ^ 8) (cut_byte n)) h
  kept item.Char x k (Word n) o h = cut_holds (λ n. n % 2 ^ 16) char_range x n (char_less (n % 2 ^ 16) (cut_half n)) (char_in (n % 2 ^ 16) (cut_half n)) h
  kept item.Short x k (Word n) o h = cut_holds (low_signed w16 16) short_range x n (half_less (n % 2 ^ 16) (cut_half n)) (half_in (n % 2 ^ 16) (cut_half n)) h
  kept i x k v o h = absurd o

  pub stores : (i : Item) (x : Parts) (k : Text) (v : Value) → Storable i v → a.holds x k v → a.holds (a.stored i x) k (stored i v)
  stores i x k v o h = subst (λ b. value_holds (if b then least_value else kept_value i x) (datum_of p k (stored i v))) (sym (is_something x (datum_of p k v) h)) (kept i x k v o h)

  -- ---- switches

  pub keys : (z : ℤ) (x : Parts) (k : Text) (v : Value) → IsWord v → a.holds x k v → signed false (word_of v) ≡ z → Holds a (a.keyed z x) k v
  keys z x k (Word n) o h e = some_holds (keyed_value z x) k (Word n) (keyed_so z x n o (ap (cast_signed w32) (sym (whole n o)) ∙ e) h)
  keys z x k v o h e = absurd o

  pub others : (zs : List ℤ) (x : Parts) (k : Text) (v : Value) → IsWord v → AreSmall zs → a.holds x k v → IsNone zs (signed false (word_of v)) → Holds a (a.unkeyed zs x) k v
  others zs x k (Word n) o s h e = some_holds (unkeyed_value zs x) k (Word n) (unkeyed_so zs x n o (are_words zs s) (subst (IsNoneOf zs) (ap (cast_signed w32) (whole n o)) (none_of zs (signed false n) e)) h)
  others zs x k v o s h e = absurd o
