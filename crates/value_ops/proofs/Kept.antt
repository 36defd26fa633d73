-- What operators with one operand, comparisons and stores answer holds of what the machine answers.
use Rattle.std.proofs.Common.{◌≡◌, ℕ, ◌+◌, ◌-◌, ◌<◌, ℤ, pos, negsuc, Bool, true, false, true≢false, List, [], Option, Some, None, refl, sym, ap, ◌∙◌, subst, arith}
use Rattle.std.specs.Prelude.{◌%◌, ◌^◌, ◌||◌, if◌then◌else◌, int_lt, ◌≤ℤ◌}
use Rattle.std.specs.Int.{w8, w16, w32, cast_signed, cast_unsigned}
use Rattle.std.proofs.lemmas.Int.{ints}
use Rattle.insn_set.specs.declared.ops.Item.{Item}
use Rattle.insn_set.specs.declared.ops.Item.TheVariants as item
use Rattle.insn_set.specs.declared.ops.UnaryOp.{UnaryOp}
use Rattle.insn_set.specs.declared.ops.UnaryOp.TheVariants as unary
use Rattle.insn_set.specs.declared.ops.CmpOp.{CmpOp}
use Rattle.insn_set.specs.declared.ops.CmpOp.TheVariants as cmp
use Rattle.dalvik_defs.specs.declared.tables.Floats.{Floats}
use Rattle.dalvik_defs.specs.Arith.{compared, signed, low_signed}
use Rattle.dalvik_defs.specs.Operators.{unary_answer, comparison, float_word, float_wide}
use Rattle.domains.specs.declared.numbers.Word.{Word}
use Rattle.domains.specs.declared.numbers.Word.TheVariants as word
use Rattle.domains.specs.Datum.{Number, Single, Double, Datum, Plain, Object}
use Rattle.domains.specs.Words.{word_holds}
use Rattle.domains.specs.Ranges.{range_holds, words_between}
use Rattle.domains.specs.Values.{Parts, value_holds, constant_value, wide_value, least_value}
use Rattle.domains.specs.ValueLaws.{wide_reduced}
use Rattle.value_ops.specs.Left.{is_nothing, any_number, number_in, words_of}
use Rattle.value_ops.specs.Numbers.{unknown_answer, unary_known, unary_value, byte_range, boolean_range, short_range, char_range, comparison_of, compared_known, compared_value, cut_value, kept_value, stored_value}
use Rattle.value_ops.specs.Sound.{size_of, answer_datum, kept_word}
use Rattle.value_ops.proofs.Lefts.{is_something, both_something, constant_holds, words_so}
use Rattle.value_ops.proofs.Answers.{any_word}

wide_holds : (n : ℕ) → value_holds (wide_value n) (Plain (Double n))
wide_holds n = (wide_reduced n).word

cut_less : (n : ℕ) → n % 2 ^ 32 < 2 ^ 32
cut_less n = omega arith

-- ---- small words

byte_less : (n : ℕ) → n < 2 ^ 8 → cast_unsigned w32 (cast_signed w8 n) < 2 ^ 32
byte_less n l = grind (arith, ints)

byte_within : (n : ℕ) → n < 2 ^ 8 → range_holds byte_range (cast_signed w32 (cast_unsigned w32 (cast_signed w8 n)))
byte_within n l = (grind (arith, ints), grind (arith, ints))

short_less : (n : ℕ) → n < 2 ^ 16 → cast_unsigned w32 (cast_signed w16 n) < 2 ^ 32
short_less n l = grind (arith, ints)

short_within : (n : ℕ) → n < 2 ^ 16 → range_holds short_range (cast_signed w32 (cast_unsigned w32 (cast_signed w16 n)))
short_within n l = (grind (arith, ints), grind (arith, ints))

boolean_within : (n : ℕ) → n < 2 ^ 8 → range_holds boolean_range (cast_signed w32 n)
boolean_within n l = (grind (arith, ints), grind (arith, ints))

char_within : (n : ℕ) → n < 2 ^ 16 → range_holds char_range (cast_signed w32 n)
char_within n l = (grind (arith, ints), grind (arith, ints))

eight : (n : ℕ) → n % 2 ^ 8 < 2 ^ 8
eight n = omega arith

sixteen : (n : ℕ) → n % 2 ^ 16 < 2 ^ 16
sixteen n = omega arith

byte_words : (a : ℕ) → value_holds (words_of byte_range) (Plain (Single (low_signed w8 8 a)))
byte_words a = words_so byte_range (low_signed w8 8 a) (byte_less (a % 2 ^ 8) (eight a)) (byte_within (a % 2 ^ 8) (eight a))

short_words : (a : ℕ) → value_holds (words_of short_range) (Plain (Single (low_signed w16 16 a)))
short_words a = words_so short_range (low_signed w16 16 a) (short_less (a % 2 ^ 16) (sixteen a)) (short_within (a % 2 ^ 16) (sixteen a))

boolean_words : (a : ℕ) → value_holds (words_of boolean_range) (Plain (Single (a % 2 ^ 8)))
boolean_words a = words_so boolean_range (a % 2 ^ 8) (omega arith) (boolean_within (a % 2 ^ 8) (eight a))

char_words : (a : ℕ) → value_holds (words_of char_range) (Plain (Single (a % 2 ^ 16)))
char_words a = words_so char_range (a % 2 ^ 16) (omega arith) (char_within (a % 2 ^ 16) (sixteen a))

-- ---- one operand

minus_less : (a : ℕ) → (2 ^ 32 - a % 2 ^ 32) % 2 ^ 32 < 2 ^ 32
minus_less a = omega arith

not_less : (a : ℕ) → 2 ^ 32 - 1 - a % 2 ^ 32 < 2 ^ 32
not_less a = omega arith

known_so : (op : UnaryOp) (floats : Floats) (a : ℕ) → value_holds (unary_known op (Some a)) (answer_datum (unary_answer floats op a))
known_so unary.NegInt floats a = constant_holds _
known_so unary.NotInt floats a = constant_holds _
known_so unary.NegLong floats a = wide_holds _
known_so unary.NotLong floats a = wide_holds _
known_so unary.NegFloat floats a = any_word _ (cut_less _)
known_so unary.NegDouble floats a = (tt, tt)
known_so unary.IntToLong floats a = wide_holds _
known_so unary.IntToFloat floats a = any_word _ (cut_less _)
known_so unary.IntToDouble floats a = (tt, tt)
known_so unary.LongToInt floats a = constant_holds _
known_so unary.LongToFloat floats a = any_word _ (cut_less _)
known_so unary.LongToDouble floats a = (tt, tt)
known_so unary.FloatToInt floats a = any_word _ (cut_less _)
known_so unary.FloatToLong floats a = (tt, tt)
known_so unary.FloatToDouble floats a = (tt, tt)
known_so unary.DoubleToInt floats a = any_word _ (cut_less _)
known_so unary.DoubleToLong floats a = (tt, tt)
known_so unary.DoubleToFloat floats a = any_word _ (cut_less _)
known_so unary.IntToByte floats a = constant_holds _
known_so unary.IntToChar floats a = constant_holds _
known_so unary.IntToShort floats a = constant_holds _

unknown_so : (op : UnaryOp) (floats : Floats) (a : ℕ) → value_holds (unknown_answer op) (answer_datum (unary_answer floats op a))
unknown_so unary.NegInt floats a = any_word _ (minus_less a)
unknown_so unary.NotInt floats a = any_word _ (not_less a)
unknown_so unary.NegLong floats a = (tt, tt)
unknown_so unary.NotLong floats a = (tt, tt)
unknown_so unary.NegFloat floats a = any_word _ (cut_less _)
unknown_so unary.NegDouble floats a = (tt, tt)
unknown_so unary.IntToLong floats a = (tt, tt)
unknown_so unary.IntToFloat floats a = any_word _ (cut_less _)
unknown_so unary.IntToDouble floats a = (tt, tt)
unknown_so unary.LongToInt floats a = any_word _ (cut_less a)
unknown_so unary.LongToFloat floats a = any_word _ (cut_less _)
unknown_so unary.LongToDouble floats a = (tt, tt)
unknown_so unary.FloatToInt floats a = any_word _ (cut_less _)
unknown_so unary.FloatToLong floats a = (tt, tt)
unknown_so unary.FloatToDouble floats a = (tt, tt)
unknown_so unary.DoubleToInt floats a = any_word _ (cut_less _)
unknown_so unary.DoubleToLong floats a = (tt, tt)
unknown_so unary.DoubleToFloat floats a = any_word _ (cut_less _)
unknown_so unary.IntToByte floats a = byte_words a
unknown_so unary.IntToChar floats a = char_words a
unknown_so unary.IntToShort floats a = short_words a

single_is : (a b : ℕ) → Single a ≡ Single b → a ≡ b
single_is a b e = cc

-- the number that a word knows is the one that it holds of
size_is : (u : Word) (m : Number) (n : ℕ) → number_in u ≡ Some n → word_holds u m → size_of m ≡ n
size_is word.Bottom m n e h = absurd h
size_is (word.Known a) m n e h = ap size_of h ∙ some_is a n e
  where
    some_is : (a n : ℕ) → Some a ≡ Some n → a ≡ n
    some_is a n e = cc
size_is (word.KnownWide a) m n e h = ap size_of h ∙ some_is a n e
  where
    some_is : (a n : ℕ) → Some a ≡ Some n → a ≡ n
    some_is a n e = cc
size_is word.Any m n e h = absurd (cc)

of_word : (x : Parts) (m : Number) → value_holds x (Plain m) → word_holds x.word m
of_word x (Single a) h = h.0.0
of_word x (Double a) h = h.0

pub unary_so : (op : UnaryOp) (floats : Floats) (x : Parts) (m : Number) → value_holds x (Plain m) → value_holds (unary_value op x) (answer_datum (unary_answer floats op (size_of m)))
unary_so op floats x m h = subst (λ b. value_holds (if b then least_value else unary_known op (number_in x.word)) (answer_datum (unary_answer floats op (size_of m)))) (sym (is_something x (Plain m) h)) (by (number_in x.word) refl)
  where
    by : (o : Option ℕ) → number_in x.word ≡ o → value_holds (unary_known op o) (answer_datum (unary_answer floats op (size_of m)))
    by None e = unknown_so op floats (size_of m)
    by (Some n) e = subst (λ a. value_holds (unary_known op (Some n)) (answer_datum (unary_answer floats op a))) (sym (size_is x.word m n e (of_word x m h))) (known_so op floats n)

-- ---- comparisons

order_within : (a b : ℤ) → (compared a b < 2 ^ 32) × range_holds (words_between (negsuc 0) (pos 1)) (cast_signed w32 (compared a b))
order_within a b = by (int_lt a b) (int_lt b a)
  where
    by : (p q : Bool) → let n : ℕ = elim p as (λ p. ℕ) [ true ↦ 2 ^ 32 - 1 | false ↦ elim q as (λ q. ℕ) [ true ↦ 1 | false ↦ 0 ] ] in (n < 2 ^ 32) × range_holds (words_between (negsuc 0) (pos 1)) (cast_signed w32 n)
    by true q = (omega arith, (omega (arith, ints), omega (arith, ints)))
    by false true = (omega arith, (omega (arith, ints), omega (arith, ints)))
    by false false = (omega arith, (omega (arith, ints), omega (arith, ints)))

double_is : (a b : ℕ) → Double a ≡ Double b → a ≡ b
double_is a b e = cc

no_double : {P : Type 0} (a b : ℕ) → Double a ≡ Single b → P
no_double a b e = absurd (cc)

longs : (u v : Word) (a b : ℕ) → word_holds u (Double a) → word_holds v (Double b) → value_holds (comparison_of u v) (Plain (Single (compared (signed true a) (signed true b))))
longs word.Bottom v a b h k = absurd h
longs (word.Known m) v a b h k = no_double a m h
longs (word.KnownWide m) word.Bottom a b h k = absurd k
longs (word.KnownWide m) (word.Known n) a b h k = no_double b n k
longs (word.KnownWide m) (word.KnownWide n) a b h k = subst (λ c. value_holds (constant_value (compared (signed true m) (signed true n))) (Plain (Single c)))
    (ap (λ m. compared (signed true m) (signed true n)) (sym (double_is a m h)) ∙ ap (λ n. compared (signed true a) (signed true n)) (sym (double_is b n k))) (constant_holds (compared (signed true m) (signed true n)))
longs (word.KnownWide m) word.Any a b h k = let o = order_within (signed true a) (signed true b) in words_so (words_between (negsuc 0) (pos 1)) (compared (signed true a) (signed true b)) o.0 o.1
longs word.Any v a b h k = let o = order_within (signed true a) (signed true b) in words_so (words_between (negsuc 0) (pos 1)) (compared (signed true a) (signed true b)) o.0 o.1

pub longs_so : (x y : Parts) (a b : ℕ) → value_holds x (Plain (Double a)) → value_holds y (Plain (Double b)) → (floats : Floats) → value_holds (compared_value cmp.CmpLong x y) (Plain (Single (comparison floats cmp.CmpLong a b)))
longs_so x y a b h k floats = subst (λ s. value_holds (if s then least_value else comparison_of x.word y.word) (Plain (Single (compared (signed true a) (signed true b))))) (sym (both_something x y (Plain (Double a)) (Plain (Double b)) h k)) (longs x.word y.word a b h.0 k.0)

float_so : (op : CmpOp) (u v : Word) (floats : Floats) (a b : ℕ) → (op ≡ cmp.CmpLong → ⊥) → value_holds (compared_known op u v) (Plain (Single (comparison floats op a b)))
float_so cmp.CmplFloat u v floats a b ne = any_word _ (cut_less _)
float_so cmp.CmpgFloat u v floats a b ne = any_word _ (cut_less _)
float_so cmp.CmplDouble u v floats a b ne = any_word _ (cut_less _)
float_so cmp.CmpgDouble u v floats a b ne = any_word _ (cut_less _)
float_so cmp.CmpLong u v floats a b ne = absurd (ne refl)

pub floats_so : (op : CmpOp) (x y : Parts) (d e : Datum) (floats : Floats) (a b : ℕ) → (op ≡ cmp.CmpLong → ⊥) → value_holds x d → value_holds y e → value_holds (compared_value op x y) (Plain (Single (comparison floats op a b)))
floats_so op x y d e floats a b ne h k = subst (λ s. value_holds (if s then least_value else compared_known op x.word y.word) (Plain (Single (comparison floats op a b)))) (sym (both_something x y d e h k)) (float_so op x.word y.word floats a b ne)

-- ---- stores

cut_so : (cut : ℕ → ℕ) (x : Parts) (r : _) (a : ℕ) → value_holds x (Plain (Single a)) → value_holds (words_of r) (Plain (Single (cut a))) → value_holds (cut_value cut r (number_in x.word)) (Plain (Single (cut a)))
cut_so cut x r a h w = by (number_in x.word) refl
  where
    by : (o : Option ℕ) → number_in x.word ≡ o → value_holds (cut_value cut r o) (Plain (Single (cut a)))
    by None e = w
    by (Some n) e = subst (λ m. value_holds (constant_value (cut n)) (Plain (Single (cut m)))) (sym (size_is x.word (Single a) n e h.0.0)) (constant_holds (cut n))

pub stored_so : (i : Item) (x : Parts) (a : ℕ) → value_holds x (Plain (Single a)) → value_holds (stored_value i x) (Plain (Single (kept_word i a)))
stored_so i x a h = subst (λ b. value_holds (if b then least_value else kept_value i x) (Plain (Single (kept_word i a)))) (sym (is_something x (Plain (Single a)) h)) (by i)
  where
    by : (i : Item) → value_holds (kept_value i x) (Plain (Single (kept_word i a)))
    by item.Plain = h
    by item.Wide = h
    by item.Object = h
    by item.Boolean = cut_so (λ n. n % 2 ^ 8) x boolean_range a h (boolean_words a)
    by item.Byte = cut_so (low_signed w8 8) x byte_range a h (byte_words a)
    by item.Char = cut_so (λ n. n % 2 ^ 16) x char_range a h (char_words a)
    by item.Short = cut_so (low_signed w16 16) x short_range a h (short_words a)
