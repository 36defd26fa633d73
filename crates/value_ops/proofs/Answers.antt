-- What the operators answer holds of what the machine answers.
use Rattle.std.proofs.Common.{◌≡◌, ℕ, ◌+◌, ◌-◌, ◌<◌, ◌≤◌, ℤ, pos, negsuc, Bool, true, false, true≢false, List, [], ◌∷◌, Option, Some, None, refl, sym, ap, ◌∙◌, subst, arith}
use Rattle.std.specs.Prelude.{◌%◌, ◌^◌, ◌==◌, ◌&&◌, ◌||◌, not, if◌then◌else◌, nat_eq, ◌≤ℤ◌, ◌<ℤ◌, ◌+ℤ◌, ◌-ℤ◌, bit_and, FitsSigned}
use Rattle.std.specs.Int.RustNames.{int_le}
use Rattle.std.specs.Int.{w8, w16, w32, w64, cast_signed, cast_unsigned, int_min, int_wrap}
use Rattle.std.specs.Ordering.{int_eq}
use Rattle.std.specs.Option.{option_map}
use Rattle.std.proofs.lemmas.Int.{ints, clamps, int_wrap_fits, wrapping_add-bits, wrapping_sub-bits}
use Rattle.std.proofs.lemmas.Nat.{and_le_l, and_le_r}
use Rattle.std.proofs.lemmas.Grind.{common_steps}
use Rattle.std.proofs.Math.Nat.{mod-eq_of_lt}
use Rattle.insn_set.specs.declared.ops.BinaryOp.{BinaryOp}
use Rattle.insn_set.specs.declared.ops.LiteralOp.{LiteralOp}
use Rattle.insn_set.specs.declared.ops.LiteralOp.TheVariants as literal
use Rattle.insn_set.specs.Flow.{divides_by_literal}
use Rattle.dalvik_defs.specs.Arith.{Kind, Add, Sub, Mul, Div, Rem, And, Or, Xor, Shl, Shr, Ushr, answer, literal_answer, if_divides}
use Rattle.dalvik_defs.specs.Operators.{Sort, OnWord, OnWide, Shifts, sort_of}
use Rattle.domains.specs.declared.numbers.Word.{Word}
use Rattle.domains.specs.declared.numbers.Word.TheVariants as word
use Rattle.domains.specs.Datum.{Number, Single, Double, Datum, Plain, Object}
use Rattle.domains.specs.Words.{word_holds}
use Rattle.domains.specs.Ranges.{Bounds, all_words, only_word, words_between, range_holds, first_word, last_word}
use Rattle.domains.specs.Values.{Parts, value_holds, constant_value, wide_value}
use Rattle.domains.specs.ValueLaws.{wide_reduced}
use Rattle.value_ops.specs.Left.{is_nothing, any_number, number_in, words_of}
use Rattle.value_ops.specs.Sums.{range_or_all, sum_range, difference_range, has_no_sign, mask_range, range_of, literal_range}
use Rattle.value_ops.specs.Numbers.{is_division, is_zero_number, word_answer, wide_answer, shift_answer, stops, sorted_value, binary_value, literal_known, literal_value}
use Rattle.value_ops.specs.Sound.{HoldsSome}
use Rattle.value_ops.proofs.Lefts.{is_something, both_something, constant_holds, words_so, between_so, is_word}

-- ---- ranges

is_signed : (z : ℤ) → first_word ≤ℤ z → z ≤ℤ last_word → FitsSigned w32 z
is_signed z l h = grind (arith, ints)

-- a number between two others, wrapped where one of them is no word
or_all_so : (low high z : ℤ) (w : ℕ) → w < 2 ^ 32 → cast_signed w32 w ≡ int_wrap w32 z → low ≤ℤ z → z ≤ℤ high → range_holds (range_or_all low high) (cast_signed w32 w)
or_all_so low high z w lw e l h = by (int_le first_word low && int_le high last_word) refl
  where
    by : (b : Bool) → (int_le first_word low && int_le high last_word) ≡ b → range_holds (if b then words_between low high else all_words) (cast_signed w32 w)
    by false i = is_word w lw
    by true i =
        let first : first_word ≤ℤ low = grind (arith, ints) in
        let last : high ≤ℤ last_word = grind (arith, ints) in
        let it : cast_signed w32 w ≡ z = e ∙ int_wrap_fits w32 z (is_signed z (omega (arith, ints, first, l)) (omega (arith, ints, last, h))) in
        subst (range_holds (words_between low high)) (sym it) (between_so low high z l h)

sum_so : (r s : Bounds) (a b : ℕ) → a < 2 ^ 32 → b < 2 ^ 32 → range_holds r (cast_signed w32 a) → range_holds s (cast_signed w32 b) → range_holds (sum_range r s) (cast_signed w32 ((a + b) % 2 ^ 32))
sum_so r s a b la lb h k = or_all_so (r.low +ℤ s.low) (r.high +ℤ s.high) (cast_signed w32 a +ℤ cast_signed w32 b) ((a + b) % 2 ^ 32) (omega arith) (wrapping_add-bits w32 a b la lb) (omega (arith, ints, h.0, k.0)) (omega (arith, ints, h.1, k.1))

difference_so : (r s : Bounds) (a b : ℕ) → a < 2 ^ 32 → b < 2 ^ 32 → range_holds r (cast_signed w32 a) → range_holds s (cast_signed w32 b) → range_holds (difference_range r s) (cast_signed w32 ((a + (2 ^ 32 - b)) % 2 ^ 32))
difference_so r s a b la lb h k = or_all_so (r.low -ℤ s.high) (r.high -ℤ s.low) (cast_signed w32 a -ℤ cast_signed w32 b) ((a + (2 ^ 32 - b)) % 2 ^ 32) (omega arith) (wrapping_sub-bits w32 a b la lb) (omega (arith, ints, h.0, k.1)) (omega (arith, ints, h.1, k.0))

-- a word without a sign is its own number
no_sign : (r : Bounds) (a : ℕ) → a < 2 ^ 32 → has_no_sign r ≡ true → range_holds r (cast_signed w32 a) → (a < 2 ^ 31) × (cast_signed w32 a ≡ pos a)
no_sign r a l e h =
    let up : pos 0 ≤ℤ r.low = grind (arith, ints) in
    let least : pos 0 ≤ℤ cast_signed w32 a = omega (arith, ints, up, h.0) in
    (grind (arith, ints), grind (arith, ints))

small_is : (m : ℕ) → m < 2 ^ 31 → cast_signed w32 m ≡ pos m
small_is m l = grind (arith, ints)

-- at most such a word
under_so : (r : Bounds) (a m : ℕ) → a < 2 ^ 32 → m ≤ a → has_no_sign r ≡ true → range_holds r (cast_signed w32 a) → (pos 0 ≤ℤ cast_signed w32 m) × (cast_signed w32 m ≤ℤ r.high)
under_so r a m l le e h =
    let own = no_sign r a l e h in
    let it : cast_signed w32 m ≡ pos m = small_is m (omega (arith, le, own.0)) in
    let top : pos a ≤ℤ r.high = subst (λ z. z ≤ℤ r.high) own.1 h.1 in
    subst (λ z. (pos 0 ≤ℤ z) × (z ≤ℤ r.high)) (sym it) (omega (arith, ints), omega (arith, ints, top, le))

mask_so : (r s : Bounds) (a b : ℕ) → a < 2 ^ 32 → b < 2 ^ 32 → range_holds r (cast_signed w32 a) → range_holds s (cast_signed w32 b) → range_holds (mask_range r s) (cast_signed w32 (bit_and a b))
mask_so r s a b la lb h k = by (has_no_sign r) (has_no_sign s) refl refl
  where
    by : (p q : Bool) → has_no_sign r ≡ p → has_no_sign s ≡ q
        → range_holds (if p && q then words_between (pos 0) (int_min r.high s.high) else if p then words_between (pos 0) r.high else if q then words_between (pos 0) s.high else all_words) (cast_signed w32 (bit_and a b))
    by true true e i =
        let one = under_so r a (bit_and a b) la (and_le_l a b) e h in
        let two = under_so s b (bit_and a b) lb (and_le_r a b) i k in
        between_so (pos 0) (int_min r.high s.high) (cast_signed w32 (bit_and a b)) one.0 (omega (arith, ints, clamps, one.1, two.1))
    by true false e i = let one = under_so r a (bit_and a b) la (and_le_l a b) e h in between_so (pos 0) r.high (cast_signed w32 (bit_and a b)) one.0 one.1
    by false true e i = let two = under_so s b (bit_and a b) lb (and_le_r a b) i k in between_so (pos 0) s.high (cast_signed w32 (bit_and a b)) two.0 two.1
    by false false e i = is_word (bit_and a b) (omega (arith, and_le_l a b, la))

it_is : (m n : ℕ) → Some m ≡ Some n → m ≡ n
it_is m n e = cc

range_so : (k : Kind) (r s : Bounds) (a b n : ℕ) → a < 2 ^ 32 → b < 2 ^ 32 → n < 2 ^ 32 → range_holds r (cast_signed w32 a) → range_holds s (cast_signed w32 b) → answer k false a b ≡ Some n → range_holds (range_of k r s) (cast_signed w32 n)
range_so Add r s a b n la lb ln h k e = subst (λ m. range_holds (sum_range r s) (cast_signed w32 m)) (it_is ((a + b) % 2 ^ 32) n e) (sum_so r s a b la lb h k)
range_so Sub r s a b n la lb ln h k e = subst (λ m. range_holds (difference_range r s) (cast_signed w32 m)) (it_is ((a + (2 ^ 32 - b)) % 2 ^ 32) n e) (difference_so r s a b la lb h k)
range_so And r s a b n la lb ln h k e = subst (λ m. range_holds (mask_range r s) (cast_signed w32 m)) (it_is (bit_and a b) n e) (mask_so r s a b la lb h k)
range_so kind r s a b n la lb ln h k e = is_word n ln

-- ---- two operands

no_answer : {P : Type 0} (n : ℕ) → None ≡ Some n → P
no_answer n e = absurd (cc)

zero_divides : {P : Type 0} (b m n : ℕ) → b ≡ 0 → if_divides b m ≡ Some n → P
zero_divides b m n z e = no_answer n (subst (λ b. if_divides b m ≡ Some n) z e)

-- a known number that is 0
is_none : {P : Type 0} (d : Word) (m : Number) (b : ℕ) → is_zero_number d ≡ true → word_holds d m → ((m ≡ Single 0) → P) → ((m ≡ Double 0) → P) → P
is_none word.Bottom m b z h f g = absurd h
is_none (word.Known a) m b z h f g = f (h ∙ ap Single (grind (arith, common_steps)))
is_none (word.KnownWide a) m b z h f g = g (h ∙ ap Double (grind (arith, common_steps)))
is_none word.Any m b z h f g = absurd (cc)

single_is : (a b : ℕ) → Single a ≡ Single b → a ≡ b
single_is a b e = cc

double_is : (a b : ℕ) → Double a ≡ Double b → a ≡ b
double_is a b e = cc

no_single : {P : Type 0} (a b : ℕ) → Single a ≡ Double b → P
no_single a b e = absurd (cc)

no_double : {P : Type 0} (a b : ℕ) → Double a ≡ Single b → P
no_double a b e = absurd (cc)

-- a division by 0 has no answer
divided_none : {P : Type 0} (k : Kind) (w : Bool) (a b n : ℕ) → is_division k ≡ true → b ≡ 0 → answer k w a b ≡ Some n → P
divided_none Div w a b n d z e = zero_divides b _ n z e
divided_none Rem w a b n d z e = zero_divides b _ n z e
divided_none kind w a b n d z e = absurd (true≢false (sym d))

-- so an operation that answers doesn't stop
going : (P : Bool → Type 0) (k : Kind) (w : Bool) (y : Parts) (m : Number) (a b n : ℕ) → (m ≡ Single 0 → b ≡ 0) → (m ≡ Double 0 → b ≡ 0) → word_holds y.word m → answer k w a b ≡ Some n → P false → P (stops k y)
going P k w y m a b n f g h e p = by (is_division k) (is_zero_number y.word) refl refl
  where
    by : (d z : Bool) → is_division k ≡ d → is_zero_number y.word ≡ z → P (d && z)
    by false z i j = p
    by true false i j = p
    by true true i j = is_none y.word m b j h (λ q. divided_none k w a b n i (f q) e) (λ q. divided_none k w a b n i (g q) e)

word_answered : (k : Kind) (u v : Word) (r : Bounds) (a b n : ℕ) → word_holds u (Single a) → word_holds v (Single b) → answer k false a b ≡ Some n → value_holds (words_of r) (Plain (Single n)) → HoldsSome (word_answer k u v r) (Plain (Single n))
word_answered k word.Bottom v r a b n h i e o = absurd h
word_answered k (word.Known m) word.Bottom r a b n h i e o = absurd i
word_answered k (word.Known m) (word.Known l) r a b n h i e o =
    let same : answer k false m l ≡ Some n = ap (λ m. answer k false m l) (sym (single_is a m h)) ∙ ap (answer k false a) (sym (single_is b l i)) ∙ e in
    subst (λ s. HoldsSome (option_map constant_value s) (Plain (Single n))) (sym same) (constant_holds n)
word_answered k (word.Known m) (word.KnownWide l) r a b n h i e o = no_single b l i
word_answered k (word.Known m) word.Any r a b n h i e o = o
word_answered k (word.KnownWide m) v r a b n h i e o = no_single a m h
word_answered k word.Any v r a b n h i e o = o

pub words_answered : (k : Kind) (x y : Parts) (a b n : ℕ) → a < 2 ^ 32 → b < 2 ^ 32 → n < 2 ^ 32 → value_holds x (Plain (Single a)) → value_holds y (Plain (Single b)) → answer k false a b ≡ Some n → HoldsSome (sorted_value (OnWord k) x y) (Plain (Single n))
words_answered k x y a b n la lb ln h i e = going (λ s. HoldsSome (if s then None else word_answer k x.word y.word (range_of k x.interval y.interval)) (Plain (Single n))) k false y (Single b) a b n
    (λ q. single_is b 0 q) (λ q. no_single b 0 q) i.0.0 e
    (word_answered k x.word y.word (range_of k x.interval y.interval) a b n h.0.0 i.0.0 e (words_so (range_of k x.interval y.interval) n ln (range_so k x.interval y.interval a b n la lb ln h.0.1 i.0.1 e)))

wide_holds : (n : ℕ) → value_holds (wide_value n) (Plain (Double n))
wide_holds n = (wide_reduced n).word

any_wide : (n : ℕ) → value_holds any_number (Plain (Double n))
any_wide n = (tt, tt)

pub any_word : (n : ℕ) → n < 2 ^ 32 → value_holds any_number (Plain (Single n))
any_word n l = ((tt, is_word n l), tt)

wide_answered : (k : Kind) (u v : Word) (a b n : ℕ) → word_holds u (Double a) → word_holds v (Double b) → answer k true a b ≡ Some n → HoldsSome (wide_answer k u v) (Plain (Double n))
wide_answered k word.Bottom v a b n h i e = absurd h
wide_answered k (word.Known m) v a b n h i e = no_double a m h
wide_answered k (word.KnownWide m) word.Bottom a b n h i e = absurd i
wide_answered k (word.KnownWide m) (word.Known l) a b n h i e = no_double b l i
wide_answered k (word.KnownWide m) (word.KnownWide l) a b n h i e =
    let same : answer k true m l ≡ Some n = ap (λ m. answer k true m l) (sym (double_is a m h)) ∙ ap (answer k true a) (sym (double_is b l i)) ∙ e in
    subst (λ s. HoldsSome (option_map wide_value s) (Plain (Double n))) (sym same) (wide_holds n)
wide_answered k (word.KnownWide m) word.Any a b n h i e = any_wide n
wide_answered k word.Any v a b n h i e = any_wide n

shift_answered : (k : Kind) (u v : Word) (a b n : ℕ) → word_holds u (Double a) → word_holds v (Single b) → answer k true a b ≡ Some n → HoldsSome (shift_answer k u v) (Plain (Double n))
shift_answered k word.Bottom v a b n h i e = absurd h
shift_answered k (word.Known m) v a b n h i e = no_double a m h
shift_answered k (word.KnownWide m) word.Bottom a b n h i e = absurd i
shift_answered k (word.KnownWide m) (word.Known l) a b n h i e =
    let same : answer k true m l ≡ Some n = ap (λ m. answer k true m l) (sym (double_is a m h)) ∙ ap (answer k true a) (sym (single_is b l i)) ∙ e in
    subst (λ s. HoldsSome (option_map wide_value s) (Plain (Double n))) (sym same) (wide_holds n)
shift_answered k (word.KnownWide m) (word.KnownWide l) a b n h i e = no_single b l i
shift_answered k (word.KnownWide m) word.Any a b n h i e = any_wide n
shift_answered k word.Any v a b n h i e = any_wide n

pub wides_answered : (k : Kind) (x y : Parts) (a b n : ℕ) → value_holds x (Plain (Double a)) → value_holds y (Plain (Double b)) → answer k true a b ≡ Some n → HoldsSome (sorted_value (OnWide k) x y) (Plain (Double n))
wides_answered k x y a b n h i e = going (λ s. HoldsSome (if s then None else wide_answer k x.word y.word) (Plain (Double n))) k true y (Double b) a b n (λ q. no_double b 0 q) (λ q. double_is b 0 q) i.0 e (wide_answered k x.word y.word a b n h.0 i.0 e)

pub shifts_answered : (k : Kind) (x y : Parts) (a b n : ℕ) → value_holds x (Plain (Double a)) → value_holds y (Plain (Single b)) → answer k true a b ≡ Some n → HoldsSome (sorted_value (Shifts k) x y) (Plain (Double n))
shifts_answered k x y a b n h i e = going (λ s. HoldsSome (if s then None else shift_answer k x.word y.word) (Plain (Double n))) k true y (Single b) a b n (λ q. single_is b 0 q) (λ q. no_single b 0 q) i.0.0 e (shift_answered k x.word y.word a b n h.0 i.0.0 e)

-- an operator of a sort
by_sort : (op : BinaryOp) (s : Sort) (x y : Parts) (d e o : Datum) → sort_of op ≡ s → value_holds x d → value_holds y e → HoldsSome (sorted_value s x y) o → HoldsSome (binary_value op x y) o
by_sort op s x y d e o i h k a = subst (λ b. HoldsSome (if b then None else sorted_value (sort_of op) x y) o) (sym (both_something x y d e h k)) (subst (λ s. HoldsSome (sorted_value s x y) o) (sym i) a)

pub binary_words : (op : BinaryOp) (k : Kind) (x y : Parts) (a b n : ℕ) → sort_of op ≡ OnWord k → a < 2 ^ 32 → b < 2 ^ 32 → n < 2 ^ 32 → value_holds x (Plain (Single a)) → value_holds y (Plain (Single b)) → answer k false a b ≡ Some n → HoldsSome (binary_value op x y) (Plain (Single n))
binary_words op k x y a b n i la lb ln h j e = by_sort op (OnWord k) x y (Plain (Single a)) (Plain (Single b)) (Plain (Single n)) i h j (words_answered k x y a b n la lb ln h j e)

pub binary_wides : (op : BinaryOp) (k : Kind) (x y : Parts) (a b n : ℕ) → sort_of op ≡ OnWide k → value_holds x (Plain (Double a)) → value_holds y (Plain (Double b)) → answer k true a b ≡ Some n → HoldsSome (binary_value op x y) (Plain (Double n))
binary_wides op k x y a b n i h j e = by_sort op (OnWide k) x y (Plain (Double a)) (Plain (Double b)) (Plain (Double n)) i h j (wides_answered k x y a b n h j e)

pub binary_shifts : (op : BinaryOp) (k : Kind) (x y : Parts) (a b n : ℕ) → sort_of op ≡ Shifts k → value_holds x (Plain (Double a)) → value_holds y (Plain (Single b)) → answer k true a b ≡ Some n → HoldsSome (binary_value op x y) (Plain (Double n))
binary_shifts op k x y a b n i h j e = by_sort op (Shifts k) x y (Plain (Double a)) (Plain (Single b)) (Plain (Double n)) i h j (shifts_answered k x y a b n h j e)

-- ---- a register and a literal

literal_range_so : (op : LiteralOp) (r : Bounds) (z : ℤ) (a b n : ℕ) → a < 2 ^ 32 → b < 2 ^ 32 → n < 2 ^ 32 → range_holds r (cast_signed w32 a) → cast_signed w32 b ≡ z → literal_answer op a b ≡ Some n → range_holds (literal_range op r z) (cast_signed w32 n)
literal_range_so op r z a b n la lb ln h i e = by op e
  where
    own : range_holds (only_word z) (cast_signed w32 b)
    own = subst (range_holds (only_word z)) (sym i) (omega (arith, ints), omega (arith, ints))

    by : (op : LiteralOp) → literal_answer op a b ≡ Some n → range_holds (literal_range op r z) (cast_signed w32 n)
    by literal.AddInt e = range_so Add r (only_word z) a b n la lb ln h own e
    by literal.RsubInt e = range_so Sub (only_word z) r b a n lb la ln own h e
    by literal.AndInt e = range_so And r (only_word z) a b n la lb ln h own e
    by op e = is_word n ln

literal_divided : {P : Type 0} (op : LiteralOp) (a b n : ℕ) → divides_by_literal op ≡ true → b ≡ 0 → literal_answer op a b ≡ Some n → P
literal_divided literal.DivInt a b n d z e = zero_divides b _ n z e
literal_divided literal.RemInt a b n d z e = zero_divides b _ n z e
literal_divided op a b n d z e = absurd (true≢false (sym d))

literal_known_so : (op : LiteralOp) (u : Word) (r : Bounds) (z : ℤ) (a n : ℕ) → a < 2 ^ 32 → word_holds u (Single a) → literal_answer op a (cast_unsigned w32 z) ≡ Some n → value_holds (words_of (literal_range op r z)) (Plain (Single n)) → HoldsSome (literal_known op (number_in u) r z) (Plain (Single n))
literal_known_so op word.Bottom r z a n la h e o = absurd h
literal_known_so op (word.Known m) r z a n la h e o =
    let cut : m % 2 ^ 32 ≡ a = ap (λ m. m % 2 ^ 32) (sym (single_is a m h)) ∙ mod-eq_of_lt la in
    let same : literal_answer op (m % 2 ^ 32) (cast_unsigned w32 z) ≡ Some n = ap (λ m. literal_answer op m (cast_unsigned w32 z)) cut ∙ e in
    subst (λ s. HoldsSome (option_map constant_value s) (Plain (Single n))) (sym same) (constant_holds n)
literal_known_so op (word.KnownWide m) r z a n la h e o = no_single a m h
literal_known_so op word.Any r z a n la h e o = o

literal_less : (z : ℤ) → first_word ≤ℤ z → z ≤ℤ last_word → cast_unsigned w32 z < 2 ^ 32
literal_less z l h = grind (arith, ints)

literal_back : (z : ℤ) → first_word ≤ℤ z → z ≤ℤ last_word → cast_signed w32 (cast_unsigned w32 z) ≡ z
literal_back z l h = grind (arith, ints)

zero_is : (z : ℤ) → int_eq z (pos 0) ≡ true → cast_unsigned w32 z ≡ 0
zero_is z e = let i : z ≡ pos 0 = grind (arith, ints, common_steps) in ap (cast_unsigned w32) i

pub literal_so : (op : LiteralOp) (x : Parts) (z : ℤ) (a n : ℕ) → a < 2 ^ 32 → n < 2 ^ 32 → first_word ≤ℤ z → z ≤ℤ last_word → value_holds x (Plain (Single a)) → literal_answer op a (cast_unsigned w32 z) ≡ Some n → HoldsSome (literal_value op x z) (Plain (Single n))
literal_so op x z a n la ln low high h e = by (is_nothing x) (divides_by_literal op) (int_eq z (pos 0)) (is_something x (Plain (Single a)) h) refl refl
  where
    answered : HoldsSome (literal_known op (number_in x.word) x.interval z) (Plain (Single n))
    answered = literal_known_so op x.word x.interval z a n la h.0.0 e
        (words_so (literal_range op x.interval z) n ln (literal_range_so op x.interval z a (cast_unsigned w32 z) n la (literal_less z low high) ln h.0.1 (literal_back z low high) e))

    by : (s d q : Bool) → s ≡ false → divides_by_literal op ≡ d → int_eq z (pos 0) ≡ q → HoldsSome (if s || (d && q) then None else literal_known op (number_in x.word) x.interval z) (Plain (Single n))
    by true d q s i j = absurd (true≢false s)
    by false false q s i j = answered
    by false true false s i j = answered
    by false true true s i j = literal_divided op a (cast_unsigned w32 z) n i (zero_is z j) e
