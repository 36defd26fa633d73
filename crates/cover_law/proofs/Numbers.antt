-- What the machine makes of words has 32 bits.
use Rattle.std.proofs.Common.{◌≡◌, ℕ, zero, suc, ◌+◌, ◌-◌, ◌*◌, ◌<◌, ℤ, pos, negsuc, neg_ℤ, nat_abs, arith, Bool, true, false, true≢false, Option, Some, None, ap, subst, div-le_self}
use native.Mathlib.Nat.{mod-le}
use Rattle.std.specs.Prelude.{◌%◌, ◌/◌, ◌^◌, nat_eq, int_lt, int_div, int_rem, FitsSigned, bit_and}
use Rattle.std.specs.Int.{w8, w16, w32, cast_signed, cast_unsigned}
use Rattle.std.proofs.lemmas.Int.{ints}
use Rattle.std.proofs.lemmas.Nat.{and_le_l, or_of_32, xor_of_32}
use Rattle.insn_set.specs.declared.ops.CmpOp.{CmpOp}
use Rattle.insn_set.specs.declared.ops.CmpOp.TheVariants as cmp
use Rattle.insn_set.specs.declared.ops.Item.{Item}
use Rattle.insn_set.specs.declared.ops.Item.TheVariants as item
use Rattle.insn_set.specs.declared.ops.LiteralOp.{LiteralOp}
use Rattle.insn_set.specs.declared.ops.LiteralOp.TheVariants as literals
use Rattle.insn_set.specs.declared.ops.UnaryOp.{UnaryOp}
use Rattle.insn_set.specs.declared.ops.UnaryOp.TheVariants as unary
use Rattle.dalvik_defs.specs.declared.tables.Floats.{Floats}
use Rattle.dalvik_defs.specs.declared.tables.FloatOp.{FloatOp}
use Rattle.dalvik_defs.specs.declared.tables.FloatOp.TheVariants.{CmplFloat, CmpgFloat, CmplDouble, CmpgDouble, NegFloat, IntToFloat, LongToFloat, FloatToInt, DoubleToInt, DoubleToFloat}
use Rattle.dalvik_defs.specs.Arith.{Kind, Add, Sub, Mul, Div, Rem, And, Or, Xor, Shl, Shr, Ushr, answer, literal_answer, half_down, if_divides, signed}
use Rattle.dalvik_defs.specs.Items.{stored}
use Rattle.dalvik_defs.specs.Operators.{Number, OneWord, OneWide, unary_answer, comparison, float_word, float_answer}
use Rattle.dalvik_defs.specs.State.{word_of}
use Rattle.dalvik_defs.specs.declared.state.Value.{Value}
use Rattle.pass_defs.specs.Analysis.{IsRanged}

byte_less : (n : ℕ) → n < 2 ^ 8 → cast_unsigned w32 (cast_signed w8 n) < 2 ^ 32
byte_less n l = grind (arith, ints)

short_less : (n : ℕ) → n < 2 ^ 16 → cast_unsigned w32 (cast_signed w16 n) < 2 ^ 32
short_less n l = grind (arith, ints)

cut_less : (n : ℕ) → n % 2 ^ 8 < 2 ^ 8
cut_less n = omega arith

cut_half : (n : ℕ) → n % 2 ^ 16 < 2 ^ 16
cut_half n = omega arith

small : (n : ℕ) → n % 2 ^ 8 < 2 ^ 32
small n = omega arith

half : (n : ℕ) → n % 2 ^ 16 < 2 ^ 32
half n = omega arith

pub cut : (n : ℕ) → n % 2 ^ 32 < 2 ^ 32
cut n = omega arith

-- what is kept of a value
pub stored_ranged : (i : Item) (v : Value) → IsRanged v → IsRanged (stored i v)
stored_ranged item.Plain v h = h
stored_ranged item.Wide v h = h
stored_ranged item.Object v h = h
stored_ranged item.Boolean v h = small (word_of v)
stored_ranged item.Byte v h = byte_less (word_of v % 2 ^ 8) (cut_less (word_of v))
stored_ranged item.Char v h = half (word_of v)
stored_ranged item.Short v h = short_less (word_of v % 2 ^ 16) (cut_half (word_of v))

-- ---- signed numbers

-- at least -2^31, and below it
abbrev IsSmall : ℤ → Type 0
IsSmall (pos n) = n < 2 ^ 31
IsSmall (negsuc n) = n < 2 ^ 31

signed_bits : (n : ℕ) → n < 2 ^ 32 → FitsSigned w32 (cast_signed w32 n)
signed_bits n l = grind (arith, ints)

is_small : (z : ℤ) → FitsSigned w32 z → IsSmall z
is_small (pos n) f = f.sfits
is_small (negsuc n) f = f.sfits

signed_small : (n : ℕ) → IsSmall (signed false n)
signed_small n = is_small (signed false n) (signed_bits (n % 2 ^ 32) (cut n))

minus_less : (n : ℕ) → 2 ^ 32 - suc n < 2 ^ 32
minus_less n = omega arith

over_less : (n m : ℕ) → n < 2 ^ 31 → suc n / m < 2 ^ 32
over_less n m l = omega (arith, l, div-le_self (suc n) m)

under_less : (n m : ℕ) → n < 2 ^ 31 → n / m < 2 ^ 32
under_less n m l = omega (arith, l, div-le_self n m)

-- a number that is taken away from 0
minus : (n : ℕ) → cast_unsigned w32 (neg_ℤ (pos n)) < 2 ^ 32
minus zero = omega arith
minus (suc n) = minus_less n

div_less : (z d : ℤ) → IsSmall z → cast_unsigned w32 (int_div z d) < 2 ^ 32
div_less (pos a) (pos b) h = under_less a b h
div_less (pos a) (negsuc b) h = minus (a / suc b)
div_less (negsuc a) (pos b) h = minus (suc a / b)
div_less (negsuc a) (negsuc b) h = over_less a (suc b) h

cut_under : (n m : ℕ) → n < 2 ^ 31 → n % m < 2 ^ 32
cut_under n m l = omega (arith, l, mod-le n m)

rem_less : (z d : ℤ) → IsSmall z → cast_unsigned w32 (int_rem z d) < 2 ^ 32
rem_less (pos a) d h = cut_under a (nat_abs d) h
rem_less (negsuc a) d h = minus (suc a % nat_abs d)

shift_less : (z : ℤ) (k : ℕ) → IsSmall z → cast_unsigned w32 (half_down z k) < 2 ^ 32
shift_less (pos a) k h = under_less a (2 ^ k) h
shift_less (negsuc a) k h = minus_less (a / 2 ^ k)

-- ---- answers

abbrev pub MaybeLess : Option ℕ → Type 0
MaybeLess None = Unit {0}
MaybeLess (Some n) = n < 2 ^ 32

divided : (b n : ℕ) → n < 2 ^ 32 → MaybeLess (if_divides b n)
divided b n h = by (nat_eq b 0)
  where
    by : (c : Bool) → MaybeLess (elim c as (λ c. Option ℕ) [ true ↦ None | false ↦ Some n ])
    by true = tt
    by false = h

shifted_right : (a m : ℕ) → a < 2 ^ 32 → a / m < 2 ^ 32
shifted_right a m l = omega (arith, l, div-le_self a m)

anded : (a b : ℕ) → a < 2 ^ 32 → bit_and a b < 2 ^ 32
anded a b l = omega (arith, l, and_le_l a b)

pub answer_less : (k : Kind) (a b : ℕ) → a < 2 ^ 32 → b < 2 ^ 32 → MaybeLess (answer k false a b)
answer_less Add a b l m = cut (a + b)
answer_less Sub a b l m = cut (a + (2 ^ 32 - b))
answer_less Mul a b l m = cut (a * b)
answer_less Div a b l m = divided b (cast_unsigned w32 (int_div (signed false a) (signed false b))) (div_less (signed false a) (signed false b) (signed_small a))
answer_less Rem a b l m = divided b (cast_unsigned w32 (int_rem (signed false a) (signed false b))) (rem_less (signed false a) (signed false b) (signed_small a))
answer_less And a b l m = anded a b l
answer_less Or a b l m = or_of_32 a b l m
answer_less Xor a b l m = xor_of_32 a b l m
answer_less Shl a b l m = cut (a * 2 ^ (b % 32))
answer_less Shr a b l m = shift_less (signed false a) (b % 32) (signed_small a)
answer_less Ushr a b l m = shifted_right a (2 ^ (b % 32)) l

pub literal_less : (op : LiteralOp) (a b : ℕ) → a < 2 ^ 32 → b < 2 ^ 32 → MaybeLess (literal_answer op a b)
literal_less literals.AddInt a b l m = answer_less Add a b l m
literal_less literals.RsubInt a b l m = answer_less Sub b a m l
literal_less literals.MulInt a b l m = answer_less Mul a b l m
literal_less literals.DivInt a b l m = answer_less Div a b l m
literal_less literals.RemInt a b l m = answer_less Rem a b l m
literal_less literals.AndInt a b l m = answer_less And a b l m
literal_less literals.OrInt a b l m = answer_less Or a b l m
literal_less literals.XorInt a b l m = answer_less Xor a b l m
literal_less literals.ShlInt a b l m = answer_less Shl a b l m
literal_less literals.ShrInt a b l m = answer_less Shr a b l m
literal_less literals.UshrInt a b l m = answer_less Ushr a b l m

pub float_less : (floats : Floats) (op : FloatOp) (a b : ℕ) → float_word floats op a b < 2 ^ 32
float_less floats op a b = cut (float_answer floats op a b)

not_less : (n : ℕ) → 2 ^ 32 - 1 - n < 2 ^ 32
not_less n = omega arith

abbrev pub NumberLess : Number → Type 0
NumberLess (OneWord n) = n < 2 ^ 32
NumberLess (OneWide n) = Unit {0}

pub unary_less : (floats : Floats) (op : UnaryOp) (n : ℕ) → NumberLess (unary_answer floats op n)
unary_less floats unary.NegInt n = cut (2 ^ 32 - n % 2 ^ 32)
unary_less floats unary.NotInt n = not_less (n % 2 ^ 32)
unary_less floats unary.LongToInt n = cut n
unary_less floats unary.IntToByte n = byte_less (n % 2 ^ 8) (cut_less n)
unary_less floats unary.IntToChar n = half n
unary_less floats unary.IntToShort n = short_less (n % 2 ^ 16) (cut_half n)
unary_less floats unary.NegFloat n = cut (float_answer floats NegFloat n 0)
unary_less floats unary.IntToFloat n = cut (float_answer floats IntToFloat n 0)
unary_less floats unary.LongToFloat n = cut (float_answer floats LongToFloat n 0)
unary_less floats unary.FloatToInt n = cut (float_answer floats FloatToInt n 0)
unary_less floats unary.DoubleToInt n = cut (float_answer floats DoubleToInt n 0)
unary_less floats unary.DoubleToFloat n = cut (float_answer floats DoubleToFloat n 0)
unary_less floats op n = tt

pub compared_less : (floats : Floats) (op : CmpOp) (a b : ℕ) → comparison floats op a b < 2 ^ 32
compared_less floats cmp.CmplFloat a b = float_less floats CmplFloat a b
compared_less floats cmp.CmpgFloat a b = float_less floats CmpgFloat a b
compared_less floats cmp.CmplDouble a b = float_less floats CmplDouble a b
compared_less floats cmp.CmpgDouble a b = float_less floats CmpgDouble a b
compared_less floats cmp.CmpLong a b = by (int_lt (signed true a) (signed true b)) (int_lt (signed true b) (signed true a))
  where
    by : (c d : Bool) → (elim c as (λ c. ℕ) [ true ↦ 2 ^ 32 - 1 | false ↦ elim d as (λ d. ℕ) [ true ↦ 1 | false ↦ 0 ] ]) < 2 ^ 32
    by true d = omega arith
    by false true = omega arith
    by false false = omega arith

-- the size of a new array
pub size_less : (z : ℤ) → IsSmall z → (n : ℕ) → z ≡ pos n → n < 2 ^ 31
size_less (pos m) h n e = subst (λ n. n < 2 ^ 31) (pos_one m n e) h
  where
    pos_one : (m n : ℕ) → pos m ≡ pos n → m ≡ n
    pos_one m n e = ap nat_abs e
size_less (negsuc m) h n e = absurd (true≢false (ap (λ z. elim z as (λ z. Bool) [ pos n ↦ false | negsuc n ↦ true ]) e))

pub new_size : (m n : ℕ) → signed false m ≡ pos n → n < 2 ^ 31
new_size m n e = size_less (signed false m) (signed_small m) n e
