-- Arithmetic on int and long (Dalvik bytecode, "Summary of bytecode set"): numbers are bits, sums wrap, and shifts use
-- the low 5 or 6 bits.
use Rattle.std.specs.Prelude.{ℕ, ◌+◌, ◌-◌, ◌*◌, ◌/◌, ◌%◌, ◌^◌, ℤ, pos, negsuc, Bool, true, false, not, nat_eq, int_lt, int_le, bit_and, bit_or, bit_xor, int_div, int_rem, Option, Some, None}
use Rattle.std.specs.Int.{Width, w32, w64, cast_signed, cast_unsigned}
use Rattle.insn_set.specs.declared.ops.Test.{Test}
use Rattle.insn_set.specs.declared.ops.Test.TheVariants.{Eq, Ne, Lt, Ge, Gt, Le}
use Rattle.insn_set.specs.declared.ops.LiteralOp.{LiteralOp}
use Rattle.insn_set.specs.declared.ops.LiteralOp.TheVariants as literal
use Rattle.dalvik_defs.specs.State.{Value, word_of, same_value}

-- the eleven operations
pub data Kind : Type 0 where
  Add : Kind
  Sub : Kind
  Mul : Kind
  Div : Kind
  Rem : Kind
  And : Kind
  Or : Kind
  Xor : Kind
  Shl : Kind
  Shr : Kind
  Ushr : Kind

-- on 64 bits, or on 32
abbrev pub width_of : Bool → Width
width_of false = w32
width_of true = w64

abbrev pub bits_of : Bool → ℕ
bits_of false = 32
bits_of true = 64

-- the signed number that the low bits spell
abbrev pub signed : Bool → ℕ → ℤ
signed wide n = cast_signed (width_of wide) (n % 2 ^ bits_of wide)

abbrev pub unsigned : Bool → ℤ → ℕ
unsigned wide z = cast_unsigned (width_of wide) z

-- a signed number shifted right
abbrev pub half_down : ℤ → ℕ → ℤ
half_down (pos a) k = pos (a / 2 ^ k)
half_down (negsuc a) k = negsuc (a / 2 ^ k)

-- a division by 0 has no answer
abbrev pub if_divides : ℕ → ℕ → Option ℕ
if_divides b n = elim (nat_eq b 0) [ true ↦ None | false ↦ Some n ]

abbrev pub answer : Kind → Bool → ℕ → ℕ → Option ℕ
answer Add w a b = Some ((a + b) % 2 ^ bits_of w)
answer Sub w a b = Some ((a + (2 ^ bits_of w - b)) % 2 ^ bits_of w)
answer Mul w a b = Some (a * b % 2 ^ bits_of w)
answer Div w a b = if_divides b (unsigned w (int_div (signed w a) (signed w b)))
answer Rem w a b = if_divides b (unsigned w (int_rem (signed w a) (signed w b)))
answer And w a b = Some (bit_and a b)
answer Or w a b = Some (bit_or a b)
answer Xor w a b = Some (bit_xor a b)
answer Shl w a b = Some (a * 2 ^ (b % bits_of w) % 2 ^ bits_of w)
answer Shr w a b = Some (unsigned w (half_down (signed w a) (b % bits_of w)))
answer Ushr w a b = Some (a / 2 ^ (b % bits_of w))

-- the operation of a register and a literal; rsub is the literal minus the register
abbrev pub literal_answer : LiteralOp → ℕ → ℕ → Option ℕ
literal_answer literal.AddInt a b = answer Add false a b
literal_answer literal.RsubInt a b = answer Sub false b a
literal_answer literal.MulInt a b = answer Mul false a b
literal_answer literal.DivInt a b = answer Div false a b
literal_answer literal.RemInt a b = answer Rem false a b
literal_answer literal.AndInt a b = answer And false a b
literal_answer literal.OrInt a b = answer Or false a b
literal_answer literal.XorInt a b = answer Xor false a b
literal_answer literal.ShlInt a b = answer Shl false a b
literal_answer literal.ShrInt a b = answer Shr false a b
literal_answer literal.UshrInt a b = answer Ushr false a b

-- -1, 0 or 1, as a word
abbrev pub compared : ℤ → ℤ → ℕ
compared a b = elim (int_lt a b) [ true ↦ 2 ^ 32 - 1 | false ↦ elim (int_lt b a) [ true ↦ 1 | false ↦ 0 ] ]

-- a test on two words, or for equality on two references
abbrev pub passes : Test → Value → Value → Bool
passes Eq a b = same_value a b
passes Ne a b = not (same_value a b)
passes Lt a b = int_lt (signed false (word_of a)) (signed false (word_of b))
passes Ge a b = int_le (signed false (word_of b)) (signed false (word_of a))
passes Gt a b = int_lt (signed false (word_of b)) (signed false (word_of a))
passes Le a b = int_le (signed false (word_of a)) (signed false (word_of b))

-- the low bits as a word, with or without their sign
abbrev pub low_signed : Width → ℕ → ℕ → ℕ
low_signed w bits n = cast_unsigned w32 (cast_signed w (n % 2 ^ bits))
