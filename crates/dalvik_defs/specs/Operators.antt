-- What the operators are: of which kind, on words or wides, or floats, which the float table answers (Dalvik bytecode,
-- "Summary of bytecode set").
use Rattle.std.specs.Prelude.{ℕ, ◌-◌, ◌%◌, ◌^◌, Bool, true, false, ◌&&◌, [], Some, None, nat_eq, find}
use Rattle.std.specs.Int.{w8, w16, w32, w64, cast_signed, cast_unsigned}
use Rattle.insn_set.specs.declared.ops.BinaryOp.{BinaryOp}
use Rattle.insn_set.specs.declared.ops.BinaryOp.TheVariants as binary
use Rattle.insn_set.specs.declared.ops.UnaryOp.{UnaryOp}
use Rattle.insn_set.specs.declared.ops.UnaryOp.TheVariants as unary
use Rattle.insn_set.specs.declared.ops.CmpOp.{CmpOp}
use Rattle.insn_set.specs.declared.ops.CmpOp.TheVariants as cmp
use Rattle.dalvik_defs.specs.declared.tables.FloatOp.{FloatOp}
use Rattle.dalvik_defs.specs.declared.tables.FloatOp.TheVariants.{CmplFloat, CmpgFloat, CmplDouble, CmpgDouble, NegFloat, NegDouble, IntToFloat, IntToDouble, LongToFloat, LongToDouble, FloatToInt, FloatToLong, FloatToDouble, DoubleToInt, DoubleToLong, DoubleToFloat, AddFloat, SubFloat, MulFloat, DivFloat, RemFloat, AddDouble, SubDouble, MulDouble, DivDouble, RemDouble}
use Rattle.dalvik_defs.specs.declared.tables.FloatRow.{FloatRow}
use Rattle.dalvik_defs.specs.declared.tables.Floats.{Floats}
use Rattle.dalvik_defs.specs.Arith.{Kind, Add, Sub, Mul, Div, Rem, And, Or, Xor, Shl, Shr, Ushr, signed, compared, low_signed}

-- ---- the float table

abbrev pub number_of : FloatOp → ℕ
number_of CmplFloat = 0
number_of CmpgFloat = 1
number_of CmplDouble = 2
number_of CmpgDouble = 3
number_of NegFloat = 4
number_of NegDouble = 5
number_of IntToFloat = 6
number_of IntToDouble = 7
number_of LongToFloat = 8
number_of LongToDouble = 9
number_of FloatToInt = 10
number_of FloatToLong = 11
number_of FloatToDouble = 12
number_of DoubleToInt = 13
number_of DoubleToLong = 14
number_of DoubleToFloat = 15
number_of AddFloat = 16
number_of SubFloat = 17
number_of MulFloat = 18
number_of DivFloat = 19
number_of RemFloat = 20
number_of AddDouble = 21
number_of SubDouble = 22
number_of MulDouble = 23
number_of DivDouble = 24
number_of RemDouble = 25

abbrev pub row_fits : FloatOp → ℕ → ℕ → FloatRow → Bool
row_fits op a b r = nat_eq (number_of r.op) (number_of op) && nat_eq r.a a && nat_eq r.b b

-- the first fitting row's result, or 0
abbrev pub float_answer : Floats → FloatOp → ℕ → ℕ → ℕ
float_answer floats op a b = elim (find (row_fits op a b) floats.rows) [ Some r ↦ r.result | None ↦ 0 ]

-- cut to a word or a wide
abbrev pub float_word : Floats → FloatOp → ℕ → ℕ → ℕ
float_word floats op a b = float_answer floats op a b % 2 ^ 32

abbrev pub float_wide : Floats → FloatOp → ℕ → ℕ → ℕ
float_wide floats op a b = float_answer floats op a b % 2 ^ 64

-- ---- two operands

pub data Sort : Type 0 where
  OnWord : (kind : Kind) → Sort
  OnWide : (kind : Kind) → Sort
  -- a wide that is shifted by a word
  Shifts : (kind : Kind) → Sort
  OnFloat : (op : FloatOp) → Sort
  OnDouble : (op : FloatOp) → Sort

abbrev pub sort_of : BinaryOp → Sort
sort_of binary.AddInt = OnWord Add
sort_of binary.SubInt = OnWord Sub
sort_of binary.MulInt = OnWord Mul
sort_of binary.DivInt = OnWord Div
sort_of binary.RemInt = OnWord Rem
sort_of binary.AndInt = OnWord And
sort_of binary.OrInt = OnWord Or
sort_of binary.XorInt = OnWord Xor
sort_of binary.ShlInt = OnWord Shl
sort_of binary.ShrInt = OnWord Shr
sort_of binary.UshrInt = OnWord Ushr
sort_of binary.AddLong = OnWide Add
sort_of binary.SubLong = OnWide Sub
sort_of binary.MulLong = OnWide Mul
sort_of binary.DivLong = OnWide Div
sort_of binary.RemLong = OnWide Rem
sort_of binary.AndLong = OnWide And
sort_of binary.OrLong = OnWide Or
sort_of binary.XorLong = OnWide Xor
sort_of binary.ShlLong = Shifts Shl
sort_of binary.ShrLong = Shifts Shr
sort_of binary.UshrLong = Shifts Ushr
sort_of binary.AddFloat = OnFloat AddFloat
sort_of binary.SubFloat = OnFloat SubFloat
sort_of binary.MulFloat = OnFloat MulFloat
sort_of binary.DivFloat = OnFloat DivFloat
sort_of binary.RemFloat = OnFloat RemFloat
sort_of binary.AddDouble = OnDouble AddDouble
sort_of binary.SubDouble = OnDouble SubDouble
sort_of binary.MulDouble = OnDouble MulDouble
sort_of binary.DivDouble = OnDouble DivDouble
sort_of binary.RemDouble = OnDouble RemDouble

-- ---- one operand

-- a word or a wide that is answered
pub data Number : Type 0 where
  OneWord : (n : ℕ) → Number
  OneWide : (n : ℕ) → Number

abbrev pub unary_answer : Floats → UnaryOp → ℕ → Number
unary_answer floats unary.NegInt a = OneWord ((2 ^ 32 - a % 2 ^ 32) % 2 ^ 32)
unary_answer floats unary.NotInt a = OneWord (2 ^ 32 - 1 - a % 2 ^ 32)
unary_answer floats unary.NegLong a = OneWide ((2 ^ 64 - a) % 2 ^ 64)
unary_answer floats unary.NotLong a = OneWide (2 ^ 64 - 1 - a)
unary_answer floats unary.NegFloat a = OneWord (float_word floats NegFloat a 0)
unary_answer floats unary.NegDouble a = OneWide (float_wide floats NegDouble a 0)
unary_answer floats unary.IntToLong a = OneWide (cast_unsigned w64 (signed false a))
unary_answer floats unary.IntToFloat a = OneWord (float_word floats IntToFloat a 0)
unary_answer floats unary.IntToDouble a = OneWide (float_wide floats IntToDouble a 0)
unary_answer floats unary.LongToInt a = OneWord (a % 2 ^ 32)
unary_answer floats unary.LongToFloat a = OneWord (float_word floats LongToFloat a 0)
unary_answer floats unary.LongToDouble a = OneWide (float_wide floats LongToDouble a 0)
unary_answer floats unary.FloatToInt a = OneWord (float_word floats FloatToInt a 0)
unary_answer floats unary.FloatToLong a = OneWide (float_wide floats FloatToLong a 0)
unary_answer floats unary.FloatToDouble a = OneWide (float_wide floats FloatToDouble a 0)
unary_answer floats unary.DoubleToInt a = OneWord (float_word floats DoubleToInt a 0)
unary_answer floats unary.DoubleToLong a = OneWide (float_wide floats DoubleToLong a 0)
unary_answer floats unary.DoubleToFloat a = OneWord (float_word floats DoubleToFloat a 0)
unary_answer floats unary.IntToByte a = OneWord (low_signed w8 8 a)
unary_answer floats unary.IntToChar a = OneWord (a % 2 ^ 16)
unary_answer floats unary.IntToShort a = OneWord (low_signed w16 16 a)

-- ---- comparisons

abbrev pub comparison : Floats → CmpOp → ℕ → ℕ → ℕ
comparison floats cmp.CmplFloat a b = float_word floats CmplFloat a b
comparison floats cmp.CmpgFloat a b = float_word floats CmpgFloat a b
comparison floats cmp.CmplDouble a b = float_word floats CmplDouble a b
comparison floats cmp.CmpgDouble a b = float_word floats CmpgDouble a b
comparison floats cmp.CmpLong a b = compared (signed true a) (signed true b)
