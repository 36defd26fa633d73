-- The place of an operation among those of one form (Dalvik bytecode, "Summary of bytecode set").
use Rattle.std.specs.Prelude.{ℕ}
use Rattle.insn_set.specs.declared.ops.Slot.{Slot}
use Rattle.insn_set.specs.declared.ops.Slot.TheVariants as slot
use Rattle.insn_set.specs.declared.ops.Item.{Item}
use Rattle.insn_set.specs.declared.ops.Item.TheVariants as item
use Rattle.insn_set.specs.declared.ops.CmpOp.{CmpOp}
use Rattle.insn_set.specs.declared.ops.CmpOp.TheVariants as cmp
use Rattle.insn_set.specs.declared.ops.Test.{Test}
use Rattle.insn_set.specs.declared.ops.Test.TheVariants as test
use Rattle.insn_set.specs.declared.ops.InvokeKind.{InvokeKind}
use Rattle.insn_set.specs.declared.ops.InvokeKind.TheVariants as kind
use Rattle.insn_set.specs.declared.ops.UnaryOp.{UnaryOp}
use Rattle.insn_set.specs.declared.ops.UnaryOp.TheVariants as unary
use Rattle.insn_set.specs.declared.ops.BinaryOp.{BinaryOp}
use Rattle.insn_set.specs.declared.ops.BinaryOp.TheVariants as binary
use Rattle.insn_set.specs.declared.ops.LiteralOp.{LiteralOp}
use Rattle.insn_set.specs.declared.ops.LiteralOp.TheVariants as literal

-- words, wides and references
abbrev pub slot_place : Slot → ℕ
slot_place slot.Word = 0
slot_place slot.Wide = 1
slot_place slot.Object = 2

-- the items of arrays and fields
abbrev pub item_place : Item → ℕ
item_place item.Plain = 0
item_place item.Wide = 1
item_place item.Object = 2
item_place item.Boolean = 3
item_place item.Byte = 4
item_place item.Char = 5
item_place item.Short = 6

-- the comparisons
abbrev pub cmp_place : CmpOp → ℕ
cmp_place cmp.CmplFloat = 0
cmp_place cmp.CmpgFloat = 1
cmp_place cmp.CmplDouble = 2
cmp_place cmp.CmpgDouble = 3
cmp_place cmp.CmpLong = 4

-- the tests
abbrev pub test_place : Test → ℕ
test_place test.Eq = 0
test_place test.Ne = 1
test_place test.Lt = 2
test_place test.Ge = 3
test_place test.Gt = 4
test_place test.Le = 5

-- the calls
abbrev pub kind_place : InvokeKind → ℕ
kind_place kind.Virtual = 0
kind_place kind.Super = 1
kind_place kind.Direct = 2
kind_place kind.Static = 3
kind_place kind.Interface = 4

-- the operations on one register
abbrev pub unary_place : UnaryOp → ℕ
unary_place unary.NegInt = 0
unary_place unary.NotInt = 1
unary_place unary.NegLong = 2
unary_place unary.NotLong = 3
unary_place unary.NegFloat = 4
unary_place unary.NegDouble = 5
unary_place unary.IntToLong = 6
unary_place unary.IntToFloat = 7
unary_place unary.IntToDouble = 8
unary_place unary.LongToInt = 9
unary_place unary.LongToFloat = 10
unary_place unary.LongToDouble = 11
unary_place unary.FloatToInt = 12
unary_place unary.FloatToLong = 13
unary_place unary.FloatToDouble = 14
unary_place unary.DoubleToInt = 15
unary_place unary.DoubleToLong = 16
unary_place unary.DoubleToFloat = 17
unary_place unary.IntToByte = 18
unary_place unary.IntToChar = 19
unary_place unary.IntToShort = 20

-- the operations on two registers
abbrev pub binary_place : BinaryOp → ℕ
binary_place binary.AddInt = 0
binary_place binary.SubInt = 1
binary_place binary.MulInt = 2
binary_place binary.DivInt = 3
binary_place binary.RemInt = 4
binary_place binary.AndInt = 5
binary_place binary.OrInt = 6
binary_place binary.XorInt = 7
binary_place binary.ShlInt = 8
binary_place binary.ShrInt = 9
binary_place binary.UshrInt = 10
binary_place binary.AddLong = 11
binary_place binary.SubLong = 12
binary_place binary.MulLong = 13
binary_place binary.DivLong = 14
binary_place binary.RemLong = 15
binary_place binary.AndLong = 16
binary_place binary.OrLong = 17
binary_place binary.XorLong = 18
binary_place binary.ShlLong = 19
binary_place binary.ShrLong = 20
binary_place binary.UshrLong = 21
binary_place binary.AddFloat = 22
binary_place binary.SubFloat = 23
binary_place binary.MulFloat = 24
binary_place binary.DivFloat = 25
binary_place binary.RemFloat = 26
binary_place binary.AddDouble = 27
binary_place binary.SubDouble = 28
binary_place binary.MulDouble = 29
binary_place binary.DivDouble = 30
binary_place binary.RemDouble = 31

-- the operations on a register and a literal
abbrev pub literal_place : LiteralOp → ℕ
literal_place literal.AddInt = 0
literal_place literal.RsubInt = 1
literal_place literal.MulInt = 2
literal_place literal.DivInt = 3
literal_place literal.RemInt = 4
literal_place literal.AndInt = 5
literal_place literal.OrInt = 6
literal_place literal.XorInt = 7
literal_place literal.ShlInt = 8
literal_place literal.ShrInt = 9
literal_place literal.UshrInt = 10
