-- Which operands are wide, that is, stand in a register and the next one (Dalvik bytecode, "Summary of bytecode set").
use Rattle.std.specs.Prelude.{Bool, true, false}
use Rattle.insn_set.specs.declared.ops.Slot.{Slot}
use Rattle.insn_set.specs.declared.ops.Slot.TheVariants as slot
use Rattle.insn_set.specs.declared.ops.Item.{Item}
use Rattle.insn_set.specs.declared.ops.Item.TheVariants as item
use Rattle.insn_set.specs.declared.ops.CmpOp.{CmpOp}
use Rattle.insn_set.specs.declared.ops.CmpOp.TheVariants.{CmplFloat, CmpgFloat}
use Rattle.insn_set.specs.declared.ops.UnaryOp.{UnaryOp}
use Rattle.insn_set.specs.declared.ops.UnaryOp.TheVariants.{NegLong, NotLong, NegDouble, IntToLong, IntToDouble, LongToInt, LongToFloat, LongToDouble, FloatToLong, FloatToDouble, DoubleToInt, DoubleToLong, DoubleToFloat}
use Rattle.insn_set.specs.declared.ops.BinaryOp.{BinaryOp}
use Rattle.insn_set.specs.declared.ops.BinaryOp.TheVariants.{AddLong, SubLong, MulLong, DivLong, RemLong, AndLong, OrLong, XorLong, ShlLong, ShrLong, UshrLong, AddDouble, SubDouble, MulDouble, DivDouble, RemDouble}

abbrev pub is_wide_slot : Slot → Bool
is_wide_slot slot.Wide = true
is_wide_slot s = false

abbrev pub is_wide_item : Item → Bool
is_wide_item item.Wide = true
is_wide_item i = false

-- the operands of a comparison; its result is a word
abbrev pub compares_wide : CmpOp → Bool
compares_wide CmplFloat = false
compares_wide CmpgFloat = false
compares_wide op = true

-- what an operation on one register reads
abbrev pub unary_reads_wide : UnaryOp → Bool
unary_reads_wide NegLong = true
unary_reads_wide NotLong = true
unary_reads_wide NegDouble = true
unary_reads_wide LongToInt = true
unary_reads_wide LongToFloat = true
unary_reads_wide LongToDouble = true
unary_reads_wide DoubleToInt = true
unary_reads_wide DoubleToLong = true
unary_reads_wide DoubleToFloat = true
unary_reads_wide op = false

-- what an operation on one register writes
abbrev pub unary_writes_wide : UnaryOp → Bool
unary_writes_wide NegLong = true
unary_writes_wide NotLong = true
unary_writes_wide NegDouble = true
unary_writes_wide IntToLong = true
unary_writes_wide IntToDouble = true
unary_writes_wide LongToDouble = true
unary_writes_wide FloatToLong = true
unary_writes_wide FloatToDouble = true
unary_writes_wide DoubleToLong = true
unary_writes_wide op = false

-- the first operand and the result of an operation on two registers
abbrev pub binary_is_wide : BinaryOp → Bool
binary_is_wide AddLong = true
binary_is_wide SubLong = true
binary_is_wide MulLong = true
binary_is_wide DivLong = true
binary_is_wide RemLong = true
binary_is_wide AndLong = true
binary_is_wide OrLong = true
binary_is_wide XorLong = true
binary_is_wide ShlLong = true
binary_is_wide ShrLong = true
binary_is_wide UshrLong = true
binary_is_wide AddDouble = true
binary_is_wide SubDouble = true
binary_is_wide MulDouble = true
binary_is_wide DivDouble = true
binary_is_wide RemDouble = true
binary_is_wide op = false

-- the second operand: the distance of a shift is a word
abbrev pub second_is_wide : BinaryOp → Bool
second_is_wide ShlLong = false
second_is_wide ShrLong = false
second_is_wide UshrLong = false
second_is_wide op = binary_is_wide op
