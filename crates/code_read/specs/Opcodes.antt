-- The opcodes (Dalvik bytecode, "Summary of bytecode set").
use Rattle.std.specs.Prelude.{ℕ, ◌-◌, Bool, Option, Some, None, nat_le, nat_lt, ◌==◌, ◌||◌, ◌&&◌, if◌then◌else◌}
use Rattle.insn_set.specs.declared.format.Format.{Format}
use Rattle.insn_set.specs.declared.format.Format.TheVariants.{F10x, F12x, F11n, F11x, F10t, F20t, F22x, F21t, F21s, F21h, F21c, F23x, F22b, F22t, F22s, F22c, F30t, F32x, F31i, F31t, F31c, F35c, F3rc, F51l}
use Rattle.insn_set.specs.declared.ops.Slot.{Slot}
use Rattle.insn_set.specs.declared.ops.Slot.TheVariants as slot
use Rattle.insn_set.specs.declared.ops.Item.{Item}
use Rattle.insn_set.specs.declared.ops.Item.TheVariants as item
use Rattle.insn_set.specs.declared.ops.Test.{Test}
use Rattle.insn_set.specs.declared.ops.Test.TheVariants as test
use Rattle.insn_set.specs.declared.ops.CmpOp.{CmpOp}
use Rattle.insn_set.specs.declared.ops.CmpOp.TheVariants as cmp
use Rattle.insn_set.specs.declared.ops.InvokeKind.{InvokeKind}
use Rattle.insn_set.specs.declared.ops.InvokeKind.TheVariants as kind
use Rattle.insn_set.specs.declared.ops.UnaryOp.{UnaryOp}
use Rattle.insn_set.specs.declared.ops.UnaryOp.TheVariants as unary
use Rattle.insn_set.specs.declared.ops.BinaryOp.{BinaryOp}
use Rattle.insn_set.specs.declared.ops.BinaryOp.TheVariants as binary
use Rattle.insn_set.specs.declared.ops.LiteralOp.{LiteralOp}
use Rattle.insn_set.specs.declared.ops.LiteralOp.TheVariants as literal

abbrev pub from_to : ℕ → ℕ → ℕ → Bool
from_to n low high = nat_le low n && nat_le n high

-- the format of each opcode that an instruction has: below 20 moves, returns and constants
abbrev pub low_format : ℕ → Option Format
low_format op = if op == 0x00 || op == 0x0e then Some F10x
    else if op == 0x01 || op == 0x04 || op == 0x07 then Some F12x
    else if op == 0x02 || op == 0x05 || op == 0x08 then Some F22x
    else if op == 0x03 || op == 0x06 || op == 0x09 then Some F32x
    else if op == 0x12 then Some F11n
    else if op == 0x13 || op == 0x16 then Some F21s
    else if op == 0x14 || op == 0x17 then Some F31i
    else if op == 0x15 || op == 0x19 then Some F21h
    else if op == 0x18 then Some F51l
    else if op == 0x1a || op == 0x1c || op == 0x1f then Some F21c
    else if op == 0x1b then Some F31c
    else Some F11x

-- comparisons from 2d on, and branches
abbrev pub branch_format : ℕ → Option Format
branch_format op = if from_to op 0x2d 0x31 then Some F23x
    else if from_to op 0x32 0x37 then Some F22t
    else Some F21t

-- from 20 on objects, arrays and branches
abbrev pub middle_format : ℕ → Option Format
middle_format op = if op == 0x20 || op == 0x23 then Some F22c
    else if op == 0x21 then Some F12x
    else if op == 0x22 then Some F21c
    else if op == 0x24 then Some F35c
    else if op == 0x25 then Some F3rc
    else if op == 0x26 || op == 0x2b || op == 0x2c then Some F31t
    else if op == 0x27 then Some F11x
    else if op == 0x28 then Some F10t
    else if op == 0x29 then Some F20t
    else if op == 0x2a then Some F30t
    else branch_format op

-- from 3e on accesses, calls and operations
abbrev pub high_format : ℕ → Option Format
high_format op = if from_to op 0x44 0x51 || from_to op 0x90 0xaf then Some F23x
    else if from_to op 0x52 0x5f then Some F22c
    else if from_to op 0x60 0x6d then Some F21c
    else if from_to op 0x6e 0x72 then Some F35c
    else if from_to op 0x74 0x78 then Some F3rc
    else if from_to op 0x7b 0x8f || from_to op 0xb0 0xcf then Some F12x
    else if from_to op 0xd0 0xd7 then Some F22s
    else if from_to op 0xd8 0xe2 then Some F22b
    else None

-- none where no instruction has the opcode
unfoldable pub format_at : ℕ → Option Format
format_at op = if nat_lt op 0x20 then low_format op else if nat_lt op 0x3e then middle_format op else high_format op

-- what differs between opcodes that follow one another, by the number of the opcode among them
abbrev pub slot_at : ℕ → Slot
slot_at n = if n == 0 then slot.Word else if n == 1 then slot.Wide else slot.Object

abbrev pub item_at : ℕ → Item
item_at n = if n == 0 then item.Plain else if n == 1 then item.Wide else if n == 2 then item.Object else if n == 3 then item.Boolean else if n == 4 then item.Byte else if n == 5 then item.Char else item.Short

abbrev pub test_at : ℕ → Test
test_at n = if n == 0 then test.Eq else if n == 1 then test.Ne else if n == 2 then test.Lt else if n == 3 then test.Ge else if n == 4 then test.Gt else test.Le

abbrev pub compare_at : ℕ → CmpOp
compare_at n = if n == 0 then cmp.CmplFloat else if n == 1 then cmp.CmpgFloat else if n == 2 then cmp.CmplDouble else if n == 3 then cmp.CmpgDouble else cmp.CmpLong

abbrev pub kind_at : ℕ → InvokeKind
kind_at n = if n == 0 then kind.Virtual else if n == 1 then kind.Super else if n == 2 then kind.Direct else if n == 3 then kind.Static else kind.Interface

abbrev pub literal_at : ℕ → LiteralOp
literal_at n = if n == 0 then literal.AddInt else if n == 1 then literal.RsubInt else if n == 2 then literal.MulInt else if n == 3 then literal.DivInt else if n == 4 then literal.RemInt else if n == 5 then literal.AndInt else if n == 6 then literal.OrInt else if n == 7 then literal.XorInt else if n == 8 then literal.ShlInt else if n == 9 then literal.ShrInt else literal.UshrInt

abbrev pub negation_at : ℕ → UnaryOp
negation_at n = if n == 0 then unary.NegInt else if n == 1 then unary.NotInt else if n == 2 then unary.NegLong else if n == 3 then unary.NotLong else if n == 4 then unary.NegFloat else unary.NegDouble

abbrev pub whole_at : ℕ → UnaryOp
whole_at n = if n == 0 then unary.IntToLong else if n == 1 then unary.IntToFloat else if n == 2 then unary.IntToDouble else if n == 3 then unary.LongToInt else if n == 4 then unary.LongToFloat else unary.LongToDouble

abbrev pub other_at : ℕ → UnaryOp
other_at n = if n == 0 then unary.FloatToInt else if n == 1 then unary.FloatToLong else if n == 2 then unary.FloatToDouble else if n == 3 then unary.DoubleToInt else if n == 4 then unary.DoubleToLong else if n == 5 then unary.DoubleToFloat else if n == 6 then unary.IntToByte else if n == 7 then unary.IntToChar else unary.IntToShort

abbrev pub int_at : ℕ → BinaryOp
int_at n = if n == 0 then binary.AddInt else if n == 1 then binary.SubInt else if n == 2 then binary.MulInt else if n == 3 then binary.DivInt else if n == 4 then binary.RemInt else if n == 5 then binary.AndInt else if n == 6 then binary.OrInt else if n == 7 then binary.XorInt else if n == 8 then binary.ShlInt else if n == 9 then binary.ShrInt else binary.UshrInt

abbrev pub long_at : ℕ → BinaryOp
long_at n = if n == 0 then binary.AddLong else if n == 1 then binary.SubLong else if n == 2 then binary.MulLong else if n == 3 then binary.DivLong else if n == 4 then binary.RemLong else if n == 5 then binary.AndLong else if n == 6 then binary.OrLong else if n == 7 then binary.XorLong else if n == 8 then binary.ShlLong else if n == 9 then binary.ShrLong else binary.UshrLong

abbrev pub float_at : ℕ → BinaryOp
float_at n = if n == 0 then binary.AddFloat else if n == 1 then binary.SubFloat else if n == 2 then binary.MulFloat else if n == 3 then binary.DivFloat else binary.RemFloat

abbrev pub double_at : ℕ → BinaryOp
double_at n = if n == 0 then binary.AddDouble else if n == 1 then binary.SubDouble else if n == 2 then binary.MulDouble else if n == 3 then binary.DivDouble else binary.RemDouble

unfoldable pub unary_at : ℕ → UnaryOp
unary_at n = if nat_lt n 6 then negation_at n else if nat_lt n 12 then whole_at (n - 6) else other_at (n - 12)

unfoldable pub binary_at : ℕ → BinaryOp
binary_at n = if nat_lt n 11 then int_at n else if nat_lt n 22 then long_at (n - 11) else if nat_lt n 27 then float_at (n - 22) else double_at (n - 27)
