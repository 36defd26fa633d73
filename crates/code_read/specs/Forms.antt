-- The forms of the instructions that need nothing beside their fields (Dalvik bytecode, "Summary of bytecode set").
use Rattle.std.specs.Prelude.{ℕ, ◌+◌, ◌-◌, ◌*◌, ◌/◌, ◌%◌, ℤ, pos, ◌-ℤ◌, nat_lt, ◌==◌, if◌then◌else◌}
use Rattle.std.specs.Int.{w8, w16, w32, w64, cast_signed}
use Rattle.insn_set.specs.declared.form.Insn.{Insn}
use Rattle.insn_set.specs.declared.form.Insn.TheVariants.{Nop, Move, MoveResult, MoveException, ReturnVoid, Return, Const, ConstWide, ConstString, ConstClass, MonitorEnter, MonitorExit, CheckCast, InstanceOf, ArrayLength, NewInstance, NewArray, Throw, Cmp, ArrayGet, ArrayPut, InstanceGet, InstancePut, StaticGet, StaticPut, Unary, Binary, Literal}
use Rattle.code_read.specs.declared.fields.Fields.{Fields}
use Rattle.code_read.specs.Opcodes.{from_to, slot_at, item_at, compare_at, unary_at, binary_at, literal_at}

-- signed numbers of 4, 8, 16 and 32 bits
unfoldable pub nibble : ℕ → ℤ
nibble n = if nat_lt (n % 16) 8 then pos (n % 16) else pos (n % 16) -ℤ pos 16

abbrev pub byte : ℕ → ℤ
byte n = cast_signed w8 (n % 256)

abbrev pub short : ℕ → ℤ
short n = cast_signed w16 n

abbrev pub word : ℕ → ℤ
word n = cast_signed w32 (n % 4294967296)

abbrev pub number : ℕ → ℕ
number n = n % 4294967296

abbrev pub move_form : ℕ → Fields → Insn
move_form op f = if op == 0x00 then Nop
    else if from_to op 0x01 0x09 then Move (slot_at ((op - 1) / 3)) f.a f.b
    else if from_to op 0x0a 0x0c then MoveResult (slot_at (op - 0x0a)) f.a
    else if op == 0x0d then MoveException f.a
    else if op == 0x0e then ReturnVoid
    else Return (slot_at (op - 0x0f)) f.a

abbrev pub const_form : ℕ → Fields → Insn
const_form op f = if op == 0x12 then Const f.a (nibble f.b)
    else if op == 0x13 then Const f.a (short f.b)
    else if op == 0x14 then Const f.a (word f.wide)
    else Const f.a (word (f.b * 65536))

abbrev pub wide_form : ℕ → Fields → Insn
wide_form op f = if op == 0x16 then ConstWide f.a (short f.b)
    else if op == 0x17 then ConstWide f.a (word f.wide)
    else if op == 0x18 then ConstWide f.a (cast_signed w64 f.wide)
    else ConstWide f.a (cast_signed w64 (f.b * 281474976710656))

abbrev pub object_form : ℕ → Fields → Insn
object_form op f = if op == 0x1a then ConstString f.a f.b
    else if op == 0x1b then ConstString f.a (number f.wide)
    else if op == 0x1c then ConstClass f.a f.b
    else if op == 0x1d then MonitorEnter f.a
    else if op == 0x1e then MonitorExit f.a
    else if op == 0x1f then CheckCast f.a f.b
    else if op == 0x20 then InstanceOf f.a f.b f.c
    else if op == 0x21 then ArrayLength f.a f.b
    else if op == 0x22 then NewInstance f.a f.b
    else if op == 0x23 then NewArray f.a f.b f.c
    else Throw f.a

abbrev pub array_form : ℕ → Fields → Insn
array_form op f = if from_to op 0x2d 0x31 then Cmp (compare_at (op - 0x2d)) f.a f.b f.c
    else if from_to op 0x44 0x4a then ArrayGet (item_at (op - 0x44)) f.a f.b f.c
    else ArrayPut (item_at (op - 0x4b)) f.a f.b f.c

abbrev pub field_form : ℕ → Fields → Insn
field_form op f = if from_to op 0x52 0x58 then InstanceGet (item_at (op - 0x52)) f.a f.b f.c
    else if from_to op 0x59 0x5f then InstancePut (item_at (op - 0x59)) f.a f.b f.c
    else if from_to op 0x60 0x66 then StaticGet (item_at (op - 0x60)) f.a f.b
    else StaticPut (item_at (op - 0x67)) f.a f.b

-- an operation of the form op/2addr has its first operand in the register that it writes
abbrev pub operation_form : ℕ → Fields → Insn
operation_form op f = if from_to op 0x7b 0x8f then Unary (unary_at (op - 0x7b)) f.a f.b
    else if from_to op 0x90 0xaf then Binary (binary_at (op - 0x90)) f.a f.b f.c
    else if from_to op 0xb0 0xcf then Binary (binary_at (op - 0xb0)) f.a f.a f.b
    else if from_to op 0xd0 0xd7 then Literal (literal_at (op - 0xd0)) f.a f.b (short f.c)
    else Literal (literal_at (op - 0xd8)) f.a f.b (byte f.c)

-- the instruction of an opcode that is none of a branch, a call, a filled array or an instruction with a payload
unfoldable pub plain : ℕ → Fields → Insn
plain op f = if nat_lt op 0x12 then move_form op f
    else if nat_lt op 0x16 then const_form op f
    else if nat_lt op 0x1a then wide_form op f
    else if nat_lt op 0x28 then object_form op f
    else if nat_lt op 0x52 then array_form op f
    else if nat_lt op 0x6e then field_form op f
    else operation_form op f
