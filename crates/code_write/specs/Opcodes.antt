-- The opcodes (Dalvik bytecode, "Summary of bytecode set").
use Rattle.std.specs.Prelude.{ℕ, ◌+◌, ◌*◌}
use Rattle.insn_set.specs.declared.format.Format.{Format}
use Rattle.insn_set.specs.declared.format.Format.TheVariants.{F12x, F11n, F10t, F20t, F22x, F21s, F21c, F23x, F22s, F31i, F35c, F51l}
use Rattle.insn_set.specs.declared.form.Insn.{Insn}
use Rattle.insn_set.specs.declared.form.Insn.TheVariants.{Nop, Move, MoveResult, MoveException, ReturnVoid, Return, Const, ConstWide, ConstString, ConstClass, MonitorEnter, MonitorExit, CheckCast, InstanceOf, ArrayLength, NewInstance, NewArray, FilledNewArray, FillArray, Throw, Goto, PackedSwitch, SparseSwitch, Cmp, If, IfZero, ArrayGet, ArrayPut, InstanceGet, InstancePut, StaticGet, StaticPut, Invoke, Unary, Binary, Literal}
use Rattle.code_write.specs.Places.{slot_place, item_place, cmp_place, test_place, kind_place, unary_place, binary_place, literal_place}

abbrev pub move_base : Format → ℕ
move_base F12x = 1
move_base F22x = 2
move_base format = 3

abbrev pub const_opcode : Format → ℕ
const_opcode F11n = 0x12
const_opcode F21s = 0x13
const_opcode F31i = 0x14
const_opcode format = 0x15

abbrev pub wide_opcode : Format → ℕ
wide_opcode F21s = 0x16
wide_opcode F31i = 0x17
wide_opcode F51l = 0x18
wide_opcode format = 0x19

abbrev pub string_opcode : Format → ℕ
string_opcode F21c = 0x1a
string_opcode format = 0x1b

abbrev pub goto_opcode : Format → ℕ
goto_opcode F10t = 0x28
goto_opcode F20t = 0x29
goto_opcode format = 0x2a

abbrev pub fill_opcode : Format → ℕ
fill_opcode F35c = 0x24
fill_opcode format = 0x25

abbrev pub invoke_base : Format → ℕ
invoke_base F35c = 0x6e
invoke_base format = 0x74

abbrev pub binary_base : Format → ℕ
binary_base F23x = 0x90
binary_base format = 0xb0

abbrev pub literal_base : Format → ℕ
literal_base F22s = 0xd0
literal_base format = 0xd8

-- the opcode of an instruction in a format that spells it
abbrev pub opcode_of : Insn → Format → ℕ
opcode_of Nop format = 0
opcode_of (Move slot to from) format = move_base format + 3 * slot_place slot
opcode_of (MoveResult slot to) format = 0x0a + slot_place slot
opcode_of (MoveException to) format = 0x0d
opcode_of ReturnVoid format = 0x0e
opcode_of (Return slot from) format = 0x0f + slot_place slot
opcode_of (Const to value) format = const_opcode format
opcode_of (ConstWide to value) format = wide_opcode format
opcode_of (ConstString to string) format = string_opcode format
opcode_of (ConstClass to kind) format = 0x1c
opcode_of (MonitorEnter on) format = 0x1d
opcode_of (MonitorExit on) format = 0x1e
opcode_of (CheckCast on kind) format = 0x1f
opcode_of (InstanceOf to from kind) format = 0x20
opcode_of (ArrayLength to from) format = 0x21
opcode_of (NewInstance to kind) format = 0x22
opcode_of (NewArray to size kind) format = 0x23
opcode_of (FilledNewArray kind args) format = fill_opcode format
opcode_of (FillArray on width items) format = 0x26
opcode_of (Throw on) format = 0x27
opcode_of (Goto target) format = goto_opcode format
opcode_of (PackedSwitch on first targets) format = 0x2b
opcode_of (SparseSwitch on keys targets) format = 0x2c
opcode_of (Cmp op to a b) format = 0x2d + cmp_place op
opcode_of (If test a b target) format = 0x32 + test_place test
opcode_of (IfZero test a target) format = 0x38 + test_place test
opcode_of (ArrayGet item to array index) format = 0x44 + item_place item
opcode_of (ArrayPut item from array index) format = 0x4b + item_place item
opcode_of (InstanceGet item to on field) format = 0x52 + item_place item
opcode_of (InstancePut item from on field) format = 0x59 + item_place item
opcode_of (StaticGet item to field) format = 0x60 + item_place item
opcode_of (StaticPut item from field) format = 0x67 + item_place item
opcode_of (Invoke kind method args) format = invoke_base format + kind_place kind
opcode_of (Unary op to from) format = 0x7b + unary_place op
opcode_of (Binary op to a b) format = binary_base format + binary_place op
opcode_of (Literal op to a value) format = literal_base format + literal_place op
