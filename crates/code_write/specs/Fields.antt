-- The fields of an instruction.
use Rattle.std.specs.Prelude.{ℕ, ◌+◌, ◌*◌, ◌/◌, ◌%◌, ℤ, List, length, slice_index_or}
use Rattle.std.specs.Int.{w16, w32, w64, cast_unsigned}
use Rattle.insn_set.specs.declared.format.Format.{Format}
use Rattle.insn_set.specs.declared.format.Format.TheVariants.{F21h, F23x, F35c}
use Rattle.insn_set.specs.declared.form.Insn.{Insn}
use Rattle.insn_set.specs.declared.form.Insn.TheVariants.{Nop, Move, MoveResult, MoveException, ReturnVoid, Return, Const, ConstWide, ConstString, ConstClass, MonitorEnter, MonitorExit, CheckCast, InstanceOf, ArrayLength, NewInstance, NewArray, FilledNewArray, FillArray, Throw, Goto, PackedSwitch, SparseSwitch, Cmp, If, IfZero, ArrayGet, ArrayPut, InstanceGet, InstancePut, StaticGet, StaticPut, Invoke, Unary, Binary, Literal}
use Rattle.program_model.specs.declared.pass.Renumber.{Renumber}
use Rattle.relax.specs.Steps.{renumbered}
use Rattle.code_write.specs.declared.fields.Fields.{Fields}

abbrev pub three : ℕ → ℕ → ℕ → Fields
three a b c = record { a = a; b = b; c = c; long = 0 }

-- the literal of a word, of which 21h has the upper half alone
abbrev pub const_field : Format → ℤ → ℕ
const_field F21h value = cast_unsigned w32 value / 65536
const_field format value = cast_unsigned w32 value

-- the literal of a wide, of which 21h has the upper quarter alone
abbrev pub wide_field : Format → ℤ → ℕ
wide_field F21h value = cast_unsigned w64 value / 281474976710656
wide_field format value = cast_unsigned w64 value % 4294967296

abbrev pub word_at : List ℕ → ℕ → ℕ
word_at words place = slice_index_or words place 0

-- how many registers, the number, the fifth register and the others; or how many, the number and the first register
abbrev pub call_fields : Format → ℕ → List ℕ → Fields
call_fields F35c number words = record { a = length words % 256; b = number; c = word_at words 4; long = word_at words 0 % 16 + 16 * (word_at words 1 % 16) + 256 * (word_at words 2 % 16) + 4096 * (word_at words 3 % 16) }
call_fields format number words = three (length words % 256) number (word_at words 0)

abbrev pub binary_fields : Format → ℕ → ℕ → ℕ → Fields
binary_fields F23x to a b = three to a b
binary_fields format to a b = three to b 0

-- the fields; `far` is how far a branch goes or a payload lies, in 32 bits
abbrev pub fields_of : Insn → Format → Renumber → ℕ → Fields
fields_of Nop format numbers far = three 0 0 0
fields_of (Move slot to from) format numbers far = three to from 0
fields_of (MoveResult slot to) format numbers far = three to 0 0
fields_of (MoveException to) format numbers far = three to 0 0
fields_of ReturnVoid format numbers far = three 0 0 0
fields_of (Return slot from) format numbers far = three from 0 0
fields_of (Const to value) format numbers far = three to (const_field format value) 0
fields_of (ConstWide to value) format numbers far = record { a = to; b = wide_field format value; c = 0; long = cast_unsigned w64 value }
fields_of (ConstString to string) format numbers far = three to (renumbered numbers.strings.items string) 0
fields_of (ConstClass to kind) format numbers far = three to (renumbered numbers.types.items kind) 0
fields_of (MonitorEnter on) format numbers far = three on 0 0
fields_of (MonitorExit on) format numbers far = three on 0 0
fields_of (CheckCast on kind) format numbers far = three on (renumbered numbers.types.items kind) 0
fields_of (InstanceOf to from kind) format numbers far = three to from (renumbered numbers.types.items kind)
fields_of (ArrayLength to from) format numbers far = three to from 0
fields_of (NewInstance to kind) format numbers far = three to (renumbered numbers.types.items kind) 0
fields_of (NewArray to size kind) format numbers far = three to size (renumbered numbers.types.items kind)
fields_of (FilledNewArray kind args) format numbers far = call_fields format (renumbered numbers.types.items kind) args
fields_of (FillArray on width items) format numbers far = three on far 0
fields_of (Throw on) format numbers far = three on 0 0
fields_of (Goto target) format numbers far = three far far 0
fields_of (PackedSwitch on first targets) format numbers far = three on far 0
fields_of (SparseSwitch on keys targets) format numbers far = three on far 0
fields_of (Cmp op to a b) format numbers far = three to a b
fields_of (If test a b target) format numbers far = three a b far
fields_of (IfZero test a target) format numbers far = three a far 0
fields_of (ArrayGet item to array index) format numbers far = three to array index
fields_of (ArrayPut item from array index) format numbers far = three from array index
fields_of (InstanceGet item to on field) format numbers far = three to on (renumbered numbers.fields.items field)
fields_of (InstancePut item from on field) format numbers far = three from on (renumbered numbers.fields.items field)
fields_of (StaticGet item to field) format numbers far = three to (renumbered numbers.fields.items field) 0
fields_of (StaticPut item from field) format numbers far = three from (renumbered numbers.fields.items field) 0
fields_of (Invoke kind method args) format numbers far = call_fields format (renumbered numbers.methods.items method) args
fields_of (Unary op to from) format numbers far = three to from 0
fields_of (Binary op to a b) format numbers far = binary_fields format to a b
fields_of (Literal op to a value) format numbers far = three to a (cast_unsigned w16 value)

-- the same by groups of forms, each of which hands all other forms on: operations on numbers
abbrev pub number_fields : Insn → Format → ℕ → Fields
number_fields (Cmp op to a b) format far = three to a b
number_fields (If test a b target) format far = three a b far
number_fields (IfZero test a target) format far = three a far 0
number_fields (Unary op to from) format far = three to from 0
number_fields (Binary op to a b) format far = binary_fields format to a b
number_fields (Literal op to a value) format far = three to a (cast_unsigned w16 value)
number_fields insn format far = three 0 0 0

-- arrays and fields
abbrev pub memory_fields : Insn → Format → Renumber → ℕ → Fields
memory_fields (ArrayLength to from) format numbers far = three to from 0
memory_fields (NewArray to size kind) format numbers far = three to size (renumbered numbers.types.items kind)
memory_fields (FillArray on width items) format numbers far = three on far 0
memory_fields (ArrayGet item to array index) format numbers far = three to array index
memory_fields (ArrayPut item from array index) format numbers far = three from array index
memory_fields (InstanceGet item to on field) format numbers far = three to on (renumbered numbers.fields.items field)
memory_fields (InstancePut item from on field) format numbers far = three from on (renumbered numbers.fields.items field)
memory_fields (StaticGet item to field) format numbers far = three to (renumbered numbers.fields.items field) 0
memory_fields (StaticPut item from field) format numbers far = three from (renumbered numbers.fields.items field) 0
memory_fields insn format numbers far = number_fields insn format far

-- objects, calls and switches
abbrev pub object_fields : Insn → Format → Renumber → ℕ → Fields
object_fields (MonitorEnter on) format numbers far = three on 0 0
object_fields (MonitorExit on) format numbers far = three on 0 0
object_fields (Throw on) format numbers far = three on 0 0
object_fields (CheckCast on kind) format numbers far = three on (renumbered numbers.types.items kind) 0
object_fields (InstanceOf to from kind) format numbers far = three to from (renumbered numbers.types.items kind)
object_fields (NewInstance to kind) format numbers far = three to (renumbered numbers.types.items kind) 0
object_fields (FilledNewArray kind args) format numbers far = call_fields format (renumbered numbers.types.items kind) args
object_fields (Invoke kind method args) format numbers far = call_fields format (renumbered numbers.methods.items method) args
object_fields (Goto target) format numbers far = three far far 0
object_fields (PackedSwitch on first targets) format numbers far = three on far 0
object_fields (SparseSwitch on keys targets) format numbers far = three on far 0
object_fields insn format numbers far = memory_fields insn format numbers far
