-- The shortest spelling of a form, and which forms have one (Dalvik bytecode, "Summary of bytecode set" and
-- "Instruction formats").
use Rattle.std.specs.Prelude.{ℕ, ◌+◌, ℤ, pos, negsuc, Bool, true, false, ◌&&◌, ◌||◌, nat_eq, nat_lt, nat_le, if◌then◌else◌, List, length, drop, int_rem}
use Rattle.std.specs.Int.Signed.{le_z, lt_z}
use Rattle.std.specs.Ordering.{int_eq}
use Rattle.std.specs.List.{list_all, zip}
use Rattle.insn_set.specs.Formats.{format_units}
use Rattle.insn_set.specs.declared.format.Format.{Format}
use Rattle.insn_set.specs.declared.format.Format.TheVariants.{F10x, F12x, F11n, F11x, F10t, F20t, F22x, F21t, F21s, F21h, F21c, F23x, F22b, F22t, F22s, F22c, F30t, F32x, F31i, F31t, F31c, F35c, F3rc, F51l}
use Rattle.insn_set.specs.declared.ops.LiteralOp.{LiteralOp}
use Rattle.insn_set.specs.declared.ops.LiteralOp.TheVariants.{ShlInt, ShrInt, UshrInt}
use Rattle.insn_set.specs.declared.form.Insn.{Insn}
use Rattle.insn_set.specs.declared.form.Insn.TheVariants.{Nop, Move, MoveResult, MoveException, ReturnVoid, Return, Const, ConstWide, ConstString, ConstClass, MonitorEnter, MonitorExit, CheckCast, InstanceOf, ArrayLength, NewInstance, NewArray, FilledNewArray, FillArray, Throw, Goto, PackedSwitch, SparseSwitch, Cmp, If, IfZero, ArrayGet, ArrayPut, InstanceGet, InstancePut, StaticGet, StaticPut, Invoke, Unary, Binary, Literal}

-- whether a number is from low to high
abbrev pub within : ℤ → ℤ → ℤ → Bool
within low high n = le_z low n && le_z n high

abbrev pub fits_nibble : ℤ → Bool
fits_nibble n = within (negsuc 7) (pos 7) n

abbrev pub fits_byte : ℤ → Bool
fits_byte n = within (negsuc 127) (pos 127) n

abbrev pub fits_short : ℤ → Bool
fits_short n = within (negsuc 32767) (pos 32767) n

abbrev pub fits_int : ℤ → Bool
fits_int n = within (negsuc 2147483647) (pos 2147483647) n

-- whether a number is a multiple, so that the low bits can be left out
abbrev pub is_multiple : ℤ → ℕ → Bool
is_multiple n unit = int_eq (int_rem n (pos unit)) (pos 0)

-- whether each register is the one behind the register before it
abbrev pub are_adjacent : List ℕ → Bool
are_adjacent words = list_all (λ p. nat_eq p.1 (p.0 + 1)) (zip words (drop 1 words))

-- the registers of a call by five nibbles: at most five, each below 16
abbrev pub fit_nibbles : List ℕ → Bool
fit_nibbles words = nat_le (length words) 5 && list_all (λ r. nat_lt r 16) words

-- the registers of a call: by nibbles, or at most 255 adjacent ones
abbrev pub fit_call : List ℕ → Bool
fit_call words = fit_nibbles words || (nat_lt (length words) 256 && are_adjacent words)

-- operations with a literal of 16 bits
abbrev pub takes_short : LiteralOp → Bool
takes_short ShlInt = false
takes_short ShrInt = false
takes_short UshrInt = false
takes_short op = true

-- whether an array's item has room in so many bytes, which are 1, 2, 4 or 8
abbrev pub fits_width : ℕ → ℕ → Bool
fits_width width item = if nat_eq width 1 then nat_lt item 256
    else if nat_eq width 2 then nat_lt item 65536
    else if nat_eq width 4 then nat_lt item 4294967296
    else nat_eq width 8

abbrev pub is_width : ℕ → Bool
is_width width = (nat_eq width 1 || nat_eq width 2) || (nat_eq width 4 || nat_eq width 8)

abbrev pub keys_ascend : List ℤ → Bool
keys_ascend keys = list_all (λ p. lt_z p.0 p.1) (zip keys (drop 1 keys))

abbrev pub shortest_goto : ℤ → Format
shortest_goto distance = if int_eq distance (pos 0) then F30t else if fits_byte distance then F10t else if fits_short distance then F20t else F30t

abbrev pub shortest_move : ℕ → ℕ → Format
shortest_move to from = if nat_lt to 16 && nat_lt from 16 then F12x else if nat_lt to 256 then F22x else F32x

abbrev pub shortest_const : ℕ → ℤ → Format
shortest_const to value = if nat_lt to 16 && fits_nibble value then F11n else if fits_short value then F21s else if is_multiple value 65536 then F21h else F31i

abbrev pub shortest_wide : ℤ → Format
shortest_wide value = if fits_short value then F21s else if is_multiple value 281474976710656 then F21h else if fits_int value then F31i else F51l

abbrev pub shortest_string : ℕ → Format
shortest_string string = if nat_lt string 65536 then F21c else F31c

abbrev pub shortest_call : List ℕ → Format
shortest_call words = if fit_nibbles words then F35c else F3rc

abbrev pub shortest_binary : ℕ → ℕ → ℕ → Format
shortest_binary to a b = if nat_eq to a && (nat_lt to 16 && nat_lt b 16) then F12x else F23x

abbrev pub shortest_literal : ℕ → ℕ → ℤ → Format
shortest_literal to a value = if nat_lt to 256 && (nat_lt a 256 && fits_byte value) then F22b else F22s

-- the first spelling that has room; a distance other than 0 is that of a branch
abbrev pub shortest : Insn → ℤ → Format
shortest Nop distance = F10x
shortest (Move slot to from) distance = shortest_move to from
shortest (MoveResult slot to) distance = F11x
shortest (MoveException to) distance = F11x
shortest ReturnVoid distance = F10x
shortest (Return slot from) distance = F11x
shortest (Const to value) distance = shortest_const to value
shortest (ConstWide to value) distance = shortest_wide value
shortest (ConstString to string) distance = shortest_string string
shortest (ConstClass to kind) distance = F21c
shortest (MonitorEnter on) distance = F11x
shortest (MonitorExit on) distance = F11x
shortest (CheckCast on kind) distance = F21c
shortest (InstanceOf to from kind) distance = F22c
shortest (ArrayLength to from) distance = F12x
shortest (NewInstance to kind) distance = F21c
shortest (NewArray to size kind) distance = F22c
shortest (FilledNewArray kind args) distance = shortest_call args
shortest (FillArray on width items) distance = F31t
shortest (Throw on) distance = F11x
shortest (Goto target) distance = shortest_goto distance
shortest (PackedSwitch on first targets) distance = F31t
shortest (SparseSwitch on keys targets) distance = F31t
shortest (Cmp op to a b) distance = F23x
shortest (If test a b target) distance = F22t
shortest (IfZero test a target) distance = F21t
shortest (ArrayGet item to array index) distance = F23x
shortest (ArrayPut item from array index) distance = F23x
shortest (InstanceGet item to on field) distance = F22c
shortest (InstancePut item from on field) distance = F22c
shortest (StaticGet item to field) distance = F21c
shortest (StaticPut item from field) distance = F21c
shortest (Invoke kind method args) distance = shortest_call args
shortest (Unary op to from) distance = F12x
shortest (Binary op to a b) distance = shortest_binary to a b
shortest (Literal op to a value) distance = shortest_literal to a value

abbrev pub units_of : Insn → ℤ → ℕ
units_of insn distance = format_units (shortest insn distance)

-- whether some spelling has room for the registers, the literal, the item width and values and the counts
abbrev pub is_encodable : Insn → Bool
is_encodable Nop = true
is_encodable (Move slot to from) = true
is_encodable (MoveResult slot to) = nat_lt to 256
is_encodable (MoveException to) = nat_lt to 256
is_encodable ReturnVoid = true
is_encodable (Return slot from) = nat_lt from 256
is_encodable (Const to value) = nat_lt to 256
is_encodable (ConstWide to value) = nat_lt to 256
is_encodable (ConstString to string) = nat_lt to 256
is_encodable (ConstClass to kind) = nat_lt to 256
is_encodable (MonitorEnter on) = nat_lt on 256
is_encodable (MonitorExit on) = nat_lt on 256
is_encodable (CheckCast on kind) = nat_lt on 256
is_encodable (InstanceOf to from kind) = nat_lt to 16 && nat_lt from 16
is_encodable (ArrayLength to from) = nat_lt to 16 && nat_lt from 16
is_encodable (NewInstance to kind) = nat_lt to 256
is_encodable (NewArray to size kind) = nat_lt to 16 && nat_lt size 16
is_encodable (FilledNewArray kind args) = fit_call args
is_encodable (FillArray on width items) = nat_lt on 256 && (is_width width && (nat_lt (length items) 4294967296 && list_all (λ item. fits_width width item) items))
is_encodable (Throw on) = nat_lt on 256
is_encodable (Goto target) = true
is_encodable (PackedSwitch on first targets) = nat_lt on 256 && nat_lt (length targets) 65536
is_encodable (SparseSwitch on keys targets) = nat_lt on 256 && (nat_lt (length targets) 65536 && (nat_eq (length keys) (length targets) && keys_ascend keys))
is_encodable (Cmp op to a b) = nat_lt to 256 && (nat_lt a 256 && nat_lt b 256)
is_encodable (If test a b target) = nat_lt a 16 && nat_lt b 16
is_encodable (IfZero test a target) = nat_lt a 256
is_encodable (ArrayGet item to array index) = nat_lt to 256 && (nat_lt array 256 && nat_lt index 256)
is_encodable (ArrayPut item from array index) = nat_lt from 256 && (nat_lt array 256 && nat_lt index 256)
is_encodable (InstanceGet item to on field) = nat_lt to 16 && nat_lt on 16
is_encodable (InstancePut item from on field) = nat_lt from 16 && nat_lt on 16
is_encodable (StaticGet item to field) = nat_lt to 256
is_encodable (StaticPut item from field) = nat_lt from 256
is_encodable (Invoke kind method args) = fit_call args
is_encodable (Unary op to from) = nat_lt to 16 && nat_lt from 16
is_encodable (Binary op to a b) = nat_lt to 256 && (nat_lt a 256 && nat_lt b 256)
is_encodable (Literal op to a value) = (nat_lt to 256 && (nat_lt a 256 && fits_byte value)) || (nat_lt to 16 && (nat_lt a 16 && takes_short op))

-- the same by groups of forms, each of which hands all other forms on: operations on numbers
abbrev pub number_encodable : Insn → Bool
number_encodable (Cmp op to a b) = nat_lt to 256 && (nat_lt a 256 && nat_lt b 256)
number_encodable (If test a b target) = nat_lt a 16 && nat_lt b 16
number_encodable (IfZero test a target) = nat_lt a 256
number_encodable (Unary op to from) = nat_lt to 16 && nat_lt from 16
number_encodable (Binary op to a b) = nat_lt to 256 && (nat_lt a 256 && nat_lt b 256)
number_encodable (Literal op to a value) = (nat_lt to 256 && (nat_lt a 256 && fits_byte value)) || (nat_lt to 16 && (nat_lt a 16 && takes_short op))
number_encodable insn = true

-- arrays and fields
abbrev pub memory_encodable : Insn → Bool
memory_encodable (ArrayLength to from) = nat_lt to 16 && nat_lt from 16
memory_encodable (NewArray to size kind) = nat_lt to 16 && nat_lt size 16
memory_encodable (FillArray on width items) = nat_lt on 256 && (is_width width && (nat_lt (length items) 4294967296 && list_all (λ item. fits_width width item) items))
memory_encodable (ArrayGet item to array index) = nat_lt to 256 && (nat_lt array 256 && nat_lt index 256)
memory_encodable (ArrayPut item from array index) = nat_lt from 256 && (nat_lt array 256 && nat_lt index 256)
memory_encodable (InstanceGet item to on field) = nat_lt to 16 && nat_lt on 16
memory_encodable (InstancePut item from on field) = nat_lt from 16 && nat_lt on 16
memory_encodable (StaticGet item to field) = nat_lt to 256
memory_encodable (StaticPut item from field) = nat_lt from 256
memory_encodable insn = number_encodable insn
