-- The registers that a form reads and writes (Dalvik bytecode, "Summary of bytecode set").
use Rattle.std.specs.Prelude.{ℕ, ◌+◌, Bool, true, false, ◌||◌, nat_eq}
use Rattle.std.specs.List.{list_any}
use Rattle.insn_set.specs.Widths.{is_wide_slot, is_wide_item, compares_wide, unary_reads_wide, unary_writes_wide, binary_is_wide, second_is_wide}
use Rattle.insn_set.specs.declared.form.Insn.{Insn}
use Rattle.insn_set.specs.declared.form.Insn.TheVariants.{Move, MoveResult, MoveException, Return, Const, ConstWide, ConstString, ConstClass, MonitorEnter, MonitorExit, CheckCast, InstanceOf, ArrayLength, NewInstance, NewArray, FilledNewArray, FillArray, Throw, PackedSwitch, SparseSwitch, Cmp, If, IfZero, ArrayGet, ArrayPut, InstanceGet, InstancePut, StaticGet, StaticPut, Invoke, Unary, Binary, Literal}

-- whether register r is that of an operand, or the second one of a wide operand
abbrev pub in_operand : Bool → ℕ → ℕ → Bool
in_operand false at r = nat_eq r at
in_operand true at r = nat_eq r at || nat_eq r (at + 1)

abbrev pub reads_of : Insn → ℕ → Bool
reads_of (Move slot to from) r = in_operand (is_wide_slot slot) from r
reads_of (Return slot from) r = in_operand (is_wide_slot slot) from r
reads_of (MonitorEnter on) r = nat_eq r on
reads_of (MonitorExit on) r = nat_eq r on
reads_of (CheckCast on kind) r = nat_eq r on
reads_of (InstanceOf to from kind) r = nat_eq r from
reads_of (ArrayLength to from) r = nat_eq r from
reads_of (NewArray to size kind) r = nat_eq r size
reads_of (FilledNewArray kind args) r = list_any (λ a. nat_eq a r) args
reads_of (FillArray on width items) r = nat_eq r on
reads_of (Throw on) r = nat_eq r on
reads_of (PackedSwitch on first targets) r = nat_eq r on
reads_of (SparseSwitch on keys targets) r = nat_eq r on
reads_of (Cmp op to a b) r = in_operand (compares_wide op) a r || in_operand (compares_wide op) b r
reads_of (If test a b target) r = nat_eq r a || nat_eq r b
reads_of (IfZero test a target) r = nat_eq r a
reads_of (ArrayGet item to array index) r = nat_eq r array || nat_eq r index
reads_of (ArrayPut item from array index) r = in_operand (is_wide_item item) from r || nat_eq r array || nat_eq r index
reads_of (InstanceGet item to on field) r = nat_eq r on
reads_of (InstancePut item from on field) r = in_operand (is_wide_item item) from r || nat_eq r on
reads_of (StaticPut item from field) r = in_operand (is_wide_item item) from r
reads_of (Invoke kind method args) r = list_any (λ a. nat_eq a r) args
reads_of (Unary op to from) r = in_operand (unary_reads_wide op) from r
reads_of (Binary op to a b) r = in_operand (binary_is_wide op) a r || in_operand (second_is_wide op) b r
reads_of (Literal op to a value) r = nat_eq r a
reads_of insn r = false

-- the same by groups of forms, each of which hands all other forms on: operations on numbers
abbrev pub number_reads : Insn → ℕ → Bool
number_reads (Cmp op to a b) r = in_operand (compares_wide op) a r || in_operand (compares_wide op) b r
number_reads (If test a b target) r = nat_eq r a || nat_eq r b
number_reads (IfZero test a target) r = nat_eq r a
number_reads (Unary op to from) r = in_operand (unary_reads_wide op) from r
number_reads (Binary op to a b) r = in_operand (binary_is_wide op) a r || in_operand (second_is_wide op) b r
number_reads (Literal op to a value) r = nat_eq r a
number_reads insn r = false

-- arrays and fields
abbrev pub memory_reads : Insn → ℕ → Bool
memory_reads (ArrayLength to from) r = nat_eq r from
memory_reads (NewArray to size kind) r = nat_eq r size
memory_reads (FillArray on width items) r = nat_eq r on
memory_reads (ArrayGet item to array index) r = nat_eq r array || nat_eq r index
memory_reads (ArrayPut item from array index) r = in_operand (is_wide_item item) from r || nat_eq r array || nat_eq r index
memory_reads (InstanceGet item to on field) r = nat_eq r on
memory_reads (InstancePut item from on field) r = in_operand (is_wide_item item) from r || nat_eq r on
memory_reads (StaticPut item from field) r = in_operand (is_wide_item item) from r
memory_reads insn r = number_reads insn r

abbrev pub writes_of : Insn → ℕ → Bool
writes_of (Move slot to from) r = in_operand (is_wide_slot slot) to r
writes_of (MoveResult slot to) r = in_operand (is_wide_slot slot) to r
writes_of (MoveException to) r = nat_eq r to
writes_of (Const to value) r = nat_eq r to
writes_of (ConstWide to value) r = in_operand true to r
writes_of (ConstString to string) r = nat_eq r to
writes_of (ConstClass to kind) r = nat_eq r to
writes_of (InstanceOf to from kind) r = nat_eq r to
writes_of (ArrayLength to from) r = nat_eq r to
writes_of (NewInstance to kind) r = nat_eq r to
writes_of (NewArray to size kind) r = nat_eq r to
writes_of (Cmp op to a b) r = nat_eq r to
writes_of (ArrayGet item to array index) r = in_operand (is_wide_item item) to r
writes_of (InstanceGet item to on field) r = in_operand (is_wide_item item) to r
writes_of (StaticGet item to field) r = in_operand (is_wide_item item) to r
writes_of (Unary op to from) r = in_operand (unary_writes_wide op) to r
writes_of (Binary op to a b) r = in_operand (binary_is_wide op) to r
writes_of (Literal op to a value) r = nat_eq r to
writes_of insn r = false
