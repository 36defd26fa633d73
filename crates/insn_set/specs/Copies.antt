-- The groups in which forms are copied, the last one first. Each definition says which forms are left behind a group: those
-- of the next group, and those that are left behind that one.
use Rattle.std.specs.Prelude.{Bool, true, false}
use Rattle.insn_set.specs.declared.form.Insn.{Insn}
use Rattle.insn_set.specs.declared.form.Insn.TheVariants.{MonitorEnter, MonitorExit, CheckCast, InstanceOf, ArrayLength, NewInstance, NewArray, FilledNewArray, FillArray, Throw, Goto, PackedSwitch, SparseSwitch, Cmp, If, IfZero, ArrayGet, ArrayPut, InstanceGet, InstancePut, StaticGet, StaticPut, Invoke, Unary, Binary, Literal}

-- behind branches: operations on numbers
abbrev pub after_branches : Insn → Bool
after_branches (Cmp op to a b) = true
after_branches (Unary op to from) = true
after_branches (Binary op to a b) = true
after_branches (Literal op to a value) = true
after_branches insn = false

-- behind fields: branches and switches
abbrev pub after_fields : Insn → Bool
after_fields (Goto target) = true
after_fields (PackedSwitch on first targets) = true
after_fields (SparseSwitch on keys targets) = true
after_fields (If test a b target) = true
after_fields (IfZero test a target) = true
after_fields insn = after_branches insn

-- behind arrays: fields
abbrev pub after_arrays : Insn → Bool
after_arrays (InstanceGet item to on field) = true
after_arrays (InstancePut item from on field) = true
after_arrays (StaticGet item to field) = true
after_arrays (StaticPut item from field) = true
after_arrays insn = after_fields insn

-- behind objects and calls: arrays
abbrev pub after_objects : Insn → Bool
after_objects (NewArray to size kind) = true
after_objects (FillArray on width items) = true
after_objects (ArrayGet item to array index) = true
after_objects (ArrayPut item from array index) = true
after_objects insn = after_arrays insn

-- behind moves and constants: objects and calls
abbrev pub after_constants : Insn → Bool
after_constants (MonitorEnter on) = true
after_constants (MonitorExit on) = true
after_constants (CheckCast on kind) = true
after_constants (InstanceOf to from kind) = true
after_constants (ArrayLength to from) = true
after_constants (NewInstance to kind) = true
after_constants (FilledNewArray kind args) = true
after_constants (Throw on) = true
after_constants (Invoke kind method args) = true
after_constants insn = after_objects insn
