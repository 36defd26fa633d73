-- Where a form can go on, and whether it may throw (Dalvik bytecode, "Summary of bytecode set").
use Rattle.std.specs.Prelude.{ℕ, Bool, true, false, List, [], ◌∷◌}
use Rattle.insn_set.specs.declared.ops.BinaryOp.{BinaryOp}
use Rattle.insn_set.specs.declared.ops.BinaryOp.TheVariants as binary
use Rattle.insn_set.specs.declared.ops.LiteralOp.{LiteralOp}
use Rattle.insn_set.specs.declared.ops.LiteralOp.TheVariants as literal
use Rattle.insn_set.specs.declared.form.Insn.{Insn}
use Rattle.insn_set.specs.declared.form.Insn.TheVariants.{ReturnVoid, Return, MonitorEnter, MonitorExit, CheckCast, ArrayLength, NewInstance, NewArray, FillArray, Throw, Goto, PackedSwitch, SparseSwitch, If, IfZero, ArrayGet, ArrayPut, InstanceGet, InstancePut, StaticGet, StaticPut, Invoke, Binary, Literal}

-- divisions and remainders of int and long
abbrev pub divides : BinaryOp → Bool
divides binary.DivInt = true
divides binary.RemInt = true
divides binary.DivLong = true
divides binary.RemLong = true
divides op = false

abbrev pub divides_by_literal : LiteralOp → Bool
divides_by_literal literal.DivInt = true
divides_by_literal literal.RemInt = true
divides_by_literal op = false

-- whether some value of the operands makes the form throw
abbrev pub throws : Insn → Bool
throws (MonitorEnter on) = true
throws (MonitorExit on) = true
throws (CheckCast on kind) = true
throws (ArrayLength to from) = true
throws (NewInstance to kind) = true
throws (NewArray to size kind) = true
throws (FillArray on width items) = true
throws (Throw on) = true
throws (ArrayGet item to array index) = true
throws (ArrayPut item from array index) = true
throws (InstanceGet item to on field) = true
throws (InstancePut item from on field) = true
throws (StaticGet item to field) = true
throws (StaticPut item from field) = true
throws (Invoke kind method args) = true
throws (Binary op to a b) = divides op
throws (Literal op to a value) = divides_by_literal op
throws insn = false

-- whether the next position can follow
abbrev pub goes_on : Insn → Bool
goes_on ReturnVoid = false
goes_on (Return slot from) = false
goes_on (Throw on) = false
goes_on (Goto target) = false
goes_on insn = true

-- the positions that a branch can go to, in the order of its table
abbrev pub targets_of : Insn → List ℕ
targets_of (Goto target) = target ∷ []
targets_of (If test a b target) = target ∷ []
targets_of (IfZero test a target) = target ∷ []
targets_of (PackedSwitch on first targets) = targets
targets_of (SparseSwitch on keys targets) = targets
targets_of insn = []
