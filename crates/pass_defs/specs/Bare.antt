-- A form without its names: what it reads, writes, throws and how it is spelled depends on no name (Dalvik bytecode,
-- "Summary of bytecode set"). Where a name has a number, 0 stands for it.
use Rattle.std.specs.Prelude.{ℕ, Bool, List}
use Rattle.insn_set.specs.declared.form.Insn.{Insn}
use Rattle.insn_set.specs.declared.form.Insn.TheVariants as insn
use Rattle.insn_set.specs.Registers.{reads_of, writes_of}
use Rattle.insn_set.specs.Flow.{throws, goes_on, targets_of}
use Rattle.dalvik_defs.specs.declared.forms.Form.{Form}
use Rattle.dalvik_defs.specs.declared.forms.Form.TheVariants as form

abbrev pub bare : Form → Insn
bare form.Nop = insn.Nop
bare (form.Move slot to from) = insn.Move slot to from
bare (form.MoveResult slot to) = insn.MoveResult slot to
bare (form.MoveException to) = insn.MoveException to
bare form.ReturnVoid = insn.ReturnVoid
bare (form.Return slot from) = insn.Return slot from
bare (form.Const to value) = insn.Const to value
bare (form.ConstWide to value) = insn.ConstWide to value
bare (form.ConstString to string) = insn.ConstString to 0
bare (form.ConstClass to kind) = insn.ConstClass to 0
bare (form.MonitorEnter on) = insn.MonitorEnter on
bare (form.MonitorExit on) = insn.MonitorExit on
bare (form.CheckCast on kind) = insn.CheckCast on 0
bare (form.InstanceOf to from kind) = insn.InstanceOf to from 0
bare (form.ArrayLength to from) = insn.ArrayLength to from
bare (form.NewInstance to kind) = insn.NewInstance to 0
bare (form.NewArray to size kind) = insn.NewArray to size 0
bare (form.FilledNewArray kind args) = insn.FilledNewArray 0 args
bare (form.FillArray on width items) = insn.FillArray on width items
bare (form.Throw on) = insn.Throw on
bare (form.Goto target) = insn.Goto target
bare (form.PackedSwitch on first targets) = insn.PackedSwitch on first targets
bare (form.SparseSwitch on keys targets) = insn.SparseSwitch on keys targets
bare (form.Cmp op to a b) = insn.Cmp op to a b
bare (form.If test a b target) = insn.If test a b target
bare (form.IfZero test a target) = insn.IfZero test a target
bare (form.ArrayGet item to array index) = insn.ArrayGet item to array index
bare (form.ArrayPut item from array index) = insn.ArrayPut item from array index
bare (form.InstanceGet item to on field) = insn.InstanceGet item to on 0
bare (form.InstancePut item from on field) = insn.InstancePut item from on 0
bare (form.StaticGet item to field) = insn.StaticGet item to 0
bare (form.StaticPut item from field) = insn.StaticPut item from 0
bare (form.Invoke kind method args) = insn.Invoke kind 0 args
bare (form.Unary op to from) = insn.Unary op to from
bare (form.Binary op to a b) = insn.Binary op to a b
bare (form.Literal op to a value) = insn.Literal op to a value

abbrev pub reads : Form → ℕ → Bool
reads f r = reads_of (bare f) r

abbrev pub writes : Form → ℕ → Bool
writes f r = writes_of (bare f) r

-- whether some operands make it throw
abbrev pub may_throw : Form → Bool
may_throw f = throws (bare f)

-- whether the next position can follow, and the targets
abbrev pub continues : Form → Bool
continues f = goes_on (bare f)

abbrev pub targets : Form → List ℕ
targets f = targets_of (bare f)
