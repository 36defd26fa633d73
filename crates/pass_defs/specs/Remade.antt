-- A form with other registers and targets, and which variant a form is.
use Rattle.std.specs.Prelude.{ℕ, map}
use Rattle.dalvik_defs.specs.declared.forms.Form.{Form}
use Rattle.dalvik_defs.specs.declared.forms.Form.TheVariants as form

-- Each register that is read, each that is written, and each target is replaced. The register of a CheckCast counts as
-- read.
abbrev pub remade : (ℕ → ℕ) → (ℕ → ℕ) → (ℕ → ℕ) → Form → Form
remade r w t form.Nop = form.Nop
remade r w t (form.Move slot to from) = form.Move slot (w to) (r from)
remade r w t (form.MoveResult slot to) = form.MoveResult slot (w to)
remade r w t (form.MoveException to) = form.MoveException (w to)
remade r w t form.ReturnVoid = form.ReturnVoid
remade r w t (form.Return slot from) = form.Return slot (r from)
remade r w t (form.Const to value) = form.Const (w to) value
remade r w t (form.ConstWide to value) = form.ConstWide (w to) value
remade r w t (form.ConstString to string) = form.ConstString (w to) string
remade r w t (form.ConstClass to kind) = form.ConstClass (w to) kind
remade r w t (form.MonitorEnter on) = form.MonitorEnter (r on)
remade r w t (form.MonitorExit on) = form.MonitorExit (r on)
remade r w t (form.CheckCast on kind) = form.CheckCast (r on) kind
remade r w t (form.InstanceOf to from kind) = form.InstanceOf (w to) (r from) kind
remade r w t (form.ArrayLength to from) = form.ArrayLength (w to) (r from)
remade r w t (form.NewInstance to kind) = form.NewInstance (w to) kind
remade r w t (form.NewArray to size kind) = form.NewArray (w to) (r size) kind
remade r w t (form.FilledNewArray kind args) = form.FilledNewArray kind (map r args)
remade r w t (form.FillArray on width items) = form.FillArray (r on) width items
remade r w t (form.Throw on) = form.Throw (r on)
remade r w t (form.Goto target) = form.Goto (t target)
remade r w t (form.PackedSwitch on first targets) = form.PackedSwitch (r on) first (map t targets)
remade r w t (form.SparseSwitch on keys targets) = form.SparseSwitch (r on) keys (map t targets)
remade r w t (form.Cmp op to a b) = form.Cmp op (w to) (r a) (r b)
remade r w t (form.If test a b target) = form.If test (r a) (r b) (t target)
remade r w t (form.IfZero test a target) = form.IfZero test (r a) (t target)
remade r w t (form.ArrayGet item to array index) = form.ArrayGet item (w to) (r array) (r index)
remade r w t (form.ArrayPut item from array index) = form.ArrayPut item (r from) (r array) (r index)
remade r w t (form.InstanceGet item to on field) = form.InstanceGet item (w to) (r on) field
remade r w t (form.InstancePut item from on field) = form.InstancePut item (r from) (r on) field
remade r w t (form.StaticGet item to field) = form.StaticGet item (w to) field
remade r w t (form.StaticPut item from field) = form.StaticPut item (r from) field
remade r w t (form.Invoke kind method args) = form.Invoke kind method (map r args)
remade r w t (form.Unary op to from) = form.Unary op (w to) (r from)
remade r w t (form.Binary op to a b) = form.Binary op (w to) (r a) (r b)
remade r w t (form.Literal op to a value) = form.Literal op (w to) (r a) value

-- the place of the variant among all
abbrev pub variant_of : Form → ℕ
variant_of form.Nop = 0
variant_of (form.Move slot to from) = 1
variant_of (form.MoveResult slot to) = 2
variant_of (form.MoveException to) = 3
variant_of form.ReturnVoid = 4
variant_of (form.Return slot from) = 5
variant_of (form.Const to value) = 6
variant_of (form.ConstWide to value) = 7
variant_of (form.ConstString to string) = 8
variant_of (form.ConstClass to kind) = 9
variant_of (form.MonitorEnter on) = 10
variant_of (form.MonitorExit on) = 11
variant_of (form.CheckCast on kind) = 12
variant_of (form.InstanceOf to from kind) = 13
variant_of (form.ArrayLength to from) = 14
variant_of (form.NewInstance to kind) = 15
variant_of (form.NewArray to size kind) = 16
variant_of (form.FilledNewArray kind args) = 17
variant_of (form.FillArray on width items) = 18
variant_of (form.Throw on) = 19
variant_of (form.Goto target) = 20
variant_of (form.PackedSwitch on first targets) = 21
variant_of (form.SparseSwitch on keys targets) = 22
variant_of (form.Cmp op to a b) = 23
variant_of (form.If test a b target) = 24
variant_of (form.IfZero test a target) = 25
variant_of (form.ArrayGet item to array index) = 26
variant_of (form.ArrayPut item from array index) = 27
variant_of (form.InstanceGet item to on field) = 28
variant_of (form.InstancePut item from on field) = 29
variant_of (form.StaticGet item to field) = 30
variant_of (form.StaticPut item from field) = 31
variant_of (form.Invoke kind method args) = 32
variant_of (form.Unary op to from) = 33
variant_of (form.Binary op to a b) = 34
variant_of (form.Literal op to a value) = 35

-- all targets replaced
abbrev pub retargeted : (ℕ → ℕ) → Form → Form
retargeted t f = remade (λ r. r) (λ r. r) t f
