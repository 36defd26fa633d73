-- What a form leaves in the registers, by numbers (Dalvik bytecode, "Summary of bytecode set").
use Rattle.std.specs.Prelude.{ℕ, ℤ, pos, List, [], ◌∷◌, if◌then◌else◌}
use Rattle.std.specs.Ordering.{int_eq}
use Rattle.insn_set.specs.declared.form.Insn.{Insn}
use Rattle.insn_set.specs.declared.form.Insn.TheVariants as insn
use Rattle.insn_set.specs.declared.ops.Slot.{Slot}
use Rattle.insn_set.specs.declared.ops.Slot.TheVariants as slot
use Rattle.insn_set.specs.declared.ops.InvokeKind.{InvokeKind}
use Rattle.insn_set.specs.declared.ops.InvokeKind.TheVariants as call
use Rattle.insn_set.specs.declared.ops.Item.{Item}
use Rattle.insn_set.specs.declared.ops.Item.TheVariants as item
use Rattle.insn_set.specs.Widths.{is_wide_item, unary_writes_wide, binary_is_wide}
use Rattle.program_model.specs.declared.program.Program.{Program}
use Rattle.verify.specs.declared.kinds.Kind.{Kind}
use Rattle.verify.specs.declared.kinds.Kind.TheVariants as kind
use Rattle.verify.specs.declared.tables.Tables.{Tables}
use Rattle.verify.specs.Kinds.{number_kind}
use Rattle.verify.specs.Frames.{Kinds, kind_at, written, replace, forget}
use Rattle.verify.specs.Types.{kind_of, cast_kind, kind_of_item, is_constructor}
use Rattle.verify.specs.Names.{field_kind, result_of}

abbrev pub constant_kind : ℤ → Kind
constant_kind z = if int_eq z (pos 0) then kind.Zero else kind.Word

abbrev pub moved : Slot → Kind → Kind
moved slot.Wide k = kind.WideLow
moved s k = k

abbrev pub got_object : Tables → Kind → Kind
got_object t (kind.Array n i) = kind_of_item t n i
got_object t k = kind.Null

-- an object that is got from null is null
abbrev pub got : Tables → Item → Kind → Kind
got t item.Object k = got_object t k
got t i k = number_kind (is_wide_item i)

-- a constructor makes an object initialised, in every register; the method's class has this type number
abbrev pub constructed : Tables → ℕ → Kind → Kinds → Kinds
constructed t class (kind.Fresh c n) a = replace (kind.Fresh c n) (kind_of t c) a
constructed t class kind.FreshThis a = replace kind.FreshThis (kind_of t class) a
constructed t class k a = a

abbrev pub receiver_register : List ℕ → ℕ
receiver_register [] = 0
receiver_register (r ∷ rs) = r

abbrev pub begun_call : Tables → ℕ → ℕ → List ℕ → Kinds → Kinds
begun_call t class m rs a = if is_constructor t m then constructed t class (kind_at a.registers (receiver_register rs)) a else a

abbrev pub called : Program → Tables → ℕ → ℕ → List ℕ → Kinds → Kinds
called p t class m rs a = record (begun_call t class m rs a) { result = kind_of t (result_of p m) }

-- a static call has no receiver, whatever its name
abbrev pub called_by : InvokeKind → Program → Tables → ℕ → ℕ → List ℕ → Kinds → Kinds
called_by call.Static p t class m rs a = record a { result = kind_of t (result_of p m) }
called_by k p t class m rs a = called p t class m rs a

-- the forms that write what a type says
abbrev pub after_typed : Program → Tables → ℕ → ℕ → Insn → Kinds → Kinds
after_typed p t class n (insn.CheckCast on type) a = written on (cast_kind t type) a
after_typed p t class n (insn.NewInstance to type) a = written to (kind.Fresh type n) (forget n a)
after_typed p t class n (insn.NewArray to size type) a = written to (kind_of t type) a
after_typed p t class n (insn.FilledNewArray type args) a = record a { result = kind_of t type }
after_typed p t class n (insn.ArrayGet i to array index) a = written to (got t i (kind_at a.registers array)) a
after_typed p t class n (insn.InstanceGet i to on field) a = written to (kind_of t (field_kind p field)) a
after_typed p t class n (insn.StaticGet i to field) a = written to (kind_of t (field_kind p field)) a
after_typed p t class n (insn.Invoke k method args) a = called_by k p t class method args a
after_typed p t class n i a = a

abbrev pub after : Program → Tables → ℕ → ℕ → Insn → Kinds → Kinds
after p t class n (insn.Move s to from) a = written to (moved s (kind_at a.registers from)) a
after p t class n (insn.MoveResult s to) a = written to a.result a
after p t class n (insn.MoveException to) a = written to a.caught a
after p t class n (insn.Const to value) a = written to (constant_kind value) a
after p t class n (insn.ConstWide to value) a = written to kind.WideLow a
after p t class n (insn.ConstString to string) a = written to kind.Reference a
after p t class n (insn.ConstClass to type) a = written to kind.Reference a
after p t class n (insn.InstanceOf to from type) a = written to kind.Word a
after p t class n (insn.ArrayLength to from) a = written to kind.Word a
after p t class n (insn.Cmp op to x y) a = written to kind.Word a
after p t class n (insn.Literal op to x value) a = written to kind.Word a
after p t class n (insn.Unary op to from) a = written to (number_kind (unary_writes_wide op)) a
after p t class n (insn.Binary op to x y) a = written to (number_kind (binary_is_wide op)) a
after p t class n i a = after_typed p t class n i a
