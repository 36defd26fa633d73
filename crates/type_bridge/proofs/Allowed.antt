-- A form whose reads are allowed has them allowed by name.
use Rattle.std.proofs.Common.{◌≡◌, ℕ, true, None, refl, ap, ◌∙◌}
use Rattle.std.specs.Prelude.{◌&&◌}
use Rattle.insn_set.specs.Widths.{compares_wide, unary_reads_wide, binary_is_wide, second_is_wide}
use Rattle.insn_set.specs.declared.form.Insn.{Insn}
use Rattle.insn_set.specs.declared.form.Insn.TheVariants as insn
use Rattle.insn_set.specs.declared.ops.Item.{Item}
use Rattle.insn_set.specs.declared.ops.Slot.{Slot}
use Rattle.insn_set.specs.declared.ops.Slot.TheVariants as slot
use Rattle.program_model.specs.OperandRules.{numbers_fit}
use Rattle.program_model.specs.declared.program.Class.{Class}
use Rattle.program_model.specs.declared.program.Method.{Method}
use Rattle.dalvik_defs.specs.Naming.{field_at, method_at, form_of, named_class, named_method, named}
use Rattle.pass_defs.specs.Kinds as name
use Rattle.pass_defs.specs.Kinds.{kind_eq}
use Rattle.pass_defs.specs.Demands as asked
use Rattle.pass_defs.specs.Demands.{is_allowed}
use Rattle.verify.specs.declared.setting.Setting.{Setting}
use Rattle.verify.specs.Demands as demands
use Rattle.verify.specs.Demands.{unless, lower}
use Rattle.verify.specs.Frames.{Kinds, kind_at}
use Rattle.verify.specs.Kinds as kinds
use Rattle.verify.specs.Names.{field_kind}
use Rattle.verify.specs.Reads.{is_of_type, is_holder, is_array_of, refused_array, refused, found_at}
use Rattle.verify.specs.Supers.{super_search}
use Rattle.verify.proofs.Reading.{unless_true, lower_left, lower_right}
use Rattle.type_bridge.specs.Views.{kind_named, kinds_named}
use Rattle.type_bridge.proofs.Frames.{low_test}
use Rattle.type_bridge.proofs.Fits.{number_named}
use Rattle.type_bridge.proofs.Order.{made_named}
use Rattle.type_bridge.proofs.Members.{field_is, field_kind_is, method_is}
use Rattle.type_bridge.proofs.Asked.{one_of, two_of, three_of, meets_number, meets_made, meets_receiver, meets_wide, meets_type, meets_slot, meets_item, meets_tested, meets_tested_with, meets_array, meets_filled, meets_any_array, meets_holder, call_all, items_all}
use Rattle.type_bridge.proofs.Grounds.{IsSet, get_fits, put_fits, static_put_fits, invoke_fits, result_named}

module _ (s : Setting) (c : Class) (m : Method) (i : IsSet s c m) (made : name.Kind) (n : ℕ) (a : Kinds) where
  -- what a body asks of all registers
  abbrev Allowed : Insn → Type 0
  Allowed x = is_allowed (named s.program.now) (named_class s.program.now c) (named_method s.program.now m) (kinds_named s.program.now made a) (form_of s.program.now x) ≡ true

  result_fits : (x : Slot) → demands.is_result x a.result ≡ true → asked.result_fits x (kind_named s.program.now a.result) ≡ true
  result_fits slot.Word e = number_named s.program.now s.tables.now i.told a.result e
  result_fits slot.Wide e = low_test s.program.now a.result ∙ e
  result_fits slot.Object e = made_named s.program.now s.tables.now i.told a.result e

  array_two : (x : Item) (array index : ℕ) → refused_array s a.registers x array index ≡ None → (is_array_of s (kind_at a.registers array) x ≡ true) × (kinds.is_number (kind_at a.registers index) ≡ true)
  array_two x array index e = (
    unless_true _ array (lower_left (unless (is_array_of s (kind_at a.registers array) x) array) (unless (kinds.is_number (kind_at a.registers index)) index) e),
    unless_true _ index (lower_right (unless (is_array_of s (kind_at a.registers array) x) array) (unless (kinds.is_number (kind_at a.registers index)) index) e),
  )

  pub allowed : (x : Insn) → numbers_fit x s.program.now ≡ true → found_at s n ≡ super_search s.program.now s.class x → refused s n a x ≡ None → Allowed x
  allowed insn.Nop f g e = refl
  allowed (insn.Move x to from) f g e = one_of _ (meets_slot s i.told i.resolved c i.class a.registers x from (unless_true _ from e))
  allowed (insn.MoveResult x to) f g e = ap (λ b. b && true) (result_fits x (unless_true _ to e))
  allowed (insn.MoveException to) f g e = ap (λ b. b && true) (made_named s.program.now s.tables.now i.told a.caught (unless_true _ to e))
  allowed insn.ReturnVoid f g e = refl
  allowed (insn.Return x from) f g e = one_of _ (meets_type s i.told i.resolved c i.class a.registers from s.result (method_at s.program.now m.name).signature.result (result_named s c m i) (unless_true _ from e))
  allowed (insn.Const to value) f g e = refl
  allowed (insn.ConstWide to value) f g e = refl
  allowed (insn.ConstString to string) f g e = refl
  allowed (insn.ConstClass to type) f g e = refl
  allowed (insn.MonitorEnter on) f g e = one_of _ (meets_made s i.told i.resolved c i.class a.registers on (unless_true _ on e))
  allowed (insn.MonitorExit on) f g e = one_of _ (meets_made s i.told i.resolved c i.class a.registers on (unless_true _ on e))
  allowed (insn.CheckCast on type) f g e = one_of _ (meets_made s i.told i.resolved c i.class a.registers on (unless_true _ on e))
  allowed (insn.InstanceOf to from type) f g e = one_of _ (meets_made s i.told i.resolved c i.class a.registers from (unless_true _ from e))
  allowed (insn.ArrayLength to from) f g e = one_of _ (meets_any_array s i.told i.resolved c i.class a.registers from (unless_true _ from e))
  allowed (insn.NewInstance to type) f g e = refl
  allowed (insn.NewArray to size type) f g e = one_of _ (meets_number s i.told i.resolved c i.class a.registers size (unless_true _ size e))
  allowed (insn.FilledNewArray type args) f g e = items_all s i.told i.resolved c i.class a.registers i.kind i.superclass None type args e
  allowed (insn.FillArray on width items) f g e = one_of _ (meets_filled s i.told i.resolved c i.class a.registers width on (unless_true _ on e))
  allowed (insn.Throw on) f g e = one_of _ (meets_made s i.told i.resolved c i.class a.registers on (unless_true _ on e))
  allowed (insn.Goto target) f g e = refl
  allowed (insn.PackedSwitch on first targets) f g e = one_of _ (meets_number s i.told i.resolved c i.class a.registers on (unless_true _ on e))
  allowed (insn.SparseSwitch on keys targets) f g e = one_of _ (meets_number s i.told i.resolved c i.class a.registers on (unless_true _ on e))
  allowed (insn.Cmp op to x y) f g e = two_of _ _
      (meets_wide s i.told i.resolved c i.class a.registers (compares_wide op) x (unless_true _ x (lower_left (unless (demands.is_number_or_pair (compares_wide op) a.registers x) x) (unless (demands.is_number_or_pair (compares_wide op) a.registers y) y) e)))
      (meets_wide s i.told i.resolved c i.class a.registers (compares_wide op) y (unless_true _ y (lower_right (unless (demands.is_number_or_pair (compares_wide op) a.registers x) x) (unless (demands.is_number_or_pair (compares_wide op) a.registers y) y) e)))
  allowed (insn.If t x y target) f g e = two_of _ _
      (meets_tested s i.told i.resolved c i.class a.registers t x (unless_true _ x (lower_left (unless (demands.is_tested t (kind_at a.registers x)) x) (unless (demands.is_tested_with t (kind_at a.registers x) (kind_at a.registers y)) y) e)))
      (meets_tested_with s i.told i.resolved c i.class a.registers t x y (unless_true _ y (lower_right (unless (demands.is_tested t (kind_at a.registers x)) x) (unless (demands.is_tested_with t (kind_at a.registers x) (kind_at a.registers y)) y) e)))
  allowed (insn.IfZero t x target) f g e = one_of _ (meets_tested s i.told i.resolved c i.class a.registers t x (unless_true _ x e))
  allowed (insn.ArrayGet x to array index) f g e = let r = array_two x array index e in two_of _ _
      (meets_array s i.told i.resolved c i.class a.registers x array r.0)
      (meets_number s i.told i.resolved c i.class a.registers index r.1)
  allowed (insn.ArrayPut x from array index) f g e =
      let r = array_two x array index (lower_right (unless (demands.is_item x a.registers from) from) (refused_array s a.registers x array index) e) in
      three_of _ _ _
      (meets_item s i.told i.resolved c i.class a.registers x from (unless_true _ from (lower_left (unless (demands.is_item x a.registers from) from) (refused_array s a.registers x array index) e)))
      (meets_array s i.told i.resolved c i.class a.registers x array r.0)
      (meets_number s i.told i.resolved c i.class a.registers index r.1)
  allowed (insn.InstanceGet x to on field) f g e =
      let k = field_is s.program.now s.tables.now i.told field (get_fits s.program.now x to on field f) in
      one_of _ (meets_receiver s i.told i.resolved c i.class a.registers on field k (unless_true _ on e))
  allowed (insn.InstancePut x from on field) f g e =
      let k = field_is s.program.now s.tables.now i.told field (put_fits s.program.now x from on field f) in
      let one = unless (is_of_type s a.registers from (field_kind s.program.now field)) from in
      let two = unless (is_holder s (kind_at a.registers on) field) on in
      two_of _ _
      (meets_type s i.told i.resolved c i.class a.registers from (field_kind s.program.now field) (field_at s.program.now field).kind (field_kind_is s.program.now s.tables.now i.told field k) (unless_true _ from (lower_left one two e)))
      (meets_holder s i.told i.resolved c i.class a.registers field on k (unless_true _ on (lower_right one two e)))
  allowed (insn.StaticGet x to field) f g e = refl
  allowed (insn.StaticPut x from field) f g e =
      let k = field_is s.program.now s.tables.now i.told field (static_put_fits s.program.now x from field f) in
      one_of _ (meets_type s i.told i.resolved c i.class a.registers from (field_kind s.program.now field) (field_at s.program.now field).kind (field_kind_is s.program.now s.tables.now i.told field k) (unless_true _ from e))
  allowed (insn.Invoke k method args) f g e =
      call_all s i.told i.resolved c i.class a.registers i.kind i.superclass n method (method_is s.program.now s.tables.now i.told method (invoke_fits s.program.now k method args f)) k args g e
  allowed (insn.Unary op to from) f g e = one_of _ (meets_wide s i.told i.resolved c i.class a.registers (unary_reads_wide op) from (unless_true _ from e))
  allowed (insn.Binary op to x y) f g e = two_of _ _
      (meets_wide s i.told i.resolved c i.class a.registers (binary_is_wide op) x (unless_true _ x (lower_left (unless (demands.is_number_or_pair (binary_is_wide op) a.registers x) x) (unless (demands.is_number_or_pair (second_is_wide op) a.registers y) y) e)))
      (meets_wide s i.told i.resolved c i.class a.registers (second_is_wide op) y (unless_true _ y (lower_right (unless (demands.is_number_or_pair (binary_is_wide op) a.registers x) x) (unless (demands.is_number_or_pair (second_is_wide op) a.registers y) y) e)))
  allowed (insn.Literal op to x value) f g e = one_of _ (meets_number s i.told i.resolved c i.class a.registers x (unless_true _ x e))
