-- A form whose reads are allowed by name has them allowed.
use Rattle.std.proofs.Common.{◌≡◌, ℕ, Bool, true, false, List, None, refl, ◌∙◌}
use Rattle.std.specs.Prelude.{◌&&◌, ◌||◌, not, codes}
use Rattle.lemmas.proofs.Bools.{neither_of, not_false}
use Rattle.class_defs.proofs.WellFormed.{and_left, and_right}
use Rattle.insn_set.specs.Widths.{compares_wide, unary_reads_wide, binary_is_wide, second_is_wide}
use Rattle.insn_set.specs.declared.form.Insn.{Insn}
use Rattle.insn_set.specs.declared.form.Insn.TheVariants as insn
use Rattle.insn_set.specs.declared.ops.Item.{Item}
use Rattle.insn_set.specs.declared.ops.Slot.{Slot}
use Rattle.insn_set.specs.declared.ops.Slot.TheVariants as slot
use Rattle.program_model.specs.OperandRules.{numbers_fit}
use Rattle.program_model.specs.declared.program.Class.{Class}
use Rattle.program_model.specs.declared.program.Method.{Method}
use Rattle.program_model.specs.declared.program.Program.{Program}
use Rattle.dalvik_defs.specs.Names as text
use Rattle.dalvik_defs.specs.Names.{text_eq}
use Rattle.dalvik_defs.specs.Naming.{type_at, field_at, method_at, form_of, named_class, named_method, named}
use Rattle.pass_defs.specs.Registers as by_name
use Rattle.pass_defs.specs.Demands as asked
use Rattle.pass_defs.specs.Demands.{Demand, Number, ArrayOf, is_allowed}
use Rattle.pass_defs.specs.Typed as typed
use Rattle.verify.specs.declared.kinds.Kind as number
use Rattle.verify.specs.declared.setting.Setting.{Setting}
use Rattle.verify.specs.Demands as demands
use Rattle.verify.specs.Demands.{unless, lower}
use Rattle.verify.specs.Fits.{fits_holder}
use Rattle.verify.specs.Frames.{kind_at}
use Rattle.verify.specs.Kinds as kinds
use Rattle.verify.specs.Names.{field_kind, field_class}
use Rattle.verify.specs.Reads.{is_of_type, is_holder, is_array_of, is_array_filled, refused_array, refused, found_at}
use Rattle.verify.specs.Supers.{super_search}
use Rattle.type_bridge.proofs.Back.{numbered}
use Rattle.type_bridge.proofs.BackFrames.{kinds_numbered, low_back, number_back, made_back}
use Rattle.type_bridge.proofs.BackReads.{unless_none, lower_none, met_number, met_made, met_receiver, met_wide, met_type, met_slot, met_item, met_tested, met_tested_with, met_array, met_filled, met_any_array, met_holder, items_none, call_none}
use Rattle.type_bridge.proofs.Grounds.{IsSet, get_fits, put_fits, static_put_fits, invoke_fits, result_named}
use Rattle.type_bridge.proofs.Members.{field_is, field_kind_is, method_is}

module _ (s : Setting) (c : Class) (m : Method) (i : IsSet s c m) (n : ℕ) (a : by_name.Kinds) where
  abbrev p : Program
  p = s.program.now

  abbrev registers : List number.Kind
  registers = (kinds_numbered p a).registers

  abbrev Allowed : Insn → Type 0
  Allowed x = is_allowed (named p) (named_class p c) (named_method p m) a (form_of p x) ≡ true

  abbrev meets : ℕ → Demand → Bool
  meets r x = asked.meets (named p) (named_class p c) a.registers r x

  result_back : (x : Slot) → asked.result_fits x a.result ≡ true → demands.is_result x (numbered p a.result) ≡ true
  result_back slot.Word e = number_back p a.result ∙ e
  result_back slot.Wide e = low_back p a.result ∙ e
  result_back slot.Object e = made_back p a.result ∙ e

  -- one register that may be read
  one : (b : Bool) (r : ℕ) → b ≡ true → unless b r ≡ None
  one b r e = unless_none b r e

  -- two of them
  two : (x y : Bool) (q r : ℕ) → x ≡ true → y ≡ true → lower (unless x q) (unless y r) ≡ None
  two x y q r e f = lower_none (unless x q) (unless y r) (unless_none x q e) (unless_none y r f)

  array_two : (x : Item) (array index : ℕ) → (meets array (ArrayOf x) && (meets index Number && true)) ≡ true → refused_array s registers x array index ≡ None
  array_two x array index e = two (is_array_of s (kind_at registers array) x) (kinds.is_number (kind_at registers index)) array index
      (met_array s i.told i.resolved c i.class a.registers x array (and_left (meets array (ArrayOf x)) (meets index Number && true) e))
      (met_number s i.told i.resolved c i.class a.registers index (and_left (meets index Number) true (and_right (meets array (ArrayOf x)) (meets index Number && true) e)))

  pub reads_back : (x : Insn) → numbers_fit x p ≡ true → found_at s n ≡ super_search p s.class x → typed.is_wrong (named p) (named_class p c) (named_method p m) a (form_of p x) ≡ false → Allowed x → refused s n (kinds_numbered p a) x ≡ None
  reads_back insn.Nop f g w e = refl
  reads_back (insn.Move x to from) f g w e = one (demands.is_movable x registers from) from (met_slot s i.told i.resolved c i.class a.registers x from (and_left (meets from (asked.slot_demand x)) true e))
  reads_back (insn.MoveResult x to) f g w e = one (demands.is_result x (numbered p a.result)) to (result_back x (and_left (asked.result_fits x a.result) true e))
  reads_back (insn.MoveException to) f g w e = one (kinds.is_initialised (numbered p a.caught)) to (made_back p a.caught ∙ and_left _ true e)
  reads_back insn.ReturnVoid f g w e = refl
  reads_back (insn.Return x from) f g w e = one (is_of_type s registers from s.result) from (met_type s i.told i.resolved c i.class a.registers from s.result (method_at p m.name).signature.result (result_named s c m i) (and_left (meets from (asked.of_type (method_at p m.name).signature.result)) true e))
  reads_back (insn.Const to value) f g w e = refl
  reads_back (insn.ConstWide to value) f g w e = refl
  reads_back (insn.ConstString to string) f g w e = refl
  reads_back (insn.ConstClass to type) f g w e = refl
  reads_back (insn.MonitorEnter on) f g w e = one (kinds.is_initialised (kind_at registers on)) on (met_made s i.told i.resolved c i.class a.registers on (and_left (meets on asked.Initialised) true e))
  reads_back (insn.MonitorExit on) f g w e = one (kinds.is_initialised (kind_at registers on)) on (met_made s i.told i.resolved c i.class a.registers on (and_left (meets on asked.Initialised) true e))
  reads_back (insn.CheckCast on type) f g w e = one (kinds.is_initialised (kind_at registers on)) on (met_made s i.told i.resolved c i.class a.registers on (and_left (meets on asked.Initialised) true e))
  reads_back (insn.InstanceOf to from type) f g w e = one (kinds.is_initialised (kind_at registers from)) from (met_made s i.told i.resolved c i.class a.registers from (and_left (meets from asked.Initialised) true e))
  reads_back (insn.ArrayLength to from) f g w e = one (demands.is_any_array (kind_at registers from)) from (met_any_array s i.told i.resolved c i.class a.registers from (and_left (meets from asked.AnArray) true e))
  reads_back (insn.NewInstance to type) f g w e = refl
  reads_back (insn.NewArray to size type) f g w e = one (kinds.is_number (kind_at registers size)) size (met_number s i.told i.resolved c i.class a.registers size (and_left (meets size Number) true e))
  reads_back (insn.FilledNewArray type args) f g w e = items_none s i.told i.resolved c i.class a.registers i.kind i.superclass None type args (not_false (text.is_array (type_at p type)) (neither_of (not (text.is_array (type_at p type))) (not (text_eq (text.item_of (type_at p type)) (codes "I") || text.is_reference (text.item_of (type_at p type)))) w).0) refl e
  reads_back (insn.FillArray on width items) f g w e = one (is_array_filled s (kind_at registers on) width) on (met_filled s i.told i.resolved c i.class a.registers width on (and_left (meets on (asked.Filled width)) true e))
  reads_back (insn.Throw on) f g w e = one (kinds.is_initialised (kind_at registers on)) on (met_made s i.told i.resolved c i.class a.registers on (and_left (meets on asked.Initialised) true e))
  reads_back (insn.Goto target) f g w e = refl
  reads_back (insn.PackedSwitch on first targets) f g w e = one (kinds.is_number (kind_at registers on)) on (met_number s i.told i.resolved c i.class a.registers on (and_left (meets on Number) true e))
  reads_back (insn.SparseSwitch on keys targets) f g w e = one (kinds.is_number (kind_at registers on)) on (met_number s i.told i.resolved c i.class a.registers on (and_left (meets on Number) true e))
  reads_back (insn.Cmp op to x y) f g w e =
      let one = meets x (asked.number_or_pair (compares_wide op)) in
      let other = meets y (asked.number_or_pair (compares_wide op)) in
      two (demands.is_number_or_pair (compares_wide op) registers x) (demands.is_number_or_pair (compares_wide op) registers y) x y
      (met_wide s i.told i.resolved c i.class a.registers (compares_wide op) x (and_left one (other && true) e))
      (met_wide s i.told i.resolved c i.class a.registers (compares_wide op) y (and_left other true (and_right one (other && true) e)))
  reads_back (insn.If t x y target) f g w e =
      let one = meets x (asked.tested (asked.is_equality t)) in
      let other = meets y (asked.second_tested (asked.is_equality t) (by_name.kind_at a.registers x)) in
      two (demands.is_tested t (kind_at registers x)) (demands.is_tested_with t (kind_at registers x) (kind_at registers y)) x y
      (met_tested s i.told i.resolved c i.class a.registers t x (and_left one (other && true) e))
      (met_tested_with s i.told i.resolved c i.class a.registers t x y (and_left other true (and_right one (other && true) e)))
  reads_back (insn.IfZero t x target) f g w e = one (demands.is_tested t (kind_at registers x)) x (met_tested s i.told i.resolved c i.class a.registers t x (and_left (meets x (asked.tested (asked.is_equality t))) true e))
  reads_back (insn.ArrayGet x to array index) f g w e = array_two x array index e
  reads_back (insn.ArrayPut x from array index) f g w e =
      let first = meets from (asked.put_item x) in
      let rest = meets array (ArrayOf x) && (meets index Number && true) in
      lower_none (unless (demands.is_item x registers from) from) (refused_array s registers x array index)
      (unless_none (demands.is_item x registers from) from (met_item s i.told i.resolved c i.class a.registers x from (and_left first rest e)))
      (array_two x array index (and_right first rest e))
  reads_back (insn.InstanceGet x to on field) f g w e =
      let k = field_is p s.tables.now i.told field (get_fits p x to on field f) in
      one (fits_holder s.tables.now (kind_at registers on) (field_class p field)) on (met_receiver s i.told i.resolved c i.class a.registers on field k (and_left (meets on (asked.Receiver (field_at p field).class)) true e))
  reads_back (insn.InstancePut x from on field) f g w e =
      let k = field_is p s.tables.now i.told field (put_fits p x from on field f) in
      let first = meets from (asked.of_type (field_at p field).kind) in
      let other = meets on (asked.Holder (field_at p field)) in
      two (is_of_type s registers from (field_kind p field)) (is_holder s (kind_at registers on) field) from on
      (met_type s i.told i.resolved c i.class a.registers from (field_kind p field) (field_at p field).kind (field_kind_is p s.tables.now i.told field k) (and_left first (other && true) e))
      (met_holder s i.told i.resolved c i.class a.registers field on k (and_left other true (and_right first (other && true) e)))
  reads_back (insn.StaticGet x to field) f g w e = refl
  reads_back (insn.StaticPut x from field) f g w e =
      let k = field_is p s.tables.now i.told field (static_put_fits p x from field f) in
      one (is_of_type s registers from (field_kind p field)) from (met_type s i.told i.resolved c i.class a.registers from (field_kind p field) (field_at p field).kind (field_kind_is p s.tables.now i.told field k) (and_left (meets from (asked.of_type (field_at p field).kind)) true e))
  reads_back (insn.Invoke k method args) f g w e =
      call_none s i.told i.resolved c i.class a.registers i.kind i.superclass n method (method_is p s.tables.now i.told method (invoke_fits p k method args f)) k args g e
  reads_back (insn.Unary op to from) f g w e = one (demands.is_number_or_pair (unary_reads_wide op) registers from) from (met_wide s i.told i.resolved c i.class a.registers (unary_reads_wide op) from (and_left (meets from (asked.number_or_pair (unary_reads_wide op))) true e))
  reads_back (insn.Binary op to x y) f g w e =
      let one = meets x (asked.number_or_pair (binary_is_wide op)) in
      let other = meets y (asked.number_or_pair (second_is_wide op)) in
      two (demands.is_number_or_pair (binary_is_wide op) registers x) (demands.is_number_or_pair (second_is_wide op) registers y) x y
      (met_wide s i.told i.resolved c i.class a.registers (binary_is_wide op) x (and_left one (other && true) e))
      (met_wide s i.told i.resolved c i.class a.registers (second_is_wide op) y (and_left other true (and_right one (other && true) e)))
  reads_back (insn.Literal op to x value) f g w e = one (kinds.is_number (kind_at registers x)) x (met_number s i.told i.resolved c i.class a.registers x (and_left (meets x Number) true e))
