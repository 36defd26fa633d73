-- Where a form breaks by number, it does by name: at the same register its read is refused, or it is wrong and the register is 0.
use Rattle.std.proofs.Common.{◌≡◌, ℕ, Bool, true, false, true≢false, nat_eq, List, [], ◌∷◌, map, Some, None, ◌⊎◌, inl, inr, refl, sym, ap, ◌∙◌}
use Rattle.std.specs.Prelude.{◌&&◌, ◌||◌, not, codes, if◌then◌else◌}
use Rattle.lemmas.proofs.Bools.{neither_of, not_false, or_left, or_right}
use Rattle.insn_set.specs.Widths.{compares_wide, unary_reads_wide, binary_is_wide, second_is_wide}
use Rattle.insn_set.specs.declared.form.Insn.{Insn}
use Rattle.insn_set.specs.declared.form.Insn.TheVariants as insn
use Rattle.insn_set.specs.declared.ops.Item.{Item}
use Rattle.insn_set.specs.declared.ops.Slot.{Slot}
use Rattle.insn_set.specs.declared.ops.Slot.TheVariants as slot
use Rattle.program_model.specs.OperandRules.{numbers_fit}
use Rattle.program_model.specs.declared.program.Class.{Class}
use Rattle.program_model.specs.declared.program.Method.{Method}
use Rattle.program_model.specs.declared.program.Program.{Program}
use Rattle.dalvik_defs.specs.Names as text
use Rattle.dalvik_defs.specs.Names.{text_eq}
use Rattle.dalvik_defs.specs.Naming.{type_at, field_at, method_at, form_of, named_class, named_method, named}
use Rattle.pass_defs.specs.Demands as asked
use Rattle.pass_defs.specs.Demands.{Demand, Number, ArrayOf}
use Rattle.pass_defs.specs.Kinds as name
use Rattle.pass_defs.specs.Registers as by_name
use Rattle.pass_defs.specs.Typed as typed
use Rattle.verify.specs.declared.setting.Setting.{Setting}
use Rattle.verify.specs.declared.tables.Tables.{Tables}
use Rattle.verify.specs.Demands as demands
use Rattle.verify.specs.Demands.{unless, lower}
use Rattle.verify.specs.Faults.{fault_of}
use Rattle.verify.specs.Fits.{fits_holder}
use Rattle.verify.specs.Frames.{Kinds, kind_at}
use Rattle.verify.specs.Kinds as kinds
use Rattle.verify.specs.Names.{field_kind, field_class}
use Rattle.verify.specs.Reads.{is_of_type, is_holder, is_array_of, is_array_filled, refused_array, refused, found_at}
use Rattle.verify.specs.Supers.{super_search}
use Rattle.verify.specs.Typings.{IsBelow}
use Rattle.verify.specs.Wrong.{is_wrong}
use Rattle.verify.proofs.Holding.{result_below}
use Rattle.verify.proofs.Orders.{made_below}
use Rattle.verify.proofs.Reading.{wrong_on}
use Rattle.type_bridge.specs.Views.{kind_named, kinds_named}
use Rattle.type_bridge.proofs.Back.{numbered}
use Rattle.type_bridge.proofs.BackFrames.{kinds_numbered, low_back, number_back, made_back}
use Rattle.type_bridge.proofs.BackWrong.{right_back}
use Rattle.type_bridge.proofs.Grounds.{IsSet, get_fits, put_fits, static_put_fits, invoke_fits, result_named}
use Rattle.type_bridge.proofs.Members.{field_is, field_kind_is, method_is}
use Rattle.type_bridge.proofs.Unmet.{either_lower, unmet_by, Unmet, one, two, rest, down_number, down_made, down_receiver, down_wide, down_type, down_slot, down_item, down_tested, down_tested_with, down_array, down_filled, down_any_array, down_holder, items_unmet, call_unmet}
use Rattle.type_bridge.proofs.Wrong.{right}

module _ (s : Setting) (c : Class) (m : Method) (i : IsSet s c m) (n : ℕ) (a : Kinds) where
  abbrev p : Program
  p = s.program.now

  abbrev t : Tables
  t = s.tables.now

  abbrev own : name.Kind
  own = name.kind_of (named p) (type_at p c.name)

  abbrev here : by_name.Kinds
  here = kinds_named p own a

  abbrev names : List name.Kind
  names = map (kind_named p) a.registers

  abbrev Wrongly : Insn → Bool
  Wrongly y = typed.is_wrong (named p) (named_class p c) (named_method p m) here (form_of p y)

  -- the read of a register of a form is refused by name
  abbrev Refused : Insn → ℕ → Type 0
  Refused y r = asked.is_refused (named p) (named_class p c) (named_method p m) here (form_of p y) r ≡ true

  module _ (up : IsBelow t a (kinds_numbered p here)) where
    -- ---- places

    result_down : (x : Slot) → asked.result_fits x (kind_named p a.result) ≡ true → demands.is_result x a.result ≡ true
    result_down x e = result_below t x a.result (numbered p (kind_named p a.result)) up.result (by x e)
      where
        by : (x : Slot) → asked.result_fits x (kind_named p a.result) ≡ true → demands.is_result x (numbered p (kind_named p a.result)) ≡ true
        by slot.Word e = number_back p (kind_named p a.result) ∙ e
        by slot.Wide e = low_back p (kind_named p a.result) ∙ e
        by slot.Object e = made_back p (kind_named p a.result) ∙ e

    -- a place that may not be read
    at_place : (test other : Bool) (to r : ℕ) → (other ≡ true → test ≡ true) → unless test to ≡ Some r → ((not other && nat_eq to r) || false) ≡ true
    at_place test other to r f e = or_left (not other && nat_eq to r) false (swaps (nat_eq to r) (not other) (unmet_by test other to r f e))
      where
        swaps : (x y : Bool) → (x && y) ≡ true → (y && x) ≡ true
        swaps true true e = refl
        swaps true false e = absurd (true≢false (sym e))
        swaps false y e = absurd (true≢false (sym e))

    -- ---- arrays

    abbrev array_demands : Item → ℕ → ℕ → List (ℕ × Demand)
    array_demands x array index = (array, ArrayOf x) ∷ (index, Number) ∷ []

    array_unmet : (x : Item) (array index r : ℕ) → refused_array s a.registers x array index ≡ Some r → Unmet s i.told i.resolved c i.class a.registers (array_demands x array index) r
    array_unmet x array index r e = two s i.told i.resolved c i.class a.registers (is_array_of s (kind_at a.registers array) x) (kinds.is_number (kind_at a.registers index)) array index r (ArrayOf x) Number
        (down_array s i.told i.resolved c i.class a.registers up.registers x array)
        (down_number s i.told i.resolved c i.class a.registers up.registers index) e

    put_unmet : (x : Item) (from array index r : ℕ) → lower (unless (demands.is_item x a.registers from) from) (refused_array s a.registers x array index) ≡ Some r → Unmet s i.told i.resolved c i.class a.registers ((from, asked.put_item x) ∷ array_demands x array index) r
    put_unmet x from array index r e = by (either_lower (unless (demands.is_item x a.registers from) from) (refused_array s a.registers x array index) r e)
      where
        by : (unless (demands.is_item x a.registers from) from ≡ Some r) ⊎ (refused_array s a.registers x array index ≡ Some r) → Unmet s i.told i.resolved c i.class a.registers ((from, asked.put_item x) ∷ array_demands x array index) r
        by (inl f) = one s i.told i.resolved c i.class a.registers (demands.is_item x a.registers from) from r (asked.put_item x) (array_demands x array index) (down_item s i.told i.resolved c i.class a.registers up.registers x from) f
        by (inr f) = rest s i.told i.resolved c i.class a.registers (from, asked.put_item x) (array_demands x array index) r (array_unmet x array index r f)

    -- ---- single registers

    single : (test : Bool) (q r : ℕ) (x : Demand) → (asked.meets (named p) (named_class p c) names q x ≡ true → test ≡ true) → unless test q ≡ Some r → Unmet s i.told i.resolved c i.class a.registers ((q, x) ∷ []) r
    single test q r x f e = one s i.told i.resolved c i.class a.registers test q r x [] f e

    pair : (a' b' : Bool) (v w r : ℕ) (x y : Demand) → (asked.meets (named p) (named_class p c) names v x ≡ true → a' ≡ true) → (asked.meets (named p) (named_class p c) names w y ≡ true → b' ≡ true) → lower (unless a' v) (unless b' w) ≡ Some r
        → Unmet s i.told i.resolved c i.class a.registers ((v, x) ∷ (w, y) ∷ []) r
    pair a' b' v w r x y f g e = two s i.told i.resolved c i.class a.registers a' b' v w r x y f g e

    made : (q r : ℕ) → unless (kinds.is_initialised (kind_at a.registers q)) q ≡ Some r → Unmet s i.told i.resolved c i.class a.registers ((q, asked.Initialised) ∷ []) r
    made q r e = single (kinds.is_initialised (kind_at a.registers q)) q r asked.Initialised (down_made s i.told i.resolved c i.class a.registers up.registers q) e

    numeric : (q r : ℕ) → unless (kinds.is_number (kind_at a.registers q)) q ≡ Some r → Unmet s i.told i.resolved c i.class a.registers ((q, Number) ∷ []) r
    numeric q r e = single (kinds.is_number (kind_at a.registers q)) q r Number (down_number s i.told i.resolved c i.class a.registers up.registers q) e

    -- ---- all forms

    pub refused_named : (y : Insn) → numbers_fit y p ≡ true → found_at s n ≡ super_search p s.class y → is_wrong s n a y ≡ false → (r : ℕ) → refused s n a y ≡ Some r → Refused y r
    refused_named (insn.Move x to from) f g w r e = single (demands.is_movable x a.registers from) from r (asked.slot_demand x) (down_slot s i.told i.resolved c i.class a.registers up.registers x from) e
    refused_named (insn.MoveResult x to) f g w r e = at_place (demands.is_result x a.result) (asked.result_fits x (kind_named p a.result)) to r (result_down x) e
    refused_named (insn.MoveException to) f g w r e = at_place (kinds.is_initialised a.caught) (name.is_initialised (kind_named p a.caught)) to r (λ h. made_below t a.caught (numbered p (kind_named p a.caught)) up.caught (made_back p (kind_named p a.caught) ∙ h)) e
    refused_named (insn.Return x from) f g w r e = single (is_of_type s a.registers from s.result) from r (asked.of_type (method_at p m.name).signature.result) (down_type s i.told i.resolved c i.class a.registers up.registers from s.result (method_at p m.name).signature.result (result_named s c m i)) e
    refused_named (insn.MonitorEnter on) f g w r e = made on r e
    refused_named (insn.MonitorExit on) f g w r e = made on r e
    refused_named (insn.CheckCast on type) f g w r e = made on r e
    refused_named (insn.Throw on) f g w r e = made on r e
    refused_named (insn.InstanceOf to from type) f g w r e = made from r e
    refused_named (insn.ArrayLength to from) f g w r e = single (demands.is_any_array (kind_at a.registers from)) from r asked.AnArray (down_any_array s i.told i.resolved c i.class a.registers up.registers from) e
    refused_named (insn.NewArray to size type) f g w r e = numeric size r e
    refused_named (insn.FillArray on width items) f g w r e = single (is_array_filled s (kind_at a.registers on) width) on r (asked.Filled width) (down_filled s i.told i.resolved c i.class a.registers up.registers width on) e
    refused_named (insn.PackedSwitch on first targets) f g w r e = numeric on r e
    refused_named (insn.SparseSwitch on keys targets) f g w r e = numeric on r e
    refused_named (insn.IfZero x q target) f g w r e = single (demands.is_tested x (kind_at a.registers q)) q r (asked.tested (asked.is_equality x)) (down_tested s i.told i.resolved c i.class a.registers up.registers x q) e
    refused_named (insn.Literal op to x value) f g w r e = numeric x r e
    refused_named (insn.Unary op to from) f g w r e = single (demands.is_number_or_pair (unary_reads_wide op) a.registers from) from r (asked.number_or_pair (unary_reads_wide op)) (down_wide s i.told i.resolved c i.class a.registers up.registers (unary_reads_wide op) from) e
    refused_named (insn.InstanceGet x to on field) f g w r e =
        let k = field_is p t i.told field (get_fits p x to on field f) in
        single (fits_holder t (kind_at a.registers on) (field_class p field)) on r (asked.Receiver (field_at p field).class) (down_receiver s i.told i.resolved c i.class a.registers up.registers on field k) e
    refused_named (insn.StaticPut x from field) f g w r e =
        let k = field_is p t i.told field (static_put_fits p x from field f) in
        single (is_of_type s a.registers from (field_kind p field)) from r (asked.of_type (field_at p field).kind) (down_type s i.told i.resolved c i.class a.registers up.registers from (field_kind p field) (field_at p field).kind (field_kind_is p t i.told field k)) e
    refused_named (insn.Cmp op to x y) f g w r e = pair (demands.is_number_or_pair (compares_wide op) a.registers x) (demands.is_number_or_pair (compares_wide op) a.registers y) x y r (asked.number_or_pair (compares_wide op)) (asked.number_or_pair (compares_wide op))
        (down_wide s i.told i.resolved c i.class a.registers up.registers (compares_wide op) x) (down_wide s i.told i.resolved c i.class a.registers up.registers (compares_wide op) y) e
    refused_named (insn.If z x y target) f g w r e = pair (demands.is_tested z (kind_at a.registers x)) (demands.is_tested_with z (kind_at a.registers x) (kind_at a.registers y)) x y r (asked.tested (asked.is_equality z)) (asked.second_tested (asked.is_equality z) (by_name.kind_at names x))
        (down_tested s i.told i.resolved c i.class a.registers up.registers z x) (down_tested_with s i.told i.resolved c i.class a.registers up.registers z x y) e
    refused_named (insn.Binary op to x y) f g w r e = pair (demands.is_number_or_pair (binary_is_wide op) a.registers x) (demands.is_number_or_pair (second_is_wide op) a.registers y) x y r (asked.number_or_pair (binary_is_wide op)) (asked.number_or_pair (second_is_wide op))
        (down_wide s i.told i.resolved c i.class a.registers up.registers (binary_is_wide op) x) (down_wide s i.told i.resolved c i.class a.registers up.registers (second_is_wide op) y) e
    refused_named (insn.ArrayGet x to array index) f g w r e = array_unmet x array index r e
    refused_named (insn.ArrayPut x from array index) f g w r e = put_unmet x from array index r e
    refused_named (insn.InstancePut x from on field) f g w r e =
        let k = field_is p t i.told field (put_fits p x from on field f) in
        pair (is_of_type s a.registers from (field_kind p field)) (is_holder s (kind_at a.registers on) field) from on r (asked.of_type (field_at p field).kind) (asked.Holder (field_at p field))
        (down_type s i.told i.resolved c i.class a.registers up.registers from (field_kind p field) (field_at p field).kind (field_kind_is p t i.told field k))
        (down_holder s i.told i.resolved c i.class a.registers up.registers field on k) e
    refused_named (insn.FilledNewArray type args) f g w r e =
        let v : typed.wrong_filled (type_at p type) ≡ false = right s c m i n a (insn.FilledNewArray type args) f g w in
        let u : text.is_array (type_at p type) ≡ true = not_false (text.is_array (type_at p type)) (neither_of (not (text.is_array (type_at p type))) (not (text_eq (text.item_of (type_at p type)) (codes "I") || text.is_reference (text.item_of (type_at p type)))) v).0 in
        last (items_unmet s i.told i.resolved c i.class a.registers up.registers None type args r u e)
      where
        Items : Type 0
        Items = Unmet s i.told i.resolved c i.class a.registers (map (λ r. (r, asked.Fits (text.item_of (type_at p type)))) args) r

        last : (None ≡ Some r) ⊎ Items → Items
        last (inl e) = absurd (cc)
        last (inr e) = e
    refused_named (insn.Invoke k q args) f g w r e = call_unmet s i.told i.resolved c i.class a.registers up.registers i.kind i.superclass n q (method_is p t i.told q (invoke_fits p k q args f)) k args r g e
    refused_named y f g w r e = absurd (cc)

    -- a position that is wrong by number is so by name
    pub wrong_named : (y : Insn) → numbers_fit y p ≡ true → found_at s n ≡ super_search p s.class y → is_wrong s n a y ≡ true → Wrongly y ≡ true
    wrong_named y f g e = by (Wrongly y) refl
      where
        by : (b : Bool) → Wrongly y ≡ b → b ≡ true
        by true h = refl
        by false h = absurd (true≢false (sym e ∙ wrong_on s i.told.meets a (kinds_numbered p here) up n y (right_back s c m i n here y f g h)))

    pub fault_named : (y : Insn) → numbers_fit y p ≡ true → found_at s n ≡ super_search p s.class y → (r : ℕ) → fault_of s n a y ≡ Some r
        → (asked.is_refused (named p) (named_class p c) (named_method p m) here (form_of p y) r || (Wrongly y && nat_eq r 0)) ≡ true
    fault_named y f g r e = by (is_wrong s n a y) refl e
      where
        refusal : Bool
        refusal = asked.is_refused (named p) (named_class p c) (named_method p m) here (form_of p y) r

        by : (b : Bool) → is_wrong s n a y ≡ b → (if b then Some 0 else refused s n a y) ≡ Some r → (refusal || (Wrongly y && nat_eq r 0)) ≡ true
        by true h e =
            let z : 0 ≡ r = cc in
            or_right refusal (Wrongly y && nat_eq r 0) (ap (λ b. b && nat_eq r 0) (wrong_named y f g h) ∙ ap (λ r. nat_eq r 0) (sym z))
        by false h e = or_left refusal (Wrongly y && nat_eq r 0) (refused_named y f g h r e)
