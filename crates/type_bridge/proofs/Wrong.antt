-- A position that isn't wrong isn't wrong by name.
use Rattle.std.proofs.Common.{◌≡◌, ℕ, zero, suc, ◌+◌, ◌<◌, Bool, true, false, true≢false, nat_eq, List, [], ◌∷◌, length, Option, Some, None, refl, sym, ap, ◌∙◌}
use Rattle.std.specs.Prelude.{◌&&◌, ◌||◌, not, slice_get, option_and_then, codes, if◌then◌else◌}
use Rattle.std.specs.Option.{option_map}
use Rattle.std.proofs.Math.Nat.{add_comm}
use Rattle.lemmas.proofs.Bools.{neither_of, none_or, not_false}
use Rattle.class_defs.specs.Finding as finding
use Rattle.insn_set.specs.declared.form.Insn.{Insn}
use Rattle.insn_set.specs.declared.form.Insn.TheVariants as insn
use Rattle.insn_set.specs.declared.ops.InvokeKind.{InvokeKind}
use Rattle.insn_set.specs.declared.ops.InvokeKind.TheVariants as call
use Rattle.insn_set.specs.declared.ops.Item.{Item}
use Rattle.insn_set.specs.declared.ops.Item.TheVariants as item
use Rattle.insn_set.specs.declared.ops.Slot.{Slot}
use Rattle.insn_set.specs.declared.ops.Slot.TheVariants as slot
use Rattle.program_model.specs.MemberRules.{has_flag}
use Rattle.program_model.specs.OperandRules.{numbers_fit}
use Rattle.program_model.specs.declared.program.Class.{Class}
use Rattle.program_model.specs.declared.program.Method.{Method}
use Rattle.program_model.specs.declared.program.Program.{Program}
use Rattle.dalvik_defs.specs.Flags as remainder
use Rattle.dalvik_defs.specs.Names as text
use Rattle.dalvik_defs.specs.Names.{Text, text_eq}
use Rattle.dalvik_defs.specs.Naming.{type_at, field_at, method_at, form_of, named_class, named_method, named}
use Rattle.dalvik_defs.specs.Under as under
use Rattle.name_bridge.proofs.Flags.{interface_flag, abstract_flag}
use Rattle.name_bridge.specs.Named.{class_at}
use Rattle.pass_defs.specs.Kinds as name
use Rattle.pass_defs.specs.Kinds.{kind_eq}
use Rattle.pass_defs.specs.Demands as asked
use Rattle.pass_defs.specs.Typed as typed
use Rattle.verify.specs.declared.setting.Setting.{Setting}
use Rattle.verify.specs.declared.shapes.Shape.{Shape}
use Rattle.verify.specs.declared.shapes.Shape.TheVariants as shape
use Rattle.verify.specs.Descriptors.{class_named}
use Rattle.verify.specs.Fits.{is_fillable_item, is_fillable_shape}
use Rattle.verify.specs.Frames.{Kinds}
use Rattle.verify.specs.Kinds.{is_initialised}
use Rattle.verify.specs.Names.{field_kind}
use Rattle.verify.specs.Reads.{found_at}
use Rattle.verify.specs.Shapes as shapes
use Rattle.verify.specs.Supers as supers
use Rattle.verify.specs.Supers.{super_search}
use Rattle.verify.specs.Types.{shape_of, item_shape, proto_words, is_constructor}
use Rattle.verify.specs.Wrong.{differ, static_field, static_method, wrong_item, wrong_access, begins_as_text_or_type, wrong_first, is_static_call, finds_static, wrong_super, parameter_words, passed_words, wrong_call, is_unmade, wrong_instance, wrong_result, ends_early, is_wrong}
use Rattle.type_bridge.specs.Views.{receiver_named, kinds_named}
use Rattle.type_bridge.proofs.Texts.{Sorts, sorts, item_sorts, class_by_text, is_int}
use Rattle.type_bridge.proofs.Order.{same_kind}
use Rattle.type_bridge.proofs.Frames.{made_receiver}
use Rattle.type_bridge.proofs.Fits.{no_array, array_text}
use Rattle.type_bridge.proofs.Members.{FieldIs, field_is, field_kind_is, field_flags, field_begins, MethodIs, method_is, constructor_is, method_flags, signature_is, found_same}
use Rattle.type_bridge.proofs.Grounds.{IsSet, filled_type_fits, get_fits, put_fits, static_get_fits, static_put_fits, invoke_fits, constructs_is, result_named, result_small}
use Rattle.type_bridge.proofs.Spelled.{void_text, int_array, words_are}

-- what is wrong with an item's or a result's width goes by its type's sort
pub item_same : (i : Item) (p : Program) (u : Text) (s : Shape) → Sorts p u s → wrong_item i s ≡ typed.wrong_item i u
item_same item.Wide p u s h = ap not (sym h.wide)
item_same item.Object p u s h = ap not (sym h.reference)
item_same item.Plain p u s h = ap (λ b. b || shapes.is_reference s) (sym h.wide) ∙ ap (λ b. text.is_wide u || b) (sym h.reference)
item_same item.Boolean p u s h = ap (λ b. b || shapes.is_reference s) (sym h.wide) ∙ ap (λ b. text.is_wide u || b) (sym h.reference)
item_same item.Byte p u s h = ap (λ b. b || shapes.is_reference s) (sym h.wide) ∙ ap (λ b. text.is_wide u || b) (sym h.reference)
item_same item.Char p u s h = ap (λ b. b || shapes.is_reference s) (sym h.wide) ∙ ap (λ b. text.is_wide u || b) (sym h.reference)
item_same item.Short p u s h = ap (λ b. b || shapes.is_reference s) (sym h.wide) ∙ ap (λ b. text.is_wide u || b) (sym h.reference)

pub result_same : (x : Slot) (p : Program) (u : Text) (s : Shape) → Sorts p u s → wrong_result x s ≡ typed.wrong_return x u
result_same slot.Word p u s h = ap not (sym h.word)
result_same slot.Wide p u s h = ap not (sym h.wide)
result_same slot.Object p u s h = ap not (sym h.reference)

class_letter : (u : Text) → text.is_reference u ≡ true → text.is_array u ≡ false → text.is_class_type u ≡ true
class_letter [] e f = absurd (true≢false (sym e))
class_letter (u ∷ us) e f = by (nat_eq u 76) (nat_eq u 91) e f
  where
    by : (a b : Bool) → (a || b) ≡ true → b ≡ false → a ≡ true
    by true b e f = refl
    by false b e f = absurd (true≢false (sym e ∙ f))

pub static_same : (k : InvokeKind) → is_static_call k ≡ typed.is_static_call k
static_same call.Static = refl
static_same call.Virtual = refl
static_same call.Super = refl
static_same call.Direct = refl
static_same call.Interface = refl

module _ (s : Setting) (c : Class) (m : Method) (i : IsSet s c m) (n : ℕ) (a : Kinds) where
  abbrev made : name.Kind
  made = name.kind_of (named s.program.now) (type_at s.program.now c.name)

  abbrev Right : Insn → Type 0
  Right x = typed.is_wrong (named s.program.now) (named_class s.program.now c) (named_method s.program.now m) (kinds_named s.program.now made a) (form_of s.program.now x) ≡ false

  early : ends_early s a ≡ false → typed.ends_early (named s.program.now) (named_class s.program.now c) (named_method s.program.now m) (kinds_named s.program.now made a) ≡ false
  early e = by (typed.is_constructor (named_method s.program.now m)) (ap (λ b. b && not (is_initialised a.receiver)) (sym (constructs_is s c m i)) ∙ e)
    where
      by : (b : Bool) → (b && not (is_initialised a.receiver)) ≡ false → (b && not (kind_eq (receiver_named made a.receiver) made)) ≡ false
      by false e = refl
      by true e = ap (λ k. not (kind_eq k made)) (made_receiver s.program.now s.tables.now i.told made a.receiver (not_false (is_initialised a.receiver) e)) ∙ ap not (same_kind made)

  void_result : shapes.is_void (shape_of s.tables.now s.result) ≡ true → text.is_void (method_at s.program.now m.name).signature.result ≡ true
  void_result e = ap text.is_void (sym (result_named s c m i)) ∙ void_text s.program.now s.tables.now i.told s.result (result_small s c m i) e

  pub access_same : (static : Bool) (x : Item) (f : ℕ) → FieldIs s.program.now s.tables.now i.told f
      → (typed.wrong_item x (field_at s.program.now f).kind || typed.wrong_field (named s.program.now) static (field_at s.program.now f)) ≡ wrong_access s static x f
  access_same static x f e =
      ap (λ b. typed.wrong_item x (field_at s.program.now f).kind || b) (sym (field_flags s i.told i.resolved static f e))
      ∙ ap (λ u. typed.wrong_item x u || differ static (static_field s f)) (sym (field_kind_is s.program.now s.tables.now i.told f e))
      ∙ ap (λ b. b || differ static (static_field s f)) (sym (item_same x s.program.now (type_at s.program.now (field_kind s.program.now f)) (shape_of s.tables.now (field_kind s.program.now f)) (sorts s.program.now s.tables.now i.told (field_kind s.program.now f))))

  access : (static : Bool) (x : Item) (f : ℕ) → FieldIs s.program.now s.tables.now i.told f → wrong_access s static x f ≡ false
      → (typed.wrong_item x (field_at s.program.now f).kind || typed.wrong_field (named s.program.now) static (field_at s.program.now f)) ≡ false
  access static x f e h = access_same static x f e ∙ h

  pub first_same : (f : ℕ) → FieldIs s.program.now s.tables.now i.told f → typed.wrong_first (named s.program.now) (field_at s.program.now f) ≡ wrong_first s f
  first_same f e =
      let k = field_kind s.program.now f in
      let w = sorts s.program.now s.tables.now i.told k in
      ap (λ b. (text.is_array (field_at s.program.now f).kind || name.is_plain (named s.program.now) (field_at s.program.now f).kind) && b) (sym (field_begins s i.told i.resolved f e))
      ∙ ap (λ u. (text.is_array u || name.is_plain (named s.program.now) u) && begins_as_text_or_type s f) (sym (field_kind_is s.program.now s.tables.now i.told f e))
      ∙ ap (λ b. (b || name.is_plain (named s.program.now) (type_at s.program.now k)) && begins_as_text_or_type s f) w.array
      ∙ ap (λ b. (shapes.is_array (shape_of s.tables.now k) || b) && begins_as_text_or_type s f) w.plain

  pub static_get_same : (x : Item) (f : ℕ) → FieldIs s.program.now s.tables.now i.told f
      → (typed.wrong_item x (field_at s.program.now f).kind || typed.wrong_field (named s.program.now) true (field_at s.program.now f) || typed.wrong_first (named s.program.now) (field_at s.program.now f))
      ≡ (wrong_access s true x f || wrong_first s f)
  static_get_same x f e =
      ap (λ b. b || typed.wrong_first (named s.program.now) (field_at s.program.now f)) (access_same true x f e)
      ∙ ap (λ b. wrong_access s true x f || b) (first_same f e)

  -- ---- new objects

  pub unmade : (o : Option Class) → is_unmade o ≡ elim (option_map (named_class s.program.now) o) as (λ o. Bool) [ Some c ↦ remainder.is_abstract c.flags || remainder.is_interface c.flags | None ↦ false ]
  unmade None = refl
  unmade (Some k) = ap (λ b. b || has_flag k.flags 512) (abstract_flag k.flags) ∙ ap (λ b. remainder.is_abstract k.flags.0 || b) (interface_flag k.flags)

  instance_of : (k : ℕ) (x : Shape) → Sorts s.program.now (type_at s.program.now k) x → wrong_instance s x ≡ false → typed.wrong_instance (named s.program.now) (type_at s.program.now k) ≡ false
  instance_of k (shape.Class o plain) h e =
      let letter = class_letter (type_at s.program.now k) h.reference h.array in
      none_or (not (text.is_class_type (type_at s.program.now k))) (elim (under.class_named (named s.program.now) (type_at s.program.now k)) as (λ o. Bool) [ Some c ↦ remainder.is_abstract c.flags || remainder.is_interface c.flags | None ↦ false ])
      (ap not letter)
      (ap (λ o. elim o as (λ o. Bool) [ Some c ↦ remainder.is_abstract c.flags || remainder.is_interface c.flags | None ↦ false ]) (class_by_text s.program.now i.told.well (type_at s.program.now k)) ∙ by o plain h letter e)
    where
      by : (o : Option ℕ) (plain : Bool) → Sorts s.program.now (type_at s.program.now k) (shape.Class o plain) → text.is_class_type (type_at s.program.now k) ≡ true → wrong_instance s (shape.Class o plain) ≡ false
          → elim (option_and_then (class_at s.program.now) (class_named s.program.now (type_at s.program.now k))) as (λ o. Bool) [ Some c ↦ remainder.is_abstract c.flags || remainder.is_interface c.flags | None ↦ false ] ≡ false
      by None plain h letter e = ap (λ o. elim (option_and_then (class_at s.program.now) o) as (λ o. Bool) [ Some c ↦ remainder.is_abstract c.flags || remainder.is_interface c.flags | None ↦ false ]) (h.unplaced refl letter)
      by (Some q) plain h letter e = ap (λ o. elim (option_and_then (class_at s.program.now) o) as (λ o. Bool) [ Some c ↦ remainder.is_abstract c.flags || remainder.is_interface c.flags | None ↦ false ]) (h.placed q refl)
          ∙ sym (unmade (slice_get s.program.now.classes q)) ∙ e
  instance_of k shape.Void h e = absurd (true≢false e)
  instance_of k shape.Int h e = absurd (true≢false e)
  instance_of k (shape.Word w) h e = absurd (true≢false e)
  instance_of k shape.Wide h e = absurd (true≢false e)
  instance_of k (shape.Array x y) h e = absurd (true≢false e)

  -- ---- filled arrays

  fillable_reference : (x : Shape) → is_fillable_item x ≡ true → (is_int x || shapes.is_reference x) ≡ true
  fillable_reference shape.Int e = refl
  fillable_reference (shape.Class o plain) e = refl
  fillable_reference x e = absurd (true≢false (sym e))

  filled_item : (k j : ℕ) → k < length s.program.now.types → Sorts s.program.now (type_at s.program.now k) (shape.Array 1 j) → (is_int (item_shape s.tables.now (Some j)) || shapes.is_reference (item_shape s.tables.now (Some j))) ≡ true
      → (text_eq (text.item_of (type_at s.program.now k)) (codes "I") || text.is_reference (text.item_of (type_at s.program.now k))) ≡ true
  filled_item k j h x e = by (is_int (item_shape s.tables.now (Some j))) refl e
    where
      second : (a b : Bool) → b ≡ true → (a || b) ≡ true
      second true b e = refl
      second false b e = e

      by : (b : Bool) → is_int (item_shape s.tables.now (Some j)) ≡ b → (b || shapes.is_reference (item_shape s.tables.now (Some j))) ≡ true → (text_eq (text.item_of (type_at s.program.now k)) (codes "I") || text.is_reference (text.item_of (type_at s.program.now k))) ≡ true
      by true f e = ap (λ b. b || text.is_reference (text.item_of (type_at s.program.now k))) (int_array s.program.now s.tables.now i.told k j h x f)
      by false f e = second (text_eq (text.item_of (type_at s.program.now k)) (codes "I")) (text.is_reference (text.item_of (type_at s.program.now k)))
          (ap (λ u. text.is_reference (text.item_of u)) (array_text s.program.now s.tables.now i.told (type_at s.program.now k) 1 j x) ∙ (item_sorts s.program.now s.tables.now i.told (Some j)).reference ∙ e)

  filled_of : (k : ℕ) (x : Shape) → k < length s.program.now.types → Sorts s.program.now (type_at s.program.now k) x → is_fillable_shape s.tables.now x ≡ true → typed.wrong_filled (type_at s.program.now k) ≡ false
  filled_of k x h y e = none_or (not (text.is_array (type_at s.program.now k))) (not (text_eq (text.item_of (type_at s.program.now k)) (codes "I") || text.is_reference (text.item_of (type_at s.program.now k))))
      (ap not (y.array ∙ arrays x e)) (ap not (items x y e))
    where
      arrays : (x : Shape) → is_fillable_shape s.tables.now x ≡ true → shapes.is_array x ≡ true
      arrays (shape.Array q j) e = refl
      arrays x e = absurd (true≢false (sym e))

      second : (a b : Bool) → b ≡ true → (a || b) ≡ true
      second true b e = refl
      second false b e = e

      items : (x : Shape) → Sorts s.program.now (type_at s.program.now k) x → is_fillable_shape s.tables.now x ≡ true → (text_eq (text.item_of (type_at s.program.now k)) (codes "I") || text.is_reference (text.item_of (type_at s.program.now k))) ≡ true
      items (shape.Array zero j) y e = second (text_eq (text.item_of (type_at s.program.now k)) (codes "I")) (text.is_reference (text.item_of (type_at s.program.now k))) (absurd (no_array s.program.now s.tables.now i.told (type_at s.program.now k) j y))
      items (shape.Array (suc zero) j) y e = filled_item k j h y (fillable_reference (item_shape s.tables.now (Some j)) e)
      items (shape.Array (suc (suc q)) j) y e = second (text_eq (text.item_of (type_at s.program.now k)) (codes "I")) (text.is_reference (text.item_of (type_at s.program.now k))) (ap (λ u. text.is_reference (text.item_of u)) (array_text s.program.now s.tables.now i.told (type_at s.program.now k) (suc (suc q)) j y))
      items x y e = absurd (true≢false (sym e))

  -- ---- calls

  words_same : (q : ℕ) (e : MethodIs s.program.now s.tables.now i.told q) → parameter_words s q ≡ typed.words_of (method_at s.program.now q).signature.parameters
  words_same q e =
      ap (λ o. elim o as (λ o. ℕ) [ Some n ↦ proto_words s.tables.now n.proto | None ↦ 0 ]) e.is
      ∙ i.told.says.words e.entry.proto e.proto e.is_proto
      ∙ words_are s.program.now s.tables.now i.told e.entry.proto e.proto e.is_proto
      ∙ sym (ap (λ x. typed.words_of x.parameters) (signature_is s.program.now s.tables.now i.told q e))

  passed_same : (k : InvokeKind) (q : ℕ) → MethodIs s.program.now s.tables.now i.told q → passed_words s k q ≡ typed.passed_words k (method_at s.program.now q)
  passed_same k q e =
      ap (λ n. n + (if is_static_call k then 0 else 1)) (words_same q e)
      ∙ ap (λ b. typed.words_of (method_at s.program.now q).signature.parameters + (if b then 0 else 1)) (static_same k)
      ∙ add_comm (typed.words_of (method_at s.program.now q).signature.parameters) (if typed.is_static_call k then 0 else 1)

  super_same : (k : InvokeKind) (q : ℕ) (args : List ℕ) → MethodIs s.program.now s.tables.now i.told q → found_at s n ≡ supers.called_by_kind s.program.now s.class k q → wrong_super s n k q ≡ typed.wrong_super (named s.program.now) (named_class s.program.now c) k (method_at s.program.now q)
  super_same call.Super q args e f =
      ap (λ x. is_constructor s.tables.now q || finds_static x) f
      ∙ ap (λ b. b || finds_static (supers.said s.program.now (finding.finds_super s.program.now s.class q))) (constructor_is s.program.now s.tables.now i.told q e)
      ∙ ap (λ b. asked.is_constructor_name (method_at s.program.now q).name || b) (found_same s i.told i.resolved c i.class q e).static
  super_same call.Virtual q args e f = refl
  super_same call.Direct q args e f = refl
  super_same call.Static q args e f = refl
  super_same call.Interface q args e f = refl

  pub call_same : (k : InvokeKind) (q : ℕ) (args : List ℕ) → MethodIs s.program.now s.tables.now i.told q → found_at s n ≡ supers.called_by_kind s.program.now s.class k q → wrong_call s n k q (length args)
      ≡ (typed.wrong_method (named s.program.now) k (method_at s.program.now q) || typed.wrong_super (named s.program.now) (named_class s.program.now c) k (method_at s.program.now q) || not (nat_eq (length args) (typed.passed_words k (method_at s.program.now q))))
  call_same k q args e f =
      ap (λ b. differ b (static_method s q) || wrong_super s n k q || not (nat_eq (length args) (passed_words s k q))) (static_same k)
      ∙ ap (λ b. b || wrong_super s n k q || not (nat_eq (length args) (passed_words s k q))) (method_flags s i.told i.resolved (typed.is_static_call k) q e)
      ∙ ap (λ b. typed.wrong_method (named s.program.now) k (method_at s.program.now q) || b || not (nat_eq (length args) (passed_words s k q))) (super_same k q args e f)
      ∙ ap (λ x. typed.wrong_method (named s.program.now) k (method_at s.program.now q) || typed.wrong_super (named s.program.now) (named_class s.program.now c) k (method_at s.program.now q) || not (nat_eq (length args) x)) (passed_same k q e)

  pub right : (x : Insn) → numbers_fit x s.program.now ≡ true → found_at s n ≡ super_search s.program.now s.class x → is_wrong s n a x ≡ false → Right x
  right insn.ReturnVoid f g e =
      let r = neither_of (not (shapes.is_void (shape_of s.tables.now s.result))) (ends_early s a) e in
      none_or _ _ (ap not (void_result (not_false _ r.0))) (early r.1)
  right (insn.Return x from) f g e =
      let r = neither_of (wrong_result x (shape_of s.tables.now s.result)) (ends_early s a) e in
      none_or _ _ (ap (typed.wrong_return x) (sym (result_named s c m i)) ∙ sym (result_same x s.program.now (type_at s.program.now s.result) (shape_of s.tables.now s.result) (sorts s.program.now s.tables.now i.told s.result)) ∙ r.0) (early r.1)
  right (insn.NewInstance to type) f g e = instance_of type (shape_of s.tables.now type) (sorts s.program.now s.tables.now i.told type) e
  right (insn.NewArray to size type) f g e = ap not (sorts s.program.now s.tables.now i.told type).array ∙ e
  right (insn.FilledNewArray type args) f g e = filled_of type (shape_of s.tables.now type) (filled_type_fits s.program.now type args f) (sorts s.program.now s.tables.now i.told type) (not_false _ e)
  right (insn.InstanceGet x to on field) f g e = access false x field (field_is s.program.now s.tables.now i.told field (get_fits s.program.now x to on field f)) e
  right (insn.InstancePut x from on field) f g e = access false x field (field_is s.program.now s.tables.now i.told field (put_fits s.program.now x from on field f)) e
  right (insn.StaticGet x to field) f g e = static_get_same x field (field_is s.program.now s.tables.now i.told field (static_get_fits s.program.now x to field f)) ∙ e
  right (insn.StaticPut x from field) f g e = access true x field (field_is s.program.now s.tables.now i.told field (static_put_fits s.program.now x from field f)) e
  right (insn.Invoke k q args) f g e = sym (call_same k q args (method_is s.program.now s.tables.now i.told q (invoke_fits s.program.now k q args f)) g) ∙ e
  right x f g e = refl
