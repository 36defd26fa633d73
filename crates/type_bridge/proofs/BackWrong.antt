-- A position that isn't wrong by name isn't wrong.
use Rattle.std.proofs.Common.{◌≡◌, ℕ, zero, suc, Bool, true, false, true≢false, nat_eq, [], ◌∷◌, Option, Some, None, refl, sym, ap, ◌∙◌, subst}
use Rattle.std.specs.Prelude.{◌&&◌, ◌||◌, not, slice_get, option_and_then, codes}
use Rattle.lemmas.proofs.Bools.{neither_of, none_or, not_false}
use Rattle.class_defs.proofs.Positions.{number_of}
use Rattle.insn_set.specs.declared.form.Insn.{Insn}
use Rattle.insn_set.specs.declared.form.Insn.TheVariants as insn
use Rattle.program_model.specs.OperandRules.{numbers_fit}
use Rattle.program_model.specs.Texts.{string_text}
use Rattle.program_model.specs.declared.program.Class.{Class}
use Rattle.program_model.specs.declared.program.Method.{Method}
use Rattle.program_model.specs.declared.program.Program.{Program}
use Rattle.dalvik_defs.specs.Flags as remainder
use Rattle.dalvik_defs.specs.Names as text
use Rattle.dalvik_defs.specs.Names.{Text, text_eq, base_of}
use Rattle.dalvik_defs.specs.Naming.{text_at, type_at, method_at, form_of, named_class, named_method, named}
use Rattle.dalvik_defs.specs.Under as under
use Rattle.dalvik_defs.specs.declared.program.NamedClass.{NamedClass}
use Rattle.dalvik_defs.proofs.Calm.{text_sound}
use Rattle.name_bridge.specs.Named.{class_at}
use Rattle.pass_defs.specs.Kinds as name
use Rattle.pass_defs.specs.Kinds.{kind_eq}
use Rattle.pass_defs.specs.Registers as by_name
use Rattle.pass_defs.specs.Typed as typed
use Rattle.verify.specs.declared.setting.Setting.{Setting}
use Rattle.verify.specs.declared.shapes.Shape.{Shape}
use Rattle.verify.specs.declared.shapes.Shape.TheVariants as shape
use Rattle.verify.specs.declared.tables.Tables.{Tables}
use Rattle.verify.specs.Descriptors.{without_brackets, base_shape}
use Rattle.verify.specs.Fits.{is_fillable_item, is_fillable_shape}
use Rattle.verify.specs.Kinds.{is_initialised}
use Rattle.verify.specs.Meeting.{is_settled}
use Rattle.verify.specs.Reads.{found_at}
use Rattle.verify.specs.Shapes as shapes
use Rattle.verify.specs.Supers.{super_search}
use Rattle.verify.specs.Types.{shape_in, shape_of, item_shape}
use Rattle.verify.specs.Wrong.{wrong_instance, ends_early, is_wrong}
use Rattle.verify.proofs.Fitting.{item_settled}
use Rattle.type_bridge.specs.Views.{item_text}
use Rattle.type_bridge.proofs.After.{made_type}
use Rattle.type_bridge.proofs.Back.{numbered}
use Rattle.type_bridge.proofs.BackFits.{type_of_back}
use Rattle.type_bridge.proofs.BackFrames.{kinds_numbered}
use Rattle.type_bridge.proofs.Fits.{deeper, no_array, array_text}
use Rattle.type_bridge.proofs.Grounds.{IsSet, get_fits, put_fits, static_get_fits, static_put_fits, invoke_fits, constructs_is, result_named}
use Rattle.type_bridge.proofs.Joined.{class_letter}
use Rattle.type_bridge.proofs.Members.{field_is, method_is}
use Rattle.type_bridge.proofs.Numbers.{kind_is}
use Rattle.type_bridge.proofs.Told.{Told}
use Rattle.type_bridge.proofs.Texts.{Sorts, sorts, item_sorts, class_by_text, class_unit, text_of_type, index_map, base_is}
use Rattle.type_bridge.proofs.Wrong.{result_same, unmade, access_same, static_get_same, call_same}

-- ---- letters

class_reference : (u : Text) → text.is_class_type u ≡ true → text.is_reference u ≡ true
class_reference [] e = e
class_reference (u ∷ us) e = ap (λ b. b || nat_eq u 91) e

class_array : (u : Text) → text.is_class_type u ≡ true → text.is_array u ≡ false
class_array [] e = refl
class_array (u ∷ us) e = ap (λ v. nat_eq v 91) (number_of u 76 e)

void_shape : (p : Program) (u : Text) (s : Shape) → Sorts p u s → text.is_void u ≡ true → shapes.is_void s ≡ true
void_shape p [] s w e = absurd (true≢false (sym e))
void_shape p (u ∷ us) s w e = by s (subst (λ v. Sorts p (v ∷ us) s) (number_of u 86 e) w)
  where
    by : (s : Shape) → Sorts p (86 ∷ us) s → shapes.is_void s ≡ true
    by shape.Void w = refl
    by shape.Int w = absurd (true≢false (sym w.word))
    by (shape.Word x) w = absurd (true≢false (sym w.word))
    by shape.Wide w = absurd (true≢false (sym w.wide))
    by (shape.Class o b) w = absurd (true≢false (sym w.reference))
    by (shape.Array n j) w = absurd (true≢false (sym w.reference))

module _ (p : Program) (t : Tables) (d : Told p t) where
  -- an item of this text is an int
  int_item : (j : ℕ) → item_text p (Some j) ≡ codes "I" → item_shape t (Some j) ≡ shape.Int
  int_item j e = by (slice_get p.types j) refl
    where
      by : (o : Option ℕ) → slice_get p.types j ≡ o → item_shape t (Some j) ≡ shape.Int
      by None f =
          let g : [] ≡ codes "I" = sym (ap (λ o. base_of (elim o as (λ o. Text) [ Some n ↦ text_at p n | None ↦ [] ])) f) ∙ e in
          absurd (cc)
      by (Some s) f =
          ap (λ l. shape_in l j) d.types.bases
          ∙ index_map (λ s. base_shape p (without_brackets (string_text p s))) p.types j s shape.Void f
          ∙ ap (base_shape p) (sym (base_is (type_at p j) ∙ ap without_brackets (text_of_type p j s f)) ∙ e)

module _ (s : Setting) (c : Class) (m : Method) (i : IsSet s c m) (n : ℕ) (a : by_name.Kinds) where
  abbrev p : Program
  p = s.program.now

  abbrev own : name.Kind
  own = name.kind_of (named p) (type_at p c.name)

  own_made : is_initialised (numbered p own) ≡ true
  own_made = ap is_initialised (type_of_back p s.tables.now i.told c.name) ∙ made_type p s.tables.now i.told c.name (class_letter (type_at p c.name) (class_unit p s.tables.now i.told s.class c i.class))

  early_back : typed.ends_early (named p) (named_class p c) (named_method p m) a ≡ false → ends_early s (kinds_numbered p a) ≡ false
  early_back e = ap (λ b. b && not (is_initialised (numbered p a.receiver))) (constructs_is s c m i) ∙ by (typed.is_constructor (named_method p m)) e
    where
      by : (b : Bool) → (b && not (kind_eq a.receiver own)) ≡ false → (b && not (is_initialised (numbered p a.receiver))) ≡ false
      by false e = refl
      by true e = ap (λ k. not (is_initialised (numbered p k))) (kind_is a.receiver own (not_false (kind_eq a.receiver own) e)) ∙ ap not own_made

  void_back : text.is_void (method_at p m.name).signature.result ≡ true → shapes.is_void (shape_of s.tables.now s.result) ≡ true
  void_back e = void_shape p (type_at p s.result) (shape_of s.tables.now s.result) (sorts p s.tables.now i.told s.result) (ap text.is_void (result_named s c m i) ∙ e)

  -- ---- new objects

  abbrev is_bad : Option NamedClass → Bool
  is_bad o = elim o as (λ o. Bool) [ Some c ↦ remainder.is_abstract c.flags || remainder.is_interface c.flags | None ↦ false ]

  instance_back : (k : ℕ) (x : Shape) → Sorts p (type_at p k) x → typed.wrong_instance (named p) (type_at p k) ≡ false → wrong_instance s x ≡ false
  instance_back k x w e = by x w (not_false (text.is_class_type (type_at p k)) both_parts.0) both_parts.1
    where
      both_parts : (not (text.is_class_type (type_at p k)) ≡ false) × (is_bad (under.class_named (named p) (type_at p k)) ≡ false)
      both_parts = neither_of (not (text.is_class_type (type_at p k))) (is_bad (under.class_named (named p) (type_at p k))) e

      by : (x : Shape) → Sorts p (type_at p k) x → text.is_class_type (type_at p k) ≡ true → is_bad (under.class_named (named p) (type_at p k)) ≡ false → wrong_instance s x ≡ false
      by (shape.Class None b) w f g = refl
      by (shape.Class (Some q) b) w f g = unmade s c m i n (kinds_numbered p a) (slice_get p.classes q)
          ∙ sym (ap is_bad (class_by_text p i.told.well (type_at p k)) ∙ ap (λ o. is_bad (option_and_then (class_at p) o)) (w.placed q refl)) ∙ g
      by shape.Void w f g = absurd (true≢false (sym (class_reference (type_at p k) f) ∙ w.reference))
      by shape.Int w f g = absurd (true≢false (sym (class_reference (type_at p k) f) ∙ w.reference))
      by (shape.Word z) w f g = absurd (true≢false (sym (class_reference (type_at p k) f) ∙ w.reference))
      by shape.Wide w f g = absurd (true≢false (sym (class_reference (type_at p k) f) ∙ w.reference))
      by (shape.Array z j) w f g = absurd (true≢false (sym w.array ∙ class_array (type_at p k) f))

  -- ---- filled arrays

  reference_fillable : (x : Shape) → is_settled s.tables.now x ≡ true → shapes.is_reference x ≡ true → is_fillable_item x ≡ true
  reference_fillable (shape.Class o b) e f = refl
  reference_fillable (shape.Array z j) e f = absurd (true≢false (sym e))
  reference_fillable x e f = absurd (true≢false (sym f))

  item_fillable : (j : ℕ) → (text_eq (item_text p (Some j)) (codes "I") || text.is_reference (item_text p (Some j))) ≡ true → is_fillable_item (item_shape s.tables.now (Some j)) ≡ true
  item_fillable j e = by (text_eq (item_text p (Some j)) (codes "I")) refl e
    where
      by : (b : Bool) → text_eq (item_text p (Some j)) (codes "I") ≡ b → (b || text.is_reference (item_text p (Some j))) ≡ true → is_fillable_item (item_shape s.tables.now (Some j)) ≡ true
      by true f g = ap is_fillable_item (int_item p s.tables.now i.told j (text_sound (item_text p (Some j)) (codes "I") f))
      by false f g = reference_fillable (item_shape s.tables.now (Some j)) (item_settled s.tables.now i.told.meets (Some j)) (sym (item_sorts p s.tables.now i.told (Some j)).reference ∙ g)

  abbrev fillable : Text → Bool
  fillable u = text_eq (text.item_of u) (codes "I") || text.is_reference (text.item_of u)

  filled_back : (k : ℕ) (x : Shape) → Sorts p (type_at p k) x → typed.wrong_filled (type_at p k) ≡ false → is_fillable_shape s.tables.now x ≡ true
  filled_back k x w e = by x w (not_false (text.is_array (type_at p k)) parts.0) (not_false (fillable (type_at p k)) parts.1)
    where
      parts : (not (text.is_array (type_at p k)) ≡ false) × (not (fillable (type_at p k)) ≡ false)
      parts = neither_of (not (text.is_array (type_at p k))) (not (fillable (type_at p k))) e

      by : (x : Shape) → Sorts p (type_at p k) x → text.is_array (type_at p k) ≡ true → fillable (type_at p k) ≡ true → is_fillable_shape s.tables.now x ≡ true
      by (shape.Array zero j) w f g = absurd (no_array p s.tables.now i.told (type_at p k) j w)
      by (shape.Array (suc zero) j) w f g = item_fillable j (ap fillable (sym (array_text p s.tables.now i.told (type_at p k) 1 j w)) ∙ g)
      by (shape.Array (suc (suc q)) j) w f g = ap (λ b. b || is_fillable_item (item_shape s.tables.now (Some j))) (deeper q)
      by shape.Void w f g = absurd (true≢false (sym f ∙ w.array))
      by shape.Int w f g = absurd (true≢false (sym f ∙ w.array))
      by (shape.Word z) w f g = absurd (true≢false (sym f ∙ w.array))
      by shape.Wide w f g = absurd (true≢false (sym f ∙ w.array))
      by (shape.Class o b) w f g = absurd (true≢false (sym f ∙ w.array))

  -- ---- all forms

  abbrev Right : Insn → Type 0
  Right x = typed.is_wrong (named p) (named_class p c) (named_method p m) a (form_of p x) ≡ false

  pub right_back : (x : Insn) → numbers_fit x p ≡ true → found_at s n ≡ super_search p s.class x → Right x → is_wrong s n (kinds_numbered p a) x ≡ false
  right_back insn.ReturnVoid f g e =
      let r = neither_of (not (text.is_void (method_at p m.name).signature.result)) (typed.ends_early (named p) (named_class p c) (named_method p m) a) e in
      none_or _ _ (ap not (void_back (not_false _ r.0))) (early_back r.1)
  right_back (insn.Return x from) f g e =
      let r = neither_of (typed.wrong_return x (method_at p m.name).signature.result) (typed.ends_early (named p) (named_class p c) (named_method p m) a) e in
      none_or _ _ (result_same x p (type_at p s.result) (shape_of s.tables.now s.result) (sorts p s.tables.now i.told s.result) ∙ ap (typed.wrong_return x) (result_named s c m i) ∙ r.0) (early_back r.1)
  right_back (insn.NewInstance to type) f g e = instance_back type (shape_of s.tables.now type) (sorts p s.tables.now i.told type) e
  right_back (insn.NewArray to size type) f g e = ap not (sym (sorts p s.tables.now i.told type).array) ∙ e
  right_back (insn.FilledNewArray type args) f g e = ap not (filled_back type (shape_of s.tables.now type) (sorts p s.tables.now i.told type) e)
  right_back (insn.InstanceGet x to on field) f g e = sym (access_same s c m i n (kinds_numbered p a) false x field (field_is p s.tables.now i.told field (get_fits p x to on field f))) ∙ e
  right_back (insn.InstancePut x from on field) f g e = sym (access_same s c m i n (kinds_numbered p a) false x field (field_is p s.tables.now i.told field (put_fits p x from on field f))) ∙ e
  right_back (insn.StaticGet x to field) f g e = sym (static_get_same s c m i n (kinds_numbered p a) x field (field_is p s.tables.now i.told field (static_get_fits p x to field f))) ∙ e
  right_back (insn.StaticPut x from field) f g e = sym (access_same s c m i n (kinds_numbered p a) true x field (field_is p s.tables.now i.told field (static_put_fits p x from field f))) ∙ e
  right_back (insn.Invoke k q args) f g e = call_same s c m i n (kinds_numbered p a) k q args (method_is p s.tables.now i.told q (invoke_fits p k q args f)) g ∙ e
  right_back x f g e = refl
