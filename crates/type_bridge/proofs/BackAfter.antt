-- What a form leaves is, by number, at or below what is at or above it by name.
use Rattle.std.proofs.Common.{◌≡◌, ℕ, zero, suc, ◌<◌, Bool, true, false, true≢false, nat_eq, List, [], ◌∷◌, length, Option, Some, None, ◌⊎◌, inl, inr, refl, sym, ap, ◌∙◌, subst}
use Rattle.std.specs.Prelude.{◌-◌, ◌&&◌, ◌||◌, not, slice_get, nat_lt, ℤ, pos, if◌then◌else◌}
use Rattle.std.specs.Ordering.{int_eq}
use Rattle.lemmas.proofs.Bools.{not_false}
use Rattle.class_defs.proofs.Positions.{number_of, both}
use Rattle.class_defs.proofs.WellFormed.{and_left}
use Rattle.insn_set.specs.Widths.{unary_writes_wide, binary_is_wide}
use Rattle.insn_set.specs.declared.form.Insn.{Insn}
use Rattle.insn_set.specs.declared.form.Insn.TheVariants as insn
use Rattle.insn_set.specs.declared.ops.InvokeKind.{InvokeKind}
use Rattle.insn_set.specs.declared.ops.InvokeKind.TheVariants as call
use Rattle.insn_set.specs.declared.ops.Item.{Item}
use Rattle.insn_set.specs.declared.ops.Item.TheVariants as item
use Rattle.insn_set.specs.declared.ops.Slot.{Slot}
use Rattle.insn_set.specs.declared.ops.Slot.TheVariants as slot
use Rattle.program_model.specs.OperandRules.{numbers_fit}
use Rattle.program_model.specs.declared.program.Class.{Class}
use Rattle.program_model.specs.declared.program.Method.{Method}
use Rattle.program_model.specs.declared.program.Program.{Program}
use Rattle.dalvik_defs.specs.Items.{small_item, item_of_type}
use Rattle.dalvik_defs.specs.Names as text
use Rattle.dalvik_defs.specs.Names.{Text, text_eq}
use Rattle.dalvik_defs.specs.Naming.{type_at, field_at, method_at, form_of, named_class, named_method, named}
use Rattle.dalvik_defs.proofs.Calm.{text_sound}
use Rattle.pass_defs.specs.Kinds as name
use Rattle.pass_defs.specs.Kinds.{Kind, Undefined, Zero, Word, Low, High, Null, Class as ClassKind, Array, Reference, Fresh, FreshThis, arrays_of}
use Rattle.pass_defs.specs.Registers as by_name
use Rattle.pass_defs.specs.Demands as asked
use Rattle.pass_defs.specs.Typed as typed
use Rattle.verify.specs.declared.kinds.Kind as number
use Rattle.verify.specs.declared.kinds.Kind.TheVariants as kind
use Rattle.verify.specs.declared.setting.Setting.{Setting}
use Rattle.verify.specs.After.{constant_kind, moved, got, constructed, receiver_register, called}
use Rattle.verify.specs.Flow.{form_after}
use Rattle.verify.specs.Frames.{Kinds, kind_at, written, replace, forget}
use Rattle.verify.specs.Kinds.{same_number, number_kind}
use Rattle.verify.specs.Descriptors.{item_named}
use Rattle.verify.specs.Names.{field_kind, method_class, result_of}
use Rattle.verify.specs.Reads.{is_constructed, refused}
use Rattle.verify.specs.Shapes as shapes
use Rattle.verify.specs.Types.{shape_of, item_shape, kind_of, kind_of_shape, cast_kind, kind_of_item, is_constructor}
use Rattle.verify.specs.Typings.{IsBelow}
use Rattle.verify.specs.Wrong.{is_static_call, is_wrong}
use Rattle.verify.proofs.Lattice.{right_true}
use Rattle.verify.proofs.Writes.{moved_on}
use Rattle.type_bridge.specs.Views.{item_text, class_kind, kind_named}
use Rattle.type_bridge.specs.Numbered.{is_numbered}
use Rattle.type_bridge.proofs.Texts.{item_sorts}
use Rattle.type_bridge.proofs.After.{cast_named, array_named, filled_array, receives, frames_on, self_below}
use Rattle.type_bridge.proofs.Back.{or_null, numbered, for_class, for_array, Sense, known, no_class, no_array, no_type, sense, some_dimension, is_over, null_under}
use Rattle.type_bridge.proofs.BackFits.{item_numbered, type_numbered, cast_numbered, named_back, type_of_back}
use Rattle.type_bridge.proofs.BackFrames.{kinds_numbered, moved_back, at_back, wrote_back, forgot_back, kinds_back, type_number, fresh_text, fresh_replaces, this_replaces}
use Rattle.type_bridge.proofs.Fits.{array_is, deeper, less}
use Rattle.type_bridge.proofs.Grounds.{IsSet, type_fits_class, get_fits, static_get_fits, invoke_fits}
use Rattle.type_bridge.proofs.Members.{field_is, field_kind_is, MethodIs, method_is, method_class_small, result_is, constructor_is}
use Rattle.type_bridge.proofs.Wrong.{static_same}

-- ---- references

reference_word : (u : Text) → text.is_reference u ≡ true → text.is_word u ≡ false
reference_word [] e = refl
reference_word (u ∷ us) e = by (nat_eq u 76) refl e
  where
    by : (b : Bool) → nat_eq u 76 ≡ b → (b || nat_eq u 91) ≡ true → text.is_word (u ∷ us) ≡ false
    by true f g = ap (λ v. text.is_word (v ∷ us)) (number_of u 76 f)
    by false f g = ap (λ v. text.is_word (v ∷ us)) (number_of u 91 g)

small_object : (u : ℕ) → asked.item_eq (small_item u) item.Object ≡ true → ⊥
small_object u e = by (nat_eq u 90) (nat_eq u 66) (nat_eq u 67) (nat_eq u 83) e
  where
    by : (a b c d : Bool) → asked.item_eq (if a then item.Boolean else if b then item.Byte else if c then item.Char else if d then item.Short else item.Plain) item.Object ≡ true → ⊥
    by true b c d e = true≢false (sym e)
    by false true c d e = true≢false (sym e)
    by false false true d e = true≢false (sym e)
    by false false false true e = true≢false (sym e)
    by false false false false e = true≢false (sym e)

-- an item that is stored as an object is a reference, and its type no wide one
object_item : (u : Text) → asked.item_eq (item_of_type u) item.Object ≡ true → (text.is_wide u ≡ false) × (text.is_reference u ≡ true)
object_item [] e = absurd (true≢false (sym e))
object_item (u ∷ us) e = by (text.is_wide (u ∷ us)) (text.is_reference (u ∷ us)) refl refl e
  where
    by : (a b : Bool) → text.is_wide (u ∷ us) ≡ a → text.is_reference (u ∷ us) ≡ b → asked.item_eq (if a then item.Wide else if b then item.Object else small_item u) item.Object ≡ true
        → (text.is_wide (u ∷ us) ≡ false) × (text.is_reference (u ∷ us) ≡ true)
    by true b f g e = absurd (true≢false (sym e))
    by false true f g e = (f, g)
    by false false f g e = absurd (small_object u e)

module _ (s : Setting) (c : Class) (m : Method) (i : IsSet s c m) (n : ℕ) (a : by_name.Kinds) where
  abbrev p : Program
  p = s.program.now

  abbrev before : Kinds
  before = kinds_numbered p a

  abbrev left : Insn → by_name.Kinds
  left x = typed.after (named p) (named_class p c) n (form_of p x) a

  -- what is above what a form leaves by name is above what it leaves by number
  abbrev Leaves : Insn → by_name.Kinds → Type 0
  Leaves x b = IsBelow s.tables.now (form_after s n x before) (kinds_numbered p b)

  leaves_same : (x : Insn) (b : by_name.Kinds) → by_name.kinds_below (named p) (left x) b ≡ true → form_after s n x before ≡ kinds_numbered p (left x) → Leaves x b
  leaves_same x b h e = subst (λ k. IsBelow s.tables.now k (kinds_numbered p b)) (sym e) (kinds_back p s.tables.now i.told (left x) b h)

  wrote : (to : ℕ) (k : number.Kind) (l : Kind) → k ≡ numbered p l → written to k before ≡ kinds_numbered p (by_name.written to l a)
  wrote to k l e = ap (λ k. written to k before) e ∙ wrote_back p to l a

  at_register : (r : ℕ) → kind_at before.registers r ≡ numbered p (by_name.kind_at a.registers r)
  at_register r = at_back p a.registers r

  moved_same : (x : Slot) (r : ℕ) → moved x (kind_at before.registers r) ≡ numbered p (typed.moved x (by_name.kind_at a.registers r))
  moved_same slot.Wide r = refl
  moved_same slot.Word r = at_register r
  moved_same slot.Object r = at_register r

  constant_same : (z : ℤ) → constant_kind z ≡ numbered p (typed.constant_kind z)
  constant_same z = by (int_eq z (pos 0))
    where
      by : (b : Bool) → (if b then kind.Zero else kind.Word) ≡ numbered p (if b then Zero else Word)
      by true = refl
      by false = refl

  number_same : (b : Bool) → number_kind b ≡ numbered p (typed.number_kind b)
  number_same true = refl
  number_same false = refl

  field_same : (f : ℕ) → f < length p.fields → kind_of s.tables.now (field_kind p f) ≡ numbered p (name.kind_of (named p) (field_at p f).kind)
  field_same f h = sym (type_of_back p s.tables.now i.told (field_kind p f)) ∙ ap (λ u. numbered p (name.kind_of (named p) u)) (field_kind_is p s.tables.now i.told f (field_is p s.tables.now i.told f h))

  cast_same : (k : ℕ) → cast_kind s.tables.now k ≡ numbered p (name.kind_of_reference (named p) (type_at p k))
  cast_same k = sym (named_back p s.tables.now i.told (cast_kind s.tables.now k) (cast_numbered p s.tables.now i.told k)) ∙ ap (numbered p) (cast_named p s.tables.now i.told k)

  array_same : (k : ℕ) → shapes.is_array (shape_of s.tables.now k) ≡ true → kind_of s.tables.now k ≡ numbered p (Array (type_at p k))
  array_same k e = sym (named_back p s.tables.now i.told (kind_of s.tables.now k) (type_numbered p s.tables.now i.told k)) ∙ ap (numbered p) (array_named p s.tables.now i.told k e)

  new_same : (type to : ℕ) → type < length p.types → written to (kind.Fresh type n) (forget n before) ≡ kinds_numbered p (by_name.written to (Fresh (type_at p type) n) (by_name.forget n a))
  new_same type to h =
      ap (written to (kind.Fresh type n)) (forgot_back p n a)
      ∙ ap (λ k. written to (kind.Fresh k n) (kinds_numbered p (by_name.forget n a))) (sym (type_number p s.tables.now i.told type h))
      ∙ wrote_back p to (Fresh (type_at p type) n) (by_name.forget n a)

  -- ---- arrays

  -- a type of references has a kind that null is below
  abbrev IsObject : Kind → Type 0
  IsObject k = (is_over p s.tables.now i.told k ≡ true) × (asked.is_moved k ≡ true)

  object_kind : (u : Text) → asked.item_eq (item_of_type u) item.Object ≡ true → IsObject (name.kind_of (named p) u)
  object_kind u e = by (text.is_word u) (text.is_wide u) (text.is_reference u) (reference_word u r.1) r.0 r.1
    where
      r : (text.is_wide u ≡ false) × (text.is_reference u ≡ true)
      r = object_item u e

      reference : (a b : Bool) → IsObject (if a then Array u else if b then ClassKind u else Reference)
      reference true b = (refl, refl)
      reference false true = (refl, refl)
      reference false false = (refl, refl)

      by : (a b c : Bool) → a ≡ false → b ≡ false → c ≡ true → IsObject (if a then Word else if b then Low else if c then name.kind_of_reference (named p) u else Undefined)
      by true b c e f g = absurd (true≢false e)
      by false true c e f g = absurd (true≢false f)
      by false false false e f g = absurd (true≢false (sym g))
      by false false true e f g = reference (text.is_array u) (name.is_plain (named p) u)

  -- it is that by number, or null is got by number
  abbrev IsGot : number.Kind → Kind → Type 0
  IsGot k l = (k ≡ numbered p l) ⊎ ((k ≡ kind.Null) × IsObject l)

  item_got : (q : ℕ) (j : Option ℕ) → is_numbered p (kind.Array (suc q) j) ≡ true → kind_of_item s.tables.now (suc q) j ≡ numbered p (name.kind_of (named p) (text.item_of (arrays_of (suc q) (item_text p j))))
  item_got zero j e = sym (named_back p s.tables.now i.told (kind_of_shape (item_shape s.tables.now j)) (item_numbered p s.tables.now i.told j)) ∙ ap (numbered p) (item_sorts p s.tables.now i.told j).kind
  item_got (suc q) j e =
      ap (λ b. if b then kind.Array (suc (suc q) - 1) j else kind_of_shape (item_shape s.tables.now j)) (deeper q)
      ∙ ap (λ n. kind.Array n j) (sym (less q))
      ∙ sym (named_back p s.tables.now i.told (kind.Array (suc q) j)
      (both (nat_lt 0 (suc q)) (same_number (item_named p (item_text p j)) j) (some_dimension q) (right_true (nat_lt 0 (suc (suc q))) (same_number (item_named p (item_text p j)) j) e)))

  array_got : (u : Text) → asked.item_eq (item_of_type (text.item_of u)) item.Object ≡ true → IsGot (got s.tables.now item.Object (numbered p (Array u))) (name.kind_of (named p) (text.item_of u))
  array_got u e = by (sense p s.tables.now i.told (Array u))
    where
      class_no_array : (o : Option Class) → class_kind p o ≡ Array u → ⊥
      class_no_array None q = absurd (cc)
      class_no_array (Some k) q = absurd (cc)

      array : (x : number.Kind) → is_numbered p x ≡ true → kind_named p x ≡ Array u → got s.tables.now item.Object x ≡ numbered p (name.kind_of (named p) (text.item_of u))
      array (kind.Array zero j) g q = absurd (true≢false (sym g))
      array (kind.Array (suc z) j) g q = item_got z j g ∙ ap (λ v. numbered p (name.kind_of (named p) (text.item_of v))) (array_is (arrays_of (suc z) (item_text p j)) u q)
      array (kind.Program z) g q = absurd (class_no_array (slice_get p.classes z) q)
      array x g q = absurd (cc)

      by : Sense p (Array u) → IsGot (got s.tables.now item.Object (numbered p (Array u))) (name.kind_of (named p) (text.item_of u))
      by (known x ex nx mx) = inl (ap (got s.tables.now item.Object) mx ∙ array x ex nx)
      by (no_class v q g) = absurd (cc)
      by (no_array v q g) = inr (ap (got s.tables.now item.Object) (ap (numbered p) q ∙ ap or_null g), object_kind (text.item_of u) e)
      by (no_type v z q g) = absurd (cc)

  got_kind : (x : Item) (k : Kind) → asked.is_array_where (λ v. asked.item_eq (item_of_type v) x) k ≡ true → IsGot (got s.tables.now x (numbered p k)) (typed.got (named p) x k)
  got_kind item.Object Zero e = inl refl
  got_kind item.Object Null e = inl refl
  got_kind item.Object (Array u) e = array_got u e
  got_kind item.Object k e = absurd (true≢false (sym e))
  got_kind item.Plain k e = inl refl
  got_kind item.Wide k e = inl refl
  got_kind item.Boolean k e = inl refl
  got_kind item.Byte k e = inl refl
  got_kind item.Char k e = inl refl
  got_kind item.Short k e = inl refl

  array_left : (x : Item) (to array index : ℕ) (b : by_name.Kinds) → asked.meets (named p) (named_class p c) a.registers array (asked.ArrayOf x) ≡ true → by_name.kinds_below (named p) (left (insn.ArrayGet x to array index)) b ≡ true → Leaves (insn.ArrayGet x to array index) b
  array_left x to array index b e h = by (got_kind x (by_name.kind_at a.registers array) e)
    where
      g : Kind
      g = typed.got (named p) x (by_name.kind_at a.registers array)

      l : number.Kind
      l = got s.tables.now x (numbered p (by_name.kind_at a.registers array))

      at : form_after s n (insn.ArrayGet x to array index) before ≡ written to l before
      at = ap (λ k. written to (got s.tables.now x k) before) (at_register array)

      above : IsBelow s.tables.now (written to (numbered p g) before) (kinds_numbered p b)
      above = subst (λ k. IsBelow s.tables.now k (kinds_numbered p b)) (sym (wrote_back p to g a)) (kinds_back p s.tables.now i.told (left (insn.ArrayGet x to array index)) b h)

      by : IsGot l g → Leaves (insn.ArrayGet x to array index) b
      by (inl q) = subst (λ k. IsBelow s.tables.now k (kinds_numbered p b)) (sym (at ∙ ap (λ k. written to k before) q)) above
      by (inr q) = subst (λ k. IsBelow s.tables.now k (kinds_numbered p b)) (sym (at ∙ ap (λ k. written to k before) q.0))
          (frames_on s c m i n before (written to kind.Null before) (written to (numbered p g) before) (kinds_numbered p b)
          (moved_on s.tables.now to kind.Null (numbered p g) before before refl (moved_back p g ∙ q.1.1) (null_under p s.tables.now i.told g q.1.0) (self_below s c m i n before))
          above)

  -- ---- calls

  result_same : (q : ℕ) → MethodIs p s.tables.now i.told q → kind_of s.tables.now (result_of p q) ≡ numbered p (name.kind_of (named p) (method_at p q).signature.result)
  result_same q e = sym (type_of_back p s.tables.now i.told (result_of p q)) ∙ ap (λ u. numbered p (name.kind_of (named p) u)) (result_is p s.tables.now i.told q e)

  own_same : kind_of s.tables.now s.kind ≡ numbered p (name.kind_of (named p) (type_at p c.name))
  own_same = ap (kind_of s.tables.now) i.kind ∙ sym (type_of_back p s.tables.now i.told c.name)

  fresh_same : (u : Text) (z class : ℕ) → class < length p.types → u ≡ type_at p class → constructed s.tables.now s.kind (numbered p (Fresh u z)) before ≡ kinds_numbered p (typed.constructed (named p) (named_class p c) (Fresh u z) a)
  fresh_same u z class h e =
      ap (λ v. constructed s.tables.now s.kind (numbered p (Fresh v z)) before) e
      ∙ ap (λ k. constructed s.tables.now s.kind (kind.Fresh k z) before) (type_number p s.tables.now i.told class h)
      ∙ ap (λ k. replace (kind.Fresh class z) k before) (sym (type_of_back p s.tables.now i.told class))
      ∙ fresh_replaces p s.tables.now i.told class z h (name.kind_of (named p) (type_at p class)) a
      ∙ sym (ap (λ v. kinds_numbered p (typed.constructed (named p) (named_class p c) (Fresh v z) a)) e)

  constructs_same : (k : Kind) (class : ℕ) → class < length p.types → is_constructed s (numbered p k) class ≡ true → constructed s.tables.now s.kind (numbered p k) before ≡ kinds_numbered p (typed.constructed (named p) (named_class p c) k a)
  constructs_same (Fresh u z) class h e = fresh_same u z class h (text_sound u (type_at p class) (sym (fresh_text p s.tables.now i.told u class h) ∙ e))
  constructs_same FreshThis class h e = ap (λ k. replace kind.FreshThis k before) own_same ∙ this_replaces p s.tables.now i.told (name.kind_of (named p) (type_at p c.name)) a
  constructs_same (ClassKind u) class h e = absurd (for_class p (λ x. is_constructed s x class ≡ true → ⊥) u (λ e. true≢false (sym e)) (λ z e. true≢false (sym e)) e)
  constructs_same (Array u) class h e = absurd (for_array p (λ x. is_constructed s x class ≡ true → ⊥) u (λ e. true≢false (sym e)) (λ z j e. true≢false (sym e)) e)
  constructs_same k class h e = absurd (true≢false (sym e))

  abbrev with_result : Kinds → number.Kind → Kinds
  with_result k r = record k { result = r }

  -- a call on a receiver
  object_same : (k : InvokeKind) (q : ℕ) (args : List ℕ) (e : MethodIs p s.tables.now i.told q) → is_static_call k ≡ false → is_wrong s n before (insn.Invoke k q args) ≡ false → refused s n before (insn.Invoke k q args) ≡ None
      → called p s.tables.now s.kind q args before ≡ kinds_numbered p (typed.called (named p) (named_class p c) k (method_at p q) args a)
  object_same k q args e f g h =
      ap (with_result (if is_constructor s.tables.now q then made else before)) (result_same q e) ∙ by (is_constructor s.tables.now q) refl
    where
      made : Kinds
      made = constructed s.tables.now s.kind (kind_at before.registers (receiver_register args)) before

      made_named : by_name.Kinds
      made_named = typed.constructed (named p) (named_class p c) (by_name.kind_at a.registers (typed.receiver_register args)) a

      result : Kind
      result = name.kind_of (named p) (method_at p q).signature.result

      register_same : receiver_register args ≡ typed.receiver_register args
      register_same = same args
        where
          same : (args : List ℕ) → receiver_register args ≡ typed.receiver_register args
          same [] = refl
          same (x ∷ xs) = refl

      made_same : is_constructor s.tables.now q ≡ true → made ≡ kinds_numbered p made_named
      made_same y =
          let r = at_register (receiver_register args) in
          ap (λ k. constructed s.tables.now s.kind k before) r
          ∙ constructs_same (by_name.kind_at a.registers (receiver_register args)) (method_class p q) (method_class_small p s.tables.now i.told q e)
          (subst (λ k. is_constructed s k (method_class p q) ≡ true) r (receives s c m i n before k q args f y g h))
          ∙ ap (λ r. kinds_numbered p (typed.constructed (named p) (named_class p c) (by_name.kind_at a.registers r) a)) register_same

      test : (x : Bool) → is_constructor s.tables.now q ≡ x → x ≡ (asked.is_constructor_name (method_at p q).name && not (typed.is_static_call k))
      test x y = sym (only x) ∙ ap (λ b. b && true) (sym y ∙ constructor_is p s.tables.now i.told q e) ∙ ap (λ b. asked.is_constructor_name (method_at p q).name && not b) (sym f ∙ static_same k)
        where
          only : (x : Bool) → (x && true) ≡ x
          only true = refl
          only false = refl

      goal : Bool → Kinds
      goal x = kinds_numbered p (record (if x then made_named else a) { result = result })

      by : (x : Bool) → is_constructor s.tables.now q ≡ x → with_result (if x then made else before) (numbered p result) ≡ kinds_numbered p (typed.called (named p) (named_class p c) k (method_at p q) args a)
      by true y = ap (λ z. with_result z (numbered p result)) (made_same y) ∙ ap goal (test true y)
      by false y = ap goal (test false y)

  call_same : (k : InvokeKind) (q : ℕ) (args : List ℕ) (e : MethodIs p s.tables.now i.told q) → is_wrong s n before (insn.Invoke k q args) ≡ false → refused s n before (insn.Invoke k q args) ≡ None
      → form_after s n (insn.Invoke k q args) before ≡ kinds_numbered p (left (insn.Invoke k q args))
  call_same call.Static q args e g h = ap (with_result before) (result_same q e) ∙ by (asked.is_constructor_name (method_at p q).name)
    where
      by : (x : Bool) → with_result before (numbered p (name.kind_of (named p) (method_at p q).signature.result))
          ≡ kinds_numbered p (record (if x && false then typed.constructed (named p) (named_class p c) (by_name.kind_at a.registers (typed.receiver_register args)) a else a) { result = name.kind_of (named p) (method_at p q).signature.result })
      by true = refl
      by false = refl
  call_same call.Virtual q args e g h = object_same call.Virtual q args e refl g h
  call_same call.Super q args e g h = object_same call.Super q args e refl g h
  call_same call.Direct q args e g h = object_same call.Direct q args e refl g h
  call_same call.Interface q args e g h = object_same call.Interface q args e refl g h

  -- ---- all forms

  abbrev Allowed : Insn → Type 0
  Allowed x = asked.is_allowed (named p) (named_class p c) (named_method p m) a (form_of p x) ≡ true

  pub leaves_back : (x : Insn) (b : by_name.Kinds) → numbers_fit x p ≡ true → Allowed x → is_wrong s n before x ≡ false → refused s n before x ≡ None → by_name.kinds_below (named p) (left x) b ≡ true → Leaves x b
  leaves_back (insn.Move x to from) b f w g e h = leaves_same (insn.Move x to from) b h (wrote to _ _ (moved_same x from))
  leaves_back (insn.MoveResult x to) b f w g e h = leaves_same (insn.MoveResult x to) b h (wrote to _ a.result refl)
  leaves_back (insn.MoveException to) b f w g e h = leaves_same (insn.MoveException to) b h (wrote to _ a.caught refl)
  leaves_back (insn.Const to value) b f w g e h = leaves_same (insn.Const to value) b h (wrote to _ _ (constant_same value))
  leaves_back (insn.ConstWide to value) b f w g e h = leaves_same (insn.ConstWide to value) b h (wrote to _ Low refl)
  leaves_back (insn.ConstString to string) b f w g e h = leaves_same (insn.ConstString to string) b h (wrote to _ Reference refl)
  leaves_back (insn.ConstClass to type) b f w g e h = leaves_same (insn.ConstClass to type) b h (wrote to _ Reference refl)
  leaves_back (insn.CheckCast on type) b f w g e h = leaves_same (insn.CheckCast on type) b h (wrote on _ _ (cast_same type))
  leaves_back (insn.InstanceOf to from type) b f w g e h = leaves_same (insn.InstanceOf to from type) b h (wrote to _ Word refl)
  leaves_back (insn.ArrayLength to from) b f w g e h = leaves_same (insn.ArrayLength to from) b h (wrote to _ Word refl)
  leaves_back (insn.NewInstance to type) b f w g e h = leaves_same (insn.NewInstance to type) b h (new_same type to (type_fits_class p to type f))
  leaves_back (insn.NewArray to size type) b f w g e h = leaves_same (insn.NewArray to size type) b h (wrote to _ (Array (type_at p type)) (array_same type (not_false _ g)))
  leaves_back (insn.FilledNewArray type args) b f w g e h = leaves_same (insn.FilledNewArray type args) b h (ap (λ k. record before { result = k }) (array_same type (filled_array s c m i n before (shape_of s.tables.now type) (not_false _ g))))
  leaves_back (insn.Cmp op to x y) b f w g e h = leaves_same (insn.Cmp op to x y) b h (wrote to _ Word refl)
  leaves_back (insn.ArrayGet x to array index) b f w g e h = array_left x to array index b (and_left (asked.meets (named p) (named_class p c) a.registers array (asked.ArrayOf x)) (asked.meets (named p) (named_class p c) a.registers index asked.Number && true) w) h
  leaves_back (insn.InstanceGet x to on field) b f w g e h = leaves_same (insn.InstanceGet x to on field) b h (wrote to _ _ (field_same field (get_fits p x to on field f)))
  leaves_back (insn.StaticGet x to field) b f w g e h = leaves_same (insn.StaticGet x to field) b h (wrote to _ _ (field_same field (static_get_fits p x to field f)))
  leaves_back (insn.Invoke k q args) b f w g e h = leaves_same (insn.Invoke k q args) b h (call_same k q args (method_is p s.tables.now i.told q (invoke_fits p k q args f)) g e)
  leaves_back (insn.Unary op to from) b f w g e h = leaves_same (insn.Unary op to from) b h (wrote to _ _ (number_same (unary_writes_wide op)))
  leaves_back (insn.Binary op to x y) b f w g e h = leaves_same (insn.Binary op to x y) b h (wrote to _ _ (number_same (binary_is_wide op)))
  leaves_back (insn.Literal op to x value) b f w g e h = leaves_same (insn.Literal op to x value) b h (wrote to _ Word refl)
  leaves_back x b f w g e h = kinds_back p s.tables.now i.told a b h
