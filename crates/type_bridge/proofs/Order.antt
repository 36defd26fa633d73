-- A kind at or below another one is so by name.
use Rattle.std.proofs.Common.{◌≡◌, ℕ, zero, suc, Bool, true, false, nat_eq, Option, Some, None, refl, sym, ap, ◌∙◌, subst}
use Rattle.std.specs.Prelude.{◌&&◌, ◌||◌, not, slice_get, option_and_then, if◌then◌else◌}
use Rattle.std.specs.Option.{option_map}
use Rattle.class_defs.proofs.Positions.{number_test}
use Rattle.program_model.specs.declared.program.Class.{Class}
use Rattle.program_model.specs.declared.program.Program.{Program}
use Rattle.dalvik_defs.specs.Names as text
use Rattle.dalvik_defs.specs.Names.{Text, text_eq, object_type, base_of}
use Rattle.dalvik_defs.specs.Naming.{type_at, named}
use Rattle.dalvik_defs.specs.declared.program.NamedProgram.{NamedProgram}
use Rattle.name_bridge.specs.Named.{name_at}
use Rattle.pass_defs.specs.Kinds as name
use Rattle.pass_defs.specs.Kinds.{Kind, Undefined, Zero, Word, Low, High, Null, Class as ClassKind, Array, Reference, Fresh, FreshThis, kind_eq, depth, arrays_of, is_flat, object_array, joined_deep, joined_items, joined_arrays, class_or_reference, is_below}
pub use Rattle.pass_defs.proofs.Writes.{same_kind, itself_below}
use Rattle.verify.specs.declared.kinds.Kind as number
use Rattle.verify.specs.declared.kinds.Kind.TheVariants as kind
use Rattle.verify.specs.declared.tables.Tables.{Tables}
use Rattle.verify.specs.Chains.{nearest, is_in_chain}
use Rattle.verify.specs.Descriptors as descriptors
use Rattle.verify.specs.Descriptors.{class_named}
use Rattle.verify.specs.Joins as joins
use Rattle.verify.specs.Joins.{nearest_place}
use Rattle.verify.specs.Kinds as kinds
use Rattle.verify.specs.Kinds.{is_null}
use Rattle.verify.specs.Typings.{Below}
use Rattle.verify.proofs.Chained as chained
use Rattle.verify.proofs.Descriptions.{text_same}
use Rattle.verify.proofs.Fitting.{AreItems, are_items}
use Rattle.verify.proofs.Orders.{Under, itself, unknown, word, empty, any, classes, items, deep, under, number_below}
use Rattle.type_bridge.specs.Views.{item_text, class_kind, array_kind, kind_named}
use Rattle.type_bridge.proofs.Lines.{above_class, placed_at, nearest_is, nearest_none}
use Rattle.type_bridge.proofs.Told.{Told}
use Rattle.type_bridge.proofs.Texts.{IsBase, depth_of, base_under, item_bare, class_text, no_object, item_sorts, item_class, item_named_text}

-- ---- the order by names

module _ (q : NamedProgram) where
  pub undefined_above : (k : Kind) → is_below q k Undefined ≡ true
  undefined_above Undefined = refl
  undefined_above Zero = refl
  undefined_above Word = refl
  undefined_above Low = refl
  undefined_above High = refl
  undefined_above Null = refl
  undefined_above (ClassKind s) = refl
  undefined_above (Array s) = refl
  undefined_above Reference = refl
  undefined_above (Fresh s n) = refl
  undefined_above FreshThis = refl

  pub zero_below : (k : Kind) → name.is_initialised k ≡ true → is_below q Zero k ≡ true
  zero_below Zero e = refl
  zero_below Null e = refl
  zero_below (ClassKind s) e = text_same s
  zero_below (Array s) e = text_same s
  zero_below Reference e = refl
  zero_below k e = absurd (cc)

  pub null_below : (k : Kind) → name.is_initialised k ≡ true → (k ≡ Zero → ⊥) → is_below q Null k ≡ true
  null_below Zero e z = absurd (z refl)
  null_below Null e z = refl
  null_below (ClassKind s) e z = text_same s
  null_below (Array s) e z = text_same s
  null_below Reference e z = refl
  null_below k e z = absurd (cc)

  pub reference_above : (k : Kind) → name.is_initialised k ≡ true → is_below q k Reference ≡ true
  reference_above Zero e = refl
  reference_above Null e = refl
  reference_above (ClassKind s) e = refl
  reference_above (Array s) e = refl
  reference_above Reference e = refl
  reference_above k e = absurd (cc)

  pub class_over : (s u : Text) → name.nearest q s u ≡ Some u → is_below q (ClassKind s) (ClassKind u) ≡ true
  class_over s u e = by (text_eq s u) refl
    where
      by : (b : Bool) → text_eq s u ≡ b → kind_eq (if b then ClassKind s else class_or_reference (name.nearest q s u)) (ClassKind u) ≡ true
      by true h = h
      by false h = ap (λ o. kind_eq (class_or_reference o) (ClassKind u)) e ∙ text_same u

  pub array_over : (s u : Text) → joined_arrays q s u ≡ Array u → is_below q (Array s) (Array u) ≡ true
  array_over s u e = by (text_eq s u) refl
    where
      by : (b : Bool) → text_eq s u ≡ b → kind_eq (if b then Array s else joined_arrays q s u) (Array u) ≡ true
      by true h = h
      by false h = ap (λ k. kind_eq k (Array u)) e ∙ text_same u

  -- arrays whose items have a class above them
  items_over : (m : ℕ) (x y : Text) → IsBase x → IsBase y → name.nearest q x y ≡ Some y → joined_arrays q (arrays_of m x) (arrays_of m y) ≡ Array (arrays_of m y)
  items_over m x y hx hy e =
      let s = arrays_of m x in
      let u = arrays_of m y in
      ap (λ b. elim b as (λ b. Kind) [ true ↦ joined_items s u (name.nearest q (base_of s) (base_of u)) | false ↦ joined_deep s u ]) (number_test (depth s) (depth u) (depth_of m x hx ∙ sym (depth_of m y hy)))
      ∙ ap (λ z. joined_items s u (name.nearest q z (base_of u))) (base_under m x hx)
      ∙ ap (λ z. joined_items s u (name.nearest q x z)) (base_under m y hy)
      ∙ ap (joined_items s u) e
      ∙ ap (λ n. Array (arrays_of n y)) (depth_of m x hx)

  deep_over : (m : ℕ) (x : Text) → IsBase x → (nat_eq m 1 && not (text.is_reference x)) ≡ false → ((y : Text) → name.nearest q y object_type ≡ None) → joined_arrays q (arrays_of m x) object_array ≡ Array object_array
  deep_over m x hx f none = by (nat_eq (depth (arrays_of m x)) (depth object_array))
    where
      flat : is_flat (arrays_of m x) ≡ false
      flat = ap (λ n. nat_eq n 1 && not (text.is_reference (base_of (arrays_of m x)))) (depth_of m x hx) ∙ ap (λ u. nat_eq m 1 && not (text.is_reference u)) (base_under m x hx) ∙ f

      two : joined_deep (arrays_of m x) object_array ≡ Array object_array
      two = ap (λ b. if b || is_flat object_array then Reference else Array object_array) flat

      by : (b : Bool) → elim b as (λ b. Kind) [ true ↦ joined_items (arrays_of m x) object_array (name.nearest q (base_of (arrays_of m x)) (base_of object_array)) | false ↦ joined_deep (arrays_of m x) object_array ] ≡ Array object_array
      by true = ap (joined_items (arrays_of m x) object_array) (none (base_of (arrays_of m x))) ∙ two
      by false = two

-- ---- classes

module _ (p : Program) (t : Tables) (d : Told p t) where
  pub chain_of_nearest : (c e : ℕ) → nearest t.chains c e ≡ Some e → is_in_chain t.chains c e ≡ true
  chain_of_nearest c e n = chained.in_chain t.chains d.chains.sound c e (chained.least_left t.chains d.chains.sound c e e n)

  -- a class that stands above another one is where their chains meet
  pub nearest_of_chain : (c e : ℕ) → is_in_chain t.chains c e ≡ true → nearest t.chains c e ≡ Some e
  nearest_of_chain c e n = by (nearest t.chains c e) (chained.meeting t.chains d.chains.sound c e)
    where
      above : chained.Up t.chains d.chains.sound c e
      above = chained.from_chain t.chains d.chains.sound c e n

      itself : chained.Up t.chains d.chains.sound e e
      itself = chained.up_itself t.chains d.chains.sound e

      by : (o : Option ℕ) → chained.Meets t.chains d.chains.sound c e o → o ≡ Some e
      by None m = absurd (m e above itself)
      by (Some x) m = ap Some (chained.up_both t.chains d.chains.sound x e (m.least e above itself) m.right)

  pub near_texts : (c e : ℕ) (k l : Class) → slice_get p.classes c ≡ Some k → slice_get p.classes e ≡ Some l → is_in_chain t.chains c e ≡ true → name.nearest (named p) (type_at p k.name) (type_at p l.name) ≡ Some (type_at p l.name)
  near_texts c e k l f g n =
      nearest_is p t d (type_at p k.name) (type_at p l.name)
      ∙ ap (λ o. option_and_then (name_at p) (nearest_place t o (class_named p (type_at p l.name)))) (placed_at p t d c k f)
      ∙ ap (λ o. option_and_then (name_at p) (nearest_place t (Some c) o)) (placed_at p t d e l g)
      ∙ ap (option_and_then (name_at p)) (nearest_of_chain c e n)
      ∙ ap (option_map (λ k. type_at p k.name)) g

  pub class_below : (c e : ℕ) → is_in_chain t.chains c e ≡ true → (o : Option Class) → slice_get p.classes c ≡ o → is_below (named p) (class_kind p o) (class_kind p (slice_get p.classes e)) ≡ true
  class_below c e n None f = by (slice_get p.classes e)
    where
      by : (o : Option Class) → is_below (named p) Null (class_kind p o) ≡ true
      by None = refl
      by (Some l) = text_same (type_at p l.name)
  class_below c e n (Some k) f =
      let r = above_class p t d c e k f n in
      ap (λ o. is_below (named p) (ClassKind (type_at p k.name)) (class_kind p o)) r.is ∙ class_over (named p) (type_at p k.name) (type_at p r.class.name) (near_texts c e k r.class f r.is n)

  -- ---- arrays

  pub unnamed_object : class_named p object_type ≡ None
  unnamed_object = by (class_named p object_type) refl
    where
      by : (o : Option ℕ) → class_named p object_type ≡ o → o ≡ None
      by None e = refl
      by (Some c) e = let r = class_text p d.well object_type c e in absurd (no_object p t d c r.class r.is (ap (λ u. text_eq u object_type) r.named ∙ text_same object_type))

  pub array_texts : (m : ℕ) (i j : Option ℕ) → AreItems t i j → is_below (named p) (Array (arrays_of m (item_text p i))) (Array (arrays_of m (item_text p j))) ≡ true
  array_texts m i j a =
      let x = item_class p t d i a.lower a.plain a.is_lower in
      let y = item_class p t d j a.upper a.other a.is_upper in
      array_over (named p) (arrays_of m (item_text p i)) (arrays_of m (item_text p j))
      (items_over (named p) m (item_text p i) (item_text p j) (item_bare p i) (item_bare p j)
      (ap (λ u. name.nearest (named p) u (item_text p j)) (sym x.named) ∙ ap (name.nearest (named p) (type_at p x.class.name)) (sym y.named) ∙ near_texts a.lower a.upper x.class y.class x.is y.is (chain_of_nearest a.lower a.upper a.near) ∙ ap Some y.named))

  items_below : (m : ℕ) (i j : Option ℕ) → AreItems t i j → is_below (named p) (array_kind p m i) (array_kind p m j) ≡ true
  items_below zero i j a = refl
  items_below (suc m) i j a = array_texts (suc m) i j a

  pub object_text : item_text p t.object ≡ object_type
  object_text = ap (item_text p) d.types.object ∙ by (descriptors.item_named p descriptors.object_text) refl
    where
      by : (o : Option ℕ) → descriptors.item_named p descriptors.object_text ≡ o → item_text p o ≡ object_type
      by None e = refl
      by (Some k) e = item_named_text p d.well descriptors.object_text k e

  deep_below : (m : ℕ) (i : Option ℕ) → joins.is_flat t m i ≡ false → is_below (named p) (array_kind p m i) (array_kind p 1 t.object) ≡ true
  deep_below zero i f = text_same (arrays_of 1 (item_text p t.object))
  deep_below (suc m) i f =
      ap (λ u. is_below (named p) (Array (arrays_of (suc m) (item_text p i))) (Array (arrays_of 1 u))) object_text
      ∙ array_over (named p) (arrays_of (suc m) (item_text p i)) object_array (deep_over (named p) (suc m) (item_text p i) (item_bare p i) (ap (λ b. nat_eq (suc m) 1 && not b) (item_sorts p t d i).reference ∙ f) (λ u. nearest_none p t d u object_type unnamed_object))

  -- ---- all kinds

  pub made_named : (k : number.Kind) → kinds.is_initialised k ≡ true → name.is_initialised (kind_named p k) ≡ true
  made_named kind.Zero e = refl
  made_named kind.Null e = refl
  made_named (kind.Program c) e = by (slice_get p.classes c)
    where
      by : (o : Option Class) → name.is_initialised (class_kind p o) ≡ true
      by None = refl
      by (Some k) = refl
  made_named (kind.Array zero i) e = refl
  made_named (kind.Array (suc n) i) e = refl
  made_named kind.Reference e = refl
  made_named k e = absurd (cc)

  not_zero : (k : number.Kind) → kinds.is_initialised k ≡ true → kinds.is_number k ≡ false → kind_named p k ≡ Zero → ⊥
  not_zero kind.Zero e f z = cc
  not_zero kind.Null e f z = cc
  not_zero (kind.Program c) e f z = by (slice_get p.classes c) z
    where
      by : (o : Option Class) → class_kind p o ≡ Zero → ⊥
      by None z = cc
      by (Some k) z = cc
  not_zero (kind.Array zero i) e f z = cc
  not_zero (kind.Array (suc n) i) e f z = cc
  not_zero kind.Reference e f z = cc
  not_zero k e f z = absurd (cc)

  word_below : (a : number.Kind) → kinds.is_number a ≡ true → is_below (named p) (kind_named p a) Word ≡ true
  word_below kind.Zero e = refl
  word_below kind.Word e = refl
  word_below k e = absurd (cc)

  null_named : (a b : number.Kind) → Below t a b → is_null a ≡ true → kinds.is_initialised b ≡ true → is_below (named p) (kind_named p a) (kind_named p b) ≡ true
  null_named kind.Zero b e z m = zero_below (named p) (kind_named p b) (made_named b m)
  null_named kind.Null b e z m = by (kinds.is_number b) refl
    where
      by : (x : Bool) → kinds.is_number b ≡ x → is_below (named p) Null (kind_named p b) ≡ true
      by true n = absurd (let f : kinds.is_number kind.Null ≡ true = number_below t kind.Null b e n in cc)
      by false n = null_below (named p) (kind_named p b) (made_named b m) (not_zero b m n)
  null_named k b e z m = absurd (cc)

  abbrev BelowNamed : number.Kind → number.Kind → Type 0
  BelowNamed a b = is_below (named p) (kind_named p a) (kind_named p b) ≡ true

  pub below_named : (a b : number.Kind) → Below t a b → BelowNamed a b
  below_named a b e = by (under t a b e)
    where
      by : Under t a b → BelowNamed a b
      by (itself s) = subst (BelowNamed a) s (itself_below (named p) (kind_named p a))
      by (unknown s) = subst (BelowNamed a) (sym s) (undefined_above (named p) (kind_named p a))
      by (word n s) = subst (BelowNamed a) (sym s) (word_below a n)
      by (empty n m) = null_named a b e n m
      by (any m s) = subst (BelowNamed a) (sym s) (reference_above (named p) (kind_named p a) (made_named a m))
      by (classes c l s u n) = subst (λ a. BelowNamed a b) (sym s) (subst (BelowNamed (kind.Program c)) (sym u) (class_below c l (chain_of_nearest c l n) (slice_get p.classes c) refl))
      by (items m i j c z s u n f) = subst (λ a. BelowNamed a b) (sym s) (subst (BelowNamed (kind.Array m i)) (sym u) (items_below m i j (are_items t d.meets i j c n f)))
      by (deep m i z f s u) = subst (λ a. BelowNamed a b) (sym s) (subst (BelowNamed (kind.Array m i)) (sym u) (deep_below m i f))
