-- Joins of kinds that stand for one kind by names alone do so too, and their order by names is that by numbers.
use Rattle.std.proofs.Common.{◌≡◌, ℕ, zero, suc, Bool, true, false, true≢false, nat_eq, nat_lt, List, [], ◌∷◌, Option, Some, None, refl, sym, ap, ◌∙◌}
use Rattle.std.specs.Prelude.{◌&&◌, ◌||◌, map, slice_get, option_and_then, is_some, if◌then◌else◌}
use Rattle.lemmas.proofs.Lists.{got_map}
use Rattle.class_defs.proofs.Positions.{number_test, both, entry_at}
use Rattle.class_defs.proofs.WellFormed.{class_parts}
use Rattle.program_model.specs.Texts.{string_text}
use Rattle.program_model.specs.declared.program.Class.{Class}
use Rattle.program_model.specs.declared.program.Program.{Program}
use Rattle.dalvik_defs.specs.Names.{Text}
use Rattle.dalvik_defs.specs.Naming.{named}
use Rattle.name_bridge.proofs.Nearest.{HasClass}
use Rattle.pass_defs.specs.Kinds as name
use Rattle.verify.specs.declared.kinds.Kind as number
use Rattle.verify.specs.declared.kinds.Kind.TheVariants as kind
use Rattle.verify.specs.declared.tables.Tables.{Tables}
use Rattle.verify.specs.Chains.{nearest}
use Rattle.verify.specs.Descriptors.{without_brackets, is_item_of, item_named, item_number, number_or}
use Rattle.verify.specs.Joins as joins
use Rattle.verify.specs.Joins.{nearest_item}
use Rattle.verify.specs.Kinds as kinds
use Rattle.verify.specs.Kinds.{same_kind, same_number}
use Rattle.verify.specs.Types.{item_of_class}
use Rattle.verify.specs.Typings.{Below}
use Rattle.verify.proofs.Descriptions as texts
use Rattle.verify.proofs.Lattice.{left_true}
use Rattle.type_bridge.specs.Views.{item_text, kind_named}
use Rattle.type_bridge.specs.Numbered.{is_numbered}
use Rattle.type_bridge.proofs.Joined.{class_item, near_has, item_has, joined_named}
use Rattle.type_bridge.proofs.Numbers.{kind_is, one_kind}
use Rattle.type_bridge.proofs.Order.{object_text}
use Rattle.type_bridge.proofs.Told.{Told}
use Rattle.type_bridge.proofs.Texts.{First, first_of, few_types, base_is, base_stays, item_bare, text_of_type}

pub same_number_itself : (o : Option ℕ) → same_number o o ≡ true
same_number_itself None = refl
same_number_itself (Some n) = number_test n n refl

module _ (p : Program) (t : Tables) (d : Told p t) where
  -- ---- items

  -- the item of arrays of a class is the first type of its text
  item_first : (c : ℕ) (k : Class) → slice_get p.classes c ≡ Some k → item_named p (item_text p (item_of_class t c)) ≡ item_of_class t c
  item_first c k f =
      let r = entry_at p.types k.name (class_parts p d.sound c k f).name in
      let w : Text = without_brackets (string_text p r.0) in
      let g : First (is_item_of p w) p.types k.name = first_of (is_item_of p w) p.types k.name r.0 (few_types p d.well) r.1 (texts.text_same w) in
      let item : item_of_class t c ≡ Some (item_number p w) =
      ap (λ l. option_and_then (λ k. slice_get t.items.items k) (slice_get l c)) d.types.classes
      ∙ ap (λ l. option_and_then (λ k. slice_get l k) (slice_get (map (λ c. c.name) p.classes) c)) d.types.items
      ∙ ap (option_and_then (λ k. slice_get (map (λ s. item_number p (without_brackets (string_text p s))) p.types) k)) (got_map (λ c. c.name) p.classes c k f)
      ∙ got_map (λ s. item_number p (without_brackets (string_text p s))) p.types k.name r.0 r.1 in
      let own : w ≡ item_text p (item_of_class t c) =
      ap without_brackets (sym (text_of_type p k.name r.0 r.1) ∙ sym (class_item p t d c k f))
      ∙ sym (base_is (item_text p (item_of_class t c)))
      ∙ base_stays (item_text p (item_of_class t c)) (item_bare p (item_of_class t c)) in
      ap (item_named p) (sym own) ∙ g.is ∙ sym (ap (λ o. Some (number_or o)) g.is) ∙ sym item

  items_numbered : (m c : ℕ) → nat_lt 0 m ≡ true → HasClass p c → is_numbered p (kind.Array m (item_of_class t c)) ≡ true
  items_numbered m c e r = both (nat_lt 0 m) (same_number (item_named p (item_text p (item_of_class t c))) (item_of_class t c)) e
      (ap (λ o. same_number o (item_of_class t c)) (item_first c r.class r.is) ∙ same_number_itself (item_of_class t c))

  object_numbered : is_numbered p (kind.Array 1 t.object) ≡ true
  object_numbered = both (nat_lt 0 1) (same_number (item_named p (item_text p t.object)) t.object) refl
      (ap (λ o. same_number o t.object) (ap (item_named p) (object_text p t d) ∙ sym d.types.object) ∙ same_number_itself t.object)

  -- ---- joins

  deep_numbered : (b : Bool) → is_numbered p (if b then kind.Reference else kind.Array 1 t.object) ≡ true
  deep_numbered true = refl
  deep_numbered false = object_numbered

  arrays_numbered : (m : ℕ) (i : Option ℕ) (n : ℕ) (j : Option ℕ) → nat_lt 0 m ≡ true → is_numbered p (joins.joined_arrays t m i n j) ≡ true
  arrays_numbered m i n j e = by (nat_eq m n)
    where
      meets : (o : Option ℕ) → nearest_item t i j ≡ o → is_numbered p (joins.joined_items t m i n j o) ≡ true
      meets None f = deep_numbered (joins.is_flat t m i || joins.is_flat t n j)
      meets (Some c) f = items_numbered m c e (item_has p t d i j c f)

      by : (b : Bool) → is_numbered p (if b then joins.joined_items t m i n j (nearest_item t i j) else joins.joined_deep t m i n j) ≡ true
      by true = meets (nearest_item t i j) refl
      by false = deep_numbered (joins.is_flat t m i || joins.is_flat t n j)

  class_numbered : (c e : ℕ) → is_some (slice_get p.classes c) ≡ true → is_numbered p (joins.class_or_reference (nearest t.chains c e)) ≡ true
  class_numbered c e h = by (slice_get p.classes c) refl h
    where
      there : (k : Class) → slice_get p.classes c ≡ Some k → (o : Option ℕ) → nearest t.chains c e ≡ o → is_numbered p (joins.class_or_reference o) ≡ true
      there k f None g = refl
      there k f (Some x) g = ap is_some (near_has p t d c e x k f g).is

      by : (o : Option Class) → slice_get p.classes c ≡ o → is_some o ≡ true → is_numbered p (joins.class_or_reference (nearest t.chains c e)) ≡ true
      by None f g = absurd (true≢false (sym g))
      by (Some k) f g = there k f (nearest t.chains c e) refl

  null_numbered : (b : number.Kind) → is_numbered p b ≡ true → is_numbered p (joins.joined_null b) ≡ true
  null_numbered kind.Zero e = refl
  null_numbered b e = e

  references_numbered : (a b : number.Kind) → is_numbered p a ≡ true → is_numbered p b ≡ true → is_numbered p (joins.joined_references t a b) ≡ true
  references_numbered kind.Zero b e f = f
  references_numbered kind.Null b e f = null_numbered b f
  references_numbered (kind.Program c) kind.Zero e f = e
  references_numbered (kind.Program c) kind.Null e f = e
  references_numbered (kind.Program c) (kind.Program x) e f = class_numbered c x e
  references_numbered (kind.Program c) b e f = refl
  references_numbered (kind.Array m i) kind.Zero e f = e
  references_numbered (kind.Array m i) kind.Null e f = e
  references_numbered (kind.Array m i) (kind.Array n j) e f = arrays_numbered m i n j (left_true (nat_lt 0 m) (same_number (item_named p (item_text p i)) i) e)
  references_numbered (kind.Array m i) b e f = refl
  references_numbered a b e f = refl

  pub joined_numbered : (a b : number.Kind) → is_numbered p a ≡ true → is_numbered p b ≡ true → is_numbered p (joins.joined t a b) ≡ true
  joined_numbered a b e f = by (same_kind a b) (kinds.is_number a && kinds.is_number b) (kinds.is_initialised a && kinds.is_initialised b)
    where
      by : (same numbers made : Bool) → is_numbered p (if same then a else if numbers then kind.Word else if made then joins.joined_references t a b else kind.Undefined) ≡ true
      by true numbers made = e
      by false true made = refl
      by false false true = references_numbered a b e f
      by false false false = refl

  -- ---- the order

  pub below_numbered : (a b : number.Kind) → is_numbered p a ≡ true → is_numbered p b ≡ true → name.is_below (named p) (kind_named p a) (kind_named p b) ≡ true → Below t a b
  below_numbered a b e f h = one_kind p t d (joins.joined t a b) b (joined_numbered a b e f) f
      (sym (joined_named p t d a b e f) ∙ kind_is (name.joined (named p) (kind_named p a) (kind_named p b)) (kind_named p b) h)
