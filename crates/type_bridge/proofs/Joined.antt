-- The join of two kinds by numbers is that of their names.
use Rattle.std.proofs.Common.{◌≡◌, ℕ, zero, suc, Bool, true, false, true≢false, nat_eq, nat_lt, [], ◌∷◌, Option, Some, None, refl, sym, ap, ◌∙◌}
use Rattle.std.specs.Prelude.{◌&&◌, ◌||◌, not, slice_get, option_and_then, is_some, if◌then◌else◌}
use Rattle.std.specs.Option.{option_map}
use Rattle.class_defs.proofs.Positions.{number_test}
use Rattle.program_model.specs.Texts.{first_unit}
use Rattle.program_model.specs.declared.program.Class.{Class}
use Rattle.program_model.specs.declared.program.Program.{Program}
use Rattle.dalvik_defs.specs.Names as text
use Rattle.dalvik_defs.specs.Names.{Text, object_type, base_of}
use Rattle.dalvik_defs.specs.Naming.{type_at, named}
use Rattle.dalvik_defs.specs.declared.program.NamedProgram.{NamedProgram}
use Rattle.name_bridge.specs.Named.{name_at}
use Rattle.name_bridge.proofs.Nearest.{HasClass}
use Rattle.pass_defs.specs.Kinds as name
use Rattle.pass_defs.specs.Kinds.{Kind, Undefined, Zero, Word, Null, Class as ClassKind, Array, Reference, kind_eq, depth, arrays_of, object_array}
use Rattle.verify.specs.declared.kinds.Kind as number
use Rattle.verify.specs.declared.kinds.Kind.TheVariants as kind
use Rattle.verify.specs.declared.tables.Tables.{Tables}
use Rattle.verify.specs.Chains.{nearest}
use Rattle.verify.specs.Descriptors.{class_named, item_named}
use Rattle.verify.specs.Joins as joins
use Rattle.verify.specs.Joins.{nearest_place, nearest_item}
use Rattle.verify.specs.Kinds as kinds
use Rattle.verify.specs.Kinds.{same_kind, same_number}
use Rattle.verify.specs.Shapes.{place_of}
use Rattle.verify.specs.Types.{item_shape, item_of_class}
use Rattle.verify.proofs.Chained as chained
use Rattle.verify.proofs.Lattice.{left_true}
use Rattle.type_bridge.specs.Views.{item_text, class_kind, kind_named}
use Rattle.type_bridge.specs.Numbered.{is_numbered}
use Rattle.type_bridge.proofs.Lines.{above_class, placed_at, nearest_is}
use Rattle.type_bridge.proofs.Numbers.{same_named}
use Rattle.type_bridge.proofs.Order.{object_text}
use Rattle.type_bridge.proofs.Told.{Told}
use Rattle.type_bridge.proofs.Texts.{class_text, class_unit, depth_of, base_under, item_bare, item_sorts, item_class}

pub class_letter : (u : Text) → first_unit u ≡ 76 → text.is_class_type u ≡ true
class_letter [] e = absurd (cc)
class_letter (u ∷ us) e = number_test u 76 e

module _ (p : Program) (t : Tables) (d : Told p t) where
  abbrev q : NamedProgram
  q = named p

  -- ---- sorts of kinds

  pub number_same : (k : number.Kind) → name.is_number (kind_named p k) ≡ kinds.is_number k
  number_same (kind.Program c) = by (slice_get p.classes c)
    where
      by : (o : Option Class) → name.is_number (class_kind p o) ≡ false
      by None = refl
      by (Some k) = refl
  number_same (kind.Array zero i) = refl
  number_same (kind.Array (suc n) i) = refl
  number_same k = refl

  pub made_same : (k : number.Kind) → is_numbered p k ≡ true → name.is_initialised (kind_named p k) ≡ kinds.is_initialised k
  made_same (kind.Program c) e = by (slice_get p.classes c)
    where
      by : (o : Option Class) → name.is_initialised (class_kind p o) ≡ true
      by None = refl
      by (Some k) = refl
  made_same (kind.Array zero i) e = absurd (true≢false (sym e))
  made_same (kind.Array (suc n) i) e = sym (left_true (nat_lt 0 (suc n)) (same_number (item_named p (item_text p i)) i) e)
  made_same k e = refl

  -- ---- where two classes meet

  -- the class of an array's items is that of their text
  pub place_same : (i : Option ℕ) → class_named p (item_text p i) ≡ place_of (item_shape t i)
  place_same i = by (place_of (item_shape t i)) refl
    where
      no_class : text.is_class_type (item_text p i) ≡ false → (o : Option ℕ) → class_named p (item_text p i) ≡ o → o ≡ None
      no_class e None f = refl
      no_class e (Some c) f =
          let r = class_text p d.well (item_text p i) c f in
          absurd (true≢false (sym (class_letter (item_text p i) (ap first_unit (sym r.named) ∙ class_unit p t d c r.class r.is)) ∙ e))

      other : (b : Bool) → text.is_class_type (item_text p i) ≡ b → place_of (item_shape t i) ≡ None → class_named p (item_text p i) ≡ None
      other true e f = (item_sorts p t d i).unplaced f e
      other false e f = no_class e (class_named p (item_text p i)) refl

      by : (o : Option ℕ) → place_of (item_shape t i) ≡ o → class_named p (item_text p i) ≡ o
      by (Some c) e = (item_sorts p t d i).placed c e
      by None e = other (text.is_class_type (item_text p i)) refl e

  pub near_has : (a b x : ℕ) (k : Class) → slice_get p.classes a ≡ Some k → nearest t.chains a b ≡ Some x → HasClass p x
  near_has a b x k f e = above_class p t d a x k f (chained.in_chain t.chains d.chains.sound a x (chained.least_left t.chains d.chains.sound a b x e))

  pub item_has : (i j : Option ℕ) (x : ℕ) → nearest_item t i j ≡ Some x → HasClass p x
  item_has i j x e = by (place_of (item_shape t i)) (place_of (item_shape t j)) refl e
    where
      by : (o r : Option ℕ) → place_of (item_shape t i) ≡ o → nearest_place t o r ≡ Some x → HasClass p x
      by None r f g = absurd (cc)
      by (Some a) None f g = absurd (cc)
      by (Some a) (Some b) f g = let w = class_text p d.well (item_text p i) a (place_same i ∙ f) in near_has a b x w.class w.is g

  -- the text of a class stands for it among items
  pub class_item : (c : ℕ) (k : Class) → slice_get p.classes c ≡ Some k → item_text p (item_of_class t c) ≡ type_at p k.name
  class_item c k f =
      let r = item_class p t d (item_of_class t c) c _ (d.says.class c k f) in
      let s : Some r.class ≡ Some k = sym r.is ∙ f in
      let w : r.class ≡ k = cc in
      sym r.named ∙ ap (λ k. type_at p k.name) w

  -- ---- references

  classes_named : (c e : ℕ) (k l : Class) → slice_get p.classes c ≡ Some k → slice_get p.classes e ≡ Some l → name.class_or_reference (name.nearest q (type_at p k.name) (type_at p l.name)) ≡ kind_named p (joins.class_or_reference (nearest t.chains c e))
  classes_named c e k l f g =
      ap name.class_or_reference
      (nearest_is p t d (type_at p k.name) (type_at p l.name)
      ∙ ap (λ o. option_and_then (name_at p) (nearest_place t o (class_named p (type_at p l.name)))) (placed_at p t d c k f)
      ∙ ap (λ o. option_and_then (name_at p) (nearest_place t (Some c) o)) (placed_at p t d e l g))
      ∙ by (nearest t.chains c e) refl
    where
      there : (x : ℕ) → HasClass p x → name.class_or_reference (name_at p x) ≡ class_kind p (slice_get p.classes x)
      there x r = ap (λ o. name.class_or_reference (option_map (λ k. type_at p k.name) o)) r.is ∙ sym (ap (class_kind p) r.is)

      by : (o : Option ℕ) → nearest t.chains c e ≡ o → name.class_or_reference (option_and_then (name_at p) o) ≡ kind_named p (joins.class_or_reference o)
      by None h = refl
      by (Some x) h = there x (near_has c e x k f h)

  module _ (m : ℕ) (i : Option ℕ) (n : ℕ) (j : Option ℕ) where
    abbrev one : Text
    one = arrays_of (suc m) (item_text p i)

    abbrev two : Text
    two = arrays_of (suc n) (item_text p j)

    flat_same : (m : ℕ) (i : Option ℕ) → name.is_flat (arrays_of m (item_text p i)) ≡ joins.is_flat t m i
    flat_same m i =
        ap (λ n. nat_eq n 1 && not (text.is_reference (base_of (arrays_of m (item_text p i))))) (depth_of m (item_text p i) (item_bare p i))
        ∙ ap (λ u. nat_eq m 1 && not (text.is_reference u)) (base_under m (item_text p i) (item_bare p i))
        ∙ ap (λ b. nat_eq m 1 && not b) (item_sorts p t d i).reference

    deep_named : name.joined_deep one two ≡ kind_named p (joins.joined_deep t (suc m) i (suc n) j)
    deep_named =
        ap (λ b. if b || name.is_flat two then Reference else Array object_array) (flat_same (suc m) i)
        ∙ ap (λ b. if joins.is_flat t (suc m) i || b then Reference else Array object_array) (flat_same (suc n) j)
        ∙ by (joins.is_flat t (suc m) i || joins.is_flat t (suc n) j)
      where
        by : (b : Bool) → (if b then Reference else Array object_array) ≡ kind_named p (if b then kind.Reference else kind.Array 1 t.object)
        by true = refl
        by false = sym (ap (λ u. Array (arrays_of 1 u)) (object_text p t d))

    items_named : (o : Option ℕ) → nearest_item t i j ≡ o → name.joined_items one two (option_and_then (name_at p) o) ≡ kind_named p (joins.joined_items t (suc m) i (suc n) j o)
    items_named None e = deep_named
    items_named (Some c) e =
        let r = item_has i j c e in
        ap (λ o. name.joined_items one two (option_map (λ k. type_at p k.name) o)) r.is
        ∙ ap (λ n. Array (arrays_of n (type_at p r.class.name))) (depth_of (suc m) (item_text p i) (item_bare p i))
        ∙ sym (ap (λ u. Array (arrays_of (suc m) u)) (class_item c r.class r.is))

    arrays_named : name.joined_arrays q one two ≡ kind_named p (joins.joined_arrays t (suc m) i (suc n) j)
    arrays_named =
        ap (λ b. elim b as (λ b. Kind) [ true ↦ name.joined_items one two (name.nearest q (base_of one) (base_of two)) | false ↦ name.joined_deep one two ])
        (ap (λ z. nat_eq z (depth two)) (depth_of (suc m) (item_text p i) (item_bare p i)) ∙ ap (nat_eq (suc m)) (depth_of (suc n) (item_text p j) (item_bare p j)))
        ∙ by (nat_eq (suc m) (suc n))
      where
        near : name.nearest q (base_of one) (base_of two) ≡ option_and_then (name_at p) (nearest_item t i j)
        near =
            ap (λ u. name.nearest q u (base_of two)) (base_under (suc m) (item_text p i) (item_bare p i))
            ∙ ap (name.nearest q (item_text p i)) (base_under (suc n) (item_text p j) (item_bare p j))
            ∙ nearest_is p t d (item_text p i) (item_text p j)
            ∙ ap (λ o. option_and_then (name_at p) (nearest_place t o (class_named p (item_text p j)))) (place_same i)
            ∙ ap (λ o. option_and_then (name_at p) (nearest_place t (place_of (item_shape t i)) o)) (place_same j)

        by : (b : Bool) → elim b as (λ b. Kind) [ true ↦ name.joined_items one two (name.nearest q (base_of one) (base_of two)) | false ↦ name.joined_deep one two ]
            ≡ kind_named p (if b then joins.joined_items t (suc m) i (suc n) j (nearest_item t i j) else joins.joined_deep t (suc m) i (suc n) j)
        by true = ap (name.joined_items one two) near ∙ items_named (nearest_item t i j) refl
        by false = deep_named

  -- a class and something else that has a number
  with_class : (c : ℕ) (k : Class) (b : number.Kind) → slice_get p.classes c ≡ Some k → is_numbered p b ≡ true → name.joined_references q (ClassKind (type_at p k.name)) (kind_named p b) ≡ kind_named p (joins.joined_class t c b)
  with_class c k kind.Zero f e = sym (ap (class_kind p) f)
  with_class c k kind.Null f e = sym (ap (class_kind p) f)
  with_class c k (kind.Program x) f e = by (slice_get p.classes x) refl e
    where
      by : (o : Option Class) → slice_get p.classes x ≡ o → is_some o ≡ true → name.joined_references q (ClassKind (type_at p k.name)) (class_kind p o) ≡ kind_named p (joins.class_or_reference (nearest t.chains c x))
      by None g h = absurd (true≢false (sym h))
      by (Some l) g h = classes_named c x k l f g
  with_class c k (kind.Array zero i) f e = absurd (true≢false (sym e))
  with_class c k (kind.Array (suc n) i) f e = refl
  with_class c k b f e = refl

  with_array : (m : ℕ) (i : Option ℕ) (b : number.Kind) → is_numbered p b ≡ true → name.joined_references q (Array (arrays_of (suc m) (item_text p i))) (kind_named p b) ≡ kind_named p (joins.joined_array t (suc m) i b)
  with_array m i (kind.Program x) e = by (slice_get p.classes x) e
    where
      by : (o : Option Class) → is_some o ≡ true → name.joined_references q (Array (arrays_of (suc m) (item_text p i))) (class_kind p o) ≡ Reference
      by None h = absurd (true≢false (sym h))
      by (Some l) h = refl
  with_array m i (kind.Array zero j) e = absurd (true≢false (sym e))
  with_array m i (kind.Array (suc n) j) e = arrays_named m i n j
  with_array m i b e = refl

  with_null : (b : number.Kind) → name.joined_references q Null (kind_named p b) ≡ kind_named p (joins.joined_null b)
  with_null (kind.Program c) = by (slice_get p.classes c)
    where
      by : (o : Option Class) → name.joined_references q Null (class_kind p o) ≡ class_kind p o
      by None = refl
      by (Some k) = refl
  with_null (kind.Array zero i) = refl
  with_null (kind.Array (suc n) i) = refl
  with_null b = refl

  with_any : (b : number.Kind) → name.joined_references q Reference (kind_named p b) ≡ Reference
  with_any (kind.Program c) = by (slice_get p.classes c)
    where
      by : (o : Option Class) → name.joined_references q Reference (class_kind p o) ≡ Reference
      by None = refl
      by (Some k) = refl
  with_any (kind.Array zero i) = refl
  with_any (kind.Array (suc n) i) = refl
  with_any b = refl

  references_named : (a b : number.Kind) → is_numbered p a ≡ true → is_numbered p b ≡ true → kinds.is_initialised a ≡ true → name.joined_references q (kind_named p a) (kind_named p b) ≡ kind_named p (joins.joined_references t a b)
  references_named kind.Zero b e f h = refl
  references_named kind.Null b e f h = with_null b
  references_named (kind.Program c) b e f h = by (slice_get p.classes c) refl e
    where
      by : (o : Option Class) → slice_get p.classes c ≡ o → is_some o ≡ true → name.joined_references q (class_kind p o) (kind_named p b) ≡ kind_named p (joins.joined_class t c b)
      by None g r = absurd (true≢false (sym r))
      by (Some k) g r = with_class c k b g f
  references_named (kind.Array zero i) b e f h = absurd (true≢false (sym e))
  references_named (kind.Array (suc m) i) b e f h = with_array m i b f
  references_named kind.Reference b e f h = with_any b
  references_named a b e f h = absurd (cc)

  -- ---- all kinds

  -- the join of two kinds by three tests: they are one, both are numbers, both are initialised
  abbrev by_tests : Kind → Kind → Bool → Bool → Bool → Kind
  by_tests a b same numbers made = if same then a else if numbers then Word else if made then name.joined_references q a b else Undefined

  pub joined_named : (a b : number.Kind) → is_numbered p a ≡ true → is_numbered p b ≡ true → name.joined q (kind_named p a) (kind_named p b) ≡ kind_named p (joins.joined t a b)
  joined_named a b e f =
      let x = kind_named p a in
      let y = kind_named p b in
      ap (λ same. by_tests x y same (name.is_number x && name.is_number y) (name.is_initialised x && name.is_initialised y)) (same_named p t d a b e f)
      ∙ ap (λ one. by_tests x y (same_kind a b) (one && name.is_number y) (name.is_initialised x && name.is_initialised y)) (number_same a)
      ∙ ap (λ two. by_tests x y (same_kind a b) (kinds.is_number a && two) (name.is_initialised x && name.is_initialised y)) (number_same b)
      ∙ ap (λ one. by_tests x y (same_kind a b) (kinds.is_number a && kinds.is_number b) (one && name.is_initialised y)) (made_same a e)
      ∙ ap (λ two. by_tests x y (same_kind a b) (kinds.is_number a && kinds.is_number b) (kinds.is_initialised a && two)) (made_same b f)
      ∙ by (same_kind a b) (kinds.is_number a && kinds.is_number b) (kinds.is_initialised a && kinds.is_initialised b) refl
    where
      by : (same numbers made : Bool) → (kinds.is_initialised a && kinds.is_initialised b) ≡ made
          → by_tests (kind_named p a) (kind_named p b) same numbers made ≡ kind_named p (if same then a else if numbers then kind.Word else if made then joins.joined_references t a b else kind.Undefined)
      by true numbers made g = refl
      by false true made g = refl
      by false false true g = references_named a b e f (left_true (kinds.is_initialised a) (kinds.is_initialised b) g)
      by false false false g = refl
