-- Joins are least upper bounds where classes meet as chains do: classes and arrays.
use Rattle.std.proofs.Common.{◌≡◌, ℕ, Bool, true, false, ◌&&◌, ◌||◌, nat_eq, nat_lt, Option, Some, None, ◌⊎◌, inl, inr, refl, sym, ap, ◌∙◌, subst}
use Rattle.std.specs.Prelude.{if◌then◌else◌}
use Rattle.std.proofs.lemmas.Bool.{eqb-true, eq-eqb, ne_eqb}
use Rattle.verify.specs.declared.kinds.Kind.{Kind}
use Rattle.verify.specs.declared.kinds.Kind.TheVariants.{Undefined, Word, Zero, WideLow, WideHigh, Fresh, FreshThis, Null, Program, Array, Reference}
use Rattle.verify.specs.declared.shapes.Shape.{Shape}
use Rattle.verify.specs.declared.shapes.Shape.TheVariants as shape
use Rattle.verify.specs.declared.tables.Tables.{Tables}
use Rattle.verify.specs.Chains.{nearest}
use Rattle.verify.specs.Joins.{joined, joined_references, joined_arrays, joined_items, joined_deep, class_or_reference, nearest_place, nearest_item, is_flat}
use Rattle.verify.specs.Kinds.{same_kind, is_number, is_initialised}
use Rattle.verify.specs.Meeting.{IsMeeting}
use Rattle.verify.specs.Shapes.{is_reference, place_of}
use Rattle.verify.specs.Types.{item_shape, item_of_class}
use Rattle.verify.proofs.Raises.{kind_itself, same_joined}
use Rattle.verify.proofs.Lattice.{same_is, same_sides, and_swaps, alike, numbers, objects, apart, joins, not_both, Groups, groups_word, groups_reference, groups_zero, groups_null, groups_bare}

or_swaps : (a b : Bool) → (a || b) ≡ (b || a)
or_swaps true true = refl
or_swaps true false = refl
or_swaps false true = refl
or_swaps false false = refl

-- an item with a place is a reference
placed : (s : Shape) (c : ℕ) → place_of s ≡ Some c → is_reference s ≡ true
placed (shape.Class p b) c e = refl
placed s c e = absurd (cc)

not_flat : (t : Tables) (n : ℕ) (i : Option ℕ) → is_reference (item_shape t i) ≡ true → is_flat t n i ≡ false
not_flat t n i e = rw e (go (nat_eq n 1))
  where
    go : (b : Bool) → (b && false) ≡ false
    go true = refl
    go false = refl

-- ---- three arrays

none_with : (t : Tables) (q : Option ℕ) → nearest_place t None q ≡ None
none_with t None = refl
none_with t (Some c) = refl

left_place : (t : Tables) (p q : Option ℕ) (c : ℕ) → nearest_place t p q ≡ Some c → (s : Shape) → place_of s ≡ p → is_reference s ≡ true
left_place t (Some a) q c e s f = placed s a f
left_place t None q c e s f = absurd (let n = none_with t q in cc)

nat_swaps : (x y : ℕ) → nat_eq x y ≡ nat_eq y x
nat_swaps x y = go (nat_eq x y) (nat_eq y x) refl refl
  where
    go : (a b : Bool) → nat_eq x y ≡ a → nat_eq y x ≡ b → a ≡ b
    go true true e f = refl
    go false false e f = refl
    go true false e f = absurd (let h : nat_eq y x ≡ true = eq-eqb y x (sym (eqb-true x y e)) in cc)
    go false true e f = absurd (let h : nat_eq x y ≡ true = eq-eqb x y (sym (eqb-true y x f)) in cc)

-- nothing nearer in common
abbrev third : Tables → Bool → Kind
third t b = if b then Reference else Array 1 t.object

abbrev triple_of : Tables → ℕ → Bool → Option ℕ → Kind
triple_of t x b None = third t b
triple_of t x b (Some c) = Array x (item_of_class t c)

abbrev triple : Tables → ℕ → Option ℕ → ℕ → Option ℕ → ℕ → Option ℕ → Kind
triple t x i y j z k =
    if (nat_eq x y && nat_eq y z) then triple_of t x ((is_flat t x i || is_flat t y j) || is_flat t z k) (nearest_place t (nearest_item t i j) (place_of (item_shape t k)))
    else third t ((is_flat t x i || is_flat t y j) || is_flat t z k)

abbrev aim : Tables → ℕ → ℕ → ℕ → Option ℕ → Kind
aim t c x w l = if nat_eq x w then triple_of t x (is_flat t w l) (nearest_place t (Some c) (place_of (item_shape t l))) else third t (is_flat t w l)

abbrev kind_aim : Tables → ℕ → ℕ → Kind → Kind
kind_aim t c x (Array w l) = aim t c x w l
kind_aim t c x a = a

abbrev flat_in : Tables → Kind → Bool
flat_in t (Array w l) = is_flat t w l
flat_in t a = false

or_none : (b : Bool) → (b || false) ≡ b
or_none true = refl
or_none false = refl

or_turns : (a b c : Bool) → ((a || b) || c) ≡ ((c || b) || a)
or_turns true true true = refl
or_turns true true false = refl
or_turns true false true = refl
or_turns true false false = refl
or_turns false true true = refl
or_turns false true false = refl
or_turns false false true = refl
or_turns false false false = refl

or_again : (a b : Bool) → ((a || b) || a) ≡ (a || b)
or_again true b = refl
or_again false true = refl
or_again false false = refl

module _ (t : Tables) (m : IsMeeting t) where
  place_swaps : (p q : Option ℕ) → nearest_place t p q ≡ nearest_place t q p
  place_swaps (Some a) (Some b) = m.swaps a b
  place_swaps None None = refl
  place_swaps (Some a) None = refl
  place_swaps None (Some b) = refl

  place_itself : (p : Option ℕ) → nearest_place t p p ≡ p
  place_itself None = refl
  place_itself (Some a) = m.itself a

  deep_swaps : (x : ℕ) (i : Option ℕ) (y : ℕ) (j : Option ℕ) → joined_deep t x i y j ≡ joined_deep t y j x i
  deep_swaps x i y j = ap (λ b. if b then Reference else Array 1 t.object) (or_swaps (is_flat t x i) (is_flat t y j))

  items_swap : (x : ℕ) (i j : Option ℕ) (o : Option ℕ) → joined_items t x i x j o ≡ joined_items t x j x i o
  items_swap x i j None = deep_swaps x i x j
  items_swap x i j (Some c) = refl

  arrays_swap : (x : ℕ) (i : Option ℕ) (y : ℕ) (j : Option ℕ) → joined_arrays t x i y j ≡ joined_arrays t y j x i
  arrays_swap x i y j = go (nat_eq x y) refl
    where
      go : (b : Bool) → nat_eq x y ≡ b → joined_arrays t x i y j ≡ joined_arrays t y j x i
      go true e = subst (λ z. joined_arrays t x i z j ≡ joined_arrays t z j x i) (eqb-true x y e) (let r : nat_eq x x ≡ true = eq-eqb x x refl in rw r (items_swap x i j (nearest_item t i j) ∙ ap (joined_items t x j x i) (place_swaps (place_of (item_shape t i)) (place_of (item_shape t j)))))
      go false e = let r : nat_eq y x ≡ false = ne_eqb y x (λ q. let h : nat_eq x y ≡ true = eq-eqb x y (sym q) in absurd (cc)) in rw e (rw r (deep_swaps x i y j))

  references_swap : (a b : Kind) → is_initialised a ≡ true → is_initialised b ≡ true → same_kind a b ≡ false → joined_references t a b ≡ joined_references t b a
  references_swap (Program c) (Program d) p q e = ap class_or_reference (m.swaps c d)
  references_swap (Array x i) (Array y j) p q e = arrays_swap x i y j
  references_swap Zero Zero p q e = absurd (cc)
  references_swap Null Null p q e = absurd (cc)
  references_swap Zero Null p q e = refl
  references_swap Null Zero p q e = refl
  references_swap Zero (Program c) p q e = refl
  references_swap Zero (Array x i) p q e = refl
  references_swap Zero Reference p q e = refl
  references_swap Null (Program c) p q e = refl
  references_swap Null (Array x i) p q e = refl
  references_swap Null Reference p q e = refl
  references_swap (Program c) Zero p q e = refl
  references_swap (Program c) Null p q e = refl
  references_swap (Program c) (Array x i) p q e = refl
  references_swap (Program c) Reference p q e = refl
  references_swap (Array x i) Zero p q e = refl
  references_swap (Array x i) Null p q e = refl
  references_swap (Array x i) (Program c) p q e = refl
  references_swap (Array x i) Reference p q e = refl
  references_swap Reference Zero p q e = refl
  references_swap Reference Null p q e = refl
  references_swap Reference (Program c) p q e = refl
  references_swap Reference (Array x i) p q e = refl
  references_swap Reference Reference p q e = refl
  references_swap a b p q e = absurd (cc)

  pub swaps : (a b : Kind) → joined t a b ≡ joined t b a
  swaps a b = elim (joins t a b) [
    | alike e j ↦ subst (λ x. joined t a x ≡ joined t x a) e refl
    | numbers e p q j ↦ (let s = sym (same_sides a b) ∙ e in let h : joined t b a ≡ Word = rw s (rw p (rw q refl)) in j ∙ sym h)
    | objects e p q j o ↦ (
        let s = sym (same_sides a b) ∙ e in
        let n : (is_number b && is_number a) ≡ false = and_swaps (is_number b) (is_number a) ∙ nn e p q in
        let h : joined t b a ≡ joined_references t b a = rw s (rw n (rw p (rw q refl))) in
        j ∙ references_swap a b p q e ∙ sym h)
    | apart e f g j ↦ (
        let s = sym (same_sides a b) ∙ e in
        let n : (is_number b && is_number a) ≡ false = and_swaps (is_number b) (is_number a) ∙ f in
        let o : (is_initialised b && is_initialised a) ≡ false = and_swaps (is_initialised b) (is_initialised a) ∙ g in
        let h : joined t b a ≡ Undefined = rw s (rw n (rw o refl)) in
        j ∙ sym h)
  ]
    where
      nn : same_kind a b ≡ false → is_initialised a ≡ true → is_initialised b ≡ true → (is_number a && is_number b) ≡ false
      nn e p q = not_both a b e p q

  -- ---- classes

  classes : (c d : ℕ) → joined t (Program c) (Program d) ≡ class_or_reference (nearest t.chains c d)
  classes c d = go (nat_eq c d) refl
    where
      go : (b : Bool) → nat_eq c d ≡ b → (if b then Program c else class_or_reference (nearest t.chains c d)) ≡ class_or_reference (nearest t.chains c d)
      go false e = refl
      go true e = subst (λ x. Program c ≡ class_or_reference (nearest t.chains c x)) (eqb-true c d e) (sym (ap class_or_reference (m.itself c)))

  class_on : (o : Option ℕ) (e : ℕ) → joined t (class_or_reference o) (Program e) ≡ class_or_reference (nearest_place t o (Some e))
  class_on None e = refl
  class_on (Some c) e = classes c e

  groups_classes : (c d e : ℕ) → Groups t (Program c) (Program d) (Program e)
  groups_classes c d e =
      ap (λ x. joined t x (Program e)) (classes c d) ∙ class_on (nearest t.chains c d) e
      ∙ ap class_or_reference (m.groups (Some c) (Some d) (Some e) ∙ place_swaps (Some c) (nearest t.chains d e))
      ∙ sym (class_on (nearest t.chains d e) c) ∙ swaps (class_or_reference (nearest t.chains d e)) (Program c) ∙ ap (joined t (Program c)) (sym (classes d e))

  class_array : (c n : ℕ) (i : Option ℕ) → nat_lt 0 n ≡ true → joined t (Program c) (Array n i) ≡ Reference
  class_array c n i p = rw p refl

  array_class : (c n : ℕ) (i : Option ℕ) → nat_lt 0 n ≡ true → joined t (Array n i) (Program c) ≡ Reference
  array_class c n i p = rw p refl

  reference_array : (n : ℕ) (i : Option ℕ) → nat_lt 0 n ≡ true → joined t Reference (Array n i) ≡ Reference
  reference_array n i p = rw p refl

  joined_class_array : (o : Option ℕ) (n : ℕ) (i : Option ℕ) → nat_lt 0 n ≡ true → joined t (class_or_reference o) (Array n i) ≡ Reference
  joined_class_array None n i p = reference_array n i p
  joined_class_array (Some c) n i p = class_array c n i p

  -- ---- arrays

  -- any object, or an array
  data ArrayOr (k : Kind) : Type 0 where
    any : k ≡ Reference → ArrayOr k
    array : (n : ℕ) (i : Option ℕ) → nat_lt 0 n ≡ true → k ≡ Array n i → ArrayOr k

  deep_or : (x : ℕ) (i : Option ℕ) (y : ℕ) (j : Option ℕ) → ArrayOr (joined_deep t x i y j)
  deep_or x i y j = go (is_flat t x i || is_flat t y j)
    where
      go : (b : Bool) → ArrayOr (if b then Reference else Array 1 t.object)
      go true = any refl
      go false = array 1 t.object refl refl

  items_or : (x : ℕ) (i : Option ℕ) (y : ℕ) (j o : Option ℕ) → nat_lt 0 x ≡ true → ArrayOr (joined_items t x i y j o)
  items_or x i y j None p = deep_or x i y j
  items_or x i y j (Some c) p = array x (item_of_class t c) p refl

  arrays_or : (x : ℕ) (i : Option ℕ) (y : ℕ) (j : Option ℕ) → nat_lt 0 x ≡ true → ArrayOr (joined_arrays t x i y j)
  arrays_or x i y j p = go (nat_eq x y)
    where
      go : (b : Bool) → ArrayOr (if b then joined_items t x i y j (nearest_item t i j) else joined_deep t x i y j)
      go true = items_or x i y j (nearest_item t i j) p
      go false = deep_or x i y j

  unlike_arrays : (x : ℕ) (i : Option ℕ) (y : ℕ) (j : Option ℕ) → nat_lt 0 x ≡ true → nat_lt 0 y ≡ true → same_kind (Array x i) (Array y j) ≡ false → joined t (Array x i) (Array y j) ≡ joined_arrays t x i y j
  unlike_arrays x i y j p q e = rw e (rw (p, q) refl)

  two_arrays : (x : ℕ) (i : Option ℕ) (y : ℕ) (j : Option ℕ) → nat_lt 0 x ≡ true → nat_lt 0 y ≡ true → ArrayOr (joined t (Array x i) (Array y j))
  two_arrays x i y j p q = go (same_kind (Array x i) (Array y j)) refl
    where
      go : (b : Bool) → same_kind (Array x i) (Array y j) ≡ b → ArrayOr (joined t (Array x i) (Array y j))
      go true e = array x i p (same_joined t (Array x i) (Array y j) e)
      go false e = subst ArrayOr (sym (unlike_arrays x i y j p q e)) (arrays_or x i y j p)

  or_class : (k : Kind) (c : ℕ) → ArrayOr k → joined t k (Program c) ≡ Reference
  or_class k c (any e) = ap (λ x. joined t x (Program c)) e
  or_class k c (array n i p e) = ap (λ x. joined t x (Program c)) e ∙ array_class c n i p

  -- the array that stands for a class, and another one
  canonical : (c x z : ℕ) (k : Option ℕ) → nat_lt 0 x ≡ true → nat_lt 0 z ≡ true → place_of (item_shape t (item_of_class t c)) ≡ Some c → joined t (Array x (item_of_class t c)) (Array z k) ≡ (if nat_eq x z then triple_of t x (is_flat t z k) (nearest_place t (Some c) (place_of (item_shape t k))) else third t (is_flat t z k))
  canonical c x z k p q f = go (same_kind (Array x (item_of_class t c)) (Array z k)) refl
    where
      own : aim t c x x (item_of_class t c) ≡ Array x (item_of_class t c)
      own = let r : nat_eq x x ≡ true = eq-eqb x x refl in rw r (rw f (rw (m.itself c) refl))

      apart_items : (o : Option ℕ) → joined_items t x (item_of_class t c) z k o ≡ triple_of t x (is_flat t z k) o
      apart_items (Some d) = refl
      apart_items None = let h = not_flat t x (item_of_class t c) (placed (item_shape t (item_of_class t c)) c f) in rw h refl

      apart_arrays : (b : Bool) → (if b then joined_items t x (item_of_class t c) z k (nearest_item t (item_of_class t c) k) else joined_deep t x (item_of_class t c) z k) ≡ (if b then triple_of t x (is_flat t z k) (nearest_place t (Some c) (place_of (item_shape t k))) else third t (is_flat t z k))
      apart_arrays true = apart_items (nearest_item t (item_of_class t c) k) ∙ ap (λ o. triple_of t x (is_flat t z k) (nearest_place t o (place_of (item_shape t k)))) f
      apart_arrays false = apart_items None

      go : (b : Bool) → same_kind (Array x (item_of_class t c)) (Array z k) ≡ b → joined t (Array x (item_of_class t c)) (Array z k) ≡ aim t c x z k
      go true e = same_joined t (Array x (item_of_class t c)) (Array z k) e ∙ sym own ∙ ap (kind_aim t c x) (same_is (Array x (item_of_class t c)) (Array z k) e)
      go false e = unlike_arrays x (item_of_class t c) z k p q e ∙ apart_arrays (nat_eq x z)

  object_flat : (n : ℕ) → is_flat t n t.object ≡ false
  object_flat n = not_flat t n t.object m.objects

  -- what has nothing nearer in common, and another array
  third_on : (f : Bool) (z : ℕ) (k : Option ℕ) → nat_lt 0 z ≡ true → joined t (third t f) (Array z k) ≡ third t (f || is_flat t z k)
  third_on true z k q = reference_array z k q
  third_on false z k q = go (same_kind (Array 1 t.object) (Array z k)) refl
    where
      deep : joined_deep t 1 t.object z k ≡ third t (is_flat t z k)
      deep = let h = object_flat 1 in rw h refl

      arrays : (b : Bool) → (if b then joined_items t 1 t.object z k (nearest_item t t.object k) else joined_deep t 1 t.object z k) ≡ third t (is_flat t z k)
      arrays true = ap (joined_items t 1 t.object z k) (ap (λ o. nearest_place t o (place_of (item_shape t k))) m.object ∙ none_with t (place_of (item_shape t k))) ∙ deep
      arrays false = deep

      go : (b : Bool) → same_kind (Array 1 t.object) (Array z k) ≡ b → joined t (Array 1 t.object) (Array z k) ≡ third t (is_flat t z k)
      go true e = same_joined t (Array 1 t.object) (Array z k) e ∙ sym (ap (third t) (sym (ap (flat_in t) (same_is (Array 1 t.object) (Array z k) e)) ∙ object_flat 1))
      go false e = unlike_arrays 1 t.object z k refl q e ∙ arrays (nat_eq 1 z)

  data Two (x : ℕ) (i : Option ℕ) (y : ℕ) (j : Option ℕ) : Type 0 where
    nearer : (c : ℕ) → nat_eq x y ≡ true → nearest_item t i j ≡ Some c → joined_arrays t x i y j ≡ Array x (item_of_class t c) → Two x i y j
    deeper : (nat_eq x y ≡ false) ⊎ (nearest_item t i j ≡ None) → joined_arrays t x i y j ≡ third t (is_flat t x i || is_flat t y j) → Two x i y j

  two : (x : ℕ) (i : Option ℕ) (y : ℕ) (j : Option ℕ) → Two x i y j
  two x i y j = go (nat_eq x y) (nearest_item t i j) refl refl
    where
      go : (b : Bool) (o : Option ℕ) → nat_eq x y ≡ b → nearest_item t i j ≡ o → Two x i y j
      go false o e f = deeper (inl e) (rw e refl)
      go true None e f = deeper (inr f) (rw e (rw f refl))
      go true (Some c) e f = nearer c e f (rw e (rw f refl))

  flags : (x : ℕ) (i : Option ℕ) (y : ℕ) (j : Option ℕ) (c : ℕ) → nearest_item t i j ≡ Some c → (is_flat t x i || is_flat t y j) ≡ false
  flags x i y j c e =
      let a = not_flat t x i (left_place t (place_of (item_shape t i)) (place_of (item_shape t j)) c e (item_shape t i) refl) in
      let b = not_flat t y j (left_place t (place_of (item_shape t j)) (place_of (item_shape t i)) c (place_swaps (place_of (item_shape t j)) (place_of (item_shape t i)) ∙ e) (item_shape t j) refl) in
      rw (a, b) refl

  three : (x : ℕ) (i : Option ℕ) (y : ℕ) (j : Option ℕ) (z : ℕ) (k : Option ℕ) → nat_lt 0 x ≡ true → nat_lt 0 y ≡ true → nat_lt 0 z ≡ true → same_kind (Array x i) (Array y j) ≡ false → joined t (joined t (Array x i) (Array y j)) (Array z k) ≡ triple t x i y j z k
  three x i y j z k p q r d = ap (λ a. joined t a (Array z k)) (unlike_arrays x i y j p q d) ∙ elim (two x i y j) [
    | nearer c e f h ↦ (
        let s = m.stands i j c f in
        let g = flags x i y j c f in
        let w : nat_eq x z ≡ nat_eq y z = ap (λ n. nat_eq n z) (eqb-true x y e) in
        ap (λ a. joined t a (Array z k)) h ∙ canonical c x z k p r s ∙ rw w (rw e (rw f (rw g refl))))
    | deeper o h ↦ ap (λ a. joined t a (Array z k)) h ∙ third_on (is_flat t x i || is_flat t y j) z k r ∙ sym (apart_triple o)
  ]
    where
      choose : (b : Bool) (o : Option ℕ) → (b ≡ false) ⊎ (o ≡ None) → (if b then triple_of t x ((is_flat t x i || is_flat t y j) || is_flat t z k) o else third t ((is_flat t x i || is_flat t y j) || is_flat t z k)) ≡ third t ((is_flat t x i || is_flat t y j) || is_flat t z k)
      choose false o h = refl
      choose true None h = refl
      choose true (Some c) (inl e) = absurd (cc)
      choose true (Some c) (inr e) = absurd (cc)

      apart_triple : (nat_eq x y ≡ false) ⊎ (nearest_item t i j ≡ None) → triple t x i y j z k ≡ third t ((is_flat t x i || is_flat t y j) || is_flat t z k)
      apart_triple (inl e) = choose (nat_eq x y && nat_eq y z) (nearest_place t (nearest_item t i j) (place_of (item_shape t k))) (inl (rw e refl))
      apart_triple (inr e) = choose (nat_eq x y && nat_eq y z) (nearest_place t (nearest_item t i j) (place_of (item_shape t k))) (inr (ap (λ o. nearest_place t o (place_of (item_shape t k))) e ∙ none_with t (place_of (item_shape t k))))

  triple_turns : (x : ℕ) (i : Option ℕ) (y : ℕ) (j : Option ℕ) (z : ℕ) (k : Option ℕ) → triple t x i y j z k ≡ triple t z k y j x i
  triple_turns x i y j z k = go (nat_eq x y) (nat_eq y z) refl refl
    where
      flag : ((is_flat t x i || is_flat t y j) || is_flat t z k) ≡ ((is_flat t z k || is_flat t y j) || is_flat t x i)
      flag = or_turns (is_flat t x i) (is_flat t y j) (is_flat t z k)

      places : nearest_place t (nearest_item t i j) (place_of (item_shape t k)) ≡ nearest_place t (nearest_item t k j) (place_of (item_shape t i))
      places =
          m.groups (place_of (item_shape t i)) (place_of (item_shape t j)) (place_of (item_shape t k))
          ∙ place_swaps (place_of (item_shape t i)) (nearest_place t (place_of (item_shape t j)) (place_of (item_shape t k)))
          ∙ ap (λ o. nearest_place t o (place_of (item_shape t i))) (place_swaps (place_of (item_shape t j)) (place_of (item_shape t k)))

      go : (a b : Bool) → nat_eq x y ≡ a → nat_eq y z ≡ b → triple t x i y j z k ≡ triple t z k y j x i
      go true true e f =
          let e' = sym (nat_swaps x y) ∙ e in
          let f' = sym (nat_swaps y z) ∙ f in
          let w : x ≡ z = eqb-true x y e ∙ eqb-true y z f in
          let l : triple t x i y j z k ≡ triple_of t x ((is_flat t x i || is_flat t y j) || is_flat t z k) (nearest_place t (nearest_item t i j) (place_of (item_shape t k))) = rw (e, f) refl in
          let r : triple t z k y j x i ≡ triple_of t z ((is_flat t z k || is_flat t y j) || is_flat t x i) (nearest_place t (nearest_item t k j) (place_of (item_shape t i))) = rw (f', e') refl in
          l ∙ ap (λ n. triple_of t n ((is_flat t x i || is_flat t y j) || is_flat t z k) (nearest_place t (nearest_item t i j) (place_of (item_shape t k)))) w
          ∙ ap (λ b. triple_of t z b (nearest_place t (nearest_item t i j) (place_of (item_shape t k)))) flag
          ∙ ap (triple_of t z ((is_flat t z k || is_flat t y j) || is_flat t x i)) places ∙ sym r
      go false b e f =
          let e' = sym (nat_swaps x y) ∙ e in
          let g : (nat_eq z y && nat_eq y x) ≡ false = and_swaps (nat_eq z y) (nat_eq y x) ∙ rw e' refl in
          let l : triple t x i y j z k ≡ third t ((is_flat t x i || is_flat t y j) || is_flat t z k) = rw e refl in
          let r : triple t z k y j x i ≡ third t ((is_flat t z k || is_flat t y j) || is_flat t x i) = rw g refl in
          l ∙ ap (third t) flag ∙ sym r
      go true false e f =
          let f' = sym (nat_swaps y z) ∙ f in
          let g : (nat_eq x y && nat_eq y z) ≡ false = rw (e, f) refl in
          let l : triple t x i y j z k ≡ third t ((is_flat t x i || is_flat t y j) || is_flat t z k) = rw g refl in
          let r : triple t z k y j x i ≡ third t ((is_flat t z k || is_flat t y j) || is_flat t x i) = rw f' refl in
          l ∙ ap (third t) flag ∙ sym r

  absorbs : (x : ℕ) (i : Option ℕ) (y : ℕ) (j : Option ℕ) → nat_lt 0 x ≡ true → nat_lt 0 y ≡ true → joined t (Array x i) (joined t (Array x i) (Array y j)) ≡ joined t (Array x i) (Array y j)
  absorbs x i y j p q = go (same_kind (Array x i) (Array y j)) refl
    where
      go : (b : Bool) → same_kind (Array x i) (Array y j) ≡ b → joined t (Array x i) (joined t (Array x i) (Array y j)) ≡ joined t (Array x i) (Array y j)
      go true e = subst (λ a. joined t (Array x i) a ≡ a) (sym (same_joined t (Array x i) (Array y j) e)) (same_joined t (Array x i) (Array x i) (kind_itself (Array x i)))
      go false e = subst (λ a. joined t (Array x i) a ≡ a) (sym (unlike_arrays x i y j p q e)) (elim (two x i y j) [
        | nearer c f g h ↦ subst (λ a. joined t (Array x i) a ≡ a) (sym h) (
            let s = m.stands i j c g in
            let n : nearest_place t (Some c) (place_of (item_shape t i)) ≡ Some c =
            place_swaps (Some c) (place_of (item_shape t i)) ∙ ap (nearest_place t (place_of (item_shape t i))) (sym g)
            ∙ sym (m.groups (place_of (item_shape t i)) (place_of (item_shape t i)) (place_of (item_shape t j)))
            ∙ ap (λ o. nearest_place t o (place_of (item_shape t j))) (place_itself (place_of (item_shape t i))) ∙ g in
            let r : nat_eq x x ≡ true = eq-eqb x x refl in
            swaps (Array x i) (Array x (item_of_class t c)) ∙ canonical c x x i p p s ∙ rw r (rw n refl))
        | deeper o h ↦ subst (λ a. joined t (Array x i) a ≡ a) (sym h) (
            swaps (Array x i) (third t (is_flat t x i || is_flat t y j)) ∙ third_on (is_flat t x i || is_flat t y j) x i p ∙ ap (third t) (or_again (is_flat t x i) (is_flat t y j)))
      ])

  groups_arrays : (x : ℕ) (i : Option ℕ) (y : ℕ) (j : Option ℕ) (z : ℕ) (k : Option ℕ) → nat_lt 0 x ≡ true → nat_lt 0 y ≡ true → nat_lt 0 z ≡ true → Groups t (Array x i) (Array y j) (Array z k)
  groups_arrays x i y j z k p q r = go (same_kind (Array x i) (Array y j)) (same_kind (Array y j) (Array z k)) refl refl
    where
      go : (a b : Bool) → same_kind (Array x i) (Array y j) ≡ a → same_kind (Array y j) (Array z k) ≡ b → Groups t (Array x i) (Array y j) (Array z k)
      go true b e f = subst (λ a. Groups t (Array x i) a (Array z k)) (same_is (Array x i) (Array y j) e) (ap (λ a. joined t a (Array z k)) (same_joined t (Array x i) (Array x i) (kind_itself (Array x i))) ∙ sym (absorbs x i z k p r))
      go false true e f = subst (λ a. Groups t (Array x i) (Array y j) a) (same_is (Array y j) (Array z k) f) (
          swaps (joined t (Array x i) (Array y j)) (Array y j) ∙ ap (joined t (Array y j)) (swaps (Array x i) (Array y j)) ∙ absorbs y j x i q p ∙ swaps (Array y j) (Array x i)
          ∙ ap (joined t (Array x i)) (sym (same_joined t (Array y j) (Array y j) (kind_itself (Array y j)))))
      go false false e f =
          three x i y j z k p q r e ∙ triple_turns x i y j z k ∙ sym (three z k y j x i r q p (sym (same_sides (Array y j) (Array z k)) ∙ f))
          ∙ swaps (joined t (Array z k) (Array y j)) (Array x i) ∙ ap (joined t (Array x i)) (swaps (Array z k) (Array y j))

  -- ---- all kinds

  data Sort (k : Kind) : Type 0 where
    simple : ((b c : Kind) → Groups t k b c) → Sort k
    class : (c : ℕ) → k ≡ Program c → Sort k
    array : (n : ℕ) (i : Option ℕ) → nat_lt 0 n ≡ true → k ≡ Array n i → Sort k

  sort : (k : Kind) → Sort k
  sort Zero = simple (groups_zero t)
  sort Word = simple (groups_word t)
  sort Null = simple (groups_null t)
  sort Reference = simple (groups_reference t)
  sort Undefined = simple (λ b c. groups_bare t Undefined b c refl refl)
  sort WideLow = simple (λ b c. groups_bare t WideLow b c refl refl)
  sort WideHigh = simple (λ b c. groups_bare t WideHigh b c refl refl)
  sort FreshThis = simple (λ b c. groups_bare t FreshThis b c refl refl)
  sort (Fresh d n) = simple (λ b c. groups_bare t (Fresh d n) b c refl refl)
  sort (Program c) = class c refl
  sort (Array n i) = go (nat_lt 0 n) refl
    where
      go : (b : Bool) → nat_lt 0 n ≡ b → Sort (Array n i)
      go true e = array n i e refl
      go false e = simple (λ b c. groups_bare t (Array n i) b c refl e)

  second : (a b c : Kind) → ((x y : Kind) → Groups t b x y) → Groups t a b c
  second a b c g = ap (λ x. joined t x c) (swaps a b) ∙ g a c ∙ ap (joined t b) (swaps a c) ∙ sym (g c a) ∙ swaps (joined t b c) a

  last : (a b c : Kind) → ((x y : Kind) → Groups t c x y) → Groups t a b c
  last a b c g = swaps (joined t a b) c ∙ ap (joined t c) (swaps a b) ∙ sym (g b a) ∙ swaps (joined t c b) a ∙ ap (joined t a) (swaps c b)

  class_class_array : (c d n : ℕ) (i : Option ℕ) → nat_lt 0 n ≡ true → Groups t (Program c) (Program d) (Array n i)
  class_class_array c d n i p = ap (λ x. joined t x (Array n i)) (classes c d) ∙ joined_class_array (nearest t.chains c d) n i p ∙ sym (ap (joined t (Program c)) (class_array d n i p))

  class_array_class : (c d n : ℕ) (i : Option ℕ) → nat_lt 0 n ≡ true → Groups t (Program c) (Array n i) (Program d)
  class_array_class c d n i p = ap (λ x. joined t x (Program d)) (class_array c n i p) ∙ sym (ap (joined t (Program c)) (array_class d n i p))

  array_class_array : (c m n : ℕ) (i j : Option ℕ) → nat_lt 0 m ≡ true → nat_lt 0 n ≡ true → Groups t (Array m i) (Program c) (Array n j)
  array_class_array c m n i j p q =
      ap (λ x. joined t x (Array n j)) (array_class c m i p) ∙ reference_array n j q
      ∙ sym (ap (joined t (Array m i)) (class_array c n j q) ∙ swaps (Array m i) Reference ∙ reference_array m i p)

  array_array_class : (c m n : ℕ) (i j : Option ℕ) → nat_lt 0 m ≡ true → nat_lt 0 n ≡ true → Groups t (Array m i) (Array n j) (Program c)
  array_array_class c m n i j p q =
      or_class (joined t (Array m i) (Array n j)) c (two_arrays m i n j p q)
      ∙ sym (ap (joined t (Array m i)) (array_class c n j q) ∙ swaps (Array m i) Reference ∙ reference_array m i p)

  turned : (a b c : Kind) → Groups t c b a → Groups t a b c
  turned a b c g = swaps (joined t a b) c ∙ ap (joined t c) (swaps a b) ∙ sym g ∙ swaps (joined t c b) a ∙ ap (joined t a) (swaps c b)

  made_groups : (a b c : Kind) → Sort a → Sort b → Sort c → Groups t a b c
  made_groups a b c (simple g) y z = g b c
  made_groups a b c x (simple g) z = second a b c g
  made_groups a b c x y (simple g) = last a b c g
  made_groups a b c (class d e) (class f g) (class h k) = rw (e, g, k) (groups_classes d f h)
  made_groups a b c (class d e) (class f g) (array n i p k) = rw (e, g, k) (class_class_array d f n i p)
  made_groups a b c (class d e) (array n i p g) (class h k) = rw (e, g, k) (class_array_class d h n i p)
  made_groups a b c (array n i p e) (class f g) (class h k) = rw (e, g, k) (turned (Array n i) (Program f) (Program h) (class_class_array h f n i p))
  made_groups a b c (array n i p e) (array l j q g) (class h k) = rw (e, g, k) (array_array_class h n l i j p q)
  made_groups a b c (array n i p e) (class f g) (array l j q k) = rw (e, g, k) (array_class_array f n l i j p q)
  made_groups a b c (class d e) (array n i p g) (array l j q k) = rw (e, g, k) (turned (Program d) (Array n i) (Array l j) (array_array_class d l n j i q p))
  made_groups a b c (array n i p e) (array l j q g) (array o u r k) = rw (e, g, k) (groups_arrays n i l j o u p q r)

  pub groups : (a b c : Kind) → Groups t a b c
  groups a b c = made_groups a b c (sort a) (sort b) (sort c)
