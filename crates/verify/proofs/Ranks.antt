-- What a kind rises to by a join has a lower rank.
use Rattle.std.proofs.Common.{◌≡◌, ℕ, ◌+◌, ◌<◌, ◌≤◌, Bool, true, false, ◌&&◌, ◌||◌, nat_eq, min, Option, Some, None, ◌⊎◌, inl, inr, refl, sym, ap, ◌∙◌, subst, arith}
use Rattle.std.specs.Prelude.{if◌then◌else◌}
use Rattle.std.proofs.lemmas.Bool.{eqb-true, eq-eqb}
use Rattle.verify.specs.declared.kinds.Kind.{Kind}
use Rattle.verify.specs.declared.kinds.Kind.TheVariants.{Undefined, Word, Zero, Null, Program, Array, Reference}
use Rattle.verify.specs.declared.tables.Tables.{Tables}
use Rattle.verify.specs.Chains.{depth, nearest}
use Rattle.verify.specs.Flow.{greatest, rank_of_place, rank_of_array, rank}
use Rattle.verify.specs.Joins.{joined, joined_references, joined_arrays, joined_items, joined_deep, class_or_reference, nearest_place, nearest_item, is_flat}
use Rattle.verify.specs.Kinds.{same_kind, same_number, is_number, is_initialised}
use Rattle.verify.specs.Meeting.{IsMeeting}
use Rattle.verify.specs.Shapes.{place_of}
use Rattle.verify.specs.Types.{item_shape, item_of_class}
use Rattle.verify.specs.Typings.{IsLattice}
use Rattle.verify.proofs.Lattice.{number_is, alike, numbers, objects, apart, joins}
use Rattle.verify.proofs.Semilattice.{swaps, groups}

number_itself : (i : Option ℕ) → same_number i i ≡ true
number_itself None = refl
number_itself (Some n) = eq-eqb n n refl

module _ (t : Tables) (m : IsMeeting t) where
  abbrev Falls : Kind → Kind → Type 0
  Falls a b = (b ≡ a) ⊎ rank t b < rank t a

  place_least : (i p : Option ℕ) → 2 < rank_of_place t i p
  place_least i None = omega arith
  place_least i (Some c) = go (same_number i (item_of_class t c))
    where
      d : ℕ
      d = depth t.chains c

      go : (b : Bool) → 2 < min (min (depth t.chains c + depth t.chains c) greatest + (if b then 4 else 5)) greatest
      go true = omega arith
      go false = omega arith

  place_most : (i p : Option ℕ) → rank_of_place t i p < 4294967294
  place_most i None = omega arith
  place_most i (Some c) = go (same_number i (item_of_class t c))
    where
      go : (b : Bool) → min (min (depth t.chains c + depth t.chains c) greatest + (if b then 4 else 5)) greatest < 4294967294
      go true = omega (arith, m.short c)
      go false = omega (arith, m.short c)

  array_least : (n : ℕ) (i : Option ℕ) → 1 < rank_of_array t n i
  array_least n i = go (nat_eq n 1 && same_number i t.object)
    where
      go : (b : Bool) → 1 < (if b then 2 else rank_of_place t i (place_of (item_shape t i)))
      go true = omega arith
      go false = omega (arith, place_least i (place_of (item_shape t i)))

  array_most : (n : ℕ) (i : Option ℕ) → rank_of_array t n i < 4294967294
  array_most n i = go (nat_eq n 1 && same_number i t.object)
    where
      go : (b : Bool) → (if b then 2 else rank_of_place t i (place_of (item_shape t i))) < 4294967294
      go true = omega arith
      go false = place_most i (place_of (item_shape t i))

  class_most : (c : ℕ) → min (depth t.chains c + 2) greatest < 4294967294
  class_most c = omega (arith, m.short c)

  class_least : (c : ℕ) → 1 < min (depth t.chains c + 2) greatest
  class_least c = omega arith

  most : (k : Kind) → (k ≡ Zero → ⊥) → (k ≡ Null → ⊥) → rank t k < 4294967294
  most Zero p q = absurd (p refl)
  most Null p q = absurd (q refl)
  most (Program c) p q = class_most c
  most (Array n i) p q = array_most n i
  most Undefined p q = omega arith
  most k p q = omega arith

  least : (k : Kind) → (Undefined ≡ k) ⊎ 0 < rank t k
  least Undefined = inl refl
  least (Program c) = inr (omega (arith, class_least c))
  least (Array n i) = inr (omega (arith, array_least n i))
  least k = inr (omega arith)

  object_rank : rank_of_array t 1 t.object ≡ 2
  object_rank = let h = number_itself t.object in rw h refl

  -- an item with a place isn't that of arrays of objects
  placed_rank : (n : ℕ) (i : Option ℕ) (c : ℕ) → place_of (item_shape t i) ≡ Some c → rank_of_array t n i ≡ rank_of_place t i (Some c)
  placed_rank n i c e = go (nat_eq n 1 && same_number i t.object) refl
    where
      other : same_number i t.object ≡ true → ⊥
      other f = let h : place_of (item_shape t i) ≡ None = subst (λ x. place_of (item_shape t x) ≡ None) (sym (number_is i t.object f)) m.object in cc

      right : (a b : Bool) → (a && b) ≡ true → b ≡ true
      right true b e = e
      right false b e = absurd (cc)

      go : (b : Bool) → (nat_eq n 1 && same_number i t.object) ≡ b → (if b then 2 else rank_of_place t i (place_of (item_shape t i))) ≡ rank_of_place t i (Some c)
      go true f = absurd (other (right (nat_eq n 1) (same_number i t.object) f))
      go false f = ap (rank_of_place t i) e

  own_rank : (c : ℕ) → rank_of_place t (item_of_class t c) (Some c) ≡ depth t.chains c + depth t.chains c + 4
  own_rank c = let h = number_itself (item_of_class t c) in rw h (omega (arith, m.short c))

  first_place : (p q : Option ℕ) (c : ℕ) → nearest_place t p q ≡ Some c → (d : ℕ) → p ≡ Some d → (c ≡ d) ⊎ depth t.chains c < depth t.chains d
  first_place (Some a) (Some b) c e d f = subst (λ x. (c ≡ x) ⊎ depth t.chains c < depth t.chains x) (let g : a ≡ d = cc in g) (m.falls a b c e)
  first_place (Some a) None c e d f = absurd (cc)
  first_place None (Some b) c e d f = absurd (cc)
  first_place None None c e d f = absurd (cc)

  has_place : (p q : Option ℕ) (c : ℕ) → nearest_place t p q ≡ Some c → (p ≡ None → ⊥)
  has_place (Some a) q c e f = absurd (cc)
  has_place None (Some b) c e f = absurd (cc)
  has_place None None c e f = absurd (cc)

  items_fall : (n : ℕ) (i j : Option ℕ) (c d : ℕ) → place_of (item_shape t i) ≡ Some d → nearest_item t i j ≡ Some c → Falls (Array n i) (Array n (item_of_class t c))
  items_fall n i j c d e f = elim (first_place (place_of (item_shape t i)) (place_of (item_shape t j)) c f d e) [
    | inl g ↦ same (same_number i (item_of_class t c)) refl g
    | inr g ↦ inr (
        let a : rank_of_place t i (Some d) ≡ rank_of_array t n i = sym (placed_rank n i d e) in
        let b : rank_of_array t n (item_of_class t c) ≡ rank_of_place t (item_of_class t c) (Some c) = placed_rank n (item_of_class t c) c (m.stands i j c f) in
        let o = own_rank c in
        let l = low (same_number i (item_of_class t d)) in
        omega (arith, a, b, o, l, g))
  ]
    where
      low : (b : Bool) → depth t.chains d + depth t.chains d + 4 ≤ min (min (depth t.chains d + depth t.chains d) greatest + (if b then 4 else 5)) greatest
      low true = omega (arith, m.short d)
      low false = omega (arith, m.short d)

      high : same_number i (item_of_class t d) ≡ false → rank_of_place t i (Some d) ≡ depth t.chains d + depth t.chains d + 5
      high h = rw h (omega (arith, m.short d))

      same : (b : Bool) → same_number i (item_of_class t c) ≡ b → c ≡ d → Falls (Array n i) (Array n (item_of_class t c))
      same true h g = inl (ap (Array n) (sym (number_is i (item_of_class t c) h)))
      same false h g = inr (
          let a : rank_of_array t n i ≡ rank_of_place t i (Some d) = placed_rank n i d e in
          let b : rank_of_array t n (item_of_class t c) ≡ rank_of_place t (item_of_class t c) (Some c) = placed_rank n (item_of_class t c) c (m.stands i j c f) in
          let o = own_rank c in
          let k : depth t.chains c ≡ depth t.chains d = ap (depth t.chains) g in
          let u = high (subst (λ x. same_number i (item_of_class t x) ≡ false) g h) in
          omega (arith, a, b, o, k, u))

  deep_fall : (x : ℕ) (i : Option ℕ) (y : ℕ) (j : Option ℕ) → Falls (Array x i) (joined_deep t x i y j)
  deep_fall x i y j = go (is_flat t x i || is_flat t y j)
    where
      go : (b : Bool) → Falls (Array x i) (if b then Reference else Array 1 t.object)
      go true = inr (array_least x i)
      go false = object (nat_eq x 1 && same_number i t.object) refl
        where
          left : (a b : Bool) → (a && b) ≡ true → a ≡ true
          left true b e = refl
          left false b e = e

          right : (a b : Bool) → (a && b) ≡ true → b ≡ true
          right true b e = e
          right false b e = absurd (cc)

          object : (b : Bool) → (nat_eq x 1 && same_number i t.object) ≡ b → Falls (Array x i) (Array 1 t.object)
          object true e = inl (ap (λ n. Array n t.object) (sym (eqb-true x 1 (left (nat_eq x 1) (same_number i t.object) e))) ∙ ap (Array x) (sym (number_is i t.object (right (nat_eq x 1) (same_number i t.object) e))))
          object false e = inr (let l = place_least i (place_of (item_shape t i)) in let r : rank_of_array t x i ≡ rank_of_place t i (place_of (item_shape t i)) = rw e refl in omega (arith, l, r, object_rank))

  arrays_fall : (x : ℕ) (i : Option ℕ) (y : ℕ) (j : Option ℕ) → Falls (Array x i) (joined_arrays t x i y j)
  arrays_fall x i y j = go (nat_eq x y)
    where
      some : (o p : Option ℕ) → nearest_item t i j ≡ o → place_of (item_shape t i) ≡ p → Falls (Array x i) (joined_items t x i y j o)
      some None p f g = deep_fall x i y j
      some (Some c) (Some d) f g = items_fall x i j c d g f
      some (Some c) None f g = absurd (has_place (place_of (item_shape t i)) (place_of (item_shape t j)) c f g)

      go : (b : Bool) → Falls (Array x i) (if b then joined_items t x i y j (nearest_item t i j) else joined_deep t x i y j)
      go true = some (nearest_item t i j) (place_of (item_shape t i)) refl refl
      go false = deep_fall x i y j

  classes_fall : (c d : ℕ) (o : Option ℕ) → nearest t.chains c d ≡ o → Falls (Program c) (class_or_reference o)
  classes_fall c d None e = inr (class_least c)
  classes_fall c d (Some x) e = elim (m.falls c d x e) [
    | inl f ↦ inl (ap Program f)
    | inr f ↦ inr (let l = m.short c in omega (arith, f, l))
  ]

  not_zero : (k : Kind) → is_number k ≡ false → k ≡ Zero → ⊥
  not_zero k e f = let h : is_number Zero ≡ false = subst (λ x. is_number x ≡ false) f e in absurd (cc)

  references_fall : (a b : Kind) → is_initialised a ≡ true → is_initialised b ≡ true → same_kind a b ≡ false → Falls a (joined_references t a b)
  references_fall Zero Zero p q e = absurd (cc)
  references_fall Zero Null p q e = inr (omega arith)
  references_fall Zero (Program c) p q e = inr (omega (arith, class_most c))
  references_fall Zero (Array n i) p q e = inr (omega (arith, array_most n i))
  references_fall Zero Reference p q e = inr (omega arith)
  references_fall Null Null p q e = absurd (cc)
  references_fall Null Zero p q e = inl refl
  references_fall Null (Program c) p q e = inr (class_most c)
  references_fall Null (Array n i) p q e = inr (array_most n i)
  references_fall Null Reference p q e = inr (omega arith)
  references_fall (Program c) (Program d) p q e = classes_fall c d (nearest t.chains c d) refl
  references_fall (Program c) Zero p q e = inl refl
  references_fall (Program c) Null p q e = inl refl
  references_fall (Program c) (Array n i) p q e = inr (class_least c)
  references_fall (Program c) Reference p q e = inr (class_least c)
  references_fall (Array x i) (Array y j) p q e = arrays_fall x i y j
  references_fall (Array x i) Zero p q e = inl refl
  references_fall (Array x i) Null p q e = inl refl
  references_fall (Array x i) (Program c) p q e = inr (array_least x i)
  references_fall (Array x i) Reference p q e = inr (array_least x i)
  references_fall Reference Zero p q e = inl refl
  references_fall Reference b p q e = inl refl
  references_fall a b p q e = absurd (cc)

  numbers_fall : (a : Kind) → is_number a ≡ true → Falls a Word
  numbers_fall Word p = inl refl
  numbers_fall Zero p = inr (omega arith)
  numbers_fall a p = absurd (cc)

  falls : (a b : Kind) → Falls a (joined t a b)
  falls a b = elim (joins t a b) [
    | alike e j ↦ inl j
    | numbers e p q j ↦ subst (Falls a) (sym j) (numbers_fall a p)
    | objects e p q j o ↦ subst (Falls a) (sym j) (references_fall a b p q e)
    | apart e f g j ↦ subst (Falls a) (sym j) (least a)
  ]

pub lattice_of : (t : Tables) → IsMeeting t → IsLattice t
lattice_of t m = record { swaps = swaps t m; groups = groups t m; falls = falls t m }
