-- Tables whose chains and items are sound.
use Rattle.std.proofs.Common.{◌≡◌, ℕ, zero, suc, ◌+◌, true, length, Option, Some, None, inl, inr, refl, sym, ap, ◌∙◌, subst, arith}
use Rattle.std.proofs.lemmas.Bool.{cases_lt}
use Rattle.verify.specs.declared.shapes.Shape.{Shape}
use Rattle.verify.specs.declared.shapes.Shape.TheVariants as shape
use Rattle.verify.specs.declared.tables.Tables.{Tables}
use Rattle.verify.specs.Chains.{above, above_or, nearest, IsChains}
use Rattle.verify.specs.Joins.{nearest_place}
use Rattle.verify.specs.Kinds.{same_number}
use Rattle.verify.specs.Meeting.{IsMeeting, stands, stands_too, is_settled, is_base, BasesBelow, ClassesBelow, has_objects}
use Rattle.verify.specs.Shapes.{is_reference, place_of}
use Rattle.verify.specs.Types.{shape_in, item_shape, item_of_class}
use Rattle.verify.proofs.Chained as chained
use Rattle.verify.proofs.Lattice.{left_true, right_true, number_is}

-- what holds of each base and of what is above each class
record Standing (t : Tables) : Type 0 where
  chains : IsChains t.chains
  bases : (k : ℕ) → is_base t (shape_in t.bases.items k) ≡ true
  classes : (k : ℕ) → stands_too t (above t.chains k) ≡ true
  objects : has_objects t ≡ true

module _ (t : Tables) (s : Standing t) where
  item_stands : (i : Option ℕ) → stands_too t (place_of (item_shape t i)) ≡ true
  item_stands None = refl
  item_stands (Some k) = left_true (stands_too t (place_of (shape_in t.bases.items k))) (is_settled t (shape_in t.bases.items k)) (s.bases k)

  one_up : (a : ℕ) (o : Option ℕ) → stands t a ≡ true → stands_too t o ≡ true → stands t (above_or o a) ≡ true
  one_up a None p q = p
  one_up a (Some d) p q = q

  stands_walk : (n a : ℕ) → stands t a ≡ true → stands t (chained.walk n t.chains a) ≡ true
  stands_walk zero a p = p
  stands_walk (suc n) a p = stands_walk n (above_or (above t.chains a) a) (one_up a (above t.chains a) p (s.classes a))

  stands_up : (a x : ℕ) → chained.Up t.chains s.chains a x → stands t a ≡ true → stands t x ≡ true
  stands_up a x u p = subst (λ y. stands t y ≡ true) u.is (stands_walk u.steps a p)

  stands_between : (p q : Option ℕ) (x : ℕ) → stands_too t p ≡ true → nearest_place t p q ≡ Some x → stands t x ≡ true
  stands_between (Some a) (Some b) x h e = stands_up a x (chained.least_left t.chains s.chains a b x e) h
  stands_between (Some a) None x h e = absurd (cc)
  stands_between None (Some b) x h e = absurd (cc)
  stands_between None None x h e = absurd (cc)

  right_of : (r : Option ℕ) (d : ℕ) → nearest_place t r (Some d) ≡ chained.then_right t.chains s.chains r d
  right_of None d = refl
  right_of (Some x) d = refl

  left_of : (a : ℕ) (r : Option ℕ) → nearest_place t (Some a) r ≡ chained.then_left t.chains s.chains a r
  left_of a None = refl
  left_of a (Some x) = refl

  none_with : (q : Option ℕ) → nearest_place t None q ≡ None
  none_with None = refl
  none_with (Some c) = refl

  none_on : (p : Option ℕ) → nearest_place t p None ≡ None
  none_on None = refl
  none_on (Some c) = refl

  groups : (p q r : Option ℕ) → nearest_place t (nearest_place t p q) r ≡ nearest_place t p (nearest_place t q r)
  groups (Some a) (Some b) (Some d) = right_of (nearest t.chains a b) d ∙ chained.groups t.chains s.chains a b d ∙ sym (left_of a (nearest t.chains b d))
  groups (Some a) (Some b) None = none_on (nearest t.chains a b)
  groups (Some a) None r = none_with r ∙ ap (nearest_place t (Some a)) (sym (none_with r))
  groups None q r = ap (λ o. nearest_place t o r) (none_with q) ∙ none_with r ∙ sym (none_with (nearest_place t q r))

  meets : IsMeeting t
  meets = record {
    chains = s.chains;
    itself = chained.itself t.chains s.chains;
    swaps = chained.swaps t.chains s.chains;
    groups = groups;
    falls = chained.falls t.chains s.chains;
    short = chained.short t.chains s.chains;
    stands = λ i j c e. number_is (place_of (item_shape t (item_of_class t c))) (Some c) (stands_between (place_of (item_shape t i)) (place_of (item_shape t j)) c (item_stands i) e);
    settled = λ k. right_true (stands_too t (place_of (shape_in t.bases.items k))) (is_settled t (shape_in t.bases.items k)) (s.bases k);
    object = number_is (place_of (item_shape t t.object)) None (left_true (same_number (place_of (item_shape t t.object)) None) (is_reference (item_shape t t.object)) s.objects);
    objects = right_true (same_number (place_of (item_shape t t.object)) None) (is_reference (item_shape t t.object)) s.objects;
  }

-- one more base
pub bases_on : (t : Tables) (n : ℕ) (s : Shape) → BasesBelow t n → s ≡ shape_in t.bases.items n → is_base t s ≡ true → BasesBelow t (n + 1)
bases_on t n s h e b k lt = elim (cases_lt k n) [
  | inl x ↦ h k x
  | inr x ↦ (let q : k ≡ n = omega (arith, lt, x) in subst (λ z. is_base t (shape_in t.bases.items z) ≡ true) (sym q) (subst (λ z. is_base t z ≡ true) e b))
]

pub meets_where : (t : Tables) (m n : ℕ) → length t.bases.items ≡ m → length t.chains.supers.items ≡ n → IsChains t.chains → has_objects t ≡ true → BasesBelow t m → ClassesBelow t n → IsMeeting t
meets_where t m n e f c o b d = meets t (record { chains = c; bases = bases; classes = classes; objects = o })
  where
    bases : (k : ℕ) → is_base t (shape_in t.bases.items k) ≡ true
    bases k = elim (cases_lt k m) [
      | inl h ↦ b k h
      | inr h ↦ (let g : shape_in t.bases.items k ≡ shape.Void = chained.past t.bases.items k shape.Void (omega (arith, e, h)) in ap (is_base t) g)
    ]

    classes : (k : ℕ) → stands_too t (above t.chains k) ≡ true
    classes k = elim (cases_lt k n) [
      | inl h ↦ d k h
      | inr h ↦ (let g : above t.chains k ≡ None = chained.past t.chains.supers.items k None (omega (arith, f, h)) in ap (stands_too t) g)
    ]
