-- What is got from an array below another one is at or below what is got from that one.
use Rattle.std.proofs.Common.{◌≡◌, ℕ, ◌-◌, Bool, true, false, nat_eq, nat_lt, Option, Some, None, ◌⊎◌, inl, inr, refl, sym, ap, ◌∙◌, subst, arith}
use Rattle.std.specs.Prelude.{if◌then◌else◌}
use Rattle.std.proofs.lemmas.Bool.{eq-eqb, ltb-true, lt-ltb}
use Rattle.insn_set.specs.declared.ops.Item.{Item}
use Rattle.insn_set.specs.declared.ops.Item.TheVariants as item
use Rattle.verify.specs.declared.kinds.Kind.{Kind}
use Rattle.verify.specs.declared.kinds.Kind.TheVariants.{Undefined, Word, Zero, Null, Program, Array, Reference}
use Rattle.verify.specs.declared.shapes.Shape.{Shape}
use Rattle.verify.specs.declared.shapes.Shape.TheVariants as shape
use Rattle.verify.specs.declared.tables.Tables.{Tables}
use Rattle.verify.specs.After.{got_object}
use Rattle.verify.specs.Chains.{nearest}
use Rattle.verify.specs.Demands.{same_item}
use Rattle.verify.specs.Fits.{stored_item}
use Rattle.verify.specs.Joins.{joined, joined_references, joined_items, nearest_item}
use Rattle.verify.specs.Kinds.{same_kind, is_number, is_initialised, is_moved, is_null}
use Rattle.verify.specs.Meeting.{IsMeeting, is_settled}
use Rattle.verify.specs.Shapes.{stored}
use Rattle.verify.specs.Types.{item_shape, item_of_class, kind_of_class, kind_of_shape, kind_of_item}
use Rattle.verify.specs.Typings.{Below}
use Rattle.verify.proofs.Fitting.{AreItems, are_items, object_is, item_settled}
use Rattle.verify.proofs.Holding.{by_stored, moved_made, deep_stored}
use Rattle.verify.proofs.Lattice.{same_is, joins, alike, numbers, objects, apart}
use Rattle.verify.proofs.Orders.{itself, unknown, word, empty, any, classes, items, deep, under}
use Rattle.verify.proofs.Raises.{below_itself, same_joined}

-- ---- what is below what

-- undefined kinds are above all
pub under_undefined : (t : Tables) (k : Kind) → Below t k Undefined
under_undefined t k = elim (joins t k Undefined) [
  | alike e j ↦ j ∙ e
  | numbers e f g j ↦ absurd (cc)
  | objects e f g j o ↦ absurd (cc)
  | apart e f g j ↦ j
]

under_reference : (t : Tables) (k : Kind) → is_initialised k ≡ true → Below t k Reference
under_reference t Zero e = refl
under_reference t Null e = refl
under_reference t (Program c) e = refl
under_reference t (Array n i) e = rw e refl
under_reference t Reference e = refl
under_reference t k e = absurd (cc)

over_null : (t : Tables) (k : Kind) → is_initialised k ≡ true → is_number k ≡ false → Below t Null k
over_null t Null e f = refl
over_null t (Program c) e f = refl
over_null t (Array n i) e f = rw e refl
over_null t Reference e f = refl
over_null t k e f = absurd (cc)

under_class : (t : Tables) (c d : ℕ) → nearest t.chains c d ≡ Some d → Below t (Program c) (Program d)
under_class t c d n = go (nat_eq c d) refl
  where
    go : (x : Bool) → nat_eq c d ≡ x → joined t (Program c) (Program d) ≡ Program d
    go true e = let s : same_kind (Program c) (Program d) ≡ true = e in same_joined t (Program c) (Program d) s ∙ same_is (Program c) (Program d) s
    go false e = rw e (rw n refl)

under_array : (t : Tables) (n : ℕ) (i j : Option ℕ) (c : ℕ) → nat_lt 0 n ≡ true → nearest_item t i j ≡ Some c → j ≡ item_of_class t c → Below t (Array n i) (Array n j)
under_array t n i j c p w z = go (same_kind (Array n i) (Array n j)) refl
  where
    level : joined_references t (Array n i) (Array n j) ≡ Array n j
    level = let e : nat_eq n n ≡ true = eq-eqb n n refl in let f : joined_references t (Array n i) (Array n j) ≡ joined_items t n i n j (nearest_item t i j) = rw e refl in f ∙ ap (joined_items t n i n j) w ∙ ap (Array n) (sym z)

    go : (x : Bool) → same_kind (Array n i) (Array n j) ≡ x → joined t (Array n i) (Array n j) ≡ Array n j
    go true e = same_joined t (Array n i) (Array n j) e ∙ same_is (Array n i) (Array n j) e
    go false e = let h : joined t (Array n i) (Array n j) ≡ joined_references t (Array n i) (Array n j) = rw e (rw p refl) in h ∙ level

-- ---- items

same_object : (i : Item) → same_item i item.Object ≡ true → i ≡ item.Object
same_object item.Object e = refl
same_object i e = absurd (cc)

class_made : (p : Option ℕ) (plain : Bool) → is_initialised (kind_of_class p plain) ≡ true
class_made (Some c) true = refl
class_made (Some c) false = refl
class_made None plain = refl

class_other : (p : Option ℕ) (plain : Bool) → is_number (kind_of_class p plain) ≡ false
class_other (Some c) true = refl
class_other (Some c) false = refl
class_other None plain = refl

shape_made : (t : Tables) (s : Shape) → is_settled t s ≡ true → stored s ≡ item.Object → (is_initialised (kind_of_shape s) ≡ true) × (is_number (kind_of_shape s) ≡ false)
shape_made t (shape.Class p plain) u e = (class_made p plain, class_other p plain)
shape_made t (shape.Array n i) u e = absurd (cc)
shape_made t (shape.Word item.Object) u e = absurd (cc)
shape_made t s u e = absurd (cc)

less_one : (n : ℕ) → nat_lt 1 n ≡ true → nat_lt 0 (n - 1) ≡ true
less_one n e = let l = ltb-true 1 n e in lt-ltb 0 (n - 1) (omega (arith, l))

-- what an array of objects gives is an object
item_made : (t : Tables) (m : IsMeeting t) (n : ℕ) (i : Option ℕ) → stored_item t n i ≡ item.Object → (is_initialised (kind_of_item t n i) ≡ true) × (is_number (kind_of_item t n i) ≡ false)
item_made t m n i e = go (nat_lt 1 n) refl e
  where
    go : (x : Bool) → nat_lt 1 n ≡ x → (if x then item.Object else stored (item_shape t i)) ≡ item.Object → (is_initialised (if x then Array (n - 1) i else kind_of_shape (item_shape t i)) ≡ true) × (is_number (if x then Array (n - 1) i else kind_of_shape (item_shape t i)) ≡ false)
    go true p e = (less_one n p, refl)
    go false p e = shape_made t (item_shape t i) (item_settled t m i) e

class_kinds : (t : Tables) (a c : ℕ) (plain other : Bool) → nearest t.chains a c ≡ Some c → (plain ≡ true) ⊎ ((a ≡ c) × (plain ≡ other)) → Below t (kind_of_class (Some a) plain) (kind_of_class (Some c) other)
class_kinds t a c true true n s = under_class t a c n
class_kinds t a c true false n s = refl
class_kinds t a c false false n s = refl
class_kinds t a c false true n (inl e) = absurd (cc)
class_kinds t a c false true n (inr e) = absurd (let f = e.1 in cc)

-- items one below the other
item_kinds : (t : Tables) (m : IsMeeting t) (n : ℕ) (i j : Option ℕ) (c : ℕ) → nearest_item t i j ≡ Some c → j ≡ item_of_class t c → Below t (kind_of_item t n i) (kind_of_item t n j)
item_kinds t m n i j c w z = go (nat_lt 1 n) refl
  where
    k : AreItems t i j
    k = are_items t m i j c w z

    go : (x : Bool) → nat_lt 1 n ≡ x → Below t (if x then Array (n - 1) i else kind_of_shape (item_shape t i)) (if x then Array (n - 1) j else kind_of_shape (item_shape t j))
    go true p = under_array t (n - 1) i j c (less_one n p) w z
    go false p = subst (λ x. Below t (kind_of_shape x) (kind_of_shape (item_shape t j))) (sym k.is_lower) (subst (λ x. Below t (kind_of_class (Some k.lower) k.plain) (kind_of_shape x)) (sym k.is_upper) (class_kinds t k.lower k.upper k.plain k.other k.near k.settles))

object_kind : (t : Tables) (m : IsMeeting t) → kind_of_item t 1 t.object ≡ Reference
object_kind t m = ap kind_of_shape (object_is t m)

-- ---- what is got

null_got : (t : Tables) (a : Kind) → is_null a ≡ true → got_object t a ≡ Null
null_got t Zero e = refl
null_got t Null e = refl
null_got t a e = absurd (cc)

pub got_made : (t : Tables) (m : IsMeeting t) (k : Kind) → by_stored (λ x. same_item x item.Object) t k ≡ true → (is_initialised (got_object t k) ≡ true) × (is_number (got_object t k) ≡ false)
got_made t m (Array n j) e = item_made t m n j (same_object (stored_item t n j) e)
got_made t m Zero e = (refl, refl)
got_made t m Null e = (refl, refl)
got_made t m k e = absurd (cc)

pub got_below : (t : Tables) (m : IsMeeting t) (a b : Kind) → Below t a b → by_stored (λ x. same_item x item.Object) t b ≡ true → Below t (got_object t a) (got_object t b)
got_below t m a b h f = elim (under t a b h) [
  | itself e ↦ subst (λ x. Below t (got_object t a) (got_object t x)) e (below_itself t (got_object t a))
  | unknown e ↦ absurd (let g : by_stored (λ x. same_item x item.Object) t Undefined ≡ true = subst (λ x. by_stored (λ y. same_item y item.Object) t x ≡ true) e f in cc)
  | word p e ↦ absurd (let g : by_stored (λ x. same_item x item.Object) t Word ≡ true = subst (λ x. by_stored (λ y. same_item y item.Object) t x ≡ true) e f in cc)
  | empty p r ↦ (let g = got_made t m b f in subst (λ x. Below t x (got_object t b)) (sym (null_got t a p)) (over_null t (got_object t b) g.0 g.1))
  | any p e ↦ absurd (let g : by_stored (λ x. same_item x item.Object) t Reference ≡ true = subst (λ x. by_stored (λ y. same_item y item.Object) t x ≡ true) e f in cc)
  | classes c d p e n ↦ absurd (let g : by_stored (λ x. same_item x item.Object) t (Program d) ≡ true = subst (λ x. by_stored (λ y. same_item y item.Object) t x ≡ true) e f in cc)
  | items n i j c p q e w z ↦ subst (λ x. Below t (got_object t x) (got_object t b)) (sym q) (subst (λ x. Below t (kind_of_item t n i) (got_object t x)) (sym e) (item_kinds t m n i j c w z))
  | deep n i p w q e ↦ (
      let g = item_made t m n i (deep_stored t n i p w) in
      subst (λ x. Below t (got_object t x) (got_object t b)) (sym q) (subst (λ x. Below t (kind_of_item t n i) (got_object t x)) (sym e) (subst (Below t (kind_of_item t n i)) (sym (object_kind t m)) (under_reference t (kind_of_item t n i) g.0))))
]

pub got_moved : (t : Tables) (m : IsMeeting t) (k : Kind) → by_stored (λ x. same_item x item.Object) t k ≡ true → is_moved (got_object t k) ≡ true
got_moved t m k e = let g = got_made t m k e in moved_made (got_object t k) g.0
