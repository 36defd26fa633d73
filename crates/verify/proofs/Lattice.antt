-- Joins are least upper bounds where classes meet as chains do.
use Rattle.std.proofs.Common.{◌≡◌, ℕ, Bool, true, false, ◌&&◌, ◌||◌, nat_eq, nat_lt, Option, Some, None, refl, sym, ap, ◌∙◌, subst}
use Rattle.std.specs.Prelude.{if◌then◌else◌}
use Rattle.std.proofs.lemmas.Bool.{eqb-true}
use Rattle.verify.specs.declared.kinds.Kind.{Kind}
use Rattle.verify.specs.declared.kinds.Kind.TheVariants.{Undefined, Word, Zero, WideLow, WideHigh, Fresh, FreshThis, Null, Program, Array, Reference}
use Rattle.verify.specs.declared.tables.Tables.{Tables}
use Rattle.verify.specs.Joins.{joined, joined_references, joined_null, joined_arrays, joined_items, joined_deep, class_or_reference, nearest_item, is_flat}
use Rattle.verify.specs.Chains.{nearest}
use Rattle.verify.specs.Kinds.{same_kind, same_number, is_number, is_initialised}
use Rattle.verify.proofs.Raises.{kind_itself, same_joined}

pub left_true : (a b : Bool) → (a && b) ≡ true → a ≡ true
left_true true b e = refl
left_true false b e = e

pub right_true : (a b : Bool) → (a && b) ≡ true → b ≡ true
right_true true b e = e
right_true false b e = absurd (cc)

pub number_is : (i j : Option ℕ) → same_number i j ≡ true → i ≡ j
number_is None None e = refl
number_is (Some a) (Some b) e = ap Some (eqb-true a b e)
number_is None (Some b) e = absurd (cc)
number_is (Some a) None e = absurd (cc)

-- ---- the same kind

-- a kind of one constructor without fields
pub same_is : (a b : Kind) → same_kind a b ≡ true → a ≡ b
same_is Undefined Undefined e = refl
same_is Word Word e = refl
same_is Zero Zero e = refl
same_is WideLow WideLow e = refl
same_is WideHigh WideHigh e = refl
same_is FreshThis FreshThis e = refl
same_is Null Null e = refl
same_is Reference Reference e = refl
same_is (Fresh c p) (Fresh d q) e =
    let x : c ≡ d = eqb-true c d (left_true (nat_eq c d) (nat_eq p q) e) in
    let y : p ≡ q = eqb-true p q (right_true (nat_eq c d) (nat_eq p q) e) in
    ap (λ n. Fresh n p) x ∙ ap (Fresh d) y
same_is (Program c) (Program d) e = ap Program (eqb-true c d e)
same_is (Array m i) (Array n j) e =
    let x : m ≡ n = eqb-true m n (left_true (nat_eq m n) (same_number i j) e) in
    let y : i ≡ j = number_is i j (right_true (nat_eq m n) (same_number i j) e) in
    ap (λ n. Array n i) x ∙ ap (Array n) y
same_is a b e = absurd (cc)

pub same_swaps : (a b : Kind) → same_kind a b ≡ true → same_kind b a ≡ true
same_swaps a b e = subst (λ x. same_kind x a ≡ true) (same_is a b e) (kind_itself a)

pub same_sides : (a b : Kind) → same_kind a b ≡ same_kind b a
same_sides a b = go (same_kind a b) (same_kind b a) refl refl
  where
    go : (x y : Bool) → same_kind a b ≡ x → same_kind b a ≡ y → x ≡ y
    go true true p q = refl
    go false false p q = refl
    go true false p q = absurd (let h = same_swaps a b p in cc)
    go false true p q = absurd (let h = same_swaps b a q in cc)

pub and_swaps : (a b : Bool) → (a && b) ≡ (b && a)
and_swaps true true = refl
and_swaps true false = refl
and_swaps false true = refl
and_swaps false false = refl

-- ---- objects

-- null, or an object that a constructor was called on, and no number
pub record IsObject (k : Kind) : Type 0 where
  pub made : is_initialised k ≡ true
  pub other : is_number k ≡ false

object_class : (o : Option ℕ) → IsObject (class_or_reference o)
object_class None = record { made = refl; other = refl }
object_class (Some c) = record { made = refl; other = refl }

object_deep : (t : Tables) (m : ℕ) (i : Option ℕ) (n : ℕ) (j : Option ℕ) → IsObject (joined_deep t m i n j)
object_deep t m i n j = go (is_flat t m i || is_flat t n j)
  where
    go : (b : Bool) → IsObject (if b then Reference else Array 1 t.object)
    go true = record { made = refl; other = refl }
    go false = record { made = refl; other = refl }

object_items : (t : Tables) (m : ℕ) (i : Option ℕ) (n : ℕ) (j o : Option ℕ) → nat_lt 0 m ≡ true → IsObject (joined_items t m i n j o)
object_items t m i n j None p = object_deep t m i n j
object_items t m i n j (Some c) p = record { made = p; other = refl }

object_arrays : (t : Tables) (m : ℕ) (i : Option ℕ) (n : ℕ) (j : Option ℕ) → nat_lt 0 m ≡ true → IsObject (joined_arrays t m i n j)
object_arrays t m i n j p = go (nat_eq m n)
  where
    go : (b : Bool) → IsObject (if b then joined_items t m i n j (nearest_item t i j) else joined_deep t m i n j)
    go true = object_items t m i n j (nearest_item t i j) p
    go false = object_deep t m i n j

object_null : (b : Kind) → is_initialised b ≡ true → IsObject (joined_null b)
object_null Zero p = record { made = refl; other = refl }
object_null Null p = record { made = refl; other = refl }
object_null Reference p = record { made = refl; other = refl }
object_null (Program c) p = record { made = refl; other = refl }
object_null (Array n i) p = record { made = p; other = refl }
object_null b p = absurd (cc)

pub object_joined : (t : Tables) (a b : Kind) → is_initialised a ≡ true → is_initialised b ≡ true → same_kind a b ≡ false → IsObject (joined_references t a b)
object_joined t Zero Zero p q e = absurd (cc)
object_joined t Zero (Array n i) p q e = record { made = q; other = refl }
object_joined t Zero Null p q e = record { made = refl; other = refl }
object_joined t Zero Reference p q e = record { made = refl; other = refl }
object_joined t Zero (Program c) p q e = record { made = refl; other = refl }
object_joined t Null b p q e = object_null b q
object_joined t (Program c) (Program d) p q e = object_class (nearest t.chains c d)
object_joined t (Program c) Zero p q e = record { made = refl; other = refl }
object_joined t (Program c) b p q e = record { made = refl; other = refl }
object_joined t (Array m i) (Array n j) p q e = object_arrays t m i n j p
object_joined t (Array m i) Zero p q e = record { made = p; other = refl }
object_joined t (Array m i) Null p q e = record { made = p; other = refl }
object_joined t (Array m i) b p q e = record { made = refl; other = refl }
object_joined t Reference b p q e = record { made = refl; other = refl }
object_joined t a b p q e = absurd (cc)

-- ---- what two kinds have in common, by sort

pub data Joins (t : Tables) (a b : Kind) : Type 0 where
  alike : a ≡ b → joined t a b ≡ a → Joins t a b
  numbers : same_kind a b ≡ false → is_number a ≡ true → is_number b ≡ true → joined t a b ≡ Word → Joins t a b
  objects : same_kind a b ≡ false → is_initialised a ≡ true → is_initialised b ≡ true → joined t a b ≡ joined_references t a b → IsObject (joined t a b) → Joins t a b
  apart : same_kind a b ≡ false → (is_number a && is_number b) ≡ false → (is_initialised a && is_initialised b) ≡ false → joined t a b ≡ Undefined → Joins t a b

pub joins : (t : Tables) (a b : Kind) → Joins t a b
joins t a b = go (same_kind a b) (is_number a && is_number b) (is_initialised a && is_initialised b) refl refl refl
  where
    go : (x y z : Bool) → same_kind a b ≡ x → (is_number a && is_number b) ≡ y → (is_initialised a && is_initialised b) ≡ z → Joins t a b
    go true y z e f g = alike (same_is a b e) (same_joined t a b e)
    go false true z e f g = numbers e (left_true (is_number a) (is_number b) f) (right_true (is_number a) (is_number b) f) (rw e (rw f refl))
    go false false true e f g =
        let p = left_true (is_initialised a) (is_initialised b) g in
        let q = right_true (is_initialised a) (is_initialised b) g in
        let h : joined t a b ≡ joined_references t a b = rw e (rw f (rw g refl)) in
        objects e p q h (subst IsObject (sym h) (object_joined t a b p q e))
    go false false false e f g = apart e f g (rw e (rw f (rw g refl)))

and_itself : (a : Bool) → a ≡ (a && a)
and_itself true = refl
and_itself false = refl

zero_alone : (a : Kind) → is_number a ≡ true → is_initialised a ≡ true → a ≡ Zero
zero_alone Zero p q = refl
zero_alone a p q = absurd (cc)

-- two unlike kinds aren't numbers and objects at once
pub not_both : (a b : Kind) → same_kind a b ≡ false → is_initialised a ≡ true → is_initialised b ≡ true → (is_number a && is_number b) ≡ false
not_both a b e p q = go (is_number a) (is_number b) refl refl
  where
    go : (x y : Bool) → is_number a ≡ x → is_number b ≡ y → (x && y) ≡ false
    go false y f g = refl
    go true false f g = refl
    go true true f g =
        let z = zero_alone a f p in
        let w = zero_alone b g q in
        let h : same_kind Zero Zero ≡ false = subst (λ x. same_kind Zero x ≡ false) w (subst (λ x. same_kind x b ≡ false) z e) in
        absurd (cc)

pub number_joined : (t : Tables) (a b : Kind) → is_number (joined t a b) ≡ (is_number a && is_number b)
number_joined t a b = elim (joins t a b) [
  | alike e j ↦ ap is_number j ∙ subst (λ x. is_number a ≡ (is_number a && is_number x)) e (and_itself (is_number a))
  | numbers e p q j ↦ ap is_number j ∙ rw (p, q) refl
  | objects e p q j o ↦ o.other ∙ sym (not_both a b e p q)
  | apart e f g j ↦ ap is_number j ∙ sym f
]

not_made : (a b : Kind) → same_kind a b ≡ false → is_number a ≡ true → is_number b ≡ true → (is_initialised a && is_initialised b) ≡ false
not_made Zero Zero e p q = absurd (cc)
not_made Zero Word e p q = refl
not_made Word b e p q = refl
not_made a b e p q = absurd (cc)

pub made_joined : (t : Tables) (a b : Kind) → is_initialised (joined t a b) ≡ (is_initialised a && is_initialised b)
made_joined t a b = elim (joins t a b) [
  | alike e j ↦ ap is_initialised j ∙ subst (λ x. is_initialised a ≡ (is_initialised a && is_initialised x)) e (and_itself (is_initialised a))
  | numbers e p q j ↦ ap is_initialised j ∙ sym (not_made a b e p q)
  | objects e p q j o ↦ o.made ∙ rw (p, q) refl
  | apart e f g j ↦ ap is_initialised j ∙ sym g
]

-- ---- joins with a simple kind

with_undefined : (t : Tables) (k : Kind) → joined t Undefined k ≡ Undefined
with_undefined t Undefined = refl
with_undefined t k = refl

with_word : (t : Tables) (k : Kind) → joined t Word k ≡ (if is_number k then Word else Undefined)
with_word t Word = refl
with_word t k = refl

pub with_reference : (t : Tables) (k : Kind) → joined t Reference k ≡ (if is_initialised k then Reference else Undefined)
with_reference t Reference = refl
with_reference t k = refl

with_zero : (t : Tables) (k : Kind) → joined t Zero k ≡ (if (is_number k || is_initialised k) then k else Undefined)
with_zero t Zero = refl
with_zero t k = refl

with_null : (t : Tables) (k : Kind) → joined t Null k ≡ (if is_initialised k then joined_null k else Undefined)
with_null t Null = refl
with_null t k = refl

with_bare : (t : Tables) (a k : Kind) → is_number a ≡ false → is_initialised a ≡ false → joined t a k ≡ (if same_kind a k then a else Undefined)
with_bare t a k p q = rw p (rw q refl)

abbrev pub Groups : Tables → Kind → Kind → Kind → Type 0
Groups t a b c = joined t (joined t a b) c ≡ joined t a (joined t b c)

pub groups_word : (t : Tables) (b c : Kind) → Groups t Word b c
groups_word t b c = ap (λ x. joined t x c) (with_word t b) ∙ go (is_number b) ∙ sym (ap (λ x. if x then Word else Undefined) (number_joined t b c)) ∙ sym (with_word t (joined t b c))
  where
    go : (x : Bool) → joined t (if x then Word else Undefined) c ≡ (if (x && is_number c) then Word else Undefined)
    go true = with_word t c
    go false = with_undefined t c

pub groups_reference : (t : Tables) (b c : Kind) → Groups t Reference b c
groups_reference t b c = ap (λ x. joined t x c) (with_reference t b) ∙ go (is_initialised b) ∙ sym (ap (λ x. if x then Reference else Undefined) (made_joined t b c)) ∙ sym (with_reference t (joined t b c))
  where
    go : (x : Bool) → joined t (if x then Reference else Undefined) c ≡ (if (x && is_initialised c) then Reference else Undefined)
    go true = with_reference t c
    go false = with_undefined t c

-- a number or an object stays
kept : Kind → Kind
kept k = if (is_number k || is_initialised k) then k else Undefined

or_true : (a b : Bool) → b ≡ true → (a || b) ≡ true
or_true true b e = refl
or_true false b e = e

kept_made : (k : Kind) → is_initialised k ≡ true → kept k ≡ k
unfolding kept
kept_made k p = let h : (is_number k || is_initialised k) ≡ true = or_true (is_number k) (is_initialised k) p in rw h refl

kept_joined : (t : Tables) (b c : Kind) → (is_number b || is_initialised b) ≡ true → kept (joined t b c) ≡ joined t b c
unfolding kept
kept_joined t b c p = elim (joins t b c) [
  | alike e j ↦ subst (λ x. kept x ≡ x) (sym j) (let h : kept b ≡ b = rw p refl in h)
  | numbers e f g j ↦ subst (λ x. kept x ≡ x) (sym j) refl
  | objects e f g j o ↦ kept_made (joined t b c) o.made
  | apart e f g j ↦ subst (λ x. kept x ≡ x) (sym j) refl
]

pub groups_zero : (t : Tables) (b c : Kind) → Groups t Zero b c
unfolding kept
groups_zero t b c = ap (λ x. joined t x c) (with_zero t b) ∙ go (is_number b || is_initialised b) refl ∙ sym (with_zero t (joined t b c))
  where
    go : (x : Bool) → (is_number b || is_initialised b) ≡ x → joined t (if x then b else Undefined) c ≡ kept (joined t b c)
    go true e = sym (kept_joined t b c e)
    go false e = with_undefined t c ∙ sym (gone (is_number b) (is_initialised b) e (number_joined t b c) (made_joined t b c))
      where
        gone : (x y : Bool) → (x || y) ≡ false → is_number (joined t b c) ≡ (x && is_number c) → is_initialised (joined t b c) ≡ (y && is_initialised c) → kept (joined t b c) ≡ Undefined
        gone false false e f g = rw f (rw g refl)
        gone true y e f g = absurd (cc)
        gone false true e f g = absurd (cc)

differ_made : (a b : Kind) → is_initialised a ≡ true → is_initialised b ≡ false → same_kind a b ≡ false
differ_made a b p q = go (same_kind a b) refl
  where
    go : (x : Bool) → same_kind a b ≡ x → x ≡ false
    go false e = refl
    go true e = absurd (let h : is_initialised b ≡ true = subst (λ x. is_initialised x ≡ true) (same_is a b e) p in cc)

object_apart : (t : Tables) (a b : Kind) → IsObject a → is_initialised b ≡ false → joined t a b ≡ Undefined
object_apart t a b o q =
    let e = differ_made a b o.made q in
    let f = o.other in
    let g = o.made in
    rw e (rw f (rw g (rw q refl)))

null_stays : (k : Kind) → is_number k ≡ false → joined_null k ≡ k
null_stays Zero p = absurd (cc)
null_stays k p = refl

null_twice : (k : Kind) → joined_null (joined_null k) ≡ joined_null k
null_twice Zero = refl
null_twice k = refl

null_made : (t : Tables) (k : Kind) → is_initialised k ≡ true → joined t Null k ≡ joined_null k
null_made t k p = with_null t k ∙ rw p refl

zero_made : (t : Tables) (k : Kind) → is_initialised k ≡ true → joined t Zero k ≡ k
unfolding kept
zero_made t k p = with_zero t k ∙ kept_made k p

null_on : (t : Tables) (b c : Kind) → is_initialised b ≡ true → is_initialised c ≡ true → joined t (joined_null b) c ≡ joined_null (joined t b c)
null_on t Zero c p q = null_made t c q ∙ ap joined_null (sym (zero_made t c q))
null_on t Null c p q = null_made t c q ∙ sym (null_twice c) ∙ ap joined_null (sym (null_made t c q))
null_on t (Program d) c p q = sym (null_stays (joined t (Program d) c) (number_joined t (Program d) c))
null_on t (Array n i) c p q = sym (null_stays (joined t (Array n i) c) (number_joined t (Array n i) c))
null_on t Reference c p q = sym (null_stays (joined t Reference c) (number_joined t Reference c))
null_on t b c p q = absurd (cc)

pub groups_null : (t : Tables) (b c : Kind) → Groups t Null b c
groups_null t b c = ap (λ x. joined t x c) (with_null t b) ∙ go (is_initialised b) (is_initialised c) refl refl ∙ sym (ap (λ x. if x then joined_null (joined t b c) else Undefined) (made_joined t b c)) ∙ sym (with_null t (joined t b c))
  where
    go : (x y : Bool) → is_initialised b ≡ x → is_initialised c ≡ y → joined t (if x then joined_null b else Undefined) c ≡ (if (x && is_initialised c) then joined_null (joined t b c) else Undefined)
    go false y e f = with_undefined t c
    go true true e f = null_on t b c e f ∙ rw f refl
    go true false e f = object_apart t (joined_null b) c (object_null b e) f ∙ rw f refl

bare_itself : (t : Tables) (a c : Kind) → is_number a ≡ false → is_initialised a ≡ false → joined t a (joined t a c) ≡ joined t a c
bare_itself t a c p q = go (same_kind a c) refl
  where
    go : (x : Bool) → same_kind a c ≡ x → joined t a (joined t a c) ≡ joined t a c
    go true e = let j = same_joined t a c e in subst (λ x. joined t a x ≡ x) (sym j) (same_joined t a a (kind_itself a))
    go false e =
        let j : joined t a c ≡ Undefined = with_bare t a c p q ∙ rw e refl in
        subst (λ x. joined t a x ≡ x) (sym j) (with_bare t a Undefined p q ∙ last a)
      where
        last : (k : Kind) → (if same_kind k Undefined then k else Undefined) ≡ Undefined
        last Undefined = refl
        last k = refl

bare_apart : (t : Tables) (a k : Kind) → is_number a ≡ false → is_initialised a ≡ false → (is_number k || is_initialised k) ≡ true → joined t a k ≡ Undefined
bare_apart t a k p q r = with_bare t a k p q ∙ go (same_kind a k) refl
  where
    go : (x : Bool) → same_kind a k ≡ x → (if x then a else Undefined) ≡ Undefined
    go false e = refl
    go true e = absurd (let h = subst (λ x. (is_number x || is_initialised x) ≡ true) (sym (same_is a k e)) r in let u : (false || false) ≡ true = rw p at (rw q at h) in cc)

pub groups_bare : (t : Tables) (a b c : Kind) → is_number a ≡ false → is_initialised a ≡ false → Groups t a b c
groups_bare t a b c p q = go (same_kind a b) refl
  where
    rest : same_kind a b ≡ false → joined t a (joined t b c) ≡ Undefined
    rest e = elim (joins t b c) [
      | alike f j ↦ subst (λ x. joined t a x ≡ Undefined) (sym j) (with_bare t a b p q ∙ rw e refl)
      | numbers f g h j ↦ subst (λ x. joined t a x ≡ Undefined) (sym j) (bare_apart t a Word p q refl)
      | objects f g h j o ↦ bare_apart t a (joined t b c) p q (or_true (is_number (joined t b c)) (is_initialised (joined t b c)) o.made)
      | apart f g h j ↦ subst (λ x. joined t a x ≡ Undefined) (sym j) (last a p q)
    ]
      where
        last : (k : Kind) → is_number k ≡ false → is_initialised k ≡ false → joined t k Undefined ≡ Undefined
        last k p q = with_bare t k Undefined p q ∙ end k
          where
            end : (k : Kind) → (if same_kind k Undefined then k else Undefined) ≡ Undefined
            end Undefined = refl
            end k = refl

    go : (x : Bool) → same_kind a b ≡ x → Groups t a b c
    go true e = let s = same_is a b e in subst (λ x. Groups t a x c) s (ap (λ x. joined t x c) (same_joined t a a (kind_itself a)) ∙ sym (bare_itself t a c p q))
    go false e =
        let j : joined t a b ≡ Undefined = with_bare t a b p q ∙ rw e refl in
        ap (λ x. joined t x c) j ∙ with_undefined t c ∙ sym (rest e)
