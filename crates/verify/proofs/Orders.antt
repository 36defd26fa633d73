-- What stands at or below a kind, by sort.
use Rattle.std.proofs.Common.{◌≡◌, ℕ, Bool, true, false, ◌||◌, nat_eq, nat_lt, Option, Some, None, refl, sym, ap, ◌∙◌}
use Rattle.std.specs.Prelude.{if◌then◌else◌}
use Rattle.std.proofs.lemmas.Bool.{eqb-true}
use Rattle.verify.specs.declared.kinds.Kind.{Kind}
use Rattle.verify.specs.declared.kinds.Kind.TheVariants.{Undefined, Word, Zero, Null, Program, Array, Reference}
use Rattle.verify.specs.declared.tables.Tables.{Tables}
use Rattle.verify.specs.Chains.{nearest}
use Rattle.verify.specs.Joins.{joined_references, joined_items, joined_deep, class_or_reference, nearest_item, is_flat}
use Rattle.verify.specs.Kinds.{same_kind, is_number, is_initialised, is_null}
use Rattle.verify.specs.Types.{item_of_class}
use Rattle.verify.specs.Typings.{Below}
use Rattle.verify.proofs.Lattice.{left_true, joins, alike, numbers, objects, apart, number_joined, made_joined}

pub number_below : (t : Tables) (a b : Kind) → Below t a b → is_number b ≡ true → is_number a ≡ true
number_below t a b h e = left_true (is_number a) (is_number b) (sym (number_joined t a b) ∙ ap is_number h ∙ e)

pub made_below : (t : Tables) (a b : Kind) → Below t a b → is_initialised b ≡ true → is_initialised a ≡ true
made_below t a b h e = left_true (is_initialised a) (is_initialised b) (sym (made_joined t a b) ∙ ap is_initialised h ∙ e)

pub data Under (t : Tables) (a b : Kind) : Type 0 where
  itself : a ≡ b → Under t a b
  unknown : b ≡ Undefined → Under t a b
  word : is_number a ≡ true → b ≡ Word → Under t a b
  empty : is_null a ≡ true → is_initialised b ≡ true → Under t a b
  any : is_initialised a ≡ true → b ≡ Reference → Under t a b
  classes : (c d : ℕ) → a ≡ Program c → b ≡ Program d → nearest t.chains c d ≡ Some d → Under t a b
  items : (m : ℕ) (i j : Option ℕ) (c : ℕ) → nat_lt 0 m ≡ true → a ≡ Array m i → b ≡ Array m j → nearest_item t i j ≡ Some c → j ≡ item_of_class t c → Under t a b
  deep : (m : ℕ) (i : Option ℕ) → nat_lt 0 m ≡ true → is_flat t m i ≡ false → a ≡ Array m i → b ≡ Array 1 t.object → Under t a b

class_no : Kind → ℕ
class_no (Program c) = c
class_no k = 0

depth_no : Kind → ℕ
depth_no (Array n i) = n
depth_no k = 0

item_no : Kind → Option ℕ
item_no (Array n i) = i
item_no k = None

class_is : (o : Option ℕ) (d : ℕ) → class_or_reference o ≡ Program d → o ≡ Some d
unfolding class_no
class_is None d e = absurd (cc)
class_is (Some x) d e = ap Some (ap class_no e)

left_false : (a b : Bool) → (a || b) ≡ false → a ≡ false
left_false false b e = refl
left_false true b e = absurd (cc)

under_deep : (t : Tables) (m : ℕ) (i : Option ℕ) (n : ℕ) (j : Option ℕ) → nat_lt 0 m ≡ true → joined_deep t m i n j ≡ Array n j → Under t (Array m i) (Array n j)
under_deep t m i n j p h = go (is_flat t m i || is_flat t n j) refl h
  where
    go : (z : Bool) → (is_flat t m i || is_flat t n j) ≡ z → (if z then Reference else Array 1 t.object) ≡ Array n j → Under t (Array m i) (Array n j)
    go true e h = absurd (cc)
    go false e h = deep m i p (left_false (is_flat t m i) (is_flat t n j) e) refl (sym h)

under_items : (t : Tables) (m : ℕ) (i : Option ℕ) (n : ℕ) (j : Option ℕ) (o : Option ℕ) → nat_lt 0 m ≡ true → m ≡ n → nearest_item t i j ≡ o → joined_items t m i n j o ≡ Array n j → Under t (Array m i) (Array n j)
unfolding item_no
under_items t m i n j None p e f h = under_deep t m i n j p h
under_items t m i n j (Some c) p e f h = items m i j c p refl (ap (λ x. Array x j) (sym e)) f (sym (ap item_no h))

under_arrays : (t : Tables) (m : ℕ) (i : Option ℕ) (n : ℕ) (j : Option ℕ) → nat_lt 0 m ≡ true → joined_references t (Array m i) (Array n j) ≡ Array n j → Under t (Array m i) (Array n j)
under_arrays t m i n j p h = go (nat_eq m n) refl h
  where
    go : (x : Bool) → nat_eq m n ≡ x → (if x then joined_items t m i n j (nearest_item t i j) else joined_deep t m i n j) ≡ Array n j → Under t (Array m i) (Array n j)
    go true e h = under_items t m i n j (nearest_item t i j) p (eqb-true m n e) refl h
    go false e h = under_deep t m i n j p h

under_made : (t : Tables) (a b : Kind) → is_initialised a ≡ true → is_initialised b ≡ true → joined_references t a b ≡ b → Under t a b
under_made t Zero b p q h = empty refl q
under_made t Null b p q h = empty refl q
under_made t (Program c) Reference p q h = any refl refl
under_made t (Program c) (Program d) p q h = classes c d refl refl (class_is (nearest t.chains c d) d h)
under_made t (Program c) Zero p q h = absurd (cc)
under_made t (Program c) Null p q h = absurd (cc)
under_made t (Program c) (Array n j) p q h = absurd (cc)
under_made t (Array m i) Reference p q h = any p refl
under_made t (Array m i) (Array n j) p q h = under_arrays t m i n j p h
under_made t (Array m i) Zero p q h = absurd (cc)
under_made t (Array m i) Null p q h = absurd (cc)
under_made t (Array m i) (Program d) p q h = absurd (cc)
under_made t Reference Reference p q h = any refl refl
under_made t Reference Zero p q h = absurd (cc)
under_made t Reference Null p q h = absurd (cc)
under_made t Reference (Program d) p q h = absurd (cc)
under_made t Reference (Array n j) p q h = absurd (cc)
under_made t a b p q h = absurd (cc)

pub under : (t : Tables) (a b : Kind) → Below t a b → Under t a b
under t a b h = elim (joins t a b) [
  | alike e j ↦ itself e
  | numbers e f g j ↦ word f (sym h ∙ j)
  | objects e f g j o ↦ under_made t a b f g (sym j ∙ h)
  | apart e f g j ↦ unknown (sym h ∙ j)
]

-- what is neither a number nor an object nor undefined is above itself alone
pub bare_below : (t : Tables) (a b : Kind) → Below t a b → is_number b ≡ false → is_initialised b ≡ false → same_kind b Undefined ≡ false → a ≡ b
bare_below t a b h p q n = elim (joins t a b) [
  | alike e j ↦ e
  | numbers e f g j ↦ absurd (cc)
  | objects e f g j o ↦ absurd (cc)
  | apart e f g j ↦ absurd (let u : same_kind b Undefined ≡ true = ap (λ x. same_kind x Undefined) (sym h ∙ j) in cc)
]
