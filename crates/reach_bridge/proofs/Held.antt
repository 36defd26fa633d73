-- A mark on a number is one on its name, and a mark on a name is one on a number of this name.
use Rattle.std.proofs.Common.{◌≡◌, ℕ, zero, suc, ◌<◌, ◌⊎◌, inl, inr, Bool, true, false, List, [], ◌∷◌, length, map, Some, refl, sym, ap, ◌∙◌, subst, arith}
use Rattle.std.specs.Prelude.{◌&&◌, ◌||◌, Contains, slice_get, slice_index_or}
use Rattle.lemmas.proofs.Bools.{and_both}
use Rattle.program_model.specs.declared.program.Program.{Program}
use Rattle.call_graph.specs.declared.facts.Fact.TheVariants as fact
use Rattle.call_graph.specs.declared.live_set.LiveSet.{LiveSet}
use Rattle.call_graph.specs.Facts.{Fits}
use Rattle.call_graph.specs.Closed.{is_met}
use Rattle.reach.specs.Kept.{is_marked}
use Rattle.dalvik_defs.specs.Names.{Text, text_eq, method_eq, field_eq}
use Rattle.dalvik_defs.specs.Naming.{type_at, field_at, method_at}
use Rattle.dalvik_defs.specs.declared.names.MethodKey.{MethodKey}
use Rattle.dalvik_defs.specs.declared.names.FieldKey.{FieldKey}
use Rattle.dalvik_defs.proofs.Calm.{text_sound}
use Rattle.removal_law.proofs.Lists.{In, here, there, clash, and_left, and_behind}
use Rattle.removal_law.proofs.Walks.{text_same}
use Rattle.removal_law.proofs.Declared.{method_sound, method_same}
use Rattle.reach_bridge.specs.Names.{any_below, family_of}
use Rattle.reach_bridge.proofs.Kept.{field_sound, field_itself}

-- ---- lists

-- what a list contains stands in it
pub stands : {A : Type 0} (xs : List A) (x : A) → Contains xs x → In x xs
stands [] x c = let lt = c.1 in absurd (omega (arith, lt))
stands {A} (y ∷ ys) x c = by (stands ys x) c.0 c.1 c.2
  where
    by : (Contains ys x → In x ys) → (k : ℕ) → k < length (y ∷ ys) → slice_index_or (y ∷ ys) k x ≡ x → In x (y ∷ ys)
    by more zero lt e = subst (λ z. In z (y ∷ ys)) e (here ys)
    by more (suc k) lt e = there y ys (more (k, omega (arith, lt), e))

-- an image is one of an element
pub of_image : {A B : Type 0} (f : A → B) (y : B) (xs : List A) → In y (map f xs) → (x : A) × (In x xs × (f x ≡ y))
of_image f y [] i = elim i [ ]
of_image {A} {B} f y (x ∷ xs) i = by (split y (f x) (map f xs) i) (of_image f y xs)
  where
    split : (y z : B) (zs : List B) → In y (z ∷ zs) → (z ≡ y) ⊎ In y zs
    split y z zs (here ws) = inl refl
    split y z zs (there u ws j) = inr j

    by : (f x ≡ y) ⊎ In y (map f xs) → (In y (map f xs) → (a : A) × (In a xs × (f a ≡ y))) → (a : A) × (In a (x ∷ xs) × (f a ≡ y))
    by (inl e) more = (x, (here xs, e))
    by (inr j) more = let r = more j in (r.0, (there x xs r.1.0, r.1.1))

-- what stands at a place stands in the list
pub at_stands : {A : Type 0} (xs : List A) (i : ℕ) (x : A) → slice_get xs i ≡ Some x → In x xs
at_stands [] i x e = cc
at_stands (y ∷ ys) zero x e = subst (λ z. In z (y ∷ ys)) (let s : y ≡ x = cc in s) (here ys)
at_stands (y ∷ ys) (suc i) x e = there y ys (at_stands ys i x e)

-- what stands in a list has a place
pub placed_at : {A : Type 0} (xs : List A) (x : A) → In x xs → (i : ℕ) × (slice_get xs i ≡ Some x)
placed_at [] x i = elim i [ ]
placed_at (y ∷ ys) x (here zs) = (0, refl)
placed_at (y ∷ ys) x (there z zs i) = let r = placed_at ys x i in (suc r.0, r.1)

-- ---- numbers that pass

pub any_has : (n : ℕ) (t : ℕ → Bool) (k : ℕ) → k < n → t k ≡ true → any_below n t ≡ true
any_has zero t k lt e = absurd (omega (arith, lt))
any_has (suc n) t k lt e = by (t n) refl (λ l. any_has n t k l e)
  where
    by : (b : Bool) → t n ≡ b → (k < n → any_below n t ≡ true) → any_below (suc n) t ≡ true
    by true i more = ap (λ b. b || any_below n t) i
    by false i more = ap (λ b. b || any_below n t) i ∙ more (less (λ same. clash (t k) e (ap t same ∙ i)))
      where
        less : (k ≡ n → ⊥) → k < n
        less away = omega (arith, lt, away)

pub any_from : (n : ℕ) (t : ℕ → Bool) → any_below n t ≡ true → (k : ℕ) × ((k < n) × (t k ≡ true))
any_from zero t e = clash false e refl
any_from (suc n) t e = by (t n) refl (any_from n t) e
  where
    by : (b : Bool) → t n ≡ b → (any_below n t ≡ true → (k : ℕ) × ((k < n) × (t k ≡ true))) → any_below (suc n) t ≡ true → (k : ℕ) × ((k < suc n) × (t k ≡ true))
    by true i more e = (n, (omega arith, i))
    by false i more e = let r = more (sym (ap (λ b. b || any_below n t) i) ∙ e) in let lt = r.1.0 in (r.0, (omega (arith, lt), r.1.1))

-- ---- marks

-- a number of a table is marked where it is marked or past the table
pub within : (marks : List Bool) (n : ℕ) → n < length marks → slice_index_or marks n true ≡ true → is_marked marks n ≡ true
within [] n lt e = absurd (omega (arith, lt))
within (b ∷ bs) zero lt e = e
within (b ∷ bs) (suc n) lt e = within bs n (omega (arith, lt)) e

-- a marked number of a name
pub record ByNumber {K : Type 0} (marks : List Bool) (size : ℕ) (name : ℕ → K) (k : K) : Type 0 where
  pub number : ℕ
  pub short : number < size
  pub marked : is_marked marks number ≡ true
  pub is : name number ≡ k

by_number : {K : Type 0} (marks : List Bool) (size : ℕ) (name : ℕ → K) (same : K → K → Bool) → ((a b : K) → same a b ≡ true → a ≡ b) → (k : K)
    → any_below size (λ n. is_marked marks n && same (name n) k) ≡ true → ByNumber marks size name k
by_number marks size name same sound k e =
    let r = any_from size (λ n. is_marked marks n && same (name n) k) e in
    record { number = r.0; short = r.1.0; marked = and_left (is_marked marks r.0) (same (name r.0) k) r.1.1; is = sound (name r.0) k (and_behind (is_marked marks r.0) (same (name r.0) k) r.1.1) }

module _ (p : Program) (s : LiveSet) where
  pub class_number : (t : Text) → (family_of p s).classes t ≡ true → ByNumber s.classes.items (length p.types) (type_at p) t
  class_number t e = by_number s.classes.items (length p.types) (type_at p) text_eq text_sound t e

  pub made_number : (t : Text) → (family_of p s).made t ≡ true → ByNumber s.made.items (length p.types) (type_at p) t
  made_number t e = by_number s.made.items (length p.types) (type_at p) text_eq text_sound t e

  pub field_number : (k : FieldKey) → (family_of p s).fields k ≡ true → ByNumber s.fields.items (length p.fields) (field_at p) k
  field_number k e = by_number s.fields.items (length p.fields) (field_at p) field_eq field_sound k e

  pub method_number : (k : MethodKey) → (family_of p s).methods k ≡ true → ByNumber s.methods.items (length p.methods) (method_at p) k
  method_number k e = by_number s.methods.items (length p.methods) (method_at p) method_eq method_sound k e

  module _ (sized : Fits p s) where
    pub class_met : (n : ℕ) → n < length p.types → is_met s (fact.Class n) ≡ true → (family_of p s).classes (type_at p n) ≡ true
    class_met n lt e = let long = sized.classes in
        any_has (length p.types) (λ k. is_marked s.classes.items k && text_eq (type_at p k) (type_at p n)) n lt
        (and_both (is_marked s.classes.items n) (text_eq (type_at p n) (type_at p n)) (within s.classes.items n (omega (arith, lt, long, s.classes.ok)) e) (text_same (type_at p n)))

    pub made_met : (n : ℕ) → n < length p.types → is_met s (fact.Made n) ≡ true → (family_of p s).made (type_at p n) ≡ true
    made_met n lt e = let long = sized.made in
        any_has (length p.types) (λ k. is_marked s.made.items k && text_eq (type_at p k) (type_at p n)) n lt
        (and_both (is_marked s.made.items n) (text_eq (type_at p n) (type_at p n)) (within s.made.items n (omega (arith, lt, long, s.made.ok)) e) (text_same (type_at p n)))

    pub field_met : (n : ℕ) → n < length p.fields → is_met s (fact.Field n) ≡ true → (family_of p s).fields (field_at p n) ≡ true
    field_met n lt e = let long = sized.fields in
        any_has (length p.fields) (λ k. is_marked s.fields.items k && field_eq (field_at p k) (field_at p n)) n lt
        (and_both (is_marked s.fields.items n) (field_eq (field_at p n) (field_at p n)) (within s.fields.items n (omega (arith, lt, long, s.fields.ok)) e) (field_itself (field_at p n)))

    pub method_met : (n : ℕ) → n < length p.methods → is_met s (fact.Method n) ≡ true → (family_of p s).methods (method_at p n) ≡ true
    method_met n lt e = let long = sized.methods in
        any_has (length p.methods) (λ k. is_marked s.methods.items k && method_eq (method_at p k) (method_at p n)) n lt
        (and_both (is_marked s.methods.items n) (method_eq (method_at p n) (method_at p n)) (within s.methods.items n (omega (arith, lt, long, s.methods.ok)) e) (method_same (method_at p n)))
