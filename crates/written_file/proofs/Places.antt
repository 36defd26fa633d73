-- The classes above a class by the two ways in which they are found, and what it is to be among numbers.
use Rattle.std.proofs.Common.{◌≡◌, ◌≤◌, ◌<◌, ◌+◌, ◌⊎◌, inl, inr, ⊎_elim, ℕ, zero, suc, Bool, true, false, List, [], ◌∷◌, ◌++◌, length, map, refl, sym, ap, subst, ◌∙◌, arith, Option, Some, None, le_of_suc-le-suc}
use Rattle.std.specs.Prelude.{nat_eq, nat_lt, slice_get, ◌||◌, if◌then◌else◌}
use Rattle.std.specs.List.{flat_map, list_any, list_all, position_or_len}
use Rattle.std.proofs.lemmas.Bool.{eqb-true, eq-eqb, lt-ltb, ltb-true, and_parts}
use Rattle.std.proofs.lemmas.Bool.Decides.{leb_tells}
use Rattle.lemmas.proofs.Lists.{got_short}
use Rattle.lemmas.proofs.Options.{some_same, none_some}
use Rattle.lemmas.proofs.Bools.{clash, or_left, or_right}
use Rattle.program_model.specs.declared.program.Class.{Class}
use Rattle.program_model.specs.declared.program.Program.{Program}
use Rattle.program_model.specs.Lookups.{class_place}
use Rattle.program_model.specs.Texts.{has_type}
use Rattle.class_defs.specs.ClassGraph.{IsTwice, IsAbove}
use Rattle.dex_write.specs.Order.{first_from, place_of, above, kinds_above}
use Rattle.dex_defs.specs.Written.{place_list, above_class}

-- ---- numbers of a list

abbrev pub has : ℕ → List ℕ → Bool
has k ks = list_any (nat_eq k) ks

pub below_tells : (a b : ℕ) → ((nat_lt a b ≡ true) × (a < b)) ⊎ ((nat_lt a b ≡ false) × (b ≤ a))
below_tells a b = ⊎_elim (λ y. inl (y.0, y.1)) (λ n. inr (n.0, le_of_suc-le-suc n.1)) (leb_tells (suc a) b)

-- those below a bound
abbrev pub within : ℕ → List ℕ → List ℕ
within n [] = []
within n (x ∷ xs) = if nat_lt x n then x ∷ within n xs else within n xs

-- ---- the place of a class

data IsPlaced (none kind from : ℕ) (cs : List Class) : Type 0 where
  There : (at : ℕ) (c : Class) → at < length cs → position_or_len (λ x. nat_eq x.name kind) cs ≡ at → first_from none kind from cs ≡ from + at → slice_get cs at ≡ Some c → c.name ≡ kind
      → ((k : ℕ) (x : Class) → slice_get cs k ≡ Some x → x.name ≡ kind → at ≤ k) → IsPlaced none kind from cs
  Nowhere : position_or_len (λ x. nat_eq x.name kind) cs ≡ length cs → first_from none kind from cs ≡ none → ((k : ℕ) (x : Class) → slice_get cs k ≡ Some x → x.name ≡ kind → ⊥) → IsPlaced none kind from cs

is_placed : (none kind from : ℕ) (cs : List Class) → IsPlaced none kind from cs
is_placed none kind from [] = Nowhere refl refl (λ k x e s. none_some x e)
is_placed none kind from (c ∷ cs) = by_test (nat_eq c.name kind) refl (is_placed none kind (suc from) cs)
  where
    by_test : (t : Bool) → nat_eq c.name kind ≡ t → IsPlaced none kind (suc from) cs → IsPlaced none kind from (c ∷ cs)
    by_test true t later = There 0 c (omega arith) (rw t refl) (rw t (omega arith)) refl (eqb-true c.name kind t) (λ k x e s. omega arith)
    by_test false t (There at x lt a f g s low) = There (suc at) x (omega (arith, lt)) (rw t (rw a (omega arith))) (rw t (omega (arith, f))) g s (λ k y. least k y)
      where
        least : (k : ℕ) (y : Class) → slice_get (c ∷ cs) k ≡ Some y → y.name ≡ kind → suc at ≤ k
        least zero y e s = let same : c ≡ y = some_same c y e in clash (nat_eq c.name kind) (eq-eqb c.name kind (ap (λ (z : Class). z.name) same ∙ s)) t
        least (suc k) y e s = omega (arith, low k y e s)
    by_test false t (Nowhere a f never) = Nowhere (rw t (rw a (omega arith))) (rw t f) (λ k y. none_there k y)
      where
        none_there : (k : ℕ) (y : Class) → slice_get (c ∷ cs) k ≡ Some y → y.name ≡ kind → ⊥
        none_there zero y e s = let same : c ≡ y = some_same c y e in clash (nat_eq c.name kind) (eq-eqb c.name kind (ap (λ (z : Class). z.name) same ∙ s)) t
        none_there (suc k) y e s = never k y e s

module _ (p : Program) where
  -- a place that is found
  pub place_found : (kind : ℕ) → kind < length p.types → place_of p kind ≡ first_from (length p.classes) kind 0 p.classes
  unfolding place_of
  place_found kind lt = let t : nat_lt kind (length p.types) ≡ true = lt-ltb kind (length p.types) lt in rw t refl

  one_above : (kind : ℕ) (rest others : List ℕ) → kind < length p.types → rest ≡ within (length p.classes) others → place_list (class_place p kind) ++ rest ≡ within (length p.classes) (place_of p kind ∷ others)
  one_above kind rest others lt same = by_place (is_placed (length p.classes) kind 0 p.classes)
    where
      by_place : IsPlaced (length p.classes) kind 0 p.classes → place_list (class_place p kind) ++ rest ≡ within (length p.classes) (place_of p kind ∷ others)
      by_place (There at c l a f g s low) =
          let e : place_of p kind ≡ at = place_found kind lt ∙ omega (arith, f) in
          let t : nat_lt at (length p.classes) ≡ true = lt-ltb at (length p.classes) l in
          rw (e, a, t) (ap (λ (r : List ℕ). at ∷ r) same)
      by_place (Nowhere a f never) =
          let e : place_of p kind ≡ length p.classes = place_found kind lt ∙ f in
          let t : nat_lt (length p.classes) (length p.classes) ≡ false = not_below (length p.classes) in
          rw (e, a, t) same
        where
          not_below : (n : ℕ) → nat_lt n n ≡ false
          not_below n = ⊎_elim (λ y. absurd (omega (arith, y.1))) (λ z. z.0) (below_tells n n)

  all_above : (kinds : List ℕ) → list_all (has_type p) kinds ≡ true → flat_map (λ kind. place_list (class_place p kind)) kinds ≡ within (length p.classes) (map (place_of p) kinds)
  all_above [] h = refl
  all_above (kind ∷ kinds) h =
      let both = and_parts (has_type p kind) (list_all (has_type p) kinds) h in
      one_above kind (flat_map (λ k. place_list (class_place p k)) kinds) (map (place_of p) kinds) (ltb-true kind (length p.types) both.0) (all_above kinds both.1)

  -- each class of these names types of the table
  abbrev pub KindsFit : Class → Type 0
  KindsFit c = list_all (has_type p) (kinds_above c) ≡ true

  pub same_above : (class : ℕ) → ((c : Class) → slice_get p.classes class ≡ Some c → KindsFit c) → above_class p (slice_get p.classes class) ≡ within (length p.classes) (above p class)
  unfolding above
  same_above class fit = by_class (slice_get p.classes class) refl
    where
      by_class : (o : Option Class) → slice_get p.classes class ≡ o → above_class p (slice_get p.classes class) ≡ within (length p.classes) (above p class)
      by_class None e = rw e refl
      by_class (Some c) e = rw e (all_above (kinds_above c) (fit c e))

  -- ---- what is found stands above

  record Finds (kinds : List ℕ) (a : ℕ) : Type 0 where
    u : Class
    is : slice_get p.classes a ≡ Some u
    named : list_any (λ kind. nat_eq kind u.name) kinds ≡ true

  finds : (kinds : List ℕ) (a : ℕ) → list_all (has_type p) kinds ≡ true → has a (within (length p.classes) (map (place_of p) kinds)) ≡ true → Finds kinds a
  finds [] a h i = clash false i refl
  finds (kind ∷ kinds) a h i = by_place (is_placed (length p.classes) kind 0 p.classes) (λ t j. finds kinds a t j)
    where
      both : (has_type p kind ≡ true) × (list_all (has_type p) kinds ≡ true)
      both = and_parts (has_type p kind) (list_all (has_type p) kinds) h

      later : (list_all (has_type p) kinds ≡ true → has a (within (length p.classes) (map (place_of p) kinds)) ≡ true → Finds kinds a) → has a (within (length p.classes) (map (place_of p) kinds)) ≡ true → Finds (kind ∷ kinds) a
      later more j = let f : Finds kinds a = more both.1 j in record { u = f.u; is = f.is; named = or_right (nat_eq kind f.u.name) (list_any (λ k. nat_eq k f.u.name) kinds) f.named }

      by_place : IsPlaced (length p.classes) kind 0 p.classes → (list_all (has_type p) kinds ≡ true → has a (within (length p.classes) (map (place_of p) kinds)) ≡ true → Finds kinds a) → Finds (kind ∷ kinds) a
      by_place (There at c l x f g s low) more =
          let e : place_of p kind ≡ at = place_found kind (ltb-true kind (length p.types) both.0) ∙ omega (arith, f) in
          let t : nat_lt at (length p.classes) ≡ true = lt-ltb at (length p.classes) l in
          let j : (nat_eq a at || has a (within (length p.classes) (map (place_of p) kinds))) ≡ true = subst (λ (b : Bool). has a (if b then at ∷ within (length p.classes) (map (place_of p) kinds) else within (length p.classes) (map (place_of p) kinds)) ≡ true) t (subst (λ (m : ℕ). has a (within (length p.classes) (m ∷ map (place_of p) kinds)) ≡ true) e i) in
          by_head (nat_eq a at) refl j
        where
          by_head : (b : Bool) → nat_eq a at ≡ b → (nat_eq a at || has a (within (length p.classes) (map (place_of p) kinds))) ≡ true → Finds (kind ∷ kinds) a
          by_head true b j =
              let same : a ≡ at = eqb-true a at b in
              record { u = c; is = ap (λ (k : ℕ). slice_get p.classes k) same ∙ g; named = or_left (nat_eq kind c.name) (list_any (λ k. nat_eq k c.name) kinds) (eq-eqb kind c.name (sym s)) }
          by_head false b j = later more (subst (λ (x : Bool). (x || has a (within (length p.classes) (map (place_of p) kinds))) ≡ true) b j)
      by_place (Nowhere x f never) more =
          let e : place_of p kind ≡ length p.classes = place_found kind (ltb-true kind (length p.types) both.0) ∙ f in
          let t : nat_lt (length p.classes) (length p.classes) ≡ false = ⊎_elim (λ y. absurd (omega (arith, y.1))) (λ z. z.0) (below_tells (length p.classes) (length p.classes)) in
          later more (subst (λ (b : Bool). has a (if b then length p.classes ∷ within (length p.classes) (map (place_of p) kinds) else within (length p.classes) (map (place_of p) kinds)) ≡ true) t (subst (λ (m : ℕ). has a (within (length p.classes) (m ∷ map (place_of p) kinds)) ≡ true) e i))

  pub above_is : (class a : ℕ) (c : Class) → slice_get p.classes class ≡ Some c → KindsFit c → has a (within (length p.classes) (above p class)) ≡ true → IsAbove p class a
  unfolding above
  above_is class a c e fit i =
      let f : Finds (kinds_above c) a = finds (kinds_above c) a fit (rw e at i) in
      record { c = c; u = f.u; is_class = e; is_upper = f.is; names = f.named }

  -- ---- and what stands above is found, where no class is defined twice

  pub found_at : (once : (class : ℕ) → IsTwice p class → ⊥) (kind a : ℕ) (u : Class) → kind < length p.types → slice_get p.classes a ≡ Some u → u.name ≡ kind → place_of p kind ≡ a
  found_at once kind a u lt is named = by_place (is_placed (length p.classes) kind 0 p.classes)
    where
      by_place : IsPlaced (length p.classes) kind 0 p.classes → place_of p kind ≡ a
      by_place (There at c l x f g s low) = place_found kind lt ∙ f ∙ by_order (below_tells at a)
        where
          by_order : ((nat_lt at a ≡ true) × (at < a)) ⊎ ((nat_lt at a ≡ false) × (a ≤ at)) → 0 + at ≡ a
          by_order (inl y) = absurd (once a (record { earlier = at; before = y.1; one = c; other = u; is_one = g; is_other = is; same = s ∙ sym named }))
          by_order (inr z) = omega (arith, z.1, low a u is named)
      by_place (Nowhere x f never) = absurd (never a u is named)

  has_within : (kinds : List ℕ) (a : ℕ) (u : Class) (once : (class : ℕ) → IsTwice p class → ⊥) → list_all (has_type p) kinds ≡ true → slice_get p.classes a ≡ Some u → list_any (λ kind. nat_eq kind u.name) kinds ≡ true → has a (within (length p.classes) (map (place_of p) kinds)) ≡ true
  has_within [] a u once h is n = clash false n refl
  has_within (kind ∷ kinds) a u once h is n = by_head (nat_eq kind u.name) refl (λ t j. has_within kinds a u once t is j)
    where
      both : (has_type p kind ≡ true) × (list_all (has_type p) kinds ≡ true)
      both = and_parts (has_type p kind) (list_all (has_type p) kinds) h

      rest : List ℕ
      rest = within (length p.classes) (map (place_of p) kinds)

      either : (t : Bool) (m : ℕ) → has a rest ≡ true → has a (if t then m ∷ rest else rest) ≡ true
      either true m i = or_right (nat_eq a m) (has a rest) i
      either false m i = i

      by_head : (b : Bool) → nat_eq kind u.name ≡ b → (list_all (has_type p) kinds ≡ true → list_any (λ k. nat_eq k u.name) kinds ≡ true → has a (within (length p.classes) (map (place_of p) kinds)) ≡ true) → has a (within (length p.classes) (map (place_of p) (kind ∷ kinds))) ≡ true
      by_head true b more =
          let e : place_of p kind ≡ a = found_at once kind a u (ltb-true kind (length p.types) both.0) is (sym (eqb-true kind u.name b)) in
          let t : nat_lt a (length p.classes) ≡ true = lt-ltb a (length p.classes) (got_short p.classes a u is) in
          rw (e, t) (or_left (nat_eq a a) (has a rest) (eq-eqb a a refl))
      by_head false b more = either (nat_lt (place_of p kind) (length p.classes)) (place_of p kind) (more both.1 (subst (λ (x : Bool). (x || list_any (λ k. nat_eq k u.name) kinds) ≡ true) b n))

  pub is_above : (once : (class : ℕ) → IsTwice p class → ⊥) (class a : ℕ) → ((c : Class) → slice_get p.classes class ≡ Some c → KindsFit c) → IsAbove p class a → has a (within (length p.classes) (above p class)) ≡ true
  unfolding above
  is_above once class a fit h = rw h.is_class (has_within (kinds_above h.c) a h.u once (fit h.c h.is_class) h.is_upper h.names)
