-- What an object of a class finds is defined by a class that it stands under, as a virtual method of that class itself.
use Rattle.std.proofs.Common.{◌≡◌, ◌⊎◌, inl, inr, ℕ, zero, suc, Bool, true, false, nat_eq, List, [], ◌∷◌, ◌++◌, length, Option, Some, None, refl, sym, ap, ◌∙◌, subst}
use Rattle.std.specs.Prelude.{◌&&◌, cond, filter, flat_map, not, slice_get}
use Rattle.lemmas.proofs.Options.{none_some, some_same}
use Rattle.program_model.specs.declared.program.MethodAt.{MethodAt}
use Rattle.program_model.specs.declared.program.Program.{Program}
use Rattle.program_model.specs.Lookups.{method_at}
use Rattle.class_defs.specs.Finding.{Search, Nothing, Clash, Finds, candidates, candidates_from, finds_among, finds_at, finds_virtual, found_or, is_037, is_lowest, lowest, one_or_none, verdict, without_repeats}
use Rattle.class_defs.specs.Members.{has_code, is_common, is_interface, own_virtual}
use Rattle.class_defs.specs.Places.{chain_from, chain_of, interface_places, is_under, placed, super_place}
use Rattle.hierarchy.specs.Climbing.{In}
use Rattle.hierarchy.specs.Ranks.{IsRanked}
use Rattle.receivers.specs.Receiving.{interface_at, only}
use Rattle.receivers.proofs.Owned.{found_along, own_class}
use Rattle.receivers.proofs.Walks.{under_self, under_up}

-- ---- members of lists of methods

abbrev pub Has : MethodAt → List MethodAt → Type 0
Has x [] = ⊥
Has x (y ∷ ys) = (x ≡ y) ⊎ Has x ys

has_filter : (t : MethodAt → Bool) (xs : List MethodAt) (x : MethodAt) → Has x (filter t xs) → Has x xs
has_filter t [] x h = h
has_filter t (y ∷ ys) x h = by (t y) h (has_filter t ys x)
  where
    by : (b : Bool) → Has x (cond b (y ∷ filter t ys) (filter t ys)) → (Has x (filter t ys) → Has x ys) → Has x (y ∷ ys)
    by true (inl s) more = inl s
    by true (inr j) more = inr (more j)
    by false j more = inr (more j)

has_once : (xs : List MethodAt) (x : MethodAt) → Has x (without_repeats xs) → Has x xs
has_once [] x h = h
has_once (y ∷ ys) x (inl s) = inl s
has_once (y ∷ ys) x (inr j) = inr (has_once ys x (has_filter (λ g. not (nat_eq g.class y.class)) (without_repeats ys) x j))

has_split : (xs ys : List MethodAt) (x : MethodAt) → Has x (xs ++ ys) → Has x xs ⊎ Has x ys
has_split [] ys x h = inr h
has_split (z ∷ xs) ys x (inl s) = inl (inl s)
has_split (z ∷ xs) ys x (inr j) = elim (has_split xs ys x j) [ inl i ↦ inl (inr i) | inr i ↦ inr i ]

record From (f : ℕ → List MethodAt) (cs : List ℕ) (x : MethodAt) : Type 0 where
  class : ℕ
  there : In class cs
  has : Has x (f class)

has_flat : (f : ℕ → List MethodAt) (cs : List ℕ) (x : MethodAt) → Has x (flat_map f cs) → From f cs x
has_flat f [] x h = absurd h
has_flat f (c ∷ cs) x h = elim (has_split (f c) (flat_map f cs) x h) [
  | inl i ↦ record { class = c; there = inl refl; has = i }
  | inr i ↦ (let r = has_flat f cs x i in record { class = r.class; there = inr r.there; has = r.has })
]

record FromClass (f : ℕ → List ℕ) (cs : List ℕ) (u : ℕ) : Type 0 where
  class : ℕ
  there : In class cs
  has : In u (f class)

in_split : (u : ℕ) (xs ys : List ℕ) → In u (xs ++ ys) → In u xs ⊎ In u ys
in_split u [] ys i = inr i
in_split u (x ∷ xs) ys (inl s) = inl (inl s)
in_split u (x ∷ xs) ys (inr i) = elim (in_split u xs ys i) [ inl j ↦ inl (inr j) | inr j ↦ inr j ]

in_flat : (f : ℕ → List ℕ) (cs : List ℕ) (u : ℕ) → In u (flat_map f cs) → FromClass f cs u
in_flat f [] u h = absurd h
in_flat f (c ∷ cs) u h = elim (in_split u (f c) (flat_map f cs) h) [
  | inl i ↦ record { class = c; there = inl refl; has = i }
  | inr i ↦ (let r = in_flat f cs u i in record { class = r.class; there = inr r.there; has = r.has })
]

in_placed : (o : Option ℕ) (us : List ℕ) (u : ℕ) → In u us → In u (placed o us)
in_placed None us u i = i
in_placed (Some c) us u i = inr i

verdict_has : (xs : List MethodAt) (x : MethodAt) → verdict xs ≡ Finds x → Has x xs
verdict_has [] x e = absurd (cc)
verdict_has (y ∷ []) x e = inl (let s : y ≡ x = cc in sym s)
verdict_has (y ∷ z ∷ xs) x e = absurd (cc)

-- ---- what is found

module _ (p : Program) (r : IsRanked p) (name proto : ℕ) where
  -- the classes along a class are above it
  chain_above : (n low c u : ℕ) → is_under p low c ≡ true → In u (chain_from (super_place p) n (Some c)) → is_under p low u ≡ true
  chain_above zero low c u e i = absurd i
  chain_above (suc n) low c u e (inl s) = subst (λ x. is_under p low x ≡ true) (sym s) e
  chain_above (suc n) low c u e (inr i) = by (super_place p c) refl i (λ d f j. chain_above n low d u f j)
    where
      none : (n : ℕ) → In u (chain_from (super_place p) n None) → ⊥
      none zero i = i
      none (suc n) i = i

      by : (o : Option ℕ) → super_place p c ≡ o → In u (chain_from (super_place p) n o) → ((d : ℕ) → is_under p low d ≡ true → In u (chain_from (super_place p) n (Some d)) → is_under p low u ≡ true) → is_under p low u ≡ true
      by None f j more = absurd (none n j)
      by (Some d) f j more = more d (under_up p r low c d e (subst (λ o. In d (placed o (interface_places p c))) (sym f) (inl refl))) j

  pub chain_over : (c u : ℕ) → In u (chain_of p (Some c)) → is_under p c u ≡ true
  chain_over c u i = chain_above (length p.classes) c c u (under_self p r c) i

  -- a method that a class finds
  pub record Found (c : ℕ) (at : MethodAt) : Type 0 where
    pub own : own_virtual p name proto at.class ≡ Some at
    pub under : is_under p c at.class ≡ true

  -- and one that an interface above gives
  pub record Given (low : ℕ) (at : MethodAt) : Type 0 where
    pub own : own_virtual p name proto at.class ≡ Some at
    pub under : is_under p low at.class ≡ true
    pub interface : interface_at p at.class ≡ true

  one_has : (o : Option MethodAt) (x : MethodAt) → Has x (one_or_none o) → o ≡ Some x
  one_has None x h = absurd h
  one_has (Some y) x (inl s) = ap Some (sym s)
  one_has (Some y) x (inr h) = absurd h

  given_from : (n low : ℕ) (cs : List ℕ) (at : MethodAt) → ((c : ℕ) → In c cs → is_under p low c ≡ true) → Has at (candidates_from n p name proto cs) → Given low at
  given_from zero low cs at all h = absurd h
  given_from (suc n) low cs at all h =
      let f = has_flat (λ c. cond (is_interface (slice_get p.classes c)) (one_or_none (own_virtual p name proto c) ++ candidates_from n p name proto (interface_places p c)) []) cs at h in
      by (is_interface (slice_get p.classes f.class)) refl f.has (all f.class f.there) (λ g i. given_from n low (interface_places p f.class) at g i)
    where
      f : From (λ c. cond (is_interface (slice_get p.classes c)) (one_or_none (own_virtual p name proto c) ++ candidates_from n p name proto (interface_places p c)) []) cs at
      f = has_flat (λ c. cond (is_interface (slice_get p.classes c)) (one_or_none (own_virtual p name proto c) ++ candidates_from n p name proto (interface_places p c)) []) cs at h

      c : ℕ
      c = f.class

      by : (b : Bool) → is_interface (slice_get p.classes c) ≡ b → Has at (cond b (one_or_none (own_virtual p name proto c) ++ candidates_from n p name proto (interface_places p c)) []) → is_under p low c ≡ true
          → (((d : ℕ) → In d (interface_places p c) → is_under p low d ≡ true) → Has at (candidates_from n p name proto (interface_places p c)) → Given low at) → Given low at
      by false i g u more = absurd g
      by true i g u more = elim (has_split (one_or_none (own_virtual p name proto c)) (candidates_from n p name proto (interface_places p c)) at g) [
        | inr j ↦ more (λ d k. under_up p r low c d u (in_placed (super_place p c) (interface_places p c) d k)) j
        | inl j ↦ (
            let own : own_virtual p name proto c ≡ Some at = one_has (own_virtual p name proto c) at j in
            let same : at.class ≡ c = own_class p name proto c at own in
            record {
              own = subst (λ d. own_virtual p name proto d ≡ Some at) (sym same) own;
              under = subst (λ d. is_under p low d ≡ true) (sym same) u;
              interface = subst (λ d. interface_at p d ≡ true) (sym same) i;
            }
            )
      ]

  pub given_so : (c : ℕ) (at : MethodAt) → finds_among p (flat_map (interface_places p) (chain_of p (Some c))) name proto ≡ Finds at → Given c at
  given_so c at e =
      let cs = flat_map (interface_places p) (chain_of p (Some c)) in
      by (is_037 p.version && not (is_common p name proto))
      (has_filter (λ f. has_code (method_at p f) && is_lowest p (candidates p cs name proto) f) (candidates p cs name proto) at (verdict_has (lowest p (candidates p cs name proto)) at e))
    where
      cs : List ℕ
      cs = flat_map (interface_places p) (chain_of p (Some c))

      all : (d : ℕ) → In d cs → is_under p c d ≡ true
      all d i = let f = in_flat (interface_places p) (chain_of p (Some c)) d i in under_up p r c f.class d (chain_over c f.class f.there) (in_placed (super_place p f.class) (interface_places p f.class) d f.has)

      by : (b : Bool) → Has at (cond b (without_repeats (candidates_from (length p.classes) p name proto cs)) []) → Given c at
      by true h = given_from (length p.classes) c cs at all (has_once (candidates_from (length p.classes) p name proto cs) at h)
      by false h = absurd h

  -- what is found is the first along the class and its superclasses, or what interfaces give
  pub data Ways (c : ℕ) (at : MethodAt) : Type 0 where
    Virtual : finds_virtual p name proto c ≡ Some at → Ways c at
    Interface : finds_virtual p name proto c ≡ None → Given c at → Ways c at

  only_finds : (s : Search) (at : MethodAt) → only s ≡ Some at → s ≡ Finds at
  only_finds Nothing at e = none_some at e
  only_finds Clash at e = none_some at e
  only_finds (Finds x) at e = ap Finds (some_same x at e)

  pub ways : (c : ℕ) (at : MethodAt) → only (finds_at p c name proto) ≡ Some at → Ways c at
  ways c at e = by (finds_virtual p name proto c) refl e
    where
      among : Search
      among = finds_among p (flat_map (interface_places p) (chain_of p (Some c))) name proto

      by : (o : Option MethodAt) → finds_virtual p name proto c ≡ o → only (found_or o among) ≡ Some at → Ways c at
      by (Some x) i f = Virtual (i ∙ f)
      by None i f = Interface i (given_so c at (only_finds among at f))

  pub found_so : (c : ℕ) (at : MethodAt) → only (finds_at p c name proto) ≡ Some at → Found c at
  found_so c at e = by (ways c at e)
    where
      by : Ways c at → Found c at
      by (Virtual f) = let a = found_along p name proto (chain_of p (Some c)) at f in record { own = a.own; under = chain_over c at.class a.there }
      by (Interface f g) = record { own = g.own; under = g.under }
