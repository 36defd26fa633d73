-- What interfaces give: each candidate is a virtual method of an interface above.
use Rattle.std.proofs.Common.{◌≡◌, ◌⊎◌, inl, inr, ℕ, zero, suc, Bool, true, false, true≢false, nat_eq, List, [], ◌∷◌, ◌++◌, length, Option, Some, None, refl, sym, ap, ◌∙◌, subst}
use Rattle.std.specs.Prelude.{◌&&◌, ◌||◌, cond, filter, flat_map, not, slice_get}
use Rattle.std.specs.List.{list_any, list_all}
use Rattle.lemmas.proofs.Bools.{and_left, and_right, or_right}
use Rattle.program_model.specs.declared.program.MethodAt.{MethodAt}
use Rattle.program_model.specs.declared.program.Program.{Program}
use Rattle.program_model.specs.Lookups.{method_at}
use Rattle.class_defs.specs.Finding.{Clash, Finds, candidates, candidates_from, finds_among, is_037, is_lowest, lowest, one_or_none, verdict, without_repeats}
use Rattle.class_defs.specs.Members.{has_code, is_common, is_interface, own_virtual}
use Rattle.class_defs.specs.Places.{chain_of, interface_places, is_under, placed, super_place}
use Rattle.hierarchy.specs.Climbing.{In}
use Rattle.hierarchy.specs.Ranks.{IsRanked}
use Rattle.receivers.specs.Receiving.{interface_at}
use Rattle.receivers.proofs.Found.{chain_over}
use Rattle.receivers.proofs.Owned.{own_class}
use Rattle.receivers.proofs.Walks.{under_self, under_up}

-- ---- members of lists of methods

abbrev pub Has : MethodAt → List MethodAt → Type 0
Has x [] = ⊥
Has x (y ∷ ys) = (x ≡ y) ⊎ Has x ys

has_filter : (t : MethodAt → Bool) (xs : List MethodAt) (x : MethodAt) → Has x (filter t xs) → Has x xs
has_filter t [] x h = h
has_filter t (y ∷ ys) x h = by (t y) h (has_filter t ys x)
  where
    by : (b : Bool) → Has x (cond b (y ∷ filter t ys) (filter t ys)) → (Has x (filter t ys) → Has x ys) → Has x (y ∷ ys)
    by true (inl s) more = inl s
    by true (inr j) more = inr (more j)
    by false j more = inr (more j)

has_once : (xs : List MethodAt) (x : MethodAt) → Has x (without_repeats xs) → Has x xs
has_once [] x h = h
has_once (y ∷ ys) x (inl s) = inl s
has_once (y ∷ ys) x (inr j) = inr (has_once ys x (has_filter (λ g. not (nat_eq g.class y.class)) (without_repeats ys) x j))

pub has_split : (xs ys : List MethodAt) (x : MethodAt) → Has x (xs ++ ys) → Has x xs ⊎ Has x ys
has_split [] ys x h = inr h
has_split (z ∷ xs) ys x (inl s) = inl (inl s)
has_split (z ∷ xs) ys x (inr j) = elim (has_split xs ys x j) [ inl i ↦ inl (inr i) | inr i ↦ inr i ]

pub record From (f : ℕ → List MethodAt) (cs : List ℕ) (x : MethodAt) : Type 0 where
  pub class : ℕ
  pub there : In class cs
  pub has : Has x (f class)

pub has_flat : (f : ℕ → List MethodAt) (cs : List ℕ) (x : MethodAt) → Has x (flat_map f cs) → From f cs x
has_flat f [] x h = absurd h
has_flat f (c ∷ cs) x h = elim (has_split (f c) (flat_map f cs) x h) [
  | inl i ↦ record { class = c; there = inl refl; has = i }
  | inr i ↦ (let r = has_flat f cs x i in record { class = r.class; there = inr r.there; has = r.has })
]

record FromClass (f : ℕ → List ℕ) (cs : List ℕ) (u : ℕ) : Type 0 where
  class : ℕ
  there : In class cs
  has : In u (f class)

in_split : (u : ℕ) (xs ys : List ℕ) → In u (xs ++ ys) → In u xs ⊎ In u ys
in_split u [] ys i = inr i
in_split u (x ∷ xs) ys (inl s) = inl (inl s)
in_split u (x ∷ xs) ys (inr i) = elim (in_split u xs ys i) [ inl j ↦ inl (inr j) | inr j ↦ inr j ]

in_flat : (f : ℕ → List ℕ) (cs : List ℕ) (u : ℕ) → In u (flat_map f cs) → FromClass f cs u
in_flat f [] u h = absurd h
in_flat f (c ∷ cs) u h = elim (in_split u (f c) (flat_map f cs) h) [
  | inl i ↦ record { class = c; there = inl refl; has = i }
  | inr i ↦ (let r = in_flat f cs u i in record { class = r.class; there = inr r.there; has = r.has })
]

in_placed : (o : Option ℕ) (us : List ℕ) (u : ℕ) → In u us → In u (placed o us)
in_placed None us u i = i
in_placed (Some c) us u i = inr i

pub verdict_has : (xs : List MethodAt) (x : MethodAt) → verdict xs ≡ Finds x → Has x xs
verdict_has [] x e = absurd (cc)
verdict_has (y ∷ []) x e = inl (let s : y ≡ x = cc in sym s)
verdict_has (y ∷ z ∷ xs) x e = absurd (cc)

-- where several clash there is one
clash_has : (xs : List MethodAt) → verdict xs ≡ Clash → (x : MethodAt) × Has x xs
clash_has [] e = absurd (cc)
clash_has (y ∷ []) e = absurd (cc)
clash_has (y ∷ z ∷ xs) e = (y, inl refl)

-- ---- tests of lists of methods

pub record AnyOf (t : MethodAt → Bool) (xs : List MethodAt) : Type 0 where
  pub at : MethodAt
  pub there : Has at xs
  pub is : t at ≡ true

pub any_method : (t : MethodAt → Bool) (xs : List MethodAt) → list_any t xs ≡ true → AnyOf t xs
any_method t [] e = absurd (true≢false (sym e))
any_method t (x ∷ xs) e = by (t x) refl e (any_method t xs)
  where
    by : (b : Bool) → t x ≡ b → (b || list_any t xs) ≡ true → (list_any t xs ≡ true → AnyOf t xs) → AnyOf t (x ∷ xs)
    by true f g more = record { at = x; there = inl refl; is = f }
    by false f g more = let a = more g in record { at = a.at; there = inr a.there; is = a.is }

pub method_any : (t : MethodAt → Bool) (xs : List MethodAt) (x : MethodAt) → Has x xs → t x ≡ true → list_any t xs ≡ true
method_any t [] x i e = absurd i
method_any t (y ∷ ys) x (inl s) e = ap (λ b. b || list_any t ys) (sym (ap t s) ∙ e)
method_any t (y ∷ ys) x (inr i) e = or_right (t y) (list_any t ys) (method_any t ys x i e)

pub all_methods : (t : MethodAt → Bool) (xs : List MethodAt) (x : MethodAt) → list_all t xs ≡ true → Has x xs → t x ≡ true
all_methods t [] x e i = absurd i
all_methods t (y ∷ ys) x e (inl s) = ap t s ∙ and_left (t y) (list_all t ys) e
all_methods t (y ∷ ys) x e (inr i) = all_methods t ys x (and_right (t y) (list_all t ys) e) i

pub methods_all : (t : MethodAt → Bool) (xs : List MethodAt) → ((x : MethodAt) → Has x xs → t x ≡ true) → list_all t xs ≡ true
methods_all t [] h = refl
methods_all t (x ∷ xs) h = ap (λ b. b && list_all t xs) (h x (inl refl)) ∙ methods_all t xs (λ y i. h y (inr i))

pub no_method : (t : MethodAt → Bool) (xs : List MethodAt) → ((x : MethodAt) → Has x xs → t x ≡ false) → list_any t xs ≡ false
no_method t [] h = refl
no_method t (x ∷ xs) h = ap (λ b. b || list_any t xs) (h x (inl refl)) ∙ no_method t xs (λ y i. h y (inr i))

pub has_left : (xs ys : List MethodAt) (x : MethodAt) → Has x xs → Has x (xs ++ ys)
has_left [] ys x i = absurd i
has_left (y ∷ xs) ys x (inl s) = inl s
has_left (y ∷ xs) ys x (inr i) = inr (has_left xs ys x i)

pub has_right : (xs ys : List MethodAt) (x : MethodAt) → Has x ys → Has x (xs ++ ys)
has_right [] ys x i = i
has_right (y ∷ xs) ys x i = inr (has_right xs ys x i)

pub flat_has : (f : ℕ → List MethodAt) (cs : List ℕ) (c : ℕ) (x : MethodAt) → In c cs → Has x (f c) → Has x (flat_map f cs)
flat_has f [] c x i h = absurd i
flat_has f (d ∷ cs) c x (inl s) h = has_left (f d) (flat_map f cs) x (subst (λ e. Has x (f e)) s h)
flat_has f (d ∷ cs) c x (inr i) h = has_right (f d) (flat_map f cs) x (flat_has f cs c x i h)

pub nothing_has : (xs : List MethodAt) → ((x : MethodAt) → Has x xs → ⊥) → xs ≡ []
nothing_has [] h = refl
nothing_has (x ∷ xs) h = absurd (h x (inl refl))

-- ---- what is given

module _ (p : Program) (r : IsRanked p) (name proto : ℕ) where
  -- and one that an interface above gives
  pub record Given (low : ℕ) (at : MethodAt) : Type 0 where
    pub own : own_virtual p name proto at.class ≡ Some at
    pub under : is_under p low at.class ≡ true
    pub interface : interface_at p at.class ≡ true

  one_has : (o : Option MethodAt) (x : MethodAt) → Has x (one_or_none o) → o ≡ Some x
  one_has None x h = absurd h
  one_has (Some y) x (inl s) = ap Some (sym s)
  one_has (Some y) x (inr h) = absurd h

  given_from : (n low : ℕ) (cs : List ℕ) (at : MethodAt) → ((c : ℕ) → In c cs → is_under p low c ≡ true) → Has at (candidates_from n p name proto cs) → Given low at
  given_from zero low cs at all h = absurd h
  given_from (suc n) low cs at all h =
      let f = has_flat (λ c. cond (is_interface (slice_get p.classes c)) (one_or_none (own_virtual p name proto c) ++ candidates_from n p name proto (interface_places p c)) []) cs at h in
      by (is_interface (slice_get p.classes f.class)) refl f.has (all f.class f.there) (λ g i. given_from n low (interface_places p f.class) at g i)
    where
      f : From (λ c. cond (is_interface (slice_get p.classes c)) (one_or_none (own_virtual p name proto c) ++ candidates_from n p name proto (interface_places p c)) []) cs at
      f = has_flat (λ c. cond (is_interface (slice_get p.classes c)) (one_or_none (own_virtual p name proto c) ++ candidates_from n p name proto (interface_places p c)) []) cs at h

      c : ℕ
      c = f.class

      by : (b : Bool) → is_interface (slice_get p.classes c) ≡ b → Has at (cond b (one_or_none (own_virtual p name proto c) ++ candidates_from n p name proto (interface_places p c)) []) → is_under p low c ≡ true
          → (((d : ℕ) → In d (interface_places p c) → is_under p low d ≡ true) → Has at (candidates_from n p name proto (interface_places p c)) → Given low at) → Given low at
      by false i g u more = absurd g
      by true i g u more = elim (has_split (one_or_none (own_virtual p name proto c)) (candidates_from n p name proto (interface_places p c)) at g) [
        | inr j ↦ more (λ d k. under_up p r low c d u (in_placed (super_place p c) (interface_places p c) d k)) j
        | inl j ↦ (
            let own : own_virtual p name proto c ≡ Some at = one_has (own_virtual p name proto c) at j in
            let same : at.class ≡ c = own_class p name proto c at own in
            record {
              own = subst (λ d. own_virtual p name proto d ≡ Some at) (sym same) own;
              under = subst (λ d. is_under p low d ≡ true) (sym same) u;
              interface = subst (λ d. interface_at p d ≡ true) (sym same) i;
            }
            )
      ]

  once_given : (c : ℕ) (cs : List ℕ) (at : MethodAt) → ((d : ℕ) → In d cs → is_under p c d ≡ true) → Has at (candidates p cs name proto) → Given c at
  once_given c cs at all h = by (is_037 p.version && not (is_common p name proto)) h
    where
      by : (b : Bool) → Has at (cond b (without_repeats (candidates_from (length p.classes) p name proto cs)) []) → Given c at
      by true i = given_from (length p.classes) c cs at all (has_once (candidates_from (length p.classes) p name proto cs) at i)
      by false i = absurd i

  above_chain : (c d : ℕ) → In d (flat_map (interface_places p) (chain_of p (Some c))) → is_under p c d ≡ true
  above_chain c d i = let f = in_flat (interface_places p) (chain_of p (Some c)) d i in under_up p r c f.class d (chain_over p r name proto c f.class f.there) (in_placed (super_place p f.class) (interface_places p f.class) d f.has)

  -- a candidate of a class
  pub class_given : (c : ℕ) (at : MethodAt) → Has at (candidates p (flat_map (interface_places p) (chain_of p (Some c))) name proto) → Given c at
  class_given c at h = once_given c (flat_map (interface_places p) (chain_of p (Some c))) at (λ d i. above_chain c d i) h

  -- a candidate of an interface itself
  pub super_given : (c : ℕ) (at : MethodAt) → Has at (candidates p (c ∷ []) name proto) → Given c at
  super_given c at h = once_given c (c ∷ []) at (λ d i. elim i [ inl s ↦ subst (λ x. is_under p c x ≡ true) (sym s) (under_self p r c) | inr j ↦ absurd j ]) h

  -- what candidates give is one of them
  pub among_has : (cs : List ℕ) (at : MethodAt) → finds_among p cs name proto ≡ Finds at → Has at (candidates p cs name proto)
  among_has cs at e = has_filter (λ f. has_code (method_at p f) && is_lowest p (candidates p cs name proto) f) (candidates p cs name proto) at (verdict_has (lowest p (candidates p cs name proto)) at e)

  pub clash_one : (cs : List ℕ) → finds_among p cs name proto ≡ Clash → (x : MethodAt) × Has x (candidates p cs name proto)
  clash_one cs e = let r = clash_has (lowest p (candidates p cs name proto)) e in (r.0, has_filter (λ f. has_code (method_at p f) && is_lowest p (candidates p cs name proto) f) (candidates p cs name proto) r.0 r.1)
