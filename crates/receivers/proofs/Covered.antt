-- In a program that lists interfaces alone as interfaces a class under one that is no interface has it among its superclasses. So
-- it finds what that one finds, or what a class strictly under that one defines.
use Rattle.std.proofs.Common.{◌≡◌, ◌⊎◌, inl, inr, ℕ, zero, suc, ◌<◌, ◌≤◌, Bool, true, false, true≢false, List, [], ◌∷◌, length, Option, Some, None, refl, sym, ap, ◌∙◌, subst, arith, eqb-true}
use Rattle.std.specs.Prelude.{◌||◌, cond, nat_eq, not}
use Rattle.std.specs.List.{list_all, list_any, range_with_len}
use Rattle.std.specs.Option.{option_or}
use Rattle.lemmas.proofs.Bools.{and_left, and_right, clash, or_cases}
use Rattle.program_model.specs.declared.program.MethodAt.{MethodAt}
use Rattle.program_model.specs.declared.program.Program.{Program}
use Rattle.class_defs.specs.Finding.{finds_virtual, first_among}
use Rattle.class_defs.specs.Members.{own_virtual}
use Rattle.class_defs.specs.Places.{above_places, chain_from, interface_places, is_under, placed, super_place, walks}
use Rattle.hierarchy.specs.Climbing.{In}
use Rattle.hierarchy.specs.Ranks.{IsRanked}
use Rattle.receivers.specs.Receiving.{interface_at, super_is, is_straight_at, is_straight}
use Rattle.receivers.proofs.Ranges.{numbers_in, passes_all}
use Rattle.receivers.proofs.Walks.{any_of, interface_short, rank_short, super_below, super_short}

-- ---- walks

any_more : (t s : ℕ → Bool) → ((u : ℕ) → t u ≡ true → s u ≡ true) → (us : List ℕ) → list_any t us ≡ true → list_any s us ≡ true
any_more t s h [] e = e
any_more t s h (u ∷ us) e = by (t u) (s u) (h u) e (any_more t s h us)
  where
    by : (b c : Bool) → (b ≡ true → c ≡ true) → (b || list_any t us) ≡ true → (list_any t us ≡ true → list_any s us ≡ true) → (c || list_any s us) ≡ true
    by b true k e more = refl
    by true false k e more = absurd (true≢false (sym (k refl)))
    by false false k e more = more e

walks_more : (above : ℕ → List ℕ) (k m c d : ℕ) → k ≤ m → walks above k c d ≡ true → walks above m c d ≡ true
walks_more above zero zero c d l e = e
walks_more above zero (suc m) c d l e = ap (λ b. cond b true (list_any (λ u. walks above m u d) (above c))) e
walks_more above (suc k) zero c d l e = absurd (omega (arith, l))
walks_more above (suc k) (suc m) c d l e = by (λ u i. walks_more above k m u d (omega (arith, l)) i) (nat_eq c d) e
  where
    by : ((u : ℕ) → walks above k u d ≡ true → walks above m u d ≡ true) → (b : Bool) → cond b true (list_any (λ u. walks above k u d) (above c)) ≡ true
        → cond b true (list_any (λ u. walks above m u d) (above c)) ≡ true
    by more true e = refl
    by more false e = any_more (λ u. walks above k u d) (λ u. walks above m u d) more (above c) e

-- ---- straight programs

module _ (p : Program) (straight : is_straight p ≡ true) where
  here : (c : ℕ) → c < length p.classes → is_straight_at p c ≡ true
  here c l = passes_all (is_straight_at p) (range_with_len 0 (length p.classes)) c straight (numbers_in 0 (length p.classes) c (omega arith) (omega (arith, l)))

  listed : (c u : ℕ) → c < length p.classes → In u (interface_places p c) → interface_at p u ≡ true
  listed c u l i = passes_all (interface_at p) (interface_places p c) u (and_left (list_all (interface_at p) (interface_places p c)) (not (interface_at p c) || super_is p (super_place p c)) (here c l)) i

  pub free : (c u : ℕ) → c < length p.classes → interface_at p c ≡ true → super_place p c ≡ Some u → interface_at p u ≡ true
  free c u l i e = elim (or_cases (not (interface_at p c)) (super_is p (super_place p c)) (and_right (list_all (interface_at p) (interface_places p c)) (not (interface_at p c) || super_is p (super_place p c)) (here c l))) [
    | inl f ↦ absurd (true≢false (sym f ∙ ap not i))
    | inr f ↦ ap (super_is p) (sym e) ∙ f
  ]

  module _ (r : IsRanked p) (name proto top : ℕ) (top_short : top < length p.classes) (plain : interface_at p top ≡ false) where
    abbrev own : ℕ → Option MethodAt
    own = own_virtual p name proto

    -- what is found is one that a class strictly under another one defines
    pub record Lower (o : Option MethodAt) : Type 0 where
      pub class : ℕ
      pub at : MethodAt
      pub is : o ≡ Some at
      pub there : own_virtual p name proto class ≡ Some at
      pub short : class < length p.classes
      pub under : is_under p class top ≡ true
      pub apart : nat_eq class top ≡ false

    -- a chain is as long as it is, whatever is allowed beyond the rank
    chain_enough : (n m c : ℕ) → r.rank c < n → r.rank c < m → chain_from (super_place p) n (Some c) ≡ chain_from (super_place p) m (Some c)
    chain_enough zero m c l k = absurd (omega (arith, l))
    chain_enough (suc n) zero c l k = absurd (omega (arith, k))
    chain_enough (suc n) (suc m) c l k = ap (λ cs. c ∷ cs) (by (λ u i j. chain_enough n m u i j) (super_place p c) refl)
      where
        no_more : (n : ℕ) → chain_from (super_place p) n None ≡ []
        no_more zero = refl
        no_more (suc n) = refl

        by : ((u : ℕ) → r.rank u < n → r.rank u < m → chain_from (super_place p) n (Some u) ≡ chain_from (super_place p) m (Some u)) → (o : Option ℕ) → super_place p c ≡ o
            → chain_from (super_place p) n o ≡ chain_from (super_place p) m o
        by more None e = no_more n ∙ sym (no_more m)
        by more (Some u) e = let b = super_below p r c u e in more u (omega (arith, b, l)) (omega (arith, b, k))

    abbrev Up : ℕ → ℕ → Type 0
    Up k c = ((u : ℕ) × ((super_place p c ≡ Some u) × (walks (above_places p) k u top ≡ true))) ⊎ ((u : ℕ) × (In u (interface_places p c) × (walks (above_places p) k u top ≡ true)))

    one_up : (k c : ℕ) → list_any (λ u. walks (above_places p) k u top) (above_places p c) ≡ true → Up k c
    one_up k c e = by (super_place p c) refl e
      where
        in_list : list_any (λ u. walks (above_places p) k u top) (interface_places p c) ≡ true → Up k c
        in_list e = let x = any_of (λ u. walks (above_places p) k u top) (interface_places p c) e in inr (x.at, (x.there, x.is))

        by : (o : Option ℕ) → super_place p c ≡ o → list_any (λ u. walks (above_places p) k u top) (placed o (interface_places p c)) ≡ true → Up k c
        by None i e = in_list e
        by (Some u) i e = elim (or_cases (walks (above_places p) k u top) (list_any (λ u. walks (above_places p) k u top) (interface_places p c)) e) [ inl j ↦ inl (u, (i, j)) | inr j ↦ in_list j ]

    same_class : {A : Type 0} (c : ℕ) → interface_at p c ≡ true → nat_eq c top ≡ true → A
    same_class c i e = clash (interface_at p top) (subst (λ c. interface_at p c ≡ true) (eqb-true c top e) i) plain

    -- from an interface no class is reached that is none
    pub never : {A : Type 0} (k c : ℕ) → c < length p.classes → interface_at p c ≡ true → walks (above_places p) k c top ≡ true → A
    never zero c l i e = same_class c i e
    never {A} (suc k) c l i e = by (λ u m j h. never k u m j h) (nat_eq c top) refl e
      where
        by : ((u : ℕ) → u < length p.classes → interface_at p u ≡ true → walks (above_places p) k u top ≡ true → A) → (b : Bool) → nat_eq c top ≡ b
            → cond b true (list_any (λ u. walks (above_places p) k u top) (above_places p c)) ≡ true → A
        by more true j e = same_class c i j
        by more false j e = elim (one_up k c e) [
          | inl x ↦ more x.0 (super_short p c x.0 x.1.0) (free c x.0 l i x.1.0) x.1.1
          | inr x ↦ more x.0 (interface_short p c x.0 x.1.0) (listed c x.0 l x.1.0) x.1.1
        ]

    abbrev found : ℕ → ℕ → Option MethodAt
    found n c = first_among own (chain_from (super_place p) n (Some c))

    abbrev pub Covered : Option MethodAt → Type 0
    Covered o = (o ≡ finds_virtual p name proto top) ⊎ Lower o

    itself : (n c : ℕ) → r.rank c < n → nat_eq c top ≡ true → Covered (found n c)
    itself n c l e =
        let same : c ≡ top = eqb-true c top e in
        inl (ap (λ c. found n c) same ∙ ap (first_among own) (chain_enough n (length p.classes) top (subst (λ c. r.rank c < n) same l) (rank_short p r top top_short)))

    step : (n c u : ℕ) → super_place p c ≡ Some u → nat_eq c top ≡ false → c < length p.classes → is_under p c top ≡ true → Covered (found n u) → Covered (found (suc n) c)
    step n c u e apart l under more = by (own c) refl
      where
        rest : found (suc n) c ≡ option_or (own c) (found n u)
        rest = ap (λ o. option_or (own c) (first_among own (chain_from (super_place p) n o))) e

        by : (o : Option MethodAt) → own c ≡ o → Covered (found (suc n) c)
        by (Some at) i = inr (record { class = c; at = at; is = rest ∙ ap (λ o. option_or o (found n u)) i; there = i; short = l; under = under; apart = apart })
        by None i = elim more [
          | inl h ↦ inl (rest ∙ ap (λ o. option_or o (found n u)) i ∙ h)
          | inr h ↦ inr (record { class = h.class; at = h.at; is = rest ∙ ap (λ o. option_or o (found n u)) i ∙ h.is; there = h.there; short = h.short; under = h.under; apart = h.apart })
        ]

    along : (k n c : ℕ) → k ≤ length p.classes → r.rank c < n → c < length p.classes → walks (above_places p) k c top ≡ true → Covered (found n c)
    along zero n c q l s e = itself n c l e
    along (suc k) zero c q l s e = absurd (omega (arith, l))
    along (suc k) (suc n) c q l s e = by (λ u i j h w. along k n u i j h w) (nat_eq c top) refl e
      where
        by : ((u : ℕ) → k ≤ length p.classes → r.rank u < n → u < length p.classes → walks (above_places p) k u top ≡ true → Covered (found n u)) → (b : Bool) → nat_eq c top ≡ b
            → cond b true (list_any (λ u. walks (above_places p) k u top) (above_places p c)) ≡ true → Covered (found (suc n) c)
        by more true i h = itself (suc n) c l i
        by more false i h = elim (one_up k c h) [
          | inl x ↦ let b = super_below p r c x.0 x.1.0 in
              step n c x.0 x.1.0 i s (walks_more (above_places p) (suc k) (length p.classes) c top q e) (more x.0 (omega (arith, q)) (omega (arith, b, l)) (super_short p c x.0 x.1.0) x.1.1)
          | inr x ↦ never k x.0 (interface_short p c x.0 x.1.0) (listed c x.0 s x.1.0) x.1.1
        ]

    itself_long : (n : ℕ) → n ≤ n
    itself_long n = omega arith

    pub finds_covered : (place : ℕ) → place < length p.classes → is_under p place top ≡ true → Covered (finds_virtual p name proto place)
    finds_covered place l under = along (length p.classes) (length p.classes) place (itself_long (length p.classes)) (rank_short p r place l) l under
