-- What a class under another one finds is what that one finds, or what a class strictly under it defines, by number; and it is
-- among what const_prop takes for the result of a virtual call.
use Rattle.std.proofs.Common.{◌≡◌, ◌⊎◌, inl, inr, ℕ, zero, suc, ◌+◌, ◌<◌, ◌≤◌, Bool, true, false, true≢false, List, [], ◌∷◌, length, Option, Some, None, refl, sym, ap, ◌∙◌, subst, arith, eqb-true, ltb-true}
use Rattle.std.specs.Prelude.{◌&&◌, ◌||◌, cond, flat_map, fold, if◌then◌else◌, is_some, nat_eq, nat_lt, not, slice_get, Contains}
use Rattle.std.specs.List.{list_any, range_with_len}
use Rattle.std.specs.Option.{option_or}
use Rattle.lemmas.proofs.Bools.{and_both, and_left, and_right, clash}
use Rattle.lemmas.proofs.Lists.{contains_here, contains_there}
use Rattle.lemmas.proofs.Options.{none_some, some_same}
use Rattle.program_model.specs.declared.program.MethodAt.{MethodAt}
use Rattle.program_model.specs.declared.program.Program.{Program}
use Rattle.class_defs.specs.Finding.{Clash, Finds, Nothing, Search, finds_among, finds_at, finds_virtual, first_among, found_or}
use Rattle.class_defs.specs.Members.{is_interface, own_method, own_virtual, virtual_only}
use Rattle.class_defs.specs.Places.{above_places, chain_from, chain_of, interface_places, is_under, placed, super_place, walks}
use Rattle.hierarchy.specs.Naming.{definers_of}
use Rattle.hierarchy.specs.Ranks.{IsRanked, is_lower, is_lower_all}
use Rattle.hierarchy.specs.Touring.{subclasses_of}
use Rattle.domains.specs.Values.{least_value, Parts}
use Rattle.facts.specs.declared.facts.Facts.{Facts}
use Rattle.const_prop.specs.Given.{by_found, by_search, found_value, search_value, virtual_value, with_class, with_definer, with_maybe}
use Rattle.facts_kept.proofs.Joins.{any_answers, filter_there, first_joined, fold_grows, fold_reaches, range_there, second_joined, under_on, Answers, Under}

-- ---- lists

pub record Passing (t : ℕ → Bool) (us : List ℕ) : Type 0 where
  pub one : ℕ
  pub there : Contains us one
  pub is : t one ≡ true

pub passing : (t : ℕ → Bool) (us : List ℕ) → list_any t us ≡ true → Passing t us
passing t [] e = absurd (true≢false (sym e))
passing t (u ∷ us) e = by (t u) refl e (passing t us)
  where
    by : (b : Bool) → t u ≡ b → (b || list_any t us) ≡ true → (list_any t us ≡ true → Passing t us) → Passing t (u ∷ us)
    by true i e more = record { one = u; there = contains_here u us; is = i }
    by false i e more = let r = more e in record { one = r.one; there = contains_there u us r.one r.there; is = r.is }

any_more : (t s : ℕ → Bool) → ((u : ℕ) → t u ≡ true → s u ≡ true) → (us : List ℕ) → list_any t us ≡ true → list_any s us ≡ true
any_more t s h [] e = e
any_more t s h (u ∷ us) e = by (t u) (s u) (h u) e (any_more t s h us)
  where
    by : (b c : Bool) → (b ≡ true → c ≡ true) → (b || list_any t us) ≡ true → (list_any t us ≡ true → list_any s us ≡ true) → (c || list_any s us) ≡ true
    by b true k e more = refl
    by true false k e more = absurd (true≢false (sym (k refl)))
    by false false k e more = more e

-- ---- walks

walks_more : (above : ℕ → List ℕ) (k m c d : ℕ) → k ≤ m → walks above k c d ≡ true → walks above m c d ≡ true
walks_more above zero zero c d l e = e
walks_more above zero (suc m) c d l e = ap (λ b. cond b true (list_any (λ u. walks above m u d) (above c))) e
walks_more above (suc k) zero c d l e = let f : ⊥ = omega (arith, l) in absurd f
walks_more above (suc k) (suc m) c d l e = by (λ u i. walks_more above k m u d (omega (arith, l)) i) (nat_eq c d) e
  where
    by : ((u : ℕ) → walks above k u d ≡ true → walks above m u d ≡ true) → (b : Bool) → cond b true (list_any (λ u. walks above k u d) (above c)) ≡ true → cond b true (list_any (λ u. walks above m u d) (above c)) ≡ true
    by more true e = refl
    by more false e = any_more (λ u. walks above k u d) (λ u. walks above m u d) more (above c) e

-- each class of a program has its number
place_there : (p : Program) (c : ℕ) → c < length p.classes → slice_get (range_with_len 0 (length p.classes)) c ≡ Some c
place_there p c l = range_there 0 (length p.classes) c l ∙ ap Some (plain_sum c)
  where
    plain_sum : (n : ℕ) → 0 + n ≡ n
    plain_sum n = omega arith

module _ (p : Program) (r : IsRanked p) where
  behind : (c : ℕ) → c < length p.classes → (nat_lt (r.rank c) (length p.classes) && is_lower r.rank (r.rank c) (super_place p c) && is_lower_all r.rank (r.rank c) (interface_places p c)) ≡ true
  behind c l = r.each c l

  pub rank_short : (c : ℕ) → c < length p.classes → r.rank c < length p.classes
  rank_short c l = ltb-true (r.rank c) (length p.classes) (and_left (nat_lt (r.rank c) (length p.classes)) (is_lower r.rank (r.rank c) (super_place p c))
      (and_left (nat_lt (r.rank c) (length p.classes) && is_lower r.rank (r.rank c) (super_place p c)) (is_lower_all r.rank (r.rank c) (interface_places p c)) (behind c l)))

  pub super_below : (c u : ℕ) → c < length p.classes → super_place p c ≡ Some u → r.rank u < r.rank c
  super_below c u l e = ltb-true (r.rank u) (r.rank c) (ap (is_lower r.rank (r.rank c)) (sym e)
      ∙ and_right (nat_lt (r.rank c) (length p.classes)) (is_lower r.rank (r.rank c) (super_place p c))
      (and_left (nat_lt (r.rank c) (length p.classes) && is_lower r.rank (r.rank c) (super_place p c)) (is_lower_all r.rank (r.rank c) (interface_places p c)) (behind c l)))

  module _ (shorts : (c u : ℕ) → super_place p c ≡ Some u → u < length p.classes) (name proto top : ℕ) where
    abbrev own : ℕ → Option MethodAt
    own = own_virtual p name proto

    -- what is found is one that a class strictly under another one defines
    pub record Lower (o : Option MethodAt) : Type 0 where
      pub class : ℕ
      pub at : MethodAt
      pub is : o ≡ Some at
      pub there : own_virtual p name proto class ≡ Some at
      pub short : class < length p.classes
      pub under : is_under p class top ≡ true
      pub apart : nat_eq class top ≡ false

    -- a chain is as long as it is, whatever is allowed beyond the rank
    chain_enough : (n m c : ℕ) → c < length p.classes → r.rank c < n → r.rank c < m → chain_from (super_place p) n (Some c) ≡ chain_from (super_place p) m (Some c)
    chain_enough zero m c s l k = let f : ⊥ = omega (arith, l) in absurd f
    chain_enough (suc n) zero c s l k = let f : ⊥ = omega (arith, k) in absurd f
    chain_enough (suc n) (suc m) c s l k = ap (λ cs. c ∷ cs) (by (λ u i j h. chain_enough n m u i j h) (super_place p c) refl)
      where
        no_more : (n : ℕ) → chain_from (super_place p) n None ≡ []
        no_more zero = refl
        no_more (suc n) = refl

        by : ((u : ℕ) → u < length p.classes → r.rank u < n → r.rank u < m → chain_from (super_place p) n (Some u) ≡ chain_from (super_place p) m (Some u)) → (o : Option ℕ) → super_place p c ≡ o
            → chain_from (super_place p) n o ≡ chain_from (super_place p) m o
        by more None e = no_more n ∙ sym (no_more m)
        by more (Some u) e = let b = super_below c u s e in more u (shorts c u e) (omega (arith, b, l)) (omega (arith, b, k))

    module _ (short : top < length p.classes) (plain : is_interface (slice_get p.classes top) ≡ false) (listed : (c u : ℕ) → Contains (interface_places p c) u → is_interface (slice_get p.classes u) ≡ true)
        (free : (c u : ℕ) → is_interface (slice_get p.classes c) ≡ true → super_place p c ≡ Some u → is_interface (slice_get p.classes u) ≡ true) where
      abbrev Up : ℕ → ℕ → Type 0
      Up k c = ((u : ℕ) × ((super_place p c ≡ Some u) × (walks (above_places p) k u top ≡ true))) ⊎ ((u : ℕ) × (Contains (interface_places p c) u × (walks (above_places p) k u top ≡ true)))

      one_up : (k c : ℕ) → list_any (λ u. walks (above_places p) k u top) (above_places p c) ≡ true → Up k c
      one_up k c e = by (super_place p c) refl e
        where
          in_list : list_any (λ u. walks (above_places p) k u top) (interface_places p c) ≡ true → Up k c
          in_list e = let x = passing (λ u. walks (above_places p) k u top) (interface_places p c) e in inr (x.one, (x.there, x.is))

          by : (o : Option ℕ) → super_place p c ≡ o → list_any (λ u. walks (above_places p) k u top) (placed o (interface_places p c)) ≡ true → Up k c
          by None i e = in_list e
          by (Some u) i e = test (walks (above_places p) k u top) refl e
            where
              test : (b : Bool) → walks (above_places p) k u top ≡ b → (b || list_any (λ u. walks (above_places p) k u top) (interface_places p c)) ≡ true → Up k c
              test true j e = inl (u, (i, j))
              test false j e = in_list e

      same_class : {A : Type 0} (c : ℕ) → is_interface (slice_get p.classes c) ≡ true → nat_eq c top ≡ true → A
      same_class c i e = clash (is_interface (slice_get p.classes top)) (subst (λ c. is_interface (slice_get p.classes c) ≡ true) (eqb-true c top e) i) plain

      -- from an interface no class is reached that is none
      never : {A : Type 0} (k c : ℕ) → is_interface (slice_get p.classes c) ≡ true → walks (above_places p) k c top ≡ true → A
      never zero c i e = same_class c i e
      never {A} (suc k) c i e = by (λ u j h. never k u j h) (nat_eq c top) refl e
        where
          by : ((u : ℕ) → is_interface (slice_get p.classes u) ≡ true → walks (above_places p) k u top ≡ true → A) → (b : Bool) → nat_eq c top ≡ b
              → cond b true (list_any (λ u. walks (above_places p) k u top) (above_places p c)) ≡ true → A
          by more true j e = same_class c i j
          by more false j e = elim (one_up k c e) [
            | inl x ↦ more x.0 (free c x.0 i x.1.0) x.1.1
            | inr x ↦ more x.0 (listed c x.0 x.1.0) x.1.1
          ]

      abbrev found : ℕ → ℕ → Option MethodAt
      found n c = first_among own (chain_from (super_place p) n (Some c))

      abbrev Covered : Option MethodAt → Type 0
      Covered o = (o ≡ finds_virtual p name proto top) ⊎ Lower o

      itself : (n c : ℕ) → r.rank c < n → nat_eq c top ≡ true → Covered (found n c)
      itself n c l e =
          let same : c ≡ top = eqb-true c top e in
          inl (ap (λ c. found n c) same ∙ ap (first_among own) (chain_enough n (length p.classes) top short (subst (λ c. r.rank c < n) same l) (rank_short top short)))

      step : (n c u : ℕ) → super_place p c ≡ Some u → nat_eq c top ≡ false → c < length p.classes → is_under p c top ≡ true → Covered (found n u) → Covered (found (suc n) c)
      step n c u e apart l under more = by (own c) refl
        where
          rest : found (suc n) c ≡ option_or (own c) (found n u)
          rest = ap (λ o. option_or (own c) (first_among own (chain_from (super_place p) n o))) e

          by : (o : Option MethodAt) → own c ≡ o → Covered (found (suc n) c)
          by (Some at) i = inr (record { class = c; at = at; is = rest ∙ ap (λ o. option_or o (found n u)) i; there = i; short = l; under = under; apart = apart })
          by None i = elim more [
            | inl h ↦ inl (rest ∙ ap (λ o. option_or o (found n u)) i ∙ h)
            | inr h ↦ inr (record { class = h.class; at = h.at; is = rest ∙ ap (λ o. option_or o (found n u)) i ∙ h.is; there = h.there; short = h.short; under = h.under; apart = h.apart })
          ]

      along : (k n c : ℕ) → k ≤ length p.classes → r.rank c < n → c < length p.classes → walks (above_places p) k c top ≡ true → Covered (found n c)
      along zero n c q l s e = itself n c l e
      along (suc k) zero c q l s e = let f : ⊥ = omega (arith, l) in absurd f
      along (suc k) (suc n) c q l s e = by (λ u i j h w. along k n u i j h w) (nat_eq c top) refl e
        where
          by : ((u : ℕ) → k ≤ length p.classes → r.rank u < n → u < length p.classes → walks (above_places p) k u top ≡ true → Covered (found n u)) → (b : Bool) → nat_eq c top ≡ b
              → cond b true (list_any (λ u. walks (above_places p) k u top) (above_places p c)) ≡ true → Covered (found (suc n) c)
          by more true i h = itself (suc n) c l i
          by more false i h = elim (one_up k c h) [
            | inl x ↦ let b = super_below c x.0 s x.1.0 in
                step n c x.0 x.1.0 i s (walks_more (above_places p) (suc k) (length p.classes) c top q e) (more x.0 (omega (arith, q)) (omega (arith, b, l)) (shorts c x.0 x.1.0) x.1.1)
            | inr x ↦ never k x.0 (listed c x.0 x.1.0) x.1.1
          ]

      itself_long : (n : ℕ) → n ≤ n
      itself_long n = omega arith

      pub finds_covered : (place : ℕ) → place < length p.classes → is_under p place top ≡ true → Covered (finds_virtual p name proto place)
      finds_covered place l under = along (length p.classes) (length p.classes) place (itself_long (length p.classes)) (rank_short place l) l under

      -- ---- what may be given

      module _ (t : Facts) where
        -- where the class has a virtual method or inherits one
        module _ (first : MethodAt) where
          abbrev handed : Parts
          handed = by_found p t name proto top (Some first)

          with_more : (v : Parts) (o : Option MethodAt) → Under v (with_maybe p t v o)
          with_more v None d h = h
          with_more v (Some at) d h = first_joined v (found_value p t (Some at)) d h

          grows : (v : Parts) (x : ℕ) → Under v (with_definer p t name proto top v x)
          grows v x = by (not (nat_eq x top) && is_under p x top)
            where
              by : (b : Bool) → Under v (if b then with_maybe p t v (own_virtual p name proto x) else v)
              by true = with_more v (own_virtual p name proto x)
              by false = λ d h. h

          base : Under (found_value p t (Some first)) handed
          base = fold_grows (with_definer p t name proto top) grows (definers_of p name proto) (found_value p t (Some first))

          defines : (x : ℕ) (at : MethodAt) → own_virtual p name proto x ≡ Some at → is_some (own_method p name proto x) ≡ true
          defines x at e = by (own_method p name proto x) e
            where
              by : (o : Option MethodAt) → virtual_only p o ≡ Some at → is_some o ≡ true
              by None i = none_some at i
              by (Some y) i = refl

          lower_given : (o : Option MethodAt) (h : Lower o) → Under (found_value p t (Some h.at)) handed
          lower_given o h =
              let i = filter_there (λ c. is_some (own_method p name proto c)) (range_with_len 0 (length p.classes)) h.class h.class (place_there p h.class h.short) (defines h.class h.at h.there) in
              fold_reaches (with_definer p t name proto top) grows (definers_of p name proto) (found_value p t (Some first)) i.0 h.class (found_value p t (Some h.at)) i.1 one
            where
              one : (w : Parts) → Under (found_value p t (Some h.at)) (with_definer p t name proto top w h.class)
              one w = by (not (nat_eq h.class top)) (is_under p h.class top) (ap not h.apart) h.under
                where
                  by : (a b : Bool) → a ≡ true → b ≡ true → Under (found_value p t (Some h.at)) (if a && b then with_maybe p t w (own_virtual p name proto h.class) else w)
                  by true true i j = subst (λ o. Under (found_value p t (Some h.at)) (with_maybe p t w o)) (sym h.there) (second_joined w (found_value p t (Some h.at)))
                  by true false i j = absurd (true≢false (sym j))
                  by false b i j = absurd (true≢false (sym i))

          found_given : (o : Option MethodAt) (y : Search) → finds_virtual p name proto top ≡ Some first → Covered o → Answers p t (by_found p t name proto top (Some first)) (found_or o y)
          found_given None y e (inl i) = none_some first (i ∙ e)
          found_given None y e (inr h) = none_some h.at h.is
          found_given (Some at) y e (inl i) = subst (λ a. Under (found_value p t (Some a)) handed) (sym (some_same at first (i ∙ e))) base
          found_given (Some at) y e (inr h) = subst (λ a. Under (found_value p t (Some a)) handed) (sym (some_same at h.at h.is)) (lower_given (Some at) h)

        -- ---- where it has none

        class_grows : (v : Parts) (x : ℕ) → Under v (with_class p t name proto v x)
        class_grows v x = first_joined v (search_value p t (finds_at p x name proto))

        answered : (v : Parts) (y : Search) → Under (search_value p t y) v → Answers p t v y
        answered v Nothing h = h
        answered v Clash h = tt
        answered v (Finds at) h = h

        -- what another class under it finds is joined in
        other_given : (z : Parts) (place : ℕ) → place < length p.classes → is_under p place top ≡ true → nat_eq place top ≡ false
            → Answers p t (fold (with_class p t name proto) z (subclasses_of p top)) (finds_at p place name proto)
        other_given z place l under apart =
            let i = filter_there (λ c. is_under p c top && not (nat_eq c top)) (range_with_len 0 (length p.classes)) place place (place_there p place l)
            (and_both (is_under p place top) (not (nat_eq place top)) under (ap not apart)) in
            answered (fold (with_class p t name proto) z (subclasses_of p top)) (finds_at p place name proto)
            (fold_reaches (with_class p t name proto) class_grows (subclasses_of p top) z i.0 place (search_value p t (finds_at p place name proto)) i.1 (λ w. second_joined w (search_value p t (finds_at p place name proto))))

        -- what it finds itself is where that begins
        each_given : (z : Parts) (y : Search) → finds_at p top name proto ≡ y → Under (search_value p t y) z → (place : ℕ) → place < length p.classes → is_under p place top ≡ true
            → Answers p t (fold (with_class p t name proto) z (subclasses_of p top)) (finds_at p place name proto)
        each_given z y e h place l under = by (nat_eq place top) refl
          where
            own : Under (search_value p t y) (fold (with_class p t name proto) z (subclasses_of p top))
            own = under_on (search_value p t y) z (fold (with_class p t name proto) z (subclasses_of p top)) h (fold_grows (with_class p t name proto) class_grows (subclasses_of p top) z)

            by : (b : Bool) → nat_eq place top ≡ b → Answers p t (fold (with_class p t name proto) z (subclasses_of p top)) (finds_at p place name proto)
            by true i = subst (λ c. Answers p t (fold (with_class p t name proto) z (subclasses_of p top)) (finds_at p c name proto)) (sym (eqb-true place top i))
                (answered (fold (with_class p t name proto) z (subclasses_of p top)) (finds_at p top name proto)
                (subst (λ x. Under (search_value p t x) (fold (with_class p t name proto) z (subclasses_of p top))) (sym e) own))
            by false i = other_given z place l under i

        search_given : (y : Search) → finds_at p top name proto ≡ y → (place : ℕ) → place < length p.classes → is_under p place top ≡ true
            → Answers p t (by_search p t name proto (subclasses_of p top) y) (finds_at p place name proto)
        search_given Nothing e place l under = any_answers p t (finds_at p place name proto)
        search_given Clash e place l under = each_given least_value Clash e (λ d h. h) place l under
        search_given (Finds at) e place l under = each_given (found_value p t (Some at)) (Finds at) e (λ d h. h) place l under

        -- what a class under it finds is among what may be given, and anything is where it finds nothing
        pub given_at : (place : ℕ) → place < length p.classes → is_under p place top ≡ true → Answers p t (virtual_value p t name proto top) (finds_at p place name proto)
        given_at place l under = by (finds_virtual p name proto top) refl
          where
            by : (o : Option MethodAt) → finds_virtual p name proto top ≡ o → Answers p t (by_found p t name proto top o) (finds_at p place name proto)
            by (Some first) e = found_given first (finds_virtual p name proto place) (finds_among p (flat_map (interface_places p) (chain_of p (Some place))) name proto) e (finds_covered place l under)
            by None e = search_given (finds_at p top name proto) refl place l under
