-- Walks up the classes of a program: members of lists, ranks on the way, and what is under what.
use Rattle.std.proofs.Common.{◌≡◌, ℕ, zero, suc, ◌+◌, ◌<◌, ◌≤◌, ◌⊎◌, inl, inr, Bool, true, false, true≢false, nat_eq, List, [], ◌∷◌, length, Option, Some, None, refl, sym, ap, subst, ◌∙◌, arith, ltb-true}
use Rattle.std.specs.Prelude.{◌&&◌, ◌||◌, slice_get, nat_lt, option_and_then, cond}
use Rattle.std.specs.List.{list_any, list_all}
use Rattle.std.proofs.lemmas.Bool.{cases_lt}
use Rattle.std.proofs.lemmas.Option.{slice_get_past}
use Rattle.lemmas.proofs.Bools.{and_left, and_right, or_right}
use Rattle.lemmas.proofs.Lists.{got_short}
use Rattle.program_model.specs.declared.program.Class.{Class}
use Rattle.program_model.specs.declared.program.Program.{Program}
use Rattle.program_model.specs.Lookups.{class_place}
use Rattle.class_defs.specs.Places.{super_place, interface_places, placed, places_of, listed, above_places, walks, is_under}
use Rattle.class_defs.proofs.Positions.{number_test, number_of, place_entry}
use Rattle.hierarchy.specs.Climbing.{In}
use Rattle.hierarchy.specs.Ranks.{is_lower, is_lower_all, IsRanked}

-- ---- members of lists

pub record Among (t : ℕ → Bool) (us : List ℕ) : Type 0 where
  pub at : ℕ
  pub there : In at us
  pub is : t at ≡ true

pub any_of : (t : ℕ → Bool) (us : List ℕ) → list_any t us ≡ true → Among t us
any_of t [] e = absurd (true≢false (sym e))
any_of t (x ∷ xs) e = by_test (t x) refl e (any_of t xs)
  where
    by_test : (b : Bool) → t x ≡ b → (b || list_any t xs) ≡ true → (list_any t xs ≡ true → Among t xs) → Among t (x ∷ xs)
    by_test true f g more = record { at = x; there = inl refl; is = f }
    by_test false f g more = let a = more g in record { at = a.at; there = inr a.there; is = a.is }

pub of_any : (t : ℕ → Bool) (us : List ℕ) (u : ℕ) → In u us → t u ≡ true → list_any t us ≡ true
of_any t [] u i e = absurd i
of_any t (x ∷ xs) u (inl s) e = ap (λ b. b || list_any t xs) (sym (ap t s) ∙ e)
of_any t (x ∷ xs) u (inr i) e = or_right (t x) (list_any t xs) (of_any t xs u i e)

pub all_in : (t : ℕ → Bool) (us : List ℕ) (u : ℕ) → list_all t us ≡ true → In u us → t u ≡ true
all_in t [] u h i = absurd i
all_in t (x ∷ xs) u h (inl s) = ap t s ∙ and_left (t x) (list_all t xs) h
all_in t (x ∷ xs) u h (inr i) = all_in t xs u (and_right (t x) (list_all t xs) h) i

pub placed_in : (u : ℕ) (o : Option ℕ) (us : List ℕ) → In u (placed o us) → (o ≡ Some u) ⊎ In u us
placed_in u None us i = inr i
placed_in u (Some c) us (inl s) = inl (ap (λ x. Some x) (sym s))
placed_in u (Some c) us (inr i) = inr i

-- ---- walks

module _ (p : Program) (r : IsRanked p) where
  past_above : (c : ℕ) → length p.classes ≤ c → above_places p c ≡ []
  past_above c le = ap (λ o. placed (option_and_then (λ k. class_place p k.superclass) o) (listed p o)) (slice_get_past p.classes c le)

  pub lower_above : (c u : ℕ) → In u (above_places p c) → r.rank u < r.rank c
  lower_above c u i = elim (cases_lt c (length p.classes)) [
    | inr le ↦ absurd (subst (In u) (past_above c le) i)
    | inl lt ↦
        let all = r.each c lt in
        let front = and_left (nat_lt (r.rank c) (length p.classes) && is_lower r.rank (r.rank c) (super_place p c)) (is_lower_all r.rank (r.rank c) (interface_places p c)) all in
        ltb-true (r.rank u) (r.rank c) (elim (placed_in u (super_place p c) (interface_places p c) i) [
          | inl s ↦ sym (ap (is_lower r.rank (r.rank c)) s) ∙ and_right (nat_lt (r.rank c) (length p.classes)) (is_lower r.rank (r.rank c) (super_place p c)) front
          | inr j ↦ all_in (λ u. nat_lt (r.rank u) (r.rank c)) (interface_places p c) u (and_right (nat_lt (r.rank c) (length p.classes) && is_lower r.rank (r.rank c) (super_place p c)) (is_lower_all r.rank (r.rank c) (interface_places p c)) all) j
        ])
  ]

  pub rank_short : (c : ℕ) → c < length p.classes → r.rank c < length p.classes
  rank_short c lt =
      let all = r.each c lt in
      ltb-true (r.rank c) (length p.classes) (and_left (nat_lt (r.rank c) (length p.classes)) (is_lower r.rank (r.rank c) (super_place p c))
      (and_left (nat_lt (r.rank c) (length p.classes) && is_lower r.rank (r.rank c) (super_place p c)) (is_lower_all r.rank (r.rank c) (interface_places p c)) all))

  pub here : (k c d : ℕ) → c ≡ d → walks (above_places p) k c d ≡ true
  here zero c d e = number_test c d e
  here (suc k) c d e = ap (λ b. cond b true (list_any (λ u. walks (above_places p) k u d) (above_places p c))) (number_test c d e)

  on_walk : (m c u d : ℕ) → In u (above_places p c) → walks (above_places p) m u d ≡ true → walks (above_places p) (suc m) c d ≡ true
  on_walk m c u d i w = by_test (nat_eq c d)
    where
      by_test : (b : Bool) → cond b true (list_any (λ v. walks (above_places p) m v d) (above_places p c)) ≡ true
      by_test true = refl
      by_test false = of_any (λ v. walks (above_places p) m v d) (above_places p c) u i w

  -- a walk is done, or goes on from a class above
  pub record Goes (m c d : ℕ) : Type 0 where
    pub at : ℕ
    pub there : In at (above_places p c)
    pub walk : walks (above_places p) m at d ≡ true

  pub split : (m c d : ℕ) → walks (above_places p) (suc m) c d ≡ true → (c ≡ d) ⊎ Goes m c d
  split m c d w = by_test (nat_eq c d) refl w
    where
      by_test : (b : Bool) → nat_eq c d ≡ b → cond b true (list_any (λ v. walks (above_places p) m v d) (above_places p c)) ≡ true → (c ≡ d) ⊎ Goes m c d
      by_test true e f = inl (number_of c d e)
      by_test false e f = let a = any_of (λ v. walks (above_places p) m v d) (above_places p c) f in inr (record { at = a.at; there = a.there; walk = a.is })

  pub falls : (m c d : ℕ) → walks (above_places p) m c d ≡ true → r.rank d ≤ r.rank c
  falls zero c d w = let z : r.rank c ≡ r.rank d = ap r.rank (number_of c d w) in omega (arith, z)
  falls (suc m) c d w = elim (split m c d w) [
    | inl s ↦ let z : r.rank c ≡ r.rank d = ap r.rank s in omega (arith, z)
    | inr g ↦ let h = falls m g.at d g.walk in let l = lower_above c g.at g.there in omega (arith, h, l)
  ]

  pub tight : (m c d k : ℕ) → walks (above_places p) m c d ≡ true → r.rank c ≤ r.rank d + k → walks (above_places p) k c d ≡ true
  tight zero c d k w l = here k c d (number_of c d w)
  tight (suc m) c d zero w l = elim (split m c d w) [
    | inl s ↦ here zero c d s
    | inr g ↦ let h = falls m g.at d g.walk in let n = lower_above c g.at g.there in absurd (omega (arith, h, n, l))
  ]
  tight (suc m) c d (suc j) w l = elim (split m c d w) [
    | inl s ↦ here (suc j) c d s
    | inr g ↦ let n = lower_above c g.at g.there in on_walk j c g.at d g.there (tight m g.at d j g.walk (omega (arith, n, l)))
  ]

  longer : (m c d u : ℕ) → walks (above_places p) m c d ≡ true → In u (above_places p d) → walks (above_places p) (suc m) c u ≡ true
  longer zero c d u w i = on_walk zero c u u (subst (λ x. In u (above_places p x)) (sym (number_of c d w)) i) (here zero u u refl)
  longer (suc m) c d u w i = elim (split m c d w) [
    | inl s ↦ on_walk (suc m) c u u (subst (λ x. In u (above_places p x)) (sym s) i) (here (suc m) u u refl)
    | inr g ↦ on_walk (suc m) c g.at u g.there (longer m g.at d u g.walk i)
  ]

  stays : (m c d : ℕ) → above_places p c ≡ [] → walks (above_places p) m c d ≡ true → c ≡ d
  stays zero c d e w = number_of c d w
  stays (suc m) c d e w = elim (split m c d w) [ inl s ↦ s | inr g ↦ absurd (subst (In g.at) e g.there) ]

  pub under_up : (c d u : ℕ) → is_under p c d ≡ true → In u (above_places p d) → is_under p c u ≡ true
  under_up c d u w i = elim (cases_lt c (length p.classes)) [
    | inl lt ↦ let s = rank_short c lt in tight (suc (length p.classes)) c u (length p.classes) (longer (length p.classes) c d u w i) (omega (arith, s))
    | inr le ↦
        let e = past_above c le in
        absurd (subst (In u) e (subst (λ x. In u (above_places p x)) (sym (stays (length p.classes) c d e w)) i))
  ]

  -- what is under what is under a class is under it
  walked : (low : ℕ) (n c d : ℕ) → is_under p low c ≡ true → walks (above_places p) n c d ≡ true → is_under p low d ≡ true
  walked low zero c d u e = subst (λ x. is_under p low x ≡ true) (number_of c d e) u
  walked low (suc n) c d u e = elim (split n c d e) [
    | inl s ↦ subst (λ x. is_under p low x ≡ true) s u
    | inr g ↦ walked low n g.at d (under_up low c g.at u g.there) g.walk
  ]

  pub under_on : (low c d : ℕ) → is_under p low c ≡ true → is_under p c d ≡ true → is_under p low d ≡ true
  under_on low c d u e = walked low (length p.classes) c d u e

  pub under_self : (c : ℕ) → is_under p c c ≡ true
  under_self c = here (length p.classes) c c refl

  -- a class that stands under another one is that one, or it has a greater rank
  pub rank_under : (n c d : ℕ) → walks (above_places p) n c d ≡ true → (c ≡ d) ⊎ (r.rank d < r.rank c)
  rank_under zero c d e = inl (number_of c d e)
  rank_under (suc n) c d e = elim (split n c d e) [
    | inl s ↦ inl s
    | inr g ↦ let l = lower_above c g.at g.there in let f = falls n g.at d g.walk in inr (omega (arith, l, f))
  ]

-- ---- places of classes

pub place_short : (p : Program) (k u : ℕ) → class_place p k ≡ Some u → u < length p.classes
place_short p k u e = let x = place_entry (λ c. nat_eq c.name k) p.classes u e in got_short p.classes u x.entry x.is

listed_short : (p : Program) (ks : List ℕ) (u : ℕ) → In u (places_of p ks) → u < length p.classes
listed_short p [] u i = absurd i
listed_short p (k ∷ ks) u i = by (class_place p k) refl i (listed_short p ks u)
  where
    by : (o : Option ℕ) → class_place p k ≡ o → In u (placed o (places_of p ks)) → (In u (places_of p ks) → u < length p.classes) → u < length p.classes
    by None e j more = more j
    by (Some c) e (inl s) more = place_short p k u (e ∙ ap Some (sym s))
    by (Some c) e (inr j) more = more j

pub super_short : (p : Program) (c u : ℕ) → super_place p c ≡ Some u → u < length p.classes
super_short p c u e = by_class (slice_get p.classes c) e
  where
    by_class : (o : Option Class) → option_and_then (λ k. class_place p k.superclass) o ≡ Some u → u < length p.classes
    by_class None f = cc
    by_class (Some k) f = place_short p k.superclass u f

pub interface_short : (p : Program) (c u : ℕ) → In u (interface_places p c) → u < length p.classes
interface_short p c u i = by_class (slice_get p.classes c) i
  where
    by_class : (o : Option Class) → In u (listed p o) → u < length p.classes
    by_class None j = absurd j
    by_class (Some k) j = listed_short p k.interfaces u j

pub super_below : (p : Program) (r : IsRanked p) (c u : ℕ) → super_place p c ≡ Some u → r.rank u < r.rank c
super_below p r c u e = lower_above p r c u (subst (λ o. In u (placed o (interface_places p c))) (sym e) (inl refl))
