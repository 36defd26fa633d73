-- A walk up from a class finds whether it or a class above it lists a type.
use Rattle.std.proofs.Common.{◌≡◌, ℕ, zero, suc, ◌+◌, ◌<◌, ◌≤◌, ◌⊎◌, inl, inr, Bool, true, false, true≢false, nat_eq, List, [], ◌∷◌, ◌++◌, length, take, slice_index, Option, Some, None, refl, sym, ap, subst, ◌∙◌, arith, ltb-true, lt-ltb}
use Rattle.std.specs.Prelude.{◌&&◌, ◌||◌, not, slice_get, slice_index_or, slice_set, nat_lt, option_and_then, cond, Contains}
use Rattle.std.specs.List.{list_any, list_all}
use Rattle.std.proofs.lemmas.Bool.{cases_lt}
use Rattle.std.proofs.lemmas.List.{take_more, take_all}
use Rattle.std.proofs.lemmas.Option.{slice_get_past}
use Rattle.program_model.specs.declared.program.Class.{Class}
use Rattle.program_model.specs.declared.program.Program.{Program}
use Rattle.program_model.specs.Lookups.{class_place}
use Rattle.class_defs.specs.ClassGraph.{IsTwice}
use Rattle.class_defs.specs.Finding.{beside, reaches, lists_interface}
use Rattle.class_defs.specs.Places.{super_place, interface_places, placed, listed, above_places, walks, is_under}
use Rattle.class_defs.proofs.Positions.{both, number_test, number_of, place_entry, place_first}
use Rattle.class_defs.proofs.WellFormed.{and_left, and_right}
use Rattle.hierarchy.specs.Climbing.{In}
use Rattle.hierarchy.specs.Ranks.{is_lower, is_lower_all, IsRanked}
use Rattle.hierarchy.specs.Walking.{IsFair}
use Rattle.hierarchy.specs.declared.walk.Walk.{Walk}
use Rattle.dalvik_lookups.specs.Listing.{lists_in, lists_at, left, Grows, Climbs}
use Rattle.dalvik_lookups.specs.Reached.{touches, touches_at, reaches_framework}

-- ---- members of lists

pub record Among (t : ℕ → Bool) (us : List ℕ) : Type 0 where
  pub at : ℕ
  pub there : In at us
  pub is : t at ≡ true

pub any_of : (t : ℕ → Bool) (us : List ℕ) → list_any t us ≡ true → Among t us
any_of t [] e = absurd (true≢false (sym e))
any_of t (x ∷ xs) e = by_test (t x) refl e (any_of t xs)
  where
    by_test : (b : Bool) → t x ≡ b → (b || list_any t xs) ≡ true → (list_any t xs ≡ true → Among t xs) → Among t (x ∷ xs)
    by_test true f g more = record { at = x; there = inl refl; is = f }
    by_test false f g more = let a = more g in record { at = a.at; there = inr a.there; is = a.is }

or_right : (a b : Bool) → b ≡ true → (a || b) ≡ true
or_right true b e = refl
or_right false b e = e

pub of_any : (t : ℕ → Bool) (us : List ℕ) (u : ℕ) → In u us → t u ≡ true → list_any t us ≡ true
of_any t [] u i e = absurd i
of_any t (x ∷ xs) u (inl s) e = ap (λ b. b || list_any t xs) (sym (ap t s) ∙ e)
of_any t (x ∷ xs) u (inr i) e = or_right (t x) (list_any t xs) (of_any t xs u i e)

all_in : (t : ℕ → Bool) (us : List ℕ) (u : ℕ) → list_all t us ≡ true → In u us → t u ≡ true
all_in t [] u h i = absurd i
all_in t (x ∷ xs) u h (inl s) = ap t s ∙ and_left (t x) (list_all t xs) h
all_in t (x ∷ xs) u h (inr i) = all_in t xs u (and_right (t x) (list_all t xs) h) i

any_at : {X : Type 0} (t : X → Bool) (xs : List X) (i : ℕ) (x : X) → slice_get xs i ≡ Some x → t x ≡ true → list_any t xs ≡ true
any_at t [] i x e h = cc
any_at t (y ∷ ys) zero x e h = ap (λ b. b || list_any t ys) (ap t (let s : y ≡ x = cc in s) ∙ h)
any_at t (y ∷ ys) (suc i) x e h = or_right (t y) (list_any t ys) (any_at t ys i x e h)

any_none : {X : Type 0} (t : X → Bool) (xs : List X) → ((i : ℕ) (x : X) → slice_get xs i ≡ Some x → t x ≡ false) → list_any t xs ≡ false
any_none t [] h = refl
any_none t (x ∷ xs) h = ap (λ b. b || list_any t xs) (h 0 x refl) ∙ any_none t xs (λ i y e. h (suc i) y e)

placed_in : (u : ℕ) (o : Option ℕ) (us : List ℕ) → In u (placed o us) → (o ≡ Some u) ⊎ In u us
placed_in u None us i = inr i
placed_in u (Some c) us (inl s) = inl (ap (λ x. Some x) (sym s))
placed_in u (Some c) us (inr i) = inr i

got_short : {X : Type 0} (xs : List X) (i : ℕ) (x : X) → slice_get xs i ≡ Some x → i < length xs
got_short [] i x e = cc
got_short (y ∷ ys) zero x e = omega arith
got_short (y ∷ ys) (suc i) x e = let h = got_short ys i x e in omega (arith, h)

-- ---- walks

module _ (p : Program) (r : IsRanked p) where
  past_above : (c : ℕ) → length p.classes ≤ c → above_places p c ≡ []
  past_above c le = ap (λ o. placed (option_and_then (λ k. class_place p k.superclass) o) (listed p o)) (slice_get_past p.classes c le)

  pub lower_above : (c u : ℕ) → In u (above_places p c) → r.rank u < r.rank c
  lower_above c u i = elim (cases_lt c (length p.classes)) [
    | inr le ↦ absurd (subst (In u) (past_above c le) i)
    | inl lt ↦
        let all = r.each c lt in
        let front = and_left (nat_lt (r.rank c) (length p.classes) && is_lower r.rank (r.rank c) (super_place p c)) (is_lower_all r.rank (r.rank c) (interface_places p c)) all in
        ltb-true (r.rank u) (r.rank c) (elim (placed_in u (super_place p c) (interface_places p c) i) [
          | inl s ↦ sym (ap (is_lower r.rank (r.rank c)) s) ∙ and_right (nat_lt (r.rank c) (length p.classes)) (is_lower r.rank (r.rank c) (super_place p c)) front
          | inr j ↦ all_in (λ u. nat_lt (r.rank u) (r.rank c)) (interface_places p c) u (and_right (nat_lt (r.rank c) (length p.classes) && is_lower r.rank (r.rank c) (super_place p c)) (is_lower_all r.rank (r.rank c) (interface_places p c)) all) j
        ])
  ]

  pub rank_short : (c : ℕ) → c < length p.classes → r.rank c < length p.classes
  rank_short c lt =
      let all = r.each c lt in
      ltb-true (r.rank c) (length p.classes) (and_left (nat_lt (r.rank c) (length p.classes)) (is_lower r.rank (r.rank c) (super_place p c))
      (and_left (nat_lt (r.rank c) (length p.classes) && is_lower r.rank (r.rank c) (super_place p c)) (is_lower_all r.rank (r.rank c) (interface_places p c)) all))

  here : (k c d : ℕ) → c ≡ d → walks (above_places p) k c d ≡ true
  here zero c d e = number_test c d e
  here (suc k) c d e = ap (λ b. cond b true (list_any (λ u. walks (above_places p) k u d) (above_places p c))) (number_test c d e)

  on_walk : (m c u d : ℕ) → In u (above_places p c) → walks (above_places p) m u d ≡ true → walks (above_places p) (suc m) c d ≡ true
  on_walk m c u d i w = by_test (nat_eq c d)
    where
      by_test : (b : Bool) → cond b true (list_any (λ v. walks (above_places p) m v d) (above_places p c)) ≡ true
      by_test true = refl
      by_test false = of_any (λ v. walks (above_places p) m v d) (above_places p c) u i w

  -- a walk is done, or goes on from a class above
  pub record Goes (m c d : ℕ) : Type 0 where
    pub at : ℕ
    pub there : In at (above_places p c)
    pub walk : walks (above_places p) m at d ≡ true

  split : (m c d : ℕ) → walks (above_places p) (suc m) c d ≡ true → (c ≡ d) ⊎ Goes m c d
  split m c d w = by_test (nat_eq c d) refl w
    where
      by_test : (b : Bool) → nat_eq c d ≡ b → cond b true (list_any (λ v. walks (above_places p) m v d) (above_places p c)) ≡ true → (c ≡ d) ⊎ Goes m c d
      by_test true e f = inl (number_of c d e)
      by_test false e f = let a = any_of (λ v. walks (above_places p) m v d) (above_places p c) f in inr (record { at = a.at; there = a.there; walk = a.is })

  falls : (m c d : ℕ) → walks (above_places p) m c d ≡ true → r.rank d ≤ r.rank c
  falls zero c d w = let z : r.rank c ≡ r.rank d = ap r.rank (number_of c d w) in omega (arith, z)
  falls (suc m) c d w = elim (split m c d w) [
    | inl s ↦ let z : r.rank c ≡ r.rank d = ap r.rank s in omega (arith, z)
    | inr g ↦ let h = falls m g.at d g.walk in let l = lower_above c g.at g.there in omega (arith, h, l)
  ]

  tight : (m c d k : ℕ) → walks (above_places p) m c d ≡ true → r.rank c ≤ r.rank d + k → walks (above_places p) k c d ≡ true
  tight zero c d k w l = here k c d (number_of c d w)
  tight (suc m) c d zero w l = elim (split m c d w) [
    | inl s ↦ here zero c d s
    | inr g ↦ let h = falls m g.at d g.walk in let n = lower_above c g.at g.there in absurd (omega (arith, h, n, l))
  ]
  tight (suc m) c d (suc j) w l = elim (split m c d w) [
    | inl s ↦ here (suc j) c d s
    | inr g ↦ let n = lower_above c g.at g.there in on_walk j c g.at d g.there (tight m g.at d j g.walk (omega (arith, n, l)))
  ]

  longer : (m c d u : ℕ) → walks (above_places p) m c d ≡ true → In u (above_places p d) → walks (above_places p) (suc m) c u ≡ true
  longer zero c d u w i = on_walk zero c u u (subst (λ x. In u (above_places p x)) (sym (number_of c d w)) i) (here zero u u refl)
  longer (suc m) c d u w i = elim (split m c d w) [
    | inl s ↦ on_walk (suc m) c u u (subst (λ x. In u (above_places p x)) (sym s) i) (here (suc m) u u refl)
    | inr g ↦ on_walk (suc m) c g.at u g.there (longer m g.at d u g.walk i)
  ]

  stays : (m c d : ℕ) → above_places p c ≡ [] → walks (above_places p) m c d ≡ true → c ≡ d
  stays zero c d e w = number_of c d w
  stays (suc m) c d e w = elim (split m c d w) [ inl s ↦ s | inr g ↦ absurd (subst (In g.at) e g.there) ]

  under_up : (c d u : ℕ) → is_under p c d ≡ true → In u (above_places p d) → is_under p c u ≡ true
  under_up c d u w i = elim (cases_lt c (length p.classes)) [
    | inl lt ↦ let s = rank_short c lt in tight (suc (length p.classes)) c u (length p.classes) (longer (length p.classes) c d u w i) (omega (arith, s))
    | inr le ↦
        let e = past_above c le in
        absurd (subst (In u) e (subst (λ x. In u (above_places p x)) (sym (stays (length p.classes) c d e w)) i))
  ]

  -- ---- the walk

  pub climb_begins : (class : ℕ) (test : ℕ → Bool) (seen seen' : List Bool) (stack stack' : List ℕ) → length seen ≡ length p.classes → ((c : ℕ) → slice_index_or seen c false ≡ true → ⊥) → stack ≡ [] → Grows (class ∷ []) seen stack seen' stack' → Climbs p class test seen' stack'
  climb_begins class test seen seen' stack stack' size none empty g = record {
    size = g.size ∙ size;
    start = λ lt. g.reached class (inl refl) (omega (arith, size, lt));
    sound = λ c e. elim (g.from c e) [ inl f ↦ absurd (none c f) | inr i ↦ elim i.0 [ inl s ↦ here (length p.classes) class c (sym s) | inr n ↦ absurd n ] ];
    stacked = λ c i. elim (g.waiting c i) [ inl j ↦ absurd (subst (In c) empty j) | inr f ↦ f ];
    closed = λ c e. elim (g.from c e) [ inl f ↦ absurd (none c f) | inr i ↦ inl i.1 ];
    failed = λ c e. elim (g.from c e) [ inl f ↦ absurd (none c f) | inr i ↦ inl i.1 ];
  }

  pub climb_on : (class : ℕ) (test : ℕ → Bool) (one : ℕ) (seen seen' : List Bool) (stack rest stack' : List ℕ) → stack ≡ one ∷ rest → test one ≡ false → Grows (above_places p one) seen rest seen' stack' → Climbs p class test seen stack → Climbs p class test seen' stack'
  climb_on class test one seen seen' stack rest stack' e lacks g k = record {
    size = g.size ∙ k.size;
    start = λ lt. g.kept class (k.start lt);
    sound = λ c f. elim (g.from c f) [ inl h ↦ k.sound c h | inr i ↦ under_up class one c (k.sound one first) i.0 ];
    stacked = λ c i. elim (g.waiting c i) [ inl j ↦ g.kept c (k.stacked c (subst (In c) (sym e) (inr j))) | inr f ↦ f ];
    closed = λ c f. elim (g.from c f) [
      | inr i ↦ inl i.1
      | inl h ↦ elim (k.closed c h) [
        | inr all ↦ inr (λ u i lt. g.kept u (all u i lt))
        | inl i ↦ elim (subst (In c) e i) [
          | inr j ↦ inl (g.waits c j)
          | inl s ↦ inr (λ u i lt. g.reached u (subst (λ x. In u (above_places p x)) s i) (let z = k.size in omega (arith, z, lt)))
        ]
      ]
    ];
    failed = λ c f. elim (g.from c f) [
      | inr i ↦ inl i.1
      | inl h ↦ elim (k.failed c h) [
        | inr n ↦ inr n
        | inl i ↦ elim (subst (In c) e i) [ inr j ↦ inl (g.waits c j) | inl s ↦ inr (ap test s ∙ lacks) ]
      ]
    ];
  }
    where
      first : slice_index_or seen one false ≡ true
      first = k.stacked one (subst (In one) (sym e) (inl refl))

  -- a class in whose walks all is seen
  known : (class : ℕ) (test : ℕ → Bool) (seen : List Bool) → Climbs p class test seen [] → (m c d : ℕ) → (c < length p.classes → slice_index_or seen c false ≡ true) → walks (above_places p) m c d ≡ true → d < length p.classes → slice_index_or seen d false ≡ true
  known class test seen k zero c d h w lt = subst (λ x. x < length p.classes → slice_index_or seen x false ≡ true) (number_of c d w) h lt
  known class test seen k (suc m) c d h w lt = elim (split m c d w) [
    | inl s ↦ subst (λ x. x < length p.classes → slice_index_or seen x false ≡ true) s h lt
    | inr g ↦ known class test seen k m g.at d (elim (cases_lt c (length p.classes)) [
      | inr le ↦ absurd (subst (In g.at) (past_above c le) g.there)
      | inl short ↦ elim (k.closed c (h short)) [ inl i ↦ absurd i | inr all ↦ all g.at g.there ]
    ]) g.walk lt
  ]

  -- a class above another that passes a test
  pub record Under (class : ℕ) (test : ℕ → Bool) : Type 0 where
    pub at : ℕ
    pub under : is_under p class at ≡ true
    pub passes : test at ≡ true

  pub climb_finds : (class : ℕ) (test : ℕ → Bool) (one : ℕ) (seen : List Bool) (stack rest : List ℕ) → stack ≡ one ∷ rest → test one ≡ true → Climbs p class test seen stack → Under class test
  climb_finds class test one seen stack rest e l k = record { at = one; under = k.sound one (k.stacked one (subst (In one) (sym e) (inl refl))); passes = l }

  pub climb_ends : (class : ℕ) (test : ℕ → Bool) (seen : List Bool) (stack : List ℕ) → stack ≡ [] → Climbs p class test seen stack → (c : ℕ) → c < length p.classes → is_under p class c ≡ true → test c ≡ false
  climb_ends class test seen stack e k c lt w =
      let z : Climbs p class test seen [] = subst (Climbs p class test seen) e k in
      elim (z.failed c (known class test seen z (length p.classes) class c z.start w lt)) [ inl i ↦ absurd i | inr n ↦ n ]

  -- ---- classes under the framework

  pub record Reached (n c : ℕ) : Type 0 where
    pub at : ℕ
    pub walk : walks (above_places p) n c at ≡ true
    pub passes : touches_at p at ≡ true

  reach_under : (n c : ℕ) → reaches_framework n p c ≡ true → Reached n c
  reach_under zero c e = absurd (true≢false (sym e))
  reach_under (suc n) c e = by_test (λ u. reach_under n u) (touches_at p c) refl e
    where
      by_test : ((u : ℕ) → reaches_framework n p u ≡ true → Reached n u) → (b : Bool) → touches_at p c ≡ b → (b || list_any (reaches_framework n p) (above_places p c)) ≡ true → Reached (suc n) c
      by_test more true f g = record { at = c; walk = here (suc n) c c refl; passes = f }
      by_test more false f g =
          let a = any_of (reaches_framework n p) (above_places p c) g in
          let m = more a.at a.is in
          record { at = m.at; walk = on_walk n c a.at m.at a.there m.walk; passes = m.passes }

  reaches_here : (n c d : ℕ) → c ≡ d → touches_at p d ≡ true → reaches_framework (suc n) p c ≡ true
  reaches_here n c d e t = ap (λ b. b || list_any (reaches_framework n p) (above_places p c)) (ap (touches_at p) e ∙ t)

  walk_reaches : (n c d : ℕ) → walks (above_places p) n c d ≡ true → touches_at p d ≡ true → reaches_framework (suc n) p c ≡ true
  walk_reaches zero c d w t = reaches_here zero c d (number_of c d w) t
  walk_reaches (suc n) c d w t = elim (split n c d w) [
    | inl s ↦ reaches_here (suc n) c d s t
    | inr g ↦ or_right (touches_at p c) (list_any (reaches_framework (suc n) p) (above_places p c)) (of_any (reaches_framework (suc n) p) (above_places p c) g.at g.there (walk_reaches n g.at d g.walk t))
  ]

  touches_past : (c : ℕ) → length p.classes ≤ c → touches_at p c ≡ false
  touches_past c le = ap (touches p) (slice_get_past p.classes c le)

  pub outward_finds : (class : ℕ) → Under class (touches_at p) → reaches_framework (length p.classes) p class ≡ true
  outward_finds class u = elim (cases_lt class (length p.classes)) [
    | inl lt ↦ by_size (length p.classes) refl (rank_short class lt)
    | inr le ↦
        let same = stays (length p.classes) class u.at (past_above class le) u.under in
        absurd (true≢false (sym (ap (touches_at p) same ∙ u.passes) ∙ touches_past class le))
  ]
    where
      by_size : (n : ℕ) → length p.classes ≡ n → r.rank class < length p.classes → reaches_framework n p class ≡ true
      by_size zero e l = absurd (omega (arith, e, l))
      by_size (suc m) e l = walk_reaches m class u.at (tight (length p.classes) class u.at m u.under (omega (arith, e, l))) u.passes

  pub outward_ends : (class : ℕ) → ((c : ℕ) → c < length p.classes → is_under p class c ≡ true → touches_at p c ≡ false) → reaches_framework (length p.classes) p class ≡ false
  outward_ends class h = by_test (reaches_framework (length p.classes) p class) refl
    where
      by_test : (b : Bool) → reaches_framework (length p.classes) p class ≡ b → b ≡ false
      by_test false e = refl
      by_test true e =
          let a = reach_under (length p.classes) class e in
          elim (cases_lt a.at (length p.classes)) [
            | inl lt ↦ sym a.passes ∙ h a.at lt a.walk
            | inr le ↦ sym a.passes ∙ touches_past a.at le
          ]

  module _ (once : (class : ℕ) → IsTwice p class → ⊥) where
    own_place : (b : ℕ) (u : Class) → slice_get p.classes b ≡ Some u → class_place p u.name ≡ Some b
    own_place b u e =
        let f = place_first (λ k. nat_eq k.name u.name) p.classes b u e (number_test u.name u.name refl) in
        elim f.first [
          | inr same ↦ f.is ∙ ap (λ n. Some n) same
          | inl before ↦ (
              let x = place_entry (λ k. nat_eq k.name u.name) p.classes f.place f.is in
              absurd (once b (record { earlier = f.place; before = before; one = x.entry; other = u; is_one = x.is; is_other = e; same = number_of x.entry.name u.name x.passes }))
              )
        ]

    lister : (class kind c : ℕ) → is_under p class c ≡ true → (o : Option Class) → slice_get p.classes c ≡ o → lists_in kind o ≡ true → lists_interface p class kind ≡ true
    lister class kind c w None e l = absurd (true≢false (sym l))
    lister class kind c w (Some k) e l =
        any_at (λ k. reaches p class (class_place p k.name) && list_any (nat_eq kind) k.interfaces) p.classes c k e (both (reaches p class (class_place p k.name)) (list_any (nat_eq kind) k.interfaces) (ap (reaches p class) (own_place c k e) ∙ w) l)

    no_lister : (class kind : ℕ) → ((c : ℕ) → c < length p.classes → is_under p class c ≡ true → lists_at p kind c ≡ false) → lists_interface p class kind ≡ false
    no_lister class kind h = any_none (λ k. reaches p class (class_place p k.name) && list_any (nat_eq kind) k.interfaces) p.classes (λ i k e.
        ap (λ o. reaches p class o && list_any (nat_eq kind) k.interfaces) (own_place i k e) ∙ by_test i k e (is_under p class i) refl)
      where
        by_test : (i : ℕ) (k : Class) → slice_get p.classes i ≡ Some k → (b : Bool) → is_under p class i ≡ b → (b && list_any (nat_eq kind) k.interfaces) ≡ false
        by_test i k e true w = sym (ap (lists_in kind) e) ∙ h i (got_short p.classes i k e) w
        by_test i k e false w = refl

    pub list_finds : (class kind : ℕ) → Under class (lists_at p kind) → lists_interface p class kind ≡ true
    list_finds class kind u = lister class kind u.at u.under (slice_get p.classes u.at) refl u.passes

    pub list_ends : (class kind : ℕ) → ((c : ℕ) → c < length p.classes → is_under p class c ≡ true → lists_at p kind c ≡ false) → lists_interface p class kind ≡ false
    list_ends class kind h = no_lister class kind h

-- ---- what a walk comes to

pub set_size : (l : List Bool) (x : ℕ) → length (slice_set l x true) ≡ length l
set_size [] x = refl
set_size (b ∷ bs) zero = refl
set_size (b ∷ bs) (suc x) = ap suc (set_size bs x)

pub stays_seen : (l : List Bool) (x c : ℕ) → slice_index_or l c false ≡ true → slice_index_or (slice_set l x true) c false ≡ true
stays_seen [] x c e = e
stays_seen (b ∷ bs) zero zero e = refl
stays_seen (b ∷ bs) zero (suc c) e = e
stays_seen (b ∷ bs) (suc x) zero e = e
stays_seen (b ∷ bs) (suc x) (suc c) e = stays_seen bs x c e

pub seen_now : (l : List Bool) (x : ℕ) → x < length l → slice_index_or (slice_set l x true) x false ≡ true
seen_now [] x lt = absurd (omega (arith, lt))
seen_now (b ∷ bs) zero lt = refl
seen_now (b ∷ bs) (suc x) lt = seen_now bs x (omega (arith, lt))

pub marked_at : (l : List Bool) (x c : ℕ) → slice_index_or (slice_set l x true) c false ≡ true → (slice_index_or l c false ≡ true) ⊎ (c ≡ x)
marked_at [] x c e = inl e
marked_at (b ∷ bs) zero zero e = inr refl
marked_at (b ∷ bs) zero (suc c) e = inl e
marked_at (b ∷ bs) (suc x) zero e = inl e
marked_at (b ∷ bs) (suc x) (suc c) e = elim (marked_at bs x c e) [ inr s ↦ inr (ap suc s) | inl f ↦ inl f ]

pub left_set : (l : List Bool) (x : ℕ) → x < length l → slice_index_or l x false ≡ false → suc (left (slice_set l x true)) ≡ left l
left_set [] x lt e = absurd (omega (arith, lt))
left_set (true ∷ bs) zero lt e = absurd (true≢false e)
left_set (false ∷ bs) zero lt e = refl
left_set (true ∷ bs) (suc x) lt e = left_set bs x (omega (arith, lt)) e
left_set (false ∷ bs) (suc x) lt e = ap suc (left_set bs x (omega (arith, lt)) e)

pub grows_none : (seen seen' : List Bool) (stack stack' : List ℕ) → seen' ≡ seen → stack' ≡ stack → Grows [] seen stack seen' stack'
grows_none seen seen' stack stack' e f = record {
  size = ap length e;
  kept = λ c h. ap (λ l. slice_index_or l c false) e ∙ h;
  from = λ c h. inl (sym (ap (λ l. slice_index_or l c false) e) ∙ h);
  reached = λ c i lt. absurd i;
  waits = λ c i. subst (In c) (sym f) i;
  waiting = λ c i. inl (subst (In c) f i);
}

-- one class is there
pub grows_old : (class : ℕ) (seen seen' : List Bool) (stack stack' : List ℕ) → (nat_lt class (length seen) && not (slice_index_or seen class false)) ≡ false → seen' ≡ seen → stack' ≡ stack → Grows (class ∷ []) seen stack seen' stack'
grows_old class seen seen' stack stack' b e f = record {
  size = ap length e;
  kept = λ c h. ap (λ l. slice_index_or l c false) e ∙ h;
  from = λ c h. inl (sym (ap (λ l. slice_index_or l c false) e) ∙ h);
  reached = λ c i lt. elim i [
    | inr n ↦ absurd n
    | inl s ↦ ap (λ l. slice_index_or l c false) e ∙ ap (λ n. slice_index_or seen n false) s ∙ there (nat_lt class (length seen)) (slice_index_or seen class false) (lt-ltb class (length seen) (omega (arith, lt, s))) b
  ];
  waits = λ c i. subst (In c) (sym f) i;
  waiting = λ c i. inl (subst (In c) f i);
}
  where
    there : (a b : Bool) → a ≡ true → (a && not b) ≡ false → b ≡ true
    there a true e h = refl
    there true false e h = absurd (true≢false h)
    there false false e h = absurd (true≢false (sym e))

-- or it is new
pub record IsNew (class : ℕ) (seen : List Bool) : Type 0 where
  pub short : class < length seen
  pub new : slice_index_or seen class false ≡ false

pub is_new : (class : ℕ) (seen : List Bool) → (nat_lt class (length seen) && not (slice_index_or seen class false)) ≡ true → IsNew class seen
is_new class seen e = record {
  short = ltb-true class (length seen) (and_left (nat_lt class (length seen)) (not (slice_index_or seen class false)) e);
  new = untrue (slice_index_or seen class false) (and_right (nat_lt class (length seen)) (not (slice_index_or seen class false)) e);
}
  where
    untrue : (b : Bool) → not b ≡ true → b ≡ false
    untrue true e = absurd (true≢false (sym e))
    untrue false e = refl

pub grows_new : (class : ℕ) (seen seen' : List Bool) (stack stack' : List ℕ) → IsNew class seen → seen' ≡ slice_set seen class true → stack' ≡ class ∷ stack → Grows (class ∷ []) seen stack seen' stack'
grows_new class seen seen' stack stack' n e f = record {
  size = ap length e ∙ set_size seen class;
  kept = λ c h. ap (λ l. slice_index_or l c false) e ∙ stays_seen seen class c h;
  from = λ c h. elim (marked_at seen class c (sym (ap (λ l. slice_index_or l c false) e) ∙ h)) [ inl g ↦ inl g | inr s ↦ inr (inl s, subst (In c) (sym f) (inl s)) ];
  reached = λ c i lt. elim i [
    | inr n ↦ absurd n
    | inl s ↦ ap (λ l. slice_index_or l c false) e ∙ ap (λ k. slice_index_or (slice_set seen class true) k false) s ∙ seen_now seen class n.short
  ];
  waits = λ c i. subst (In c) (sym f) (inr i);
  waiting = λ c i. elim (subst (In c) f i) [
    | inr j ↦ inl j
    | inl s ↦ inr (ap (λ l. slice_index_or l c false) e ∙ ap (λ k. slice_index_or (slice_set seen class true) k false) s ∙ seen_now seen class n.short)
  ];
}

pub left_new : (class : ℕ) (seen seen' : List Bool) (stack stack' : List ℕ) → IsNew class seen → seen' ≡ slice_set seen class true → stack' ≡ class ∷ stack → left seen' + length stack' ≡ left seen + length stack
left_new class seen seen' stack stack' n e f =
    let a : left seen' ≡ left (slice_set seen class true) = ap left e in
    let b : length stack' ≡ suc (length stack) = ap length f in
    let c = left_set seen class n.short n.new in
    omega (arith, a, b, c)

pub in_left : (u : ℕ) (xs ys : List ℕ) → In u xs → In u (xs ++ ys)
in_left u [] ys i = absurd i
in_left u (x ∷ xs) ys (inl s) = inl s
in_left u (x ∷ xs) ys (inr i) = inr (in_left u xs ys i)

pub in_right : (u : ℕ) (xs ys : List ℕ) → In u ys → In u (xs ++ ys)
in_right u [] ys i = i
in_right u (x ∷ xs) ys i = inr (in_right u xs ys i)

pub in_split : (u : ℕ) (xs ys : List ℕ) → In u (xs ++ ys) → In u xs ⊎ In u ys
in_split u [] ys i = inr i
in_split u (x ∷ xs) ys (inl s) = inl (inl s)
in_split u (x ∷ xs) ys (inr i) = elim (in_split u xs ys i) [ inl j ↦ inl (inr j) | inr j ↦ inr j ]

pub grows_both : (us vs : List ℕ) (s s' s'' : List Bool) (k k' k'' : List ℕ) → Grows us s k s' k' → Grows vs s' k' s'' k'' → Grows (us ++ vs) s k s'' k''
grows_both us vs s s' s'' k k' k'' g h = record {
  size = h.size ∙ g.size;
  kept = λ c e. h.kept c (g.kept c e);
  from = λ c e. elim (h.from c e) [
    | inr i ↦ inr (in_right c us vs i.0, i.1)
    | inl f ↦ elim (g.from c f) [ inl a ↦ inl a | inr i ↦ inr (in_left c us vs i.0, h.waits c i.1) ]
  ];
  reached = λ c i lt. elim (in_split c us vs i) [ inl j ↦ h.kept c (g.reached c j lt) | inr j ↦ h.reached c j (let z = g.size in omega (arith, z, lt)) ];
  waits = λ c i. h.waits c (g.waits c i);
  waiting = λ c i. elim (h.waiting c i) [ inr f ↦ inr f | inl j ↦ elim (g.waiting c j) [ inl a ↦ inl a | inr f ↦ inr (h.kept c f) ] ];
}

pub beside_above : (o : Option ℕ) (us : List ℕ) → beside o ++ us ≡ placed o us
beside_above None us = refl
beside_above (Some c) us = refl

pub fair_same : (old new : Walk) → new.seen ≡ old.seen → new.list ≡ old.list → IsFair old → IsFair new
fair_same old new s l f = record { listed = λ c e. subst (λ v. Contains v.items c) (sym l) (f.listed c (sym (ap (λ v. slice_index_or v.items c false) s) ∙ e)) }

pub grows_more : (cs : List ℕ) (i : ℕ) (s s' s'' : List Bool) (k k' k'' : List ℕ) → i < length cs → Grows (take i cs) s k s' k' → Grows (slice_index cs i ∷ []) s' k' s'' k'' → Grows (take (i + 1) cs) s k s'' k''
grows_more cs i s s' s'' k k' k'' lt g h = subst (λ l. Grows l s k s'' k'') (sym (take_more cs i 0 lt)) (grows_both (take i cs) (slice_index cs i ∷ []) s s' s'' k k' k'' g h)

pub grows_all : (cs : List ℕ) (i : ℕ) (s s' : List Bool) (k k' : List ℕ) → length cs ≤ i → Grows (take i cs) s k s' k' → Grows cs s k s' k'
grows_all cs i s s' k k' le g = subst (λ l. Grows l s k s' k') (take_all i cs le) g

pub grows_above : (p : Program) (class : ℕ) (o : Option ℕ) (us : List ℕ) (s s' s'' : List Bool) (k k' k'' : List ℕ) → o ≡ super_place p class → us ≡ interface_places p class → Grows (beside o) s k s' k' → Grows us s' k' s'' k'' → Grows (above_places p class) s k s'' k''
grows_above p class o us s s' s'' k k' k'' e f g h =
    subst (λ l. Grows l s k s'' k'') (beside_above o us ∙ ap (λ x. placed x us) e ∙ ap (placed (super_place p class)) f) (grows_both (beside o) us s s' s'' k k' k'' g h)
