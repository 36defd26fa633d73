-- Whether a class, or one above it, lists a type as an interface, by a climb over types and by the test for super calls.
use Rattle.std.proofs.Common.{◌≡◌, ℕ, zero, suc, ◌+◌, ◌<◌, ◌≤◌, ◌⊎◌, inl, inr, Bool, true, false, true≢false, nat_eq, List, [], ◌∷◌, length, Option, Some, None, refl, sym, ap, subst, ◌∙◌, arith, ltb-true}
use Rattle.std.specs.Prelude.{◌&&◌, ◌||◌, slice_get, nat_lt, option_and_then, cond, Contains}
use Rattle.std.specs.List.{list_any, list_all}
use Rattle.std.proofs.lemmas.Bool.{cases_lt}
use Rattle.std.proofs.lemmas.Option.{slice_get_past}
use Rattle.program_model.specs.declared.program.Class.{Class}
use Rattle.program_model.specs.declared.program.Program.{Program}
use Rattle.program_model.specs.Lookups.{class_place}
use Rattle.program_model.specs.ProgramRules.{is_well_formed}
use Rattle.class_defs.specs.ClassGraph.{IsTwice}
use Rattle.class_defs.specs.Finding.{reaches, lists_interface}
use Rattle.class_defs.specs.Places.{super_place, interface_places, placed, places_of, listed, above_places, walks, is_under}
use Rattle.class_defs.proofs.Positions.{both, number_test, number_of, place_entry, place_first}
use Rattle.class_defs.proofs.WellFormed.{sound, class_parts, and_left, and_right}
use Rattle.hierarchy.specs.Climbing.{In}
use Rattle.hierarchy.specs.Ranks.{is_lower, is_lower_all, IsRanked}
use Rattle.call_graph.specs.Above.{above_of, above_kinds, Climbs, AllFrom}
use Rattle.call_graph.specs.Supers.{interfaces_in, lists_at}
use Rattle.call_targets.specs.Walking.{HasFrom}
use Rattle.call_targets.proofs.Contained.{none_in, first_or, first_in, later_in, got_short}

-- ---- members of lists

pub record Among (t : ℕ → Bool) (us : List ℕ) : Type 0 where
  pub at : ℕ
  pub there : In at us
  pub is : t at ≡ true

any_of : (t : ℕ → Bool) (us : List ℕ) → list_any t us ≡ true → Among t us
any_of t [] e = absurd (true≢false (sym e))
any_of t (x ∷ xs) e = by_test (t x) refl e (any_of t xs)
  where
    by_test : (b : Bool) → t x ≡ b → (b || list_any t xs) ≡ true → (list_any t xs ≡ true → Among t xs) → Among t (x ∷ xs)
    by_test true f g more = record { at = x; there = inl refl; is = f }
    by_test false f g more = let a = more g in record { at = a.at; there = inr a.there; is = a.is }

or_right : (a b : Bool) → b ≡ true → (a || b) ≡ true
or_right true b e = refl
or_right false b e = e

of_any : (t : ℕ → Bool) (us : List ℕ) (u : ℕ) → In u us → t u ≡ true → list_any t us ≡ true
of_any t [] u i e = absurd i
of_any t (x ∷ xs) u (inl s) e = ap (λ b. b || list_any t xs) (sym (ap t s) ∙ e)
of_any t (x ∷ xs) u (inr i) e = or_right (t x) (list_any t xs) (of_any t xs u i e)

all_in : (t : ℕ → Bool) (us : List ℕ) (u : ℕ) → list_all t us ≡ true → In u us → t u ≡ true
all_in t [] u h i = absurd i
all_in t (x ∷ xs) u h (inl s) = ap t s ∙ and_left (t x) (list_all t xs) h
all_in t (x ∷ xs) u h (inr i) = all_in t xs u (and_right (t x) (list_all t xs) h) i

any_at : {X : Type 0} (t : X → Bool) (xs : List X) (i : ℕ) (x : X) → slice_get xs i ≡ Some x → t x ≡ true → list_any t xs ≡ true
any_at t [] i x e h = cc
any_at t (y ∷ ys) zero x e h = ap (λ b. b || list_any t ys) (ap t (let s : y ≡ x = cc in s) ∙ h)
any_at t (y ∷ ys) (suc i) x e h = or_right (t y) (list_any t ys) (any_at t ys i x e h)

placed_in : (u : ℕ) (o : Option ℕ) (us : List ℕ) → In u (placed o us) → (o ≡ Some u) ⊎ In u us
placed_in u None us i = inr i
placed_in u (Some c) us (inl s) = inl (ap (λ x. Some x) (sym s))
placed_in u (Some c) us (inr i) = inr i

-- ---- walks

module _ (p : Program) (r : IsRanked p) where
  past_above : (c : ℕ) → length p.classes ≤ c → above_places p c ≡ []
  past_above c le = ap (λ o. placed (option_and_then (λ k. class_place p k.superclass) o) (listed p o)) (slice_get_past p.classes c le)

  lower_above : (c u : ℕ) → In u (above_places p c) → r.rank u < r.rank c
  lower_above c u i = elim (cases_lt c (length p.classes)) [
    | inr le ↦ absurd (subst (In u) (past_above c le) i)
    | inl lt ↦
        let all = r.each c lt in
        let front = and_left (nat_lt (r.rank c) (length p.classes) && is_lower r.rank (r.rank c) (super_place p c)) (is_lower_all r.rank (r.rank c) (interface_places p c)) all in
        ltb-true (r.rank u) (r.rank c) (elim (placed_in u (super_place p c) (interface_places p c) i) [
          | inl s ↦ sym (ap (is_lower r.rank (r.rank c)) s) ∙ and_right (nat_lt (r.rank c) (length p.classes)) (is_lower r.rank (r.rank c) (super_place p c)) front
          | inr j ↦ all_in (λ u. nat_lt (r.rank u) (r.rank c)) (interface_places p c) u (and_right (nat_lt (r.rank c) (length p.classes) && is_lower r.rank (r.rank c) (super_place p c)) (is_lower_all r.rank (r.rank c) (interface_places p c)) all) j
        ])
  ]

  rank_short : (c : ℕ) → c < length p.classes → r.rank c < length p.classes
  rank_short c lt =
      let all = r.each c lt in
      ltb-true (r.rank c) (length p.classes) (and_left (nat_lt (r.rank c) (length p.classes)) (is_lower r.rank (r.rank c) (super_place p c))
      (and_left (nat_lt (r.rank c) (length p.classes) && is_lower r.rank (r.rank c) (super_place p c)) (is_lower_all r.rank (r.rank c) (interface_places p c)) all))

  here : (k c d : ℕ) → c ≡ d → walks (above_places p) k c d ≡ true
  here zero c d e = number_test c d e
  here (suc k) c d e = ap (λ b. cond b true (list_any (λ u. walks (above_places p) k u d) (above_places p c))) (number_test c d e)

  on_walk : (m c u d : ℕ) → In u (above_places p c) → walks (above_places p) m u d ≡ true → walks (above_places p) (suc m) c d ≡ true
  on_walk m c u d i w = by_test (nat_eq c d)
    where
      by_test : (b : Bool) → cond b true (list_any (λ v. walks (above_places p) m v d) (above_places p c)) ≡ true
      by_test true = refl
      by_test false = of_any (λ v. walks (above_places p) m v d) (above_places p c) u i w

  -- a walk is done, or goes on from a class above
  pub record Goes (m c d : ℕ) : Type 0 where
    pub at : ℕ
    pub there : In at (above_places p c)
    pub walk : walks (above_places p) m at d ≡ true

  split : (m c d : ℕ) → walks (above_places p) (suc m) c d ≡ true → (c ≡ d) ⊎ Goes m c d
  split m c d w = by_test (nat_eq c d) refl w
    where
      by_test : (b : Bool) → nat_eq c d ≡ b → cond b true (list_any (λ v. walks (above_places p) m v d) (above_places p c)) ≡ true → (c ≡ d) ⊎ Goes m c d
      by_test true e f = inl (number_of c d e)
      by_test false e f = let a = any_of (λ v. walks (above_places p) m v d) (above_places p c) f in inr (record { at = a.at; there = a.there; walk = a.is })

  falls : (m c d : ℕ) → walks (above_places p) m c d ≡ true → r.rank d ≤ r.rank c
  falls zero c d w = let z : r.rank c ≡ r.rank d = ap r.rank (number_of c d w) in omega (arith, z)
  falls (suc m) c d w = elim (split m c d w) [
    | inl s ↦ let z : r.rank c ≡ r.rank d = ap r.rank s in omega (arith, z)
    | inr g ↦ let h = falls m g.at d g.walk in let l = lower_above c g.at g.there in omega (arith, h, l)
  ]

  tight : (m c d k : ℕ) → walks (above_places p) m c d ≡ true → r.rank c ≤ r.rank d + k → walks (above_places p) k c d ≡ true
  tight zero c d k w l = here k c d (number_of c d w)
  tight (suc m) c d zero w l = elim (split m c d w) [
    | inl s ↦ here zero c d s
    | inr g ↦ let h = falls m g.at d g.walk in let n = lower_above c g.at g.there in absurd (omega (arith, h, n, l))
  ]
  tight (suc m) c d (suc j) w l = elim (split m c d w) [
    | inl s ↦ here (suc j) c d s
    | inr g ↦ let n = lower_above c g.at g.there in on_walk j c g.at d g.there (tight m g.at d j g.walk (omega (arith, n, l)))
  ]

  longer : (m c d u : ℕ) → walks (above_places p) m c d ≡ true → In u (above_places p d) → walks (above_places p) (suc m) c u ≡ true
  longer zero c d u w i = on_walk zero c u u (subst (λ x. In u (above_places p x)) (sym (number_of c d w)) i) (here zero u u refl)
  longer (suc m) c d u w i = elim (split m c d w) [
    | inl s ↦ on_walk (suc m) c u u (subst (λ x. In u (above_places p x)) (sym s) i) (here (suc m) u u refl)
    | inr g ↦ on_walk (suc m) c g.at u g.there (longer m g.at d u g.walk i)
  ]

  stays : (m c d : ℕ) → above_places p c ≡ [] → walks (above_places p) m c d ≡ true → c ≡ d
  stays zero c d e w = number_of c d w
  stays (suc m) c d e w = elim (split m c d w) [ inl s ↦ s | inr g ↦ absurd (subst (In g.at) e g.there) ]

  under_up : (c d u : ℕ) → is_under p c d ≡ true → In u (above_places p d) → is_under p c u ≡ true
  under_up c d u w i = elim (cases_lt c (length p.classes)) [
    | inl lt ↦ let s = rank_short c lt in tight (suc (length p.classes)) c u (length p.classes) (longer (length p.classes) c d u w i) (omega (arith, s))
    | inr le ↦
        let e = past_above c le in
        absurd (subst (In u) e (subst (λ x. In u (above_places p x)) (sym (stays (length p.classes) c d e w)) i))
  ]

  module _ (once : (class : ℕ) → IsTwice p class → ⊥) where
    pub own_place : (b : ℕ) (u : Class) → slice_get p.classes b ≡ Some u → class_place p u.name ≡ Some b
    own_place b u e =
        let f = place_first (λ k. nat_eq k.name u.name) p.classes b u e (number_test u.name u.name refl) in
        elim f.first [
          | inr same ↦ f.is ∙ ap (λ n. Some n) same
          | inl before ↦ (
              let x = place_entry (λ k. nat_eq k.name u.name) p.classes f.place f.is in
              absurd (once b (record { earlier = f.place; before = before; one = x.entry; other = u; is_one = x.is; is_other = e; same = number_of x.entry.name u.name x.passes }))
              )
        ]

    lister : (class kind c : ℕ) → is_under p class c ≡ true → (o : Option Class) → slice_get p.classes c ≡ o → list_any (nat_eq kind) (interfaces_in o) ≡ true → lists_interface p class kind ≡ true
    lister class kind c w None e l = absurd (true≢false (sym l))
    lister class kind c w (Some k) e l =
        any_at (λ k. reaches p class (class_place p k.name) && list_any (nat_eq kind) k.interfaces) p.classes c k e (both (reaches p class (class_place p k.name)) (list_any (nat_eq kind) k.interfaces) (ap (reaches p class) (own_place c k e) ∙ w) l)

  -- ---- a climb over types is a walk over classes

  none_some : {X : Type 0} (x : X) → None ≡ Some x → ⊥
  none_some x e = cc

  some_same : {X : Type 0} (x y : X) → Some x ≡ Some y → x ≡ y
  some_same x y e = cc

  in_placed : (o : Option ℕ) (us : List ℕ) (u : ℕ) → In u us → In u (placed o us)
  in_placed None us u i = i
  in_placed (Some c) us u i = inr i

  first_placed : (o : Option ℕ) (us : List ℕ) (u : ℕ) → o ≡ Some u → In u (placed o us)
  first_placed None us u e = absurd (none_some u e)
  first_placed (Some c) us u e = inl (sym (some_same c u e))

  -- the class of one of some types is among their classes
  in_places : (kinds : List ℕ) (kind c : ℕ) → Contains kinds kind → class_place p kind ≡ Some c → In c (places_of p kinds)
  in_places [] kind c h e = absurd (none_in kind h)
  in_places (k ∷ ks) kind c h e = elim (first_or k ks kind h) [
    | inl s ↦ first_placed (class_place p k) (places_of p ks) c (ap (class_place p) s ∙ e)
    | inr i ↦ in_placed (class_place p k) (places_of p ks) c (in_places ks kind c i e)
  ]

  -- a type of a list, and the place of its class
  record HasPlace (kinds : List ℕ) (c : ℕ) : Type 0 where
    pub kind : ℕ
    pub there : Contains kinds kind
    pub placed : class_place p kind ≡ Some c

  of_places : (kinds : List ℕ) (c : ℕ) → In c (places_of p kinds) → HasPlace kinds c
  of_places [] c i = absurd i
  of_places (k ∷ ks) c i = elim (placed_in c (class_place p k) (places_of p ks) i) [
    | inl e ↦ record { kind = k; there = first_in k ks; placed = e }
    | inr j ↦ let r = of_places ks c j in record { kind = r.kind; there = later_in k ks r.kind r.there; placed = r.placed }
  ]

  -- the types directly above that of a class, and the classes directly above it
  module _ (kind c : ℕ) (k : Class) (at : class_place p kind ≡ Some c) (is : slice_get p.classes c ≡ Some k) where
    above_is : above_kinds p kind ≡ k.superclass ∷ k.interfaces
    above_is = ap above_of (ap (option_and_then (slice_get p.classes)) at ∙ is)

    supers_is : super_place p c ≡ class_place p k.superclass
    supers_is = ap (option_and_then (λ x. class_place p x.superclass)) is

    lists_is : interface_places p c ≡ places_of p k.interfaces
    lists_is = ap (listed p) is

    step_up : (next d : ℕ) → Contains (above_kinds p kind) next → class_place p next ≡ Some d → In d (above_places p c)
    step_up next d i e = elim (first_or k.superclass k.interfaces next (subst (λ l. Contains l next) above_is i)) [
      | inl s ↦ first_placed (super_place p c) (interface_places p c) d (supers_is ∙ ap (class_place p) s ∙ e)
      | inr j ↦ in_placed (super_place p c) (interface_places p c) d (subst (In d) (sym lists_is) (in_places k.interfaces next d j e))
    ]

    step_of : (d : ℕ) → In d (above_places p c) → HasPlace (above_kinds p kind) d
    step_of d i = elim (placed_in d (super_place p c) (interface_places p c) i) [
      | inl e ↦ record { kind = k.superclass; there = subst (λ l. Contains l k.superclass) (sym above_is) (first_in k.superclass k.interfaces); placed = sym supers_is ∙ e }
      | inr j ↦ let r = of_places k.interfaces d (subst (In d) lists_is j) in
          record { kind = r.kind; there = subst (λ l. Contains l r.kind) (sym above_is) (later_in k.superclass k.interfaces r.kind r.there); placed = r.placed }
    ]

  -- the class at a place that a type has
  record Defined (kind c : ℕ) : Type 0 where
    pub class : Class
    pub is : slice_get p.classes c ≡ Some class
    pub named : class.name ≡ kind

  defined : (kind c : ℕ) → class_place p kind ≡ Some c → Defined kind c
  defined kind c e = let f = place_entry (λ k. nat_eq k.name kind) p.classes c e in record { class = f.entry; is = f.is; named = number_of f.entry.name kind f.passes }

  -- a type of the framework has nothing above it
  nothing_above : (kind next : ℕ) → class_place p kind ≡ None → Contains (above_kinds p kind) next → ⊥
  nothing_above kind next e i = none_in next (subst (λ o. Contains (above_of (option_and_then (slice_get p.classes) o)) next) e i)

  record Walks (c d : ℕ) : Type 0 where
    pub steps : ℕ
    pub walk : walks (above_places p) steps c d ≡ true

  climbs_from : (a b d : ℕ) → Climbs p a b → class_place p b ≡ Some d → class_place p a ≡ None → ⊥
  climbs_from a b d (Climbs.Itself x) f g = none_some d (sym g ∙ f)
  climbs_from a b d (Climbs.Through x y z lt j m) f g = nothing_above x y g j

  climb_walks : (a b c d : ℕ) → Climbs p a b → class_place p a ≡ Some c → class_place p b ≡ Some d → Walks c d
  climb_walks a b c d (Climbs.Itself k) e f = record { steps = 0; walk = here 0 c d (some_same c d (sym e ∙ f)) }
  climb_walks a b c d (Climbs.Through k next top lt i more) e f = by (class_place p next) refl (λ u g. climb_walks next top u d more g f) (climbs_from next top d more f)
    where
      by : (o : Option ℕ) → class_place p next ≡ o → ((u : ℕ) → class_place p next ≡ Some u → Walks u d) → (class_place p next ≡ None → ⊥) → Walks c d
      by None g on none = absurd (none g)
      by (Some u) g on none =
          let k1 = defined k c e in
          let w = on u g in
          record { steps = suc w.steps; walk = on_walk w.steps c u d (step_up k c k1.class e k1.is next u i g) w.walk }

  under_all : (c d : ℕ) → c < length p.classes → Walks c d → is_under p c d ≡ true
  under_all c d lt w = let s = rank_short c lt in tight w.steps c d (length p.classes) w.walk (omega (arith, s))

  climb_under : (a b c d : ℕ) → Climbs p a b → class_place p a ≡ Some c → class_place p b ≡ Some d → is_under p c d ≡ true
  climb_under a b c d climbs e f = let k = defined a c e in under_all c d (got_short p.classes c k.class k.is) (climb_walks a b c d climbs e f)

  module _ (fits : is_well_formed p ≡ true) where
    kind_short : (kind c : ℕ) → class_place p kind ≡ Some c → kind < length p.types
    kind_short kind c e = let k = defined kind c e in let s = (class_parts p (sound p fits) c k.class k.is).name in let n = k.named in omega (arith, s, n)

    same_type : (a c b d : ℕ) → class_place p a ≡ Some c → c ≡ d → (k : Class) → slice_get p.classes d ≡ Some k → k.name ≡ b → Climbs p a b
    same_type a c b d e s k f n = let x = defined a c e in subst (Climbs p a) (sym x.named ∙ ap (λ z. z.name) (some_same x.class k (sym x.is ∙ ap (slice_get p.classes) s ∙ f)) ∙ n) (Climbs.Itself a)

    walk_climbs : (m a c b d : ℕ) → walks (above_places p) m c d ≡ true → class_place p a ≡ Some c → (k : Class) → slice_get p.classes d ≡ Some k → k.name ≡ b → Climbs p a b
    walk_climbs zero a c b d w e k f n = same_type a c b d e (number_of c d w) k f n
    walk_climbs (suc m) a c b d w e k f n = elim (split m c d w) [
      | inl s ↦ same_type a c b d e s k f n
      | inr g ↦
          let x = defined a c e in
          let h = step_of a c x.class e x.is g.at g.there in
          Climbs.Through a h.kind b (kind_short a c e) h.there (walk_climbs m h.kind g.at b d g.walk h.placed k f n)
    ]

    module _ (once : (class : ℕ) → IsTwice p class → ⊥) where
      abbrev lists : ℕ → ℕ → Class → Bool
      lists caller kind k = reaches p caller (class_place p k.name) && list_any (nat_eq kind) k.interfaces

      any_class : (t : Class → Bool) (xs : List Class) → list_any t xs ≡ true → (i : ℕ) × ((x : Class) × ((slice_get xs i ≡ Some x) × (t x ≡ true)))
      any_class t [] h = absurd (true≢false (sym h))
      any_class t (x ∷ xs) h = by (t x) refl (any_class t xs) h
        where
          by : (b : Bool) → t x ≡ b → (list_any t xs ≡ true → (i : ℕ) × ((y : Class) × ((slice_get xs i ≡ Some y) × (t y ≡ true)))) → (b || list_any t xs) ≡ true → (i : ℕ) × ((y : Class) × ((slice_get (x ∷ xs) i ≡ Some y) × (t y ≡ true)))
          by true e more h = (0, (x, (refl, e)))
          by false e more h = let r = more h in (suc r.0, r.1)

      any_kind : (t : ℕ → Bool) (xs : List ℕ) → list_any t xs ≡ true → (x : ℕ) × (Contains xs x × (t x ≡ true))
      any_kind t [] h = absurd (true≢false (sym h))
      any_kind t (x ∷ xs) h = by (t x) refl (any_kind t xs) h
        where
          by : (b : Bool) → t x ≡ b → (list_any t xs ≡ true → (y : ℕ) × (Contains xs y × (t y ≡ true))) → (b || list_any t xs) ≡ true → (y : ℕ) × (Contains (x ∷ xs) y × (t y ≡ true))
          by true e more h = (x, (first_in x xs, e))
          by false e more h = let r = more h in (r.0, (later_in x xs r.0 r.1.0, r.1.1))

      kind_any : (t : ℕ → Bool) (xs : List ℕ) (x : ℕ) → Contains xs x → t x ≡ true → list_any t xs ≡ true
      kind_any t [] x i e = absurd (none_in x i)
      kind_any t (y ∷ ys) x i e = elim (first_or y ys x i) [
        | inl s ↦ ap (λ b. b || list_any t ys) (ap t s ∙ e)
        | inr j ↦ or_right (t y) (list_any t ys) (kind_any t ys x j e)
      ]

      bool_same : (a b : Bool) → (a ≡ true → b ≡ true) → (b ≡ true → a ≡ true) → a ≡ b
      bool_same true b f g = sym (f refl)
      bool_same false true f g = g refl
      bool_same false false f g = refl

      -- what a climb from the type of a class meets lists a type just where the class, or one above it, does
      pub listed_same : (name caller kind : ℕ) (kinds : List ℕ) → class_place p name ≡ Some caller → HasFrom p name name kinds → AllFrom p name name kinds → list_any (lists_at p kind) kinds ≡ lists_interface p caller kind
      listed_same name caller kind kinds at has from = bool_same (list_any (lists_at p kind) kinds) (lists_interface p caller kind) there back
        where
          place_of : (n : ℕ) (o : Option ℕ) → class_place p n ≡ o → list_any (nat_eq kind) (interfaces_in (option_and_then (slice_get p.classes) o)) ≡ true → Climbs p name n → lists_interface p caller kind ≡ true
          place_of n None e h c = absurd (true≢false (sym h))
          place_of n (Some d) e h c = lister once caller kind d (climb_under name n caller d c at e) (slice_get p.classes d) refl h

          there : list_any (lists_at p kind) kinds ≡ true → lists_interface p caller kind ≡ true
          there h = let r = any_kind (lists_at p kind) kinds h in place_of r.0 (class_place p r.0) refl r.1.1 (elim (from r.0 r.1.0).0 [ inl c ↦ c | inr c ↦ c ])

          back : lists_interface p caller kind ≡ true → list_any (lists_at p kind) kinds ≡ true
          back h =
              let r = any_class (lists caller kind) p.classes h in
              let i = r.0 in
              let k = r.1.0 in
              let own = own_place once i k r.1.1.0 in
              let u = sym (ap (reaches p caller) own) ∙ and_left (reaches p caller (class_place p k.name)) (list_any (nat_eq kind) k.interfaces) r.1.1.1 in
              let climbs = walk_climbs (length p.classes) name caller k.name i u at k r.1.1.0 refl in
              kind_any (lists_at p kind) kinds k.name (has k.name (inl climbs) (class_parts p (sound p fits) i k r.1.1.0).name)
              (ap (λ o. list_any (nat_eq kind) (interfaces_in (option_and_then (slice_get p.classes) o))) own ∙ ap (λ o. list_any (nat_eq kind) (interfaces_in o)) r.1.1.0 ∙ and_right (reaches p caller (class_place p k.name)) (list_any (nat_eq kind) k.interfaces) r.1.1.1)

      -- a place without a class has nothing above it
      pub nowhere : (caller kind : ℕ) → slice_get p.classes caller ≡ None → lists_interface p caller kind ≡ false
      nowhere caller kind none = by (lists_interface p caller kind) refl
        where
          by : (b : Bool) → lists_interface p caller kind ≡ b → lists_interface p caller kind ≡ false
          by false e = e
          by true e =
              let r = any_class (lists caller kind) p.classes e in
              let i = r.0 in
              let k = r.1.0 in
              let own = own_place once i k r.1.1.0 in
              let u = sym (ap (reaches p caller) own) ∙ and_left (reaches p caller (class_place p k.name)) (list_any (nat_eq kind) k.interfaces) r.1.1.1 in
              let empty : above_places p caller ≡ [] = ap (λ o. placed (option_and_then (λ k. class_place p k.superclass) o) (listed p o)) none in
              let same : caller ≡ i = stays (length p.classes) caller i empty u in
              absurd (none_some k (sym none ∙ ap (slice_get p.classes) same ∙ r.1.1.0))
