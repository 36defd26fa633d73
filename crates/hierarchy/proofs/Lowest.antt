-- Which classes a walk from those above some candidates sees.
use Rattle.std.proofs.Common.{◌≡◌, ℕ, zero, suc, ◌-◌, ◌<◌, ◌≤◌, inl, inr, Bool, true, false, true≢false, nat_eq, List, [], ◌∷◌, ◌++◌, length, Option, Some, None, Result, Ok, Err, refl, sym, ap, subst, ◌∙◌, arith, drop, get_or, ltb-true, lt-ltb, append-nil, append_assoc}
use Rattle.std.specs.Prelude.{◌&&◌, ◌||◌, not, cond, slice_index_or, nat_lt, flat_map, OnOk}
use Rattle.std.specs.List.{list_any, list_all}
use Rattle.std.proofs.Math.Seq.{drop-cons}
use Rattle.program_model.specs.declared.program.MethodAt.{MethodAt}
use Rattle.program_model.specs.declared.program.Program.{Program}
use Rattle.class_defs.specs.Places.{super_place, interface_places, above_places, placed, walks, is_under}
use Rattle.class_defs.specs.Finding.{beside, is_lowest}
use Rattle.class_defs.proofs.Positions.{both, number_test, number_of, same_test}
use Rattle.hierarchy.specs.Climbing.{In}
use Rattle.hierarchy.specs.Giving.{is_waiting}
use Rattle.hierarchy.specs.Ranks.{IsRanked}
use Rattle.hierarchy.specs.Shapes.{IsOf}
use Rattle.hierarchy.specs.Tables.{read_at, row_of}
use Rattle.hierarchy.specs.Walking.{is_seen, Visits, Enters}
use Rattle.hierarchy.specs.declared.build.Hierarchy.{Hierarchy}
use Rattle.hierarchy.specs.declared.walk.Walk.{Walk}
use Rattle.hierarchy.proofs.Above.{in_left, in_right, in_split, all_in, in_beside, super_short, interface_short}
use Rattle.hierarchy.proofs.Resolving.{fields_lower, short}
use Rattle.hierarchy.proofs.Trees.{tree, among, in_flat, Going, begins, sees, skips, opens, step_up}

-- ---- tests of some

pub record Any (t : ℕ → Bool) (us : List ℕ) : Type 0 where
  pub at : ℕ
  pub there : In at us
  pub is : t at ≡ true

pub any_of : (t : ℕ → Bool) (us : List ℕ) → list_any t us ≡ true → Any t us
any_of t [] e = absurd (true≢false (sym e))
any_of t (u ∷ us) e = by_test (any_of t us) (t u) refl e
  where
    by_test : (list_any t us ≡ true → Any t us) → (b : Bool) → t u ≡ b → (b || list_any t us) ≡ true → Any t (u ∷ us)
    by_test more true f g = record { at = u; there = inl refl; is = f }
    by_test more false f g = let r = more g in record { at = r.at; there = inr r.there; is = r.is }

or_right : (a b : Bool) → b ≡ true → (a || b) ≡ true
or_right true b e = refl
or_right false b e = e

pub of_any : (t : ℕ → Bool) (us : List ℕ) (u : ℕ) → In u us → t u ≡ true → list_any t us ≡ true
of_any t [] u i e = absurd i
of_any t (x ∷ xs) u (inl s) e = ap (λ b. b || list_any t xs) (sym (ap t s) ∙ e)
of_any t (x ∷ xs) u (inr i) e = or_right (t x) (list_any t xs) (of_any t xs u i e)

or_or : (a b c : Bool) → ((a || b) || c) ≡ (a || (b || c))
or_or true b c = refl
or_or false b c = refl

any_join : (t : ℕ → Bool) (xs ys : List ℕ) → list_any t (xs ++ ys) ≡ (list_any t xs || list_any t ys)
any_join t [] ys = refl
any_join t (x ∷ xs) ys = ap (λ b. t x || b) (any_join t xs ys) ∙ sym (or_or (t x) (list_any t xs) (list_any t ys))

any_flat : {X : Type 0} (t : ℕ → Bool) (k : X → List ℕ) (v : X → Bool) → ((x : X) → list_any t (k x) ≡ v x) → (xs : List X) → list_any t (flat_map k xs) ≡ list_any v xs
any_flat t k v h [] = refl
any_flat t k v h (x ∷ xs) = any_join t (k x) (flat_map k xs) ∙ ap (λ b. b || list_any t (flat_map k xs)) (h x) ∙ ap (λ b. v x || b) (any_flat t k v h xs)

placed_in : (u : ℕ) (o : Option ℕ) (l : List ℕ) → In u (placed o l) → In u (l ++ beside o)
placed_in u None l i = in_left u l [] i
placed_in u (Some c) l (inl s) = in_right u l (c ∷ []) (inl s)
placed_in u (Some c) l (inr i) = in_left u l (c ∷ []) i

in_placed : (u : ℕ) (o : Option ℕ) (l : List ℕ) → In u (l ++ beside o) → In u (placed o l)
in_placed u None l i = elim (in_split u l [] i) [ inl j ↦ j | inr j ↦ absurd j ]
in_placed u (Some c) l i = elim (in_split u l (c ∷ []) i) [ inl j ↦ inr j | inr j ↦ elim j [ inl s ↦ inl s | inr k ↦ absurd k ] ]

module _ (p : Program) (r : IsRanked p) where
  abbrev pub ups_of : ℕ → List ℕ
  ups_of c = interface_places p c ++ beside (super_place p c)

  pub ups_lower : (c : ℕ) → list_all (λ u. nat_lt (r.rank u) (r.rank c)) (ups_of c) ≡ true
  ups_lower c = fields_lower p r c

  ups_short : (c u : ℕ) → In u (ups_of c) → u < length p.classes
  ups_short c u i = elim (in_split u (interface_places p c) (beside (super_place p c)) i) [
    | inl j ↦ interface_short p c u j
    | inr j ↦ super_short p c u (in_beside u (super_place p c) j)
  ]

  abbrev pub T : ℕ → ℕ → List ℕ
  T m c = tree ups_of (length p.classes) m c

  -- what stands in a tree, stands above its class
  inside : (m c d : ℕ) → In d (T (suc m) c) → In d (c ∷ flat_map (T m) (ups_of c))
  inside m c d i = by_test (nat_lt c (length p.classes)) i
    where
      by_test : (b : Bool) → In d (cond b (c ∷ flat_map (T m) (ups_of c)) []) → In d (c ∷ flat_map (T m) (ups_of c))
      by_test true j = j
      by_test false j = absurd j

  walk_here : (m c d : ℕ) → d ≡ c → walks (above_places p) m c d ≡ true
  walk_here zero c d s = number_test c d (sym s)
  walk_here (suc m) c d s = ap (λ b. cond b true (list_any (λ u. walks (above_places p) m u d) (above_places p c))) (number_test c d (sym s))

  walk_more : (m c d u : ℕ) → In u (ups_of c) → walks (above_places p) m u d ≡ true → walks (above_places p) (suc m) c d ≡ true
  walk_more m c d u i w = by_test (nat_eq c d) (of_any (λ u. walks (above_places p) m u d) (above_places p c) u (in_placed u (super_place p c) (interface_places p c) i) w)
    where
      by_test : (b : Bool) → list_any (λ u. walks (above_places p) m u d) (above_places p c) ≡ true → cond b true (list_any (λ u. walks (above_places p) m u d) (above_places p c)) ≡ true
      by_test true e = refl
      by_test false e = e

  tree_walks : (m c d : ℕ) → In d (T m c) → walks (above_places p) m c d ≡ true
  tree_walks zero c d i = absurd i
  tree_walks (suc m) c d i = elim (inside m c d i) [
    | inl s ↦ walk_here (suc m) c d s
    | inr j ↦ let a = among (T m) (ups_of c) d j in walk_more m c d a.at a.there (tree_walks m a.at d a.is)
  ]

  -- one step fewer serves as well
  tree_within : (m c d : ℕ) → In d (T (suc m) c) → walks (above_places p) m c d ≡ true
  tree_within zero c d i = elim (inside 0 c d i) [
    | inl s ↦ walk_here 0 c d s
    | inr j ↦ let a = among (T 0) (ups_of c) d j in absurd a.is
  ]
  tree_within (suc m) c d i = elim (inside (suc m) c d i) [
    | inl s ↦ walk_here (suc m) c d s
    | inr j ↦ let a = among (T (suc m)) (ups_of c) d j in walk_more m c d a.at a.there (tree_within m a.at d a.is)
  ]

  tree_lower : (m c d : ℕ) → In d (T m c) → r.rank d ≤ r.rank c
  tree_lower zero c d i = absurd i
  tree_lower (suc m) c d i = elim (inside m c d i) [
    | inl s ↦ let e : r.rank d ≡ r.rank c = ap r.rank s in omega (arith, e)
    | inr j ↦ let a = among (T m) (ups_of c) d j in
        let h = tree_lower m a.at d a.is in
        let l = ltb-true (r.rank a.at) (r.rank c) (all_in (λ u. nat_lt (r.rank u) (r.rank c)) (ups_of c) a.at (ups_lower c) a.there) in
        omega (arith, h, l)
  ]

  abbrev pub full : ℕ → List ℕ
  full c = T (length p.classes) c

  full_is : (c : ℕ) → c < length p.classes → full c ≡ c ∷ flat_map full (ups_of c)
  full_is c lt = step_up ups_of r.rank (length p.classes) ups_lower (short p r) c lt

  walk_inside : (m c d : ℕ) → c < length p.classes → walks (above_places p) m c d ≡ true → In d (full c)
  walk_inside zero c d lt w = subst (In d) (sym (full_is c lt)) (inl (sym (number_of c d w)))
  walk_inside (suc m) c d lt w = subst (In d) (sym (full_is c lt)) (by_test (λ u l v. walk_inside m u d l v) (nat_eq c d) refl w)
    where
      by_test : ((u : ℕ) → u < length p.classes → walks (above_places p) m u d ≡ true → In d (full u)) → (b : Bool) → nat_eq c d ≡ b → cond b true (list_any (λ u. walks (above_places p) m u d) (above_places p c)) ≡ true → In d (c ∷ flat_map full (ups_of c))
      by_test more true e v = inl (sym (number_of c d e))
      by_test more false e v =
          let a = any_of (λ u. walks (above_places p) m u d) (above_places p c) v in
          let i = placed_in a.at (super_place p c) (interface_places p c) a.there in
          inr (in_flat full (ups_of c) a.at d i (more a.at (ups_short c a.at i) a.is))

  -- ---- what is seen from some classes

  pub waiting_inside : (cs : List ℕ) (d : ℕ) → list_all (λ u. nat_lt u (length p.classes)) cs ≡ true → is_waiting p cs d ≡ true → In d (flat_map full cs)
  waiting_inside cs d all e =
      let a = any_of (λ u. is_under p u d) cs e in
      in_flat full cs a.at d a.there (walk_inside (length p.classes) a.at d (ltb-true a.at (length p.classes) (all_in (λ u. nat_lt u (length p.classes)) cs a.at all a.there)) a.is)

  pub inside_waiting : (cs : List ℕ) (d : ℕ) → In d (flat_map full cs) → is_waiting p cs d ≡ true
  inside_waiting cs d i =
      let a = among full cs d i in
      of_any (λ u. is_under p u d) cs a.at a.there (tree_walks (length p.classes) a.at d a.is)

  -- ---- those strictly above a class

  not_itself : (c d : ℕ) → (c ≡ d → ⊥) → not (nat_eq c d) ≡ true
  not_itself c d h = by_test (nat_eq c d) refl
    where
      by_test : (b : Bool) → nat_eq c d ≡ b → not b ≡ true
      by_test true e = absurd (h (number_of c d e))
      by_test false e = refl

  under_by : (n c d : ℕ) → n ≡ length p.classes → (not (nat_eq c d) && walks (above_places p) n c d) ≡ true → list_any (λ u. is_under p u d) (ups_of c) ≡ true
  under_by zero c d size e = by_test (nat_eq c d) e
    where
      by_test : (b : Bool) → (not b && b) ≡ true → list_any (λ u. is_under p u d) (ups_of c) ≡ true
      by_test true f = absurd (true≢false (sym f))
      by_test false f = absurd (true≢false (sym f))
  under_by (suc m) c d size e = by_test (nat_eq c d) e
    where
      by_test : (b : Bool) → (not b && cond b true (list_any (λ u. walks (above_places p) m u d) (above_places p c))) ≡ true → list_any (λ u. is_under p u d) (ups_of c) ≡ true
      by_test true f = absurd (true≢false (sym f))
      by_test false f =
          let a = any_of (λ u. walks (above_places p) m u d) (above_places p c) f in
          let i = placed_in a.at (super_place p c) (interface_places p c) a.there in
          of_any (λ u. is_under p u d) (ups_of c) a.at i (tree_walks (length p.classes) a.at d (walk_inside m a.at d (ups_short c a.at i) a.is))

  by_under : (n c d : ℕ) → n ≡ length p.classes → list_any (λ u. is_under p u d) (ups_of c) ≡ true → (not (nat_eq c d) && walks (above_places p) n c d) ≡ true
  by_under n c d size e =
      let a = any_of (λ u. is_under p u d) (ups_of c) e in
      let s = ups_short c a.at a.there in
      let i : In d (full a.at) = walk_inside (length p.classes) a.at d s a.is in
      let h = tree_lower (length p.classes) a.at d i in
      let l = ltb-true (r.rank a.at) (r.rank c) (all_in (λ u. nat_lt (r.rank u) (r.rank c)) (ups_of c) a.at (ups_lower c) a.there) in
      both (not (nat_eq c d)) (walks (above_places p) n c d) (not_itself c d (λ same. let z : r.rank c ≡ r.rank d = ap r.rank same in omega (arith, h, l, z))) (by_size n a.at a.there size s i)
    where
      by_size : (n u : ℕ) → In u (ups_of c) → n ≡ length p.classes → u < length p.classes → In d (full u) → walks (above_places p) n c d ≡ true
      by_size zero u there size s i = absurd (omega (arith, size, s))
      by_size (suc m) u there size s i = walk_more m c d u there (tree_within m u d (subst (λ k. In d (T k u)) (sym size) i))

  strictly : (c d : ℕ) → list_any (λ u. is_under p u d) (ups_of c) ≡ (not (nat_eq c d) && is_under p c d)
  strictly c d = same_test (list_any (λ u. is_under p u d) (ups_of c)) (not (nat_eq c d) && is_under p c d) (by_under (length p.classes) c d refl) (under_by (length p.classes) c d refl)

  pub lowest_is : (fs : List MethodAt) (f : MethodAt) → not (is_waiting p (flat_map (λ g. ups_of g.class) fs) f.class) ≡ is_lowest p fs f
  lowest_is fs f = ap not (any_flat (λ u. is_under p u f.class) (λ g. ups_of g.class) (λ g. not (nat_eq g.class f.class) && is_under p g.class f.class) (λ g. strictly g.class f.class) fs)

  pub all_short : (fs : List MethodAt) → list_all (λ u. nat_lt u (length p.classes)) (flat_map (λ g. ups_of g.class) fs) ≡ true
  all_short fs = by_list (flat_map (λ g. ups_of g.class) fs) (each fs)
    where
      by_list : (us : List ℕ) → ((u : ℕ) → In u us → u < length p.classes) → list_all (λ u. nat_lt u (length p.classes)) us ≡ true
      by_list [] h = refl
      by_list (u ∷ us) h = both (nat_lt u (length p.classes)) (list_all (λ u. nat_lt u (length p.classes)) us) (lt-ltb u (length p.classes) (h u (inl refl))) (by_list us (λ v i. h v (inr i)))

      each : (gs : List MethodAt) (u : ℕ) → In u (flat_map (λ g. ups_of g.class) gs) → u < length p.classes
      each [] u i = absurd i
      each (g ∷ gs) u i = elim (in_split u (ups_of g.class) (flat_map (λ g. ups_of g.class) gs) i) [ inl j ↦ ups_short g.class u j | inr j ↦ each gs u j ]

  -- ---- the walk

  abbrev pub nothing : ℕ → List ℕ
  nothing c = []

  pub record Seeing (start : List ℕ) (seen : List Bool) (stack : List ℕ) : Type 0 where
    pub whole : List ℕ
    pub going : Going ups_of r.rank (length p.classes) ups_lower (short p r) nothing start seen stack [] whole

  pub see_begins : (seen : List Bool) (stack : List ℕ) → length seen ≡ length p.classes → ((c : ℕ) → slice_index_or seen c false ≡ true → ⊥) → Seeing stack seen stack
  see_begins seen stack size none = record { whole = _; going = begins ups_of r.rank (length p.classes) ups_lower (short p r) nothing seen stack [] size none }

  pub see_on : (start : List ℕ) (seen seen' : List Bool) (stack rest stack' ups : List ℕ) (x : ℕ) (b : Bool) → stack ≡ x ∷ rest → ups ≡ ups_of x → Enters seen rest x ups seen' stack' b → Seeing start seen stack → Seeing start seen' stack'
  see_on start seen seen' stack rest stack' ups x false e up k s = record { whole = s.whole; going = skips ups_of r.rank (length p.classes) ups_lower (short p r) nothing start seen seen' stack rest stack' x None [] s.whole e k s.going }
  see_on start seen seen' stack rest stack' ups x true e up k s = record { whole = s.whole; going = opens ups_of r.rank (length p.classes) ups_lower (short p r) nothing start seen seen' stack rest stack' ups x None None [] [] s.whole e up refl k s.going }

  pub see_ends : (start : List ℕ) (seen : List Bool) (stack : List ℕ) → stack ≡ [] → list_all (λ u. nat_lt u (length p.classes)) start ≡ true → Seeing start seen stack → (c : ℕ) → slice_index_or seen c false ≡ is_waiting p start c
  see_ends start seen stack e all s c = same_test (slice_index_or seen c false) (is_waiting p start c)
      (λ h. inside_waiting start c (s.going.from c h))
      (λ h. sees ups_of r.rank (length p.classes) ups_lower (short p r) nothing start seen stack [] s.whole c e s.going (waiting_inside start c all h))

pub entered : (seen : List Bool) (stack : List ℕ) (class : ℕ) (above : List ℕ) (seen' : List Bool) (stack' : List ℕ) (b : Bool) → Enters seen stack class above seen' stack' b → Visits seen stack class None above seen' stack' None
entered seen stack class above seen' stack' true k = inr (inr k)
entered seen stack class above seen' stack' false k = inl k

-- ---- the tables

flat_same : {X : Type 0} (k l : X → List ℕ) → ((x : X) → k x ≡ l x) → (xs : List X) → flat_map k xs ≡ flat_map l xs
flat_same k l h [] = refl
flat_same k l h (x ∷ xs) = ap (λ w. w ++ flat_map k xs) (h x) ∙ ap (λ w. l x ++ w) (flat_same k l h xs)

pub seeds_are : (p : Program) (h : Hierarchy) (is : IsOf p h) (fs : List MethodAt) (ws before : List ℕ) → ws ≡ flat_map (λ f. row_of h.shape.lists.rows f.class ++ beside (read_at h.shape.supers.items f.class)) fs ++ before → before ≡ []
    → ws ≡ flat_map (λ g. ups_of p is.ranked g.class) fs
seeds_are p h is fs ws before e none =
    e ∙ ap (λ l. flat_map (λ f. row_of h.shape.lists.rows f.class ++ beside (read_at h.shape.supers.items f.class)) fs ++ l) none ∙ append-nil (flat_map (λ f. row_of h.shape.lists.rows f.class ++ beside (read_at h.shape.supers.items f.class)) fs)
    ∙ flat_same (λ f. row_of h.shape.lists.rows f.class ++ beside (read_at h.shape.supers.items f.class)) (λ g. ups_of p is.ranked g.class)
    (λ f. ap (λ l. l ++ beside (read_at h.shape.supers.items f.class)) (is.lists f.class) ∙ ap (λ o. interface_places p f.class ++ beside o) (is.supers f.class)) fs

pub on_ok : {A E : Type 0} (r : Result A E) (P Q : Type 0) → (P → Q) → OnOk r P → OnOk r Q
on_ok (Ok a) P Q f h = f h
on_ok (Err e) P Q f h = h

pub seeds_short : (p : Program) (r : IsRanked p) (fs : List MethodAt) (ws : List ℕ) → ws ≡ flat_map (λ g. ups_of p r g.class) fs → list_all (λ u. nat_lt u (length p.classes)) ws ≡ true
seeds_short p r fs ws e = ap (list_all (λ u. nat_lt u (length p.classes))) e ∙ all_short p r fs

pub seen_lowest : (p : Program) (r : IsRanked p) (fs : List MethodAt) (ws : List ℕ) (w : Walk) → ws ≡ flat_map (λ g. ups_of p r g.class) fs → ((c : ℕ) → is_seen w c ≡ is_waiting p ws c) → (f : MethodAt) → not (is_seen w f.class) ≡ is_lowest p fs f
seen_lowest p r fs ws w e h f = ap not (h f.class ∙ ap (λ l. is_waiting p l f.class) e) ∙ lowest_is p r fs f

pub seeds_more : {X : Type 0} (k : X → List ℕ) (xs : List X) (at : ℕ) (d : X) (ws more before : List ℕ) → 0 < at → at ≤ length xs → more ≡ k (get_or xs (at - 1) d) ++ ws → ws ≡ flat_map k (drop at xs) ++ before → more ≡ flat_map k (drop (at - 1) xs) ++ before
seeds_more k xs at d ws more before lt le m e =
    m ∙ ap (λ l. k (get_or xs (at - 1) d) ++ l) e ∙ sym (append_assoc (k (get_or xs (at - 1) d)) (flat_map k (drop at xs)) before)
    ∙ ap (λ l. l ++ before) (ap (λ n. k (get_or xs (at - 1) d) ++ flat_map k (drop n xs)) (let s : at ≡ suc (at - 1) = omega (arith, lt) in s) ∙ sym (ap (flat_map k) (drop-cons xs (at - 1) d (omega (arith, lt, le)))))
