-- A walk over interfaces lists each once, behind those above it.
use Rattle.std.proofs.Common.{◌≡◌, ℕ, zero, suc, ◌+◌, ◌<◌, ◌≤◌, ◌⊎◌, inl, inr, Bool, true, false, true≢false, nat_eq, List, [], ◌∷◌, ◌++◌, map, length, Option, Some, None, refl, sym, ap, subst, ◌∙◌, arith, lt-ltb}
use Rattle.std.specs.Prelude.{◌&&◌, ◌||◌, not, nat_lt, cond, filter, flat_map, slice_get, slice_index_or, slice_set}
use Rattle.std.specs.List.{list_any}
use Rattle.std.proofs.lemmas.Bool.{cases_lt}
use Rattle.std.proofs.lemmas.Option.{slice_get_past}
use Rattle.program_model.specs.declared.program.Program.{Program}
use Rattle.class_defs.specs.Members.{is_interface}
use Rattle.class_defs.specs.Places.{super_place, placed, listed, interface_places}
use Rattle.class_defs.proofs.Positions.{number_test, number_of}
use Rattle.class_defs.proofs.WellFormed.{and_left, and_right}
use Rattle.hierarchy.specs.Climbing.{In}
use Rattle.hierarchy.specs.Ranks.{IsRanked}
use Rattle.dalvik_lookups.specs.declared.starts.Visit.{Visit}
use Rattle.dalvik_lookups.specs.declared.starts.Visit.TheVariants.{Above, Itself}
use Rattle.dalvik_lookups.specs.Starting.{has_default, only_if, interfaces_before, firsts}
use Rattle.dalvik_lookups.specs.Listing.{left}
use Rattle.dalvik_lookups.specs.Rising.{work, Skipped, Opened, Goes}
use Rattle.dalvik_lookups.proofs.Upward.{any_of, of_any, in_left, in_right, in_split, lower_above, rank_short, is_new, left_set, marked_at, set_size, stays_seen, seen_now}

-- ---- lists

abbrev pub Sub : List ℕ → List ℕ → Type 0
Sub xs ys = (u : ℕ) → In u xs → In u ys

append_none : (xs : List ℕ) → xs ++ [] ≡ xs
append_none [] = refl
append_none (x ∷ xs) = ap (λ l. x ∷ l) (append_none xs)

append_more : (xs ys zs : List ℕ) → (xs ++ ys) ++ zs ≡ xs ++ (ys ++ zs)
append_more [] ys zs = refl
append_more (x ∷ xs) ys zs = ap (λ l. x ∷ l) (append_more xs ys zs)

sub_more : (xs ys zs : List ℕ) → Sub xs ys → Sub (xs ++ zs) (ys ++ zs)
sub_more xs ys zs s u i = elim (in_split u xs zs i) [ inl a ↦ in_left u ys zs (s u a) | inr b ↦ in_right u ys zs b ]

flat_same : (f g : ℕ → List ℕ) (cs : List ℕ) → ((u : ℕ) → In u cs → f u ≡ g u) → flat_map f cs ≡ flat_map g cs
flat_same f g [] h = refl
flat_same f g (c ∷ cs) h = ap (λ l. l ++ flat_map f cs) (h c (inl refl)) ∙ ap (λ l. g c ++ l) (flat_same f g cs (λ u i. h u (inr i)))

-- ---- each is added once

abbrev pub put : List ℕ → ℕ → List ℕ
put out x = cond (list_any (nat_eq x) out) out (out ++ x ∷ [])

pub add : List ℕ → List ℕ → List ℕ
add out [] = out
add out (x ∷ xs) = add (put out x) xs

there : (u : ℕ) (xs : List ℕ) → In u xs → list_any (nat_eq u) xs ≡ true
there u xs i = of_any (nat_eq u) xs u i (number_test u u refl)

found : (u : ℕ) (xs : List ℕ) → list_any (nat_eq u) xs ≡ true → In u xs
found u xs e = let a = any_of (nat_eq u) xs e in subst (λ w. In w xs) (sym (number_of u a.at a.is)) a.there

add_append : (out xs ys : List ℕ) → add out (xs ++ ys) ≡ add (add out xs) ys
unfolding add
add_append out [] ys = refl
add_append out (x ∷ xs) ys = add_append (put out x) xs ys

add_known : (out xs : List ℕ) → Sub xs out → add out xs ≡ out
unfolding add
add_known out [] s = refl
add_known out (x ∷ xs) s = ap (λ b. add (cond b out (out ++ x ∷ [])) xs) (there x out (s x (inl refl))) ∙ add_known out xs (λ u i. s u (inr i))

add_fresh : (out : List ℕ) (x : ℕ) (xs : List ℕ) → (In x out → ⊥) → add out (x ∷ xs) ≡ add (out ++ x ∷ []) xs
unfolding add
add_fresh out x xs h = by_test (list_any (nat_eq x) out) refl
  where
    by_test : (b : Bool) → list_any (nat_eq x) out ≡ b → add (cond (list_any (nat_eq x) out) out (out ++ x ∷ [])) xs ≡ add (out ++ x ∷ []) xs
    by_test true e = absurd (h (found x out e))
    by_test false e = ap (λ b. add (cond b out (out ++ x ∷ [])) xs) e

-- a test that all pass which pass another leaves nothing out behind it
weaker : (f g : ℕ → Bool) (xs : List ℕ) → ((u : ℕ) → f u ≡ true → g u ≡ true) → filter f (filter g xs) ≡ filter f xs
weaker f g [] h = refl
weaker f g (x ∷ xs) h = by_test (f x) refl (g x) refl (weaker f g xs h)
  where
    by_test : (a : Bool) → f x ≡ a → (b : Bool) → g x ≡ b → filter f (filter g xs) ≡ filter f xs → filter f (cond (g x) (x ∷ filter g xs) (filter g xs)) ≡ cond (f x) (x ∷ filter f xs) (filter f xs)
    by_test a e true k r = ap (λ b. filter f (cond b (x ∷ filter g xs) (filter g xs))) k ∙ ap (λ l. cond (f x) (x ∷ l) l) r
    by_test true e false k r = absurd (true≢false (sym (h x e) ∙ k))
    by_test false e false k r = ap (λ b. filter f (cond b (x ∷ filter g xs) (filter g xs))) k ∙ r ∙ sym (ap (λ b. cond b (x ∷ filter f xs) (filter f xs)) e)

-- two tests in one
twice : (f g h : ℕ → Bool) (xs : List ℕ) → ((u : ℕ) → h u ≡ (f u && g u)) → filter h xs ≡ filter f (filter g xs)
twice f g h [] e = refl
twice f g h (x ∷ xs) e = by_test (g x) refl (f x) refl (twice f g h xs e)
  where
    by_test : (b : Bool) → g x ≡ b → (a : Bool) → f x ≡ a → filter h xs ≡ filter f (filter g xs) → cond (h x) (x ∷ filter h xs) (filter h xs) ≡ filter f (cond (g x) (x ∷ filter g xs) (filter g xs))
    by_test true k true i r =
        ap (λ b. cond b (x ∷ filter h xs) (filter h xs)) (e x ∙ ap (λ a. a && g x) i ∙ k) ∙ ap (λ l. x ∷ l) r
        ∙ sym (ap (λ b. filter f (cond b (x ∷ filter g xs) (filter g xs))) k ∙ ap (λ b. cond b (x ∷ filter f (filter g xs)) (filter f (filter g xs))) i)
    by_test true k false i r =
        ap (λ b. cond b (x ∷ filter h xs) (filter h xs)) (e x ∙ ap (λ a. a && g x) i) ∙ r
        ∙ sym (ap (λ b. filter f (cond b (x ∷ filter g xs) (filter g xs))) k ∙ ap (λ b. cond b (x ∷ filter f (filter g xs)) (filter f (filter g xs))) i)
    by_test false k a i r =
        ap (λ b. cond b (x ∷ filter h xs) (filter h xs)) (e x ∙ ap (λ b. f x && b) k ∙ never (f x)) ∙ r
        ∙ sym (ap (λ b. filter f (cond b (x ∷ filter g xs) (filter g xs))) k)
      where
        never : (a : Bool) → (a && false) ≡ false
        never true = refl
        never false = refl

abbrev unlisted : List ℕ → ℕ → Bool
unlisted out u = not (list_any (nat_eq u) out)

add_is : (out xs : List ℕ) → add out xs ≡ out ++ filter (unlisted out) (firsts xs)
unfolding add
add_is out [] = sym (append_none out)
add_is out (x ∷ xs) = by_test (list_any (nat_eq x) out) refl (add_is out xs) (add_is (out ++ x ∷ []) xs)
  where
    other : ℕ → Bool
    other u = not (nat_eq u x)

    differs : list_any (nat_eq x) out ≡ true → (u : ℕ) → unlisted out u ≡ true → (b : Bool) → nat_eq u x ≡ b → not b ≡ true
    differs e u i true j = absurd (true≢false (sym i ∙ ap not (ap (λ n. list_any (nat_eq n) out) (number_of u x j) ∙ e)))
    differs e u i false j = refl

    both : (u : ℕ) → unlisted (out ++ x ∷ []) u ≡ (unlisted out u && not (nat_eq u x))
    both u = ap not (snoc out) ∙ parts (list_any (nat_eq u) out) (nat_eq u x)
      where
        snoc : (l : List ℕ) → list_any (nat_eq u) (l ++ x ∷ []) ≡ (list_any (nat_eq u) l || nat_eq u x)
        snoc [] = none (nat_eq u x)
          where
            none : (a : Bool) → (a || false) ≡ a
            none true = refl
            none false = refl
        snoc (y ∷ l) = ap (λ b. nat_eq u y || b) (snoc l) ∙ joined (nat_eq u y) (list_any (nat_eq u) l) (nat_eq u x)
          where
            joined : (a b c : Bool) → (a || (b || c)) ≡ ((a || b) || c)
            joined true b c = refl
            joined false b c = refl

        parts : (a b : Bool) → not (a || b) ≡ (not a && not b)
        parts true b = refl
        parts false b = refl

    by_test : (b : Bool) → list_any (nat_eq x) out ≡ b → add out xs ≡ out ++ filter (unlisted out) (firsts xs) → add (out ++ x ∷ []) xs ≡ (out ++ x ∷ []) ++ filter (unlisted (out ++ x ∷ [])) (firsts xs)
        → add (cond (list_any (nat_eq x) out) out (out ++ x ∷ [])) xs
        ≡ out ++ cond (not (list_any (nat_eq x) out)) (x ∷ filter (unlisted out) (filter other (firsts xs))) (filter (unlisted out) (filter other (firsts xs)))
    by_test true e old more =
        ap (λ b. add (cond b out (out ++ x ∷ [])) xs) e ∙ old
        ∙ ap (λ l. out ++ l) (sym (weaker (unlisted out) other (firsts xs) (λ u i. differs e u i (nat_eq u x) refl)))
        ∙ sym (ap (λ b. out ++ cond (not b) (x ∷ filter (unlisted out) (filter other (firsts xs))) (filter (unlisted out) (filter other (firsts xs)))) e)
    by_test false e old more =
        ap (λ b. add (cond b out (out ++ x ∷ [])) xs) e ∙ more
        ∙ ap (λ l. (out ++ x ∷ []) ++ l) (twice (unlisted out) other (unlisted (out ++ x ∷ [])) (firsts xs) both)
        ∙ append_more out (x ∷ []) (filter (unlisted out) (filter other (firsts xs)))
        ∙ sym (ap (λ b. out ++ cond (not b) (x ∷ filter (unlisted out) (filter other (firsts xs))) (filter (unlisted out) (filter other (firsts xs)))) e)

pub add_firsts : (xs : List ℕ) → add [] xs ≡ firsts xs
add_firsts xs = add_is [] xs ∙ all (firsts xs)
  where
    all : (ys : List ℕ) → filter (unlisted []) ys ≡ ys
    all [] = refl
    all (y ∷ ys) = ap (λ l. y ∷ l) (all ys)

-- ---- what stands above an interface

module _ (p : Program) (r : IsRanked p) where
  abbrev lists : ℕ → Bool
  lists c = has_default p (slice_get p.classes c)

  abbrev below : ℕ → ℕ → List ℕ
  below n c = cond (is_interface (slice_get p.classes c)) (interfaces_before n p (interface_places p c) ++ only_if (lists c) c) []

  pub tree : ℕ → List ℕ
  tree c = below (length p.classes) c

  lower : (c u : ℕ) → In u (interface_places p c) → r.rank u < r.rank c
  lower c u i = lower_above p r c u (behind (super_place p c))
    where
      behind : (o : Option ℕ) → In u (placed o (interface_places p c))
      behind None = i
      behind (Some d) = inr i

  nothing_before : (n : ℕ) → interfaces_before n p [] ≡ []
  nothing_before zero = refl
  nothing_before (suc n) = refl

  none_above : (c : ℕ) → r.rank c ≤ 0 → interface_places p c ≡ []
  none_above c h = by_list (interface_places p c) refl
    where
      by_list : (us : List ℕ) → interface_places p c ≡ us → us ≡ []
      by_list [] e = refl
      by_list (u ∷ us) e = let l = lower c u (subst (In u) (sym e) (inl refl)) in absurd (omega (arith, l, h))

  bottom : (c : ℕ) → r.rank c ≤ 0 → (n m : ℕ) → below n c ≡ below m c
  bottom c h n m = ap (λ l. cond (is_interface (slice_get p.classes c)) (l ++ only_if (lists c) c) [])
      (ap (interfaces_before n p) (none_above c h) ∙ nothing_before n ∙ sym (nothing_before m) ∙ ap (interfaces_before m p) (sym (none_above c h)))

  stable : (n m c : ℕ) → r.rank c ≤ n → r.rank c ≤ m → below n c ≡ below m c
  stable zero m c h k = bottom c h zero m
  stable (suc n) zero c h k = bottom c k (suc n) zero
  stable (suc n) (suc m) c h k = ap (λ l. cond (is_interface (slice_get p.classes c)) (l ++ only_if (lists c) c) [])
      (flat_same (below n) (below m) (interface_places p c) (λ u i. stable n m u (let l = lower c u i in omega (arith, l, h)) (let l = lower c u i in omega (arith, l, k))))

  pub before_trees : (c : ℕ) → interfaces_before (length p.classes) p (interface_places p c) ≡ flat_map tree (interface_places p c)
  unfolding tree
  before_trees c = elim (cases_lt c (length p.classes)) [
    | inl lt ↦ by_size (length p.classes) refl (rank_short p r c lt)
    | inr le ↦
        let e : interface_places p c ≡ [] = ap (listed p) (slice_get_past p.classes c le) in
        ap (interfaces_before (length p.classes) p) e ∙ nothing_before (length p.classes) ∙ sym (ap (flat_map (below (length p.classes))) e)
  ]
    where
      by_size : (n : ℕ) → length p.classes ≡ n → r.rank c < length p.classes → interfaces_before n p (interface_places p c) ≡ flat_map (below (length p.classes)) (interface_places p c)
      by_size zero e l = absurd (omega (arith, e, l))
      by_size (suc m) e l = flat_same (below m) (below (length p.classes)) (interface_places p c)
          (λ u i. stable m (length p.classes) u (let k = lower c u i in omega (arith, k, e, l)) (let k = lower c u i in omega (arith, k, l)))

  tree_is : (c : ℕ) → is_interface (slice_get p.classes c) ≡ true → tree c ≡ interfaces_before (length p.classes) p (interface_places p c) ++ only_if (lists c) c
  unfolding tree
  tree_is c e = ap (λ b. cond b (interfaces_before (length p.classes) p (interface_places p c) ++ only_if (lists c) c) []) e

  tree_open : (c : ℕ) → is_interface (slice_get p.classes c) ≡ true → tree c ≡ flat_map tree (interface_places p c) ++ only_if (lists c) c
  tree_open c e = tree_is c e ∙ ap (λ l. l ++ only_if (lists c) c) (before_trees c)

  tree_none : (c : ℕ) → is_interface (slice_get p.classes c) ≡ false → tree c ≡ []
  unfolding tree
  tree_none c e = ap (λ b. cond b (interfaces_before (length p.classes) p (interface_places p c) ++ only_if (lists c) c) []) e

  -- ---- what is still to do

  abbrev class_of : Visit → ℕ
  class_of (Above c) = c
  class_of (Itself c) = c

  abbrev pub give : Visit → List ℕ
  give (Above c) = tree c
  give (Itself c) = only_if (lists c) c

  -- what stands above a class is listed, or will be before it is listed itself, and up to there only lower ones wait
  abbrev pub Covered : ℕ → List ℕ → List Visit → Type 0
  Covered i out [] = Sub (tree i) out
  Covered i out (v ∷ s) = Sub (tree i) out ⊎ (((v ≡ Itself i) × Sub (tree i) (out ++ give v)) ⊎ ((r.rank (class_of v) < r.rank i) × Covered i (out ++ give v) s))

  -- a class waits to be listed
  abbrev pub Pending : ℕ → List Visit → Type 0
  Pending c [] = ⊥
  Pending c (Above d ∷ s) = Pending c s
  Pending c (Itself d ∷ s) = (c ≡ d) ⊎ Pending c s

  -- each is listed once
  abbrev pub Fresh : List ℕ → List Visit → Type 0
  Fresh out [] = Unit {0}
  Fresh out (Above d ∷ s) = Fresh out s
  Fresh out (Itself d ∷ s) = (In d out → ⊥) × Fresh (out ++ d ∷ []) s

  inside : (i : ℕ) (out : List ℕ) (s : List Visit) → Sub (tree i) out → Covered i out s
  inside i out [] h = h
  inside i out (v ∷ s) h = inl h

  wider : (i : ℕ) (s : List Visit) (out out' : List ℕ) → Sub out out' → Covered i out s → Covered i out' s
  wider i [] out out' w h = λ u j. w u (h u j)
  wider i (v ∷ s) out out' w (inl h) = inl (λ u j. w u (h u j))
  wider i (v ∷ s) out out' w (inr (inl h)) = inr (inl (h.0, λ u j. sub_more out out' (give v) w u (h.1 u j)))
  wider i (v ∷ s) out out' w (inr (inr h)) = inr (inr (h.0, wider i s (out ++ give v) (out' ++ give v) (sub_more out out' (give v) w) h.1))

  popped : (i : ℕ) (v : Visit) (s : List Visit) (out out' : List ℕ) → Sub (out ++ give v) out' → Covered i out (v ∷ s) → Covered i out' s
  popped i v s out out' w (inl h) = inside i out' s (λ u j. w u (in_left u out (give v) (h u j)))
  popped i v s out out' w (inr (inl h)) = inside i out' s (λ u j. w u (h.1 u j))
  popped i v s out out' w (inr (inr h)) = wider i s (out ++ give v) out' w h.1

  pushed : (i : ℕ) (vs : List ℕ) (s : List Visit) (out : List ℕ) → ((u : ℕ) → In u vs → r.rank u < r.rank i) → Covered i (out ++ flat_map tree vs) s → Covered i out (map (λ c. Above c) vs ++ s)
  pushed i [] s out l h = subst (λ o. Covered i o s) (append_none out) h
  pushed i (c ∷ vs) s out l h = inr (inr (l c (inl refl), pushed i vs s (out ++ tree c) (λ u j. l u (inr j)) (subst (λ o. Covered i o s) (sym (append_more out (tree c) (flat_map tree vs))) h)))

  is_above : Visit → Bool
  is_above (Above c) = true
  is_above (Itself c) = false

  never_itself : (c i : ℕ) → Above c ≡ Itself i → ⊥
  unfolding is_above
  never_itself c i e = true≢false (ap is_above e)

  -- all above an interface comes before it
  covers_tree : (c : ℕ) (out : List ℕ) → is_interface (slice_get p.classes c) ≡ true → Sub (out ++ tree c) ((out ++ flat_map tree (interface_places p c)) ++ only_if (lists c) c)
  covers_tree c out e u i = subst (In u) (ap (λ l. out ++ l) (tree_open c e) ∙ sym (append_more out (flat_map tree (interface_places p c)) (only_if (lists c) c))) i

  open_other : (i c : ℕ) (s : List Visit) (out : List ℕ) → is_interface (slice_get p.classes c) ≡ true → Covered i out (Above c ∷ s) → Covered i out (map (λ c. Above c) (interface_places p c) ++ (Itself c ∷ s))
  open_other i c s out e (inl h) = inside i out (map (λ c. Above c) (interface_places p c) ++ (Itself c ∷ s)) h
  open_other i c s out e (inr (inl h)) = absurd (never_itself c i h.0)
  open_other i c s out e (inr (inr h)) =
      pushed i (interface_places p c) (Itself c ∷ s) out (λ u j. let k = lower c u j in let l : r.rank c < r.rank i = h.0 in omega (arith, k, l))
      (inr (inr (h.0, wider i s (out ++ tree c) ((out ++ flat_map tree (interface_places p c)) ++ only_if (lists c) c) (covers_tree c out e) h.1)))

  open_new : (c : ℕ) (s : List Visit) (out : List ℕ) → is_interface (slice_get p.classes c) ≡ true → Covered c out (map (λ c. Above c) (interface_places p c) ++ (Itself c ∷ s))
  open_new c s out e = pushed c (interface_places p c) (Itself c ∷ s) out (lower c) (inr (inl (refl, λ u i. covers_tree c out e u (in_right u out (tree c) i))))

  seen_popped : (c : ℕ) (s : List Visit) (out : List ℕ) → Covered c out (Above c ∷ s) → Sub (tree c) out
  seen_popped c s out (inl h) = h
  seen_popped c s out (inr (inl h)) = absurd (never_itself c c h.0)
  seen_popped c s out (inr (inr h)) = let l : r.rank c < r.rank c = h.0 in absurd (omega (arith, l))

  gives_pushed : (vs : List ℕ) (s : List Visit) → flat_map give (map (λ c. Above c) vs ++ s) ≡ flat_map tree vs ++ flat_map give s
  gives_pushed [] s = refl
  gives_pushed (c ∷ vs) s = ap (λ l. tree c ++ l) (gives_pushed vs s) ∙ sym (append_more (tree c) (flat_map tree vs) (flat_map give s))

  -- ---- each once

  narrower : (s : List Visit) (out out' : List ℕ) → Sub out out' → Fresh out' s → Fresh out s
  narrower [] out out' w h = tt
  narrower (Above d ∷ s) out out' w h = narrower s out out' w h
  narrower (Itself d ∷ s) out out' w h = ((λ i. h.0 (w d i)), narrower s (out ++ d ∷ []) (out' ++ d ∷ []) (sub_more out out' (d ∷ []) w) h.1)

  one_more : (c : ℕ) (s : List Visit) (out : List ℕ) → Fresh out s → (Pending c s → ⊥) → Fresh (out ++ c ∷ []) s
  one_more c [] out h n = tt
  one_more c (Above d ∷ s) out h n = one_more c s out h n
  one_more c (Itself d ∷ s) out h n = (
    (λ i. elim (in_split d out (c ∷ []) i) [ inl a ↦ h.0 a | inr b ↦ elim b [ inl e ↦ n (inl (sym e)) | inr f ↦ absurd f ] ]),
    narrower s ((out ++ c ∷ []) ++ d ∷ []) ((out ++ d ∷ []) ++ c ∷ []) turned (one_more c s (out ++ d ∷ []) h.1 (λ q. n (inr q))),
  )
    where
      turned : Sub ((out ++ c ∷ []) ++ d ∷ []) ((out ++ d ∷ []) ++ c ∷ [])
      turned u i = elim (in_split u (out ++ c ∷ []) (d ∷ []) i) [
        | inr b ↦ in_left u (out ++ d ∷ []) (c ∷ []) (in_right u out (d ∷ []) b)
        | inl a ↦ elim (in_split u out (c ∷ []) a) [ inl x ↦ in_left u (out ++ d ∷ []) (c ∷ []) (in_left u out (d ∷ []) x) | inr y ↦ in_right u (out ++ d ∷ []) (c ∷ []) y ]
      ]

  pending_pushed : (c : ℕ) (vs : List ℕ) (s : List Visit) → Pending c (map (λ c. Above c) vs ++ s) → Pending c s
  pending_pushed c [] s q = q
  pending_pushed c (v ∷ vs) s q = pending_pushed c vs s q

  fresh_pushed : (vs : List ℕ) (s : List Visit) (out : List ℕ) → Fresh out s → Fresh out (map (λ c. Above c) vs ++ s)
  fresh_pushed [] s out h = h
  fresh_pushed (v ∷ vs) s out h = fresh_pushed vs s out h

  -- ---- the walk

  pub record Rises (goal : List ℕ) (seen : List Bool) (stack : List Visit) (out : List ℕ) : Type 0 where
    pub size : length seen ≡ length p.classes
    pub ends : goal ≡ add out (flat_map give stack)
    pub covered : (i : ℕ) → slice_index_or seen i false ≡ true → Covered i out stack
    pub out_seen : (c : ℕ) → In c out → slice_index_or seen c false ≡ true
    pub all_seen : (c : ℕ) → Pending c stack → slice_index_or seen c false ≡ true
    pub fresh : Fresh out stack

  pub rise_begins : (seen : List Bool) (stack : List Visit) (out : List ℕ) (c : ℕ) → length seen ≡ length p.classes → ((i : ℕ) → slice_index_or seen i false ≡ true → ⊥) → stack ≡ map (λ c. Above c) (interface_places p c) ++ [] → out ≡ []
      → Rises (firsts (interfaces_before (length p.classes) p (interface_places p c))) seen stack out
  rise_begins seen stack out c size none is empty = subst (Rises (firsts (interfaces_before (length p.classes) p (interface_places p c))) seen stack) (sym empty) (subst (λ s. Rises (firsts (interfaces_before (length p.classes) p (interface_places p c))) seen s []) (sym is) (record {
    size = size;
    ends = ap firsts (before_trees c ∙ sym (append_none (flat_map tree (interface_places p c))) ∙ sym (gives_pushed (interface_places p c) [])) ∙ sym (add_firsts (flat_map give (map (λ c. Above c) (interface_places p c) ++ [])));
    covered = λ i e. absurd (none i e);
    out_seen = λ d i. absurd i;
    all_seen = λ d q. absurd (pending_pushed d (interface_places p c) [] q);
    fresh = fresh_pushed (interface_places p c) [] [] tt;
  }))

  -- nothing new stands above a class
  passes : (goal : List ℕ) (seen : List Bool) (c : ℕ) (s : List Visit) (out : List ℕ) → Sub (tree c) out → Rises goal seen (Above c ∷ s) out → Rises goal seen s out
  passes goal seen c s out h k = record {
    size = k.size;
    ends = k.ends ∙ add_append out (tree c) (flat_map give s) ∙ ap (λ o. add o (flat_map give s)) (add_known out (tree c) h);
    covered = λ i e. popped i (Above c) s out out (λ u j. elim (in_split u out (tree c) j) [ inl a ↦ a | inr b ↦ h u b ]) (k.covered i e);
    out_seen = k.out_seen;
    all_seen = k.all_seen;
    fresh = k.fresh;
  }

  pub rise_skips : (goal : List ℕ) (seen seen' : List Bool) (c : ℕ) (s stack' : List Visit) (out : List ℕ) → Skipped p c seen s seen' stack' → Rises goal seen (Above c ∷ s) out → Rises goal seen' stack' out
  rise_skips goal seen seen' c s stack' out q k = subst (λ l. Rises goal l stack' out) (sym q.same) (subst (λ l. Rises goal seen l out) (sym q.rest) (passes goal seen c s out (by_why q.why) k))
    where
      outside : is_interface (slice_get p.classes c) ≡ false → Sub (tree c) out
      outside e u i = absurd (subst (In u) (tree_none c e) i)

      by_why : (is_interface (slice_get p.classes c) ≡ false) ⊎ ((slice_index_or seen c false ≡ true) ⊎ (length seen ≤ c)) → Sub (tree c) out
      by_why (inl e) = outside e
      by_why (inr (inl e)) = seen_popped c s out (k.covered c e)
      by_why (inr (inr le)) = outside (ap is_interface (slice_get_past p.classes c (let z = k.size in omega (arith, z, le))))

  pub rise_opens : (goal : List ℕ) (seen seen' : List Bool) (c : ℕ) (s stack' : List Visit) (out : List ℕ) → Opened p c seen s seen' stack' → Rises goal seen (Above c ∷ s) out → Rises goal seen' stack' out
  rise_opens goal seen seen' c s stack' out q k = subst (λ l. Rises goal l stack' out) (sym q.marked) (subst (λ l. Rises goal (slice_set seen c true) l out) (sym q.more) (record {
    size = set_size seen c ∙ k.size;
    ends = k.ends ∙ ap (add out) (
        ap (λ l. l ++ flat_map give s) (tree_open c q.interface) ∙ append_more (flat_map tree (interface_places p c)) (only_if (lists c) c) (flat_map give s)
        ∙ sym (gives_pushed (interface_places p c) (Itself c ∷ s)));
    covered = λ i e. elim (marked_at seen c i e) [
      | inl f ↦ open_other i c s out q.interface (k.covered i f)
      | inr same ↦ subst (λ n. Covered n out (map (λ c. Above c) (interface_places p c) ++ (Itself c ∷ s))) (sym same) (open_new c s out q.interface)
    ];
    out_seen = λ d i. stays_seen seen c d (k.out_seen d i);
    all_seen = λ d i. elim (pending_pushed d (interface_places p c) (Itself c ∷ s) i) [
      | inl same ↦ subst (λ n. slice_index_or (slice_set seen c true) n false ≡ true) (sym same) (seen_now seen c q.short)
      | inr j ↦ stays_seen seen c d (k.all_seen d j)
    ];
    fresh = fresh_pushed (interface_places p c) (Itself c ∷ s) out (
      (λ i. true≢false (sym (k.out_seen c i) ∙ q.new)),
      one_more c s out k.fresh (λ j. true≢false (sym (k.all_seen c j) ∙ q.new)),
    );
  }))

  pub rise_lists : (goal : List ℕ) (seen : List Bool) (c : ℕ) (s : List Visit) (out out' : List ℕ) → out' ≡ out ++ only_if (has_default p (slice_get p.classes c)) c → Rises goal seen (Itself c ∷ s) out → Rises goal seen s out'
  rise_lists goal seen c s out out' is k = subst (Rises goal seen s) (sym is) (by_test (lists c) refl)
    where
      by_test : (b : Bool) → lists c ≡ b → Rises goal seen s (out ++ only_if (lists c) c)
      by_test false e = subst (λ b. Rises goal seen s (out ++ only_if b c)) (sym e) (subst (Rises goal seen s) (sym (append_none out)) (record {
        size = k.size;
        ends = k.ends ∙ ap (λ b. add out (only_if b c ++ flat_map give s)) e;
        covered = λ i f. popped i (Itself c) s out out (λ u j. elim (in_split u out (only_if (lists c) c) j) [ inl a ↦ a | inr x ↦ absurd (subst (λ b. In u (only_if b c)) e x) ]) (k.covered i f);
        out_seen = k.out_seen;
        all_seen = λ d j. k.all_seen d (inr j);
        fresh = narrower s out (out ++ c ∷ []) (λ u i. in_left u out (c ∷ []) i) k.fresh.1;
      }))
      by_test true e = subst (λ b. Rises goal seen s (out ++ only_if b c)) (sym e) (record {
        size = k.size;
        ends = k.ends ∙ ap (λ b. add out (only_if b c ++ flat_map give s)) e ∙ add_fresh out c (flat_map give s) k.fresh.0;
        covered = λ i f. popped i (Itself c) s out (out ++ c ∷ []) (λ u j. subst (λ b. In u (out ++ only_if b c)) e j) (k.covered i f);
        out_seen = λ d i. elim (in_split d out (c ∷ []) i) [ inl a ↦ k.out_seen d a | inr x ↦ elim x [ inl same ↦ k.all_seen d (inl same) | inr n ↦ absurd n ] ];
        all_seen = λ d j. k.all_seen d (inr j);
        fresh = k.fresh.1;
      })

  pub rise_ends : (goal : List ℕ) (seen : List Bool) (stack : List Visit) (out : List ℕ) → stack ≡ [] → Rises goal seen stack out → out ≡ goal
  unfolding add
  rise_ends goal seen stack out e k = sym (k.ends ∙ ap (λ s. add out (flat_map give s)) e)

-- ---- steps of the walk

pub skip_of : (p : Program) (class : ℕ) (seen seen' : List Bool) (stack stack' : List Visit) (b : Bool) → b ≡ (is_interface (slice_get p.classes class) && (nat_lt class (length seen) && not (slice_index_or seen class false))) → b ≡ false
    → seen' ≡ cond b (slice_set seen class true) seen → stack' ≡ stack → Skipped p class seen stack seen' stack'
skip_of p class seen seen' stack stack' b met off marked rest = record {
  same = marked ∙ ap (λ x. cond x (slice_set seen class true) seen) off;
  rest = rest;
  why = by_tests (is_interface (slice_get p.classes class)) refl (nat_lt class (length seen)) refl (slice_index_or seen class false) refl (sym met ∙ off);
}
  where
    by_tests : (a : Bool) → is_interface (slice_get p.classes class) ≡ a → (l : Bool) → nat_lt class (length seen) ≡ l → (d : Bool) → slice_index_or seen class false ≡ d
        → (is_interface (slice_get p.classes class) && (nat_lt class (length seen) && not (slice_index_or seen class false))) ≡ false
        → (is_interface (slice_get p.classes class) ≡ false) ⊎ ((slice_index_or seen class false ≡ true) ⊎ (length seen ≤ class))
    by_tests false e l f d g h = inl e
    by_tests true e l f true g h = inr (inl g)
    by_tests true e false f false g h = inr (inr (elim (cases_lt class (length seen)) [ inr le ↦ le | inl lt ↦ absurd (true≢false (sym (lt-ltb class (length seen) lt) ∙ f)) ]))
    by_tests true e true f false g h = absurd (true≢false (sym (ap (λ x. x && (nat_lt class (length seen) && not (slice_index_or seen class false))) e ∙ ap (λ x. x && not (slice_index_or seen class false)) f ∙ ap not g) ∙ h))

pub open_of : (p : Program) (class : ℕ) (seen seen' : List Bool) (stack mid stack' : List Visit) (us : List ℕ) (b : Bool) → b ≡ (is_interface (slice_get p.classes class) && (nat_lt class (length seen) && not (slice_index_or seen class false))) → b ≡ true
    → seen' ≡ cond b (slice_set seen class true) seen → us ≡ interface_places p class → mid ≡ Itself class ∷ stack → stack' ≡ map (λ c. Above c) us ++ mid → Opened p class seen stack seen' stack'
open_of p class seen seen' stack mid stack' us b met on marked is pushed more =
    let all : (is_interface (slice_get p.classes class) && (nat_lt class (length seen) && not (slice_index_or seen class false))) ≡ true = sym met ∙ on in
    let n = is_new class seen (and_right (is_interface (slice_get p.classes class)) (nat_lt class (length seen) && not (slice_index_or seen class false)) all) in
    record {
      interface = and_left (is_interface (slice_get p.classes class)) (nat_lt class (length seen) && not (slice_index_or seen class false)) all;
      short = n.short;
      new = n.new;
      marked = marked ∙ ap (λ x. cond x (slice_set seen class true) seen) on;
      more = more ∙ ap (λ l. map (λ c. Above c) l ++ mid) is ∙ ap (λ l. map (λ c. Above c) (interface_places p class) ++ l) pushed;
    }

-- ---- the walk ends

longer : (us : List ℕ) (s : List Visit) → length (map (λ c. Above c) us ++ s) ≡ length us + length s
longer [] s = omega arith
longer (u ∷ us) s = let h = longer us s in omega (arith, h)

pub skip_rests : (class : ℕ) (seen seen' : List Bool) (stack : List Visit) (b : Bool) → b ≡ false → seen' ≡ cond b (slice_set seen class true) seen → work seen' stack ≤ work seen stack
skip_rests class seen seen' stack b off marked =
    let e : left seen' ≡ left seen = ap left (marked ∙ ap (λ x. cond x (slice_set seen class true) seen) off) in
    omega (arith, e)

pub open_less : (class : ℕ) (a : Bool) (seen seen' : List Bool) (stack mid stack' : List Visit) (us : List ℕ) (b : Bool) → b ≡ (a && (nat_lt class (length seen) && not (slice_index_or seen class false))) → b ≡ true
    → seen' ≡ cond b (slice_set seen class true) seen → mid ≡ Itself class ∷ stack → stack' ≡ map (λ c. Above c) us ++ mid → length us < 9223372036854775808 → work seen' stack' ≤ work seen stack
open_less class a seen seen' stack mid stack' us b met on marked pushed more short =
    let n = is_new class seen (and_right a (nat_lt class (length seen) && not (slice_index_or seen class false)) (sym met ∙ on)) in
    let f = left_set seen class n.short n.new in
    let e : left seen' ≡ left (slice_set seen class true) = ap left (marked ∙ ap (λ x. cond x (slice_set seen class true) seen) on) in
    let k : length stack' ≡ length us + length mid = ap length more ∙ longer us mid in
    let m : length mid ≡ suc (length stack) = ap length pushed in
    omega (arith, f, e, k, m, short)

pub rise_goes : (p : Program) (r : IsRanked p) (goal : List ℕ) (one : Visit) (seen seen' : List Bool) (stack s stack' : List Visit) (out out' : List ℕ) → stack ≡ one ∷ s → Goes p one seen s out seen' stack' out' → Rises p r goal seen stack out → Rises p r goal seen' stack' out'
rise_goes p r goal (Above c) seen seen' stack s stack' out out' e (inl k, same) h = subst (Rises p r goal seen' stack') (sym same) (rise_skips p r goal seen seen' c s stack' out k (subst (λ x. Rises p r goal seen x out) e h))
rise_goes p r goal (Above c) seen seen' stack s stack' out out' e (inr k, same) h = subst (Rises p r goal seen' stack') (sym same) (rise_opens p r goal seen seen' c s stack' out k (subst (λ x. Rises p r goal seen x out) e h))
rise_goes p r goal (Itself c) seen seen' stack s stack' out out' e k h =
    subst (λ l. Rises p r goal l stack' out') (sym k.same) (subst (λ x. Rises p r goal seen x out') (sym k.rest) (rise_lists p r goal seen c s out out' k.more (subst (λ x. Rises p r goal seen x out) e h)))
