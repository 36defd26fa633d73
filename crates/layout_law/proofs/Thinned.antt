-- A body without some of its positions lays out.
use Rattle.std.proofs.Common.{◌≡◌, inl, inr, ℕ, zero, suc, ◌+◌, ◌-◌, ◌≤◌, ◌<◌, cond, Bool, true, false, List, [], ◌∷◌, length, map, filter, Option, Some, None, refl, sym, ap, ◌∙◌, subst, arith}
use Rattle.std.specs.Prelude.{Contains, slice_get}
use Rattle.std.specs.Option.{option_map}
use Rattle.std.proofs.lemmas.Bool.{cases_lt, cases_eq, lt-ltb, le-ltb, eq-eqb, ne_eqb}
use Rattle.lemmas.proofs.Bools.{clash}
use Rattle.lemmas.proofs.Lists.{map_long, contains_here, contains_there}
use Rattle.insn_set.specs.declared.form.Insn.{Insn}
use Rattle.insn_set.specs.declared.form.Insn.TheVariants as insn
use Rattle.program_model.specs.declared.body.Body.{Body}
use Rattle.relax.specs.declared.step.Step.TheVariants.{Jump}
use Rattle.relax.specs.Sizes.{start, need, RoomFrom, IsLeast, Below}
use Rattle.relax.specs.Far.{is_far, first_far}
use Rattle.relax.proofs.Least.{need_cap}
use Rattle.relax.proofs.Starts.{farther}
use Rattle.pass_defs.specs.Thinned.{Fate, Stays, Empties, Goes, place, left, insn_retargeted, insns_left, region_moved, region_has_room, body_thinned}
use Rattle.dex_defs.specs.LaysOut.{step_of, LaysOutBody}
use Rattle.layout_law.specs.Shorter.{condition_of, is_goto}
use Rattle.layout_law.specs.Circles.{NoneCircles}
use Rattle.layout_law.proofs.Least.{least_under}
use Rattle.layout_law.proofs.Nearer.{Shrinks, reaches}
use Rattle.layout_law.proofs.Steps.{forward_rises, backward_rises, some_units, goes_far, far_by, none_far, none_further, room_long}
use Rattle.layout_law.proofs.Bodies.{RegionsMove, moved_body}

-- ---- places

pub place_rises : (fs : List Fate) (n m : ℕ) → n ≤ m → place fs n ≤ place fs m
place_rises [] n m l = l
place_rises (f ∷ fs) zero m l = omega arith
place_rises (f ∷ fs) (suc n) zero l = absurd (omega (arith, l))
place_rises (Stays ∷ fs) (suc n) (suc m) l = let r = place_rises fs n m (omega (arith, l)) in omega (arith, r)
place_rises (Empties ∷ fs) (suc n) (suc m) l = let r = place_rises fs n m (omega (arith, l)) in omega (arith, r)
place_rises (Goes ∷ fs) (suc n) (suc m) l = place_rises fs n m (omega (arith, l))

place_zero : (fs : List Fate) → place fs 0 ≡ 0
place_zero [] = refl
place_zero (f ∷ fs) = refl

place_next : (fs : List Fate) (k : ℕ) → place fs (suc k) ≤ suc (place fs k)
place_next [] k = omega arith
place_next (Stays ∷ fs) zero = let z = place_zero fs in omega (arith, z)
place_next (Empties ∷ fs) zero = let z = place_zero fs in omega (arith, z)
place_next (Goes ∷ fs) zero = let z = place_zero fs in omega (arith, z)
place_next (Stays ∷ fs) (suc k) = let r = place_next fs k in omega (arith, r)
place_next (Empties ∷ fs) (suc k) = let r = place_next fs k in omega (arith, r)
place_next (Goes ∷ fs) (suc k) = place_next fs k

-- ---- distances by the sizes of what is left

left_lower : (fs : List Fate) (ss : List ℕ) → length fs ≡ length ss → (j : ℕ) → start (left fs ss) (place fs j) ≤ start ss j
left_lower [] [] l j = omega arith
left_lower [] (s ∷ ss) l j = absurd (omega (arith, l))
left_lower (f ∷ fs) [] l j = absurd (omega (arith, l))
left_lower (f ∷ fs) (s ∷ ss) l zero = omega arith
left_lower (Stays ∷ fs) (s ∷ ss) l (suc j) = let r = left_lower fs ss (omega (arith, l)) j in omega (arith, r)
left_lower (Empties ∷ fs) (s ∷ ss) l (suc j) = let r = left_lower fs ss (omega (arith, l)) j in omega (arith, r)
left_lower (Goes ∷ fs) (s ∷ ss) l (suc j) = let r = left_lower fs ss (omega (arith, l)) j in omega (arith, r)

left_nearer : (fs : List Fate) (ss : List ℕ) → length fs ≡ length ss → (i j : ℕ) → i ≤ j → start (left fs ss) (place fs j) + start ss i ≤ start ss j + start (left fs ss) (place fs i)
left_nearer [] [] l i j m = start_none i j
  where
    none : (k : ℕ) → start [] k ≡ 0
    none zero = refl
    none (suc k) = refl

    start_none : (i j : ℕ) → start [] j + start [] i ≤ start [] j + start [] i
    start_none i j = omega (arith, none i, none j)
left_nearer [] (s ∷ ss) l i j m = absurd (omega (arith, l))
left_nearer (f ∷ fs) [] l i j m = absurd (omega (arith, l))
left_nearer (f ∷ fs) (s ∷ ss) l zero j m = let r = left_lower (f ∷ fs) (s ∷ ss) l j in omega (arith, r)
left_nearer (f ∷ fs) (s ∷ ss) l (suc i) zero m = absurd (omega (arith, m))
left_nearer (Stays ∷ fs) (s ∷ ss) l (suc i) (suc j) m = let r = left_nearer fs ss (omega (arith, l)) i j (omega (arith, m)) in omega (arith, r)
left_nearer (Empties ∷ fs) (s ∷ ss) l (suc i) (suc j) m = let r = left_nearer fs ss (omega (arith, l)) i j (omega (arith, m)) in omega (arith, r)
left_nearer (Goes ∷ fs) (s ∷ ss) l (suc i) (suc j) m = let r = left_nearer fs ss (omega (arith, l)) i j (omega (arith, m)) in omega (arith, r)

-- ---- instructions with other targets

step_same : (t : ℕ → ℕ) (i : Insn) → is_goto i ≡ false → step_of (insn_retargeted t i) ≡ step_of i
step_same t (insn.Goto target) e = clash true refl e
step_same t i e = refl

condition_moved : (t : ℕ → ℕ) (i : Insn) → condition_of (insn_retargeted t i) ≡ option_map t (condition_of i)
condition_moved t (insn.If test a b target) = refl
condition_moved t (insn.IfZero test a target) = refl
condition_moved t i = refl

module _ (fates : List Fate) (ss : List ℕ) (long : length fates ≡ length ss) where
  abbrev at : ℕ → ℕ
  at n = place fates n

  abbrev sizes : List ℕ
  sizes = left fates ss

  -- a goto that stays before its target, behind it, or at it
  jump_fits : (n t : ℕ) → at (suc n) ≡ suc (at n) → (t < n → at t < at n) → need sizes (at n) (Jump (at t)) ≤ need ss n (Jump t)
  jump_fits n t stays back = elim (cases_eq t n) [
    | inl e ↦ rw (eq-eqb t n e) (need_cap sizes (at n) (Jump (at t)))
    | inr d ↦ elim (cases_lt n t) [
      | inl l ↦ (let r = place_rises fates (suc n) t l in
          let m : at n < at t = omega (arith, r, stays) in
          let o : at t ≡ at n → ⊥ = λ e. omega (arith, m, e) in
          let k : n ≤ t = omega (arith, l) in
          let x = left_nearer fates ss long n t k in
          rw (ne_eqb (at t) (at n) o, lt-ltb (at n) (at t) m, ne_eqb t n d, lt-ltb n t l)
          (forward_rises (start sizes (at t) - start sizes (at n)) (start ss t - start ss n) (omega (arith, x))))
      | inr k ↦ (let m : at t < at n = back (omega (arith, k, d)) in
          let o : at t ≡ at n → ⊥ = λ e. omega (arith, m, e) in
          let p : at t ≤ at n = omega (arith, m) in
          let x = left_nearer fates ss long t n k in
          rw (ne_eqb (at t) (at n) o, le-ltb (at n) (at t) p, ne_eqb t n d, le-ltb n t k)
          (backward_rises (start sizes (at n) - start sizes (at t)) (start ss n - start ss t) (omega (arith, x))))
    ]
  ]

  insn_fits : (n : ℕ) (i : Insn) → at (suc n) ≡ suc (at n) → ((t : ℕ) → i ≡ insn.Goto t → t < n → at t < at n) → need sizes (at n) (step_of (insn_retargeted at i)) ≤ need ss n (step_of i)
  insn_fits n (insn.Goto t) stays back = jump_fits n t stays (back t refl)
  insn_fits n i stays back = omega (arith, ap (need ss n) (step_same at i refl))

  -- from a position on
  module _ (is : List Insn) where
    pub record IsFrom (n m : ℕ) (fs : List Fate) (js : List Insn) : Type 0 where
      pub places : (k : ℕ) → at (n + k) ≡ m + place fs k
      pub fates_here : (k : ℕ) → slice_get fates (n + k) ≡ slice_get fs k
      pub insns_here : (k : ℕ) → slice_get is (n + k) ≡ slice_get js k
      pub as_long : length fs ≡ length js

    next_to : (n k : ℕ) → suc n + k ≡ n + suc k
    next_to n k = omega arith

    here_is : (n m : ℕ) (fs : List Fate) (js : List Insn) → IsFrom n m fs js → at n ≡ m
    here_is n m fs js h = let o : n ≡ n + 0 = omega arith in let z = place_zero fs in let p = h.places 0 in let q : at n ≡ at (n + 0) = ap at o in omega (arith, p, q, z)

    behind_left : (n m : ℕ) (f : Fate) (fs : List Fate) (j : Insn) (js : List Insn) → ((k : ℕ) → place (f ∷ fs) (suc k) ≡ suc (place fs k)) → IsFrom n m (f ∷ fs) (j ∷ js) → IsFrom (suc n) (suc m) fs js
    behind_left n m f fs j js e h = record {
      places = λ k. ap at (next_to n k) ∙ h.places (suc k) ∙ ap (λ p. m + p) (e k) ∙ moved k;
      fates_here = λ k. ap (slice_get fates) (next_to n k) ∙ h.fates_here (suc k);
      insns_here = λ k. ap (slice_get is) (next_to n k) ∙ h.insns_here (suc k);
      as_long = omega (arith, h.as_long);
    }
      where
        moved : (k : ℕ) → m + suc (place fs k) ≡ suc m + place fs k
        moved k = omega arith

    behind_gone : (n m : ℕ) (fs : List Fate) (j : Insn) (js : List Insn) → IsFrom n m (Goes ∷ fs) (j ∷ js) → IsFrom (suc n) m fs js
    behind_gone n m fs j js h = record {
      places = λ k. ap at (next_to n k) ∙ h.places (suc k);
      fates_here = λ k. ap (slice_get fates) (next_to n k) ∙ h.fates_here (suc k);
      insns_here = λ k. ap (slice_get is) (next_to n k) ∙ h.insns_here (suc k);
      as_long = omega (arith, h.as_long);
    }

    next_place : (n m : ℕ) (f : Fate) (fs : List Fate) (j : Insn) (js : List Insn) → place (f ∷ fs) 1 ≡ suc (place fs 0) → IsFrom n m (f ∷ fs) (j ∷ js) → at (suc n) ≡ suc (at n)
    next_place n m f fs j js e h =
        let o : suc n ≡ n + 1 = omega arith in
        let p : at (suc n) ≡ at (n + 1) = ap at o in
        let q = h.places 1 in
        let z = place_zero fs in
        let r = here_is n m (f ∷ fs) (j ∷ js) h in
        omega (arith, p, q, e, z, r)

    module _ (back : (n t : ℕ) → slice_get fates n ≡ Some Stays → slice_get is n ≡ Some (insn.Goto t) → t < n → at t < at n) where
      insn_left : (n m : ℕ) (fs : List Fate) (j : Insn) (js : List Insn) (s : ℕ) → IsFrom n m (Stays ∷ fs) (j ∷ js) → need ss n (step_of j) ≤ s → need sizes m (step_of (insn_retargeted at j)) ≤ s
      insn_left n m fs j js s h r =
          let o : n ≡ n + 0 = omega arith in
          let x = insn_fits n j (next_place n m Stays fs j js refl h) (λ t e l. back n t (ap (slice_get fates) o ∙ h.fates_here 0) (ap (slice_get is) o ∙ h.insns_here 0 ∙ ap Some e) l) in
          let y : need sizes (at n) (step_of (insn_retargeted at j)) ≤ s = omega (arith, x, r) in
          subst (λ k. need sizes k (step_of (insn_retargeted at j)) ≤ s) (here_is n m (Stays ∷ fs) (j ∷ js) h) y

      room_left : (n m : ℕ) (fs : List Fate) (js : List Insn) (rest : List ℕ) → IsFrom n m fs js → RoomFrom ss n (map step_of js) rest → RoomFrom sizes m (map step_of (insns_left at fs js)) (left fs rest)
      room_left n m fs [] [] h r = tt
      room_left n m fs [] (s ∷ rest) h r = absurd r
      room_left n m [] (j ∷ js) rest h r = absurd (omega (arith, h.as_long))
      room_left n m (f ∷ fs) (j ∷ js) [] h r = absurd r
      room_left n m (Stays ∷ fs) (j ∷ js) (s ∷ rest) h r = (insn_left n m fs j js s h r.0, room_left (suc n) (suc m) fs js rest (behind_left n m Stays fs j js (λ k. refl) h) r.1)
      room_left n m (Empties ∷ fs) (j ∷ js) (s ∷ rest) h r =
          let x = some_units ss n j in
          (omega (arith, x, r.0), room_left (suc n) (suc m) fs js rest (behind_left n m Empties fs j js (λ k. refl) h) r.1)
      room_left n m (Goes ∷ fs) (j ∷ js) (s ∷ rest) h r = room_left (suc n) m fs js rest (behind_gone n m fs j js h) r.1

    -- ---- branches

    module _ (ts : List ℕ) (s : Shrinks at ss ts) where
      near_left : (n : ℕ) (i : Insn) → is_far ss n i ≡ false → is_far ts (at n) (insn_retargeted at i) ≡ false
      near_left n i e = far_by ts (at n) (insn_retargeted at i) ∙ ap (goes_far ts (at n)) (condition_moved at i) ∙ by (condition_of i) (sym (far_by ss n i) ∙ e)
        where
          by : (o : Option ℕ) → goes_far ss n o ≡ false → goes_far ts (at n) (option_map at o) ≡ false
          by None d = refl
          by (Some t) d = reaches at ss ts s n t d

      none_far_left : (n m : ℕ) (fs : List Fate) (js : List Insn) → IsFrom n m fs js → first_far ss n js ≡ None → first_far ts m (insns_left at fs js) ≡ None
      none_far_left n m fs [] h e = refl
      none_far_left n m [] (j ∷ js) h e = refl
      none_far_left n m (Stays ∷ fs) (j ∷ js) h e =
          let o = none_far ss n j js e in
          none_further ts m (insn_retargeted at j) (insns_left at fs js)
          (subst (λ k. is_far ts k (insn_retargeted at j) ≡ false) (here_is n m (Stays ∷ fs) (j ∷ js) h) (near_left n j o.0))
          (none_far_left (suc n) (suc m) fs js (behind_left n m Stays fs j js (λ k. refl) h) o.1)
      none_far_left n m (Empties ∷ fs) (j ∷ js) h e =
          let o = none_far ss n j js e in
          none_further ts m insn.Nop (insns_left at fs js) refl (none_far_left (suc n) (suc m) fs js (behind_left n m Empties fs j js (λ k. refl) h) o.1)
      none_far_left n m (Goes ∷ fs) (j ∷ js) h e = none_far_left (suc n) m fs js (behind_gone n m fs j js h) (none_far ss n j js e).1

-- ---- regions

filter_long : {A : Type 0} (p : A → Bool) (xs : List A) → length (filter p xs) ≤ length xs
filter_long p [] = omega arith
filter_long p (x ∷ xs) = by (p x) (filter_long p xs)
  where
    by : (b : Bool) → length (filter p xs) ≤ length xs → length (cond b (x ∷ filter p xs) (filter p xs)) ≤ length (x ∷ xs)
    by true r = omega (arith, r)
    by false r = omega (arith, r)

in_filter : {A : Type 0} (p : A → Bool) (xs : List A) (y : A) → Contains (filter p xs) y → Contains xs y
in_filter p [] y c = c
in_filter p (x ∷ xs) y c = by (p x) c (λ d. contains_there x xs y (in_filter p xs y d))
  where
    by : (b : Bool) → Contains (cond b (x ∷ filter p xs) (filter p xs)) y → (Contains (filter p xs) y → Contains (x ∷ xs) y) → Contains (x ∷ xs) y
    by true (zero, l, e) later = subst (Contains (x ∷ xs)) e (contains_here x xs)
    by true (suc k, l, e) later = later (k, omega (arith, l), e)
    by false d later = later d

pub in_map : {A B : Type 0} (f : A → B) (xs : List A) (y : B) → Contains (map f xs) y → (x : A) × Contains xs x × (y ≡ f x)
in_map f [] y (k, l, e) = let g : ⊥ = omega (arith, l) in absurd g
in_map f (x ∷ xs) y (zero, l, e) = (x, contains_here x xs, sym e)
in_map f (x ∷ xs) y (suc k, l, e) = let r = in_map f xs y (k, omega (arith, l), e) in (r.0, contains_there x xs r.0 r.1, r.2)

regions_left : (fs : List Fate) (b : Body) → RegionsMove (place fs) (λ k. k) b (body_thinned fs b)
regions_left fs b q c = in_map (region_moved (place fs)) b.regions q (in_filter (region_has_room (length (insns_left (place fs) fs b.insns))) (map (region_moved (place fs)) b.regions) q c)

-- ---- the body

pub thinned_lays_out : (fs : List Fate) (b : Body) → length fs ≡ length b.insns → NoneCircles fs b → LaysOutBody b → LaysOutBody (body_thinned fs b)
thinned_lays_out fs b long none l = moved_body (place fs) (λ k. k) (λ k. omega arith) b (body_thinned fs b) l small.0 small.1 shrinks
    (none_far_left fs l.sizes whole b.insns small.0 shrinks 0 0 fs b.insns begin l.branches) few (regions_left fs b)
  where
    whole : length fs ≡ length l.sizes
    whole = long ∙ sym (map_long step_of b.insns) ∙ room_long l.sizes 0 (map step_of b.insns) l.sizes l.least.room

    zero_first : (k : ℕ) → 0 + k ≡ k
    zero_first k = omega arith

    zero_last : (k : ℕ) → k ≡ 0 + k
    zero_last k = omega arith

    begin : IsFrom fs l.sizes whole b.insns 0 0 fs b.insns
    begin = record {
      places = λ k. ap (place fs) (zero_first k) ∙ zero_last (place fs k);
      fates_here = λ k. ap (slice_get fs) (zero_first k);
      insns_here = λ k. ap (slice_get b.insns) (zero_first k);
      as_long = long;
    }

    small : (ts : List ℕ) × IsLeast (map step_of (insns_left (place fs) fs b.insns)) ts × Below ts (left fs l.sizes)
    small = least_under (map step_of (insns_left (place fs) fs b.insns)) (left fs l.sizes) (room_left fs l.sizes whole b.insns none 0 0 fs b.insns l.sizes begin l.least.room)

    shrinks : Shrinks (place fs) l.sizes small.0
    shrinks = record {
      first = place_zero fs;
      rises = place_rises fs;
      next = place_next fs;
      nearer = λ i j m.
          let x = left_nearer fs l.sizes whole i j m in
          let y = farther small.0 (left fs l.sizes) (place fs i) (place fs j) (place_rises fs i j m) small.2 in
          omega (arith, x, y);
    }

    few : length (body_thinned fs b).regions ≤ length b.regions
    few = let x = filter_long (region_has_room (length (insns_left (place fs) fs b.insns))) (map (region_moved (place fs)) b.regions) in
        let y = map_long (region_moved (place fs)) b.regions in
        omega (arith, x, y)
