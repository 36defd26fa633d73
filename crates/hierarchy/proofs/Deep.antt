-- A walk finds what the first answer in each class and those above it is.
use Rattle.std.proofs.Common.{◌≡◌, ℕ, zero, suc, ◌+◌, ◌<◌, ◌≤◌, ◌⊎◌, inl, inr, Bool, true, false, true≢false, List, [], ◌∷◌, ◌++◌, length, Option, Some, None, refl, sym, ap, subst, ◌∙◌, arith, append_assoc, length-append, ltb-true, lt-ltb}
use Rattle.std.specs.Prelude.{◌&&◌, slice_index_or, slice_set, nat_lt}
use Rattle.std.specs.List.{list_all}
use Rattle.std.specs.Option.{option_or}
use Rattle.std.proofs.lemmas.Bool.{cases_lt}
use Rattle.class_defs.specs.Finding.{first_among}
use Rattle.class_defs.proofs.Positions.{both}
use Rattle.class_defs.proofs.WellFormed.{and_left, and_right}
use Rattle.hierarchy.specs.Walking.{Skips, Opens, Visits, deep, IsSpent}
use Rattle.hierarchy.proofs.Marks.{marked_at, set_size}

or_more : {X : Type 0} (a b c : Option X) → option_or (option_or a b) c ≡ option_or a (option_or b c)
or_more None b c = refl
or_more (Some x) b c = refl

pub among_join : {X : Type 0} (f : ℕ → Option X) (xs ys : List ℕ) → first_among f (xs ++ ys) ≡ option_or (first_among f xs) (first_among f ys)
among_join f [] ys = refl
among_join f (x ∷ xs) ys = ap (option_or (f x)) (among_join f xs ys) ∙ sym (or_more (f x) (first_among f xs) (first_among f ys))

pub among_same : {X : Type 0} (f g : ℕ → Option X) → ((c : ℕ) → f c ≡ g c) → (xs : List ℕ) → first_among f xs ≡ first_among g xs
among_same f g h [] = refl
among_same f g h (x ∷ xs) = ap (λ o. option_or o (first_among f xs)) (h x) ∙ ap (option_or (g x)) (among_same f g h xs)

pub all_join : (t : ℕ → Bool) (xs ys : List ℕ) → list_all t xs ≡ true → list_all t ys ≡ true → list_all t (xs ++ ys) ≡ true
all_join t [] ys h k = k
all_join t (x ∷ xs) ys h k = step (t x) (and_left (t x) (list_all t xs) h) (all_join t xs ys (and_right (t x) (list_all t xs) h) k)
  where
    step : (b : Bool) → b ≡ true → list_all t (xs ++ ys) ≡ true → (b && list_all t (xs ++ ys)) ≡ true
    step true e f = f
    step false e f = e

module _ {X : Type 0} (own : ℕ → Option X) (above : ℕ → List ℕ) (rank : ℕ → ℕ) (n : ℕ)
    (lower : (c : ℕ) → list_all (λ u. nat_lt (rank u) (rank c)) (above c) ≡ true) where
  same_on : (m m' r : ℕ) → ((u : ℕ) → rank u < r → deep own above m u ≡ deep own above m' u) → (us : List ℕ) → list_all (λ u. nat_lt (rank u) r) us ≡ true → first_among (deep own above m) us ≡ first_among (deep own above m') us
  same_on m m' r h [] all = refl
  same_on m m' r h (u ∷ us) all =
      ap (λ o. option_or o (first_among (deep own above m) us)) (h u (ltb-true (rank u) r (and_left (nat_lt (rank u) r) (list_all (λ u. nat_lt (rank u) r) us) all)))
      ∙ ap (option_or (deep own above m' u)) (same_on m m' r h us (and_right (nat_lt (rank u) r) (list_all (λ u. nat_lt (rank u) r) us) all))

  -- steps past the rank change nothing
  stable : (m m' c : ℕ) → rank c < m → rank c < m' → deep own above m c ≡ deep own above m' c
  stable zero m' c l l' = absurd (omega (arith, l))
  stable (suc m) zero c l l' = absurd (omega (arith, l'))
  stable (suc m) (suc m') c l l' = ap (option_or (own c)) (same_on m m' (rank c) (λ u lt. stable m m' u (omega (arith, lt, l)) (omega (arith, lt, l'))) (above c) (lower c))

  module _ (short : (c : ℕ) → c < n → rank c < n) (past : (c : ℕ) → n ≤ c → (own c ≡ None) × (above c ≡ [])) where
    abbrev pub A : ℕ → Option X
    A c = deep own above n c

    none_past : (m c : ℕ) → n ≤ c → deep own above m c ≡ None
    none_past zero c le = refl
    none_past (suc m) c le = let q = past c le in ap (λ o. option_or o (first_among (deep own above m) (above c))) q.0 ∙ ap (first_among (deep own above m)) q.1

    pub step_up : (c : ℕ) → A c ≡ option_or (own c) (first_among A (above c))
    step_up c = elim (cases_lt c n) [
      | inl lt ↦ stable n (suc n) c (short c lt) (let s = short c lt in omega (arith, s))
      | inr le ↦ none_past n c le ∙ sym (none_past (suc n) c le)
    ]

    -- what waits for a class that is seen: its answer is that of the front
    pub record Front (stack : List ℕ) (c : ℕ) : Type 0 where
      pub front : List ℕ
      pub back : List ℕ
      pub split : stack ≡ front ++ back
      pub beneath : list_all (λ u. nat_lt (rank u) (rank c)) front ≡ true
      pub same : first_among A front ≡ A c

    pub record Going (seen : List Bool) (stack : List ℕ) (whole : Option X) : Type 0 where
      pub total : first_among A stack ≡ whole
      pub fronts : (c : ℕ) → slice_index_or seen c false ≡ true → Front stack c
      pub size : length seen ≡ n

    pub begins : (seen : List Bool) (stack : List ℕ) → IsSpent A n seen → Going seen stack (first_among A stack)
    begins seen stack s = record { total = refl; fronts = λ c e. record { front = []; back = stack; split = refl; beneath = refl; same = sym (s.none c e) }; size = s.size }

    empty_front : (front back : List ℕ) → [] ≡ front ++ back → first_among A front ≡ None
    empty_front [] back e = refl
    empty_front (x ∷ xs) back e = cc

    pub ends : (seen : List Bool) (stack : List ℕ) (whole : Option X) → stack ≡ [] → Going seen stack whole → (None ≡ whole) × IsSpent A n seen
    ends seen stack whole e g = (
      sym (ap (first_among A) e) ∙ g.total,
      record { none = λ c s. let f = g.fronts c s in sym f.same ∙ empty_front f.front f.back (sym e ∙ f.split); size = g.size },
    )

    own_first : (x : ℕ) (y : X) → own x ≡ Some y → A x ≡ Some y
    own_first x y e = step_up x ∙ ap (λ o. option_or o (first_among A (above x))) e

    pub hits : (seen : List Bool) (stack rest : List ℕ) (x : ℕ) (y : X) (whole : Option X) → stack ≡ x ∷ rest → own x ≡ Some y → Going seen stack whole → Some y ≡ whole
    hits seen stack rest x y whole e h g = sym (ap (λ o. option_or o (first_among A rest)) (own_first x y h)) ∙ sym (ap (first_among A) e) ∙ g.total

    -- a class that is seen and waits first has no answer
    itself : (x : ℕ) (rest front back : List ℕ) → x ∷ rest ≡ front ++ back → list_all (λ u. nat_lt (rank u) (rank x)) front ≡ true → first_among A front ≡ A x → A x ≡ None
    itself x rest [] back e l s = sym s
    itself x rest (z ∷ zs) back e l s =
        let same : z ≡ x = cc in
        let lt = ltb-true (rank z) (rank x) (and_left (nat_lt (rank z) (rank x)) (list_all (λ u. nat_lt (rank u) (rank x)) zs) l) in
        absurd (let eq : rank z ≡ rank x = ap rank same in omega (arith, lt, eq))

    seen_none : (seen : List Bool) (rest : List ℕ) (x : ℕ) (whole : Option X) → Going seen (x ∷ rest) whole → (slice_index_or seen x false ≡ true) ⊎ (length seen ≤ x) → A x ≡ None
    seen_none seen rest x whole g (inl s) = let f = g.fronts x s in itself x rest f.front f.back f.split f.beneath f.same
    seen_none seen rest x whole g (inr le) = let z = g.size in none_past n x (omega (arith, le, z))

    -- without the first, which has no answer, and with others for it
    without : (x : ℕ) (more rest : List ℕ) (c : ℕ) → A x ≡ first_among A more → (list_all (λ u. nat_lt (rank u) (rank x)) more ≡ true) ⊎ (more ≡ []) → Front (x ∷ rest) c → Front (more ++ rest) c
    without x more rest c h l f = by_front f.front f.split f.beneath f.same
      where
        lesser : (us : List ℕ) → rank x < rank c → list_all (λ u. nat_lt (rank u) (rank x)) us ≡ true → list_all (λ u. nat_lt (rank u) (rank c)) us ≡ true
        lesser us lt all = below us all
          where
            one : (u : ℕ) → nat_lt (rank u) (rank x) ≡ true → nat_lt (rank u) (rank c) ≡ true
            one u e = let k = ltb-true (rank u) (rank x) e in lt-ltb (rank u) (rank c) (omega (arith, k, lt))

            below : (us : List ℕ) → list_all (λ u. nat_lt (rank u) (rank x)) us ≡ true → list_all (λ u. nat_lt (rank u) (rank c)) us ≡ true
            below [] e = refl
            below (u ∷ us) e = both (nat_lt (rank u) (rank c)) (list_all (λ u. nat_lt (rank u) (rank c)) us) (one u (and_left (nat_lt (rank u) (rank x)) (list_all (λ u. nat_lt (rank u) (rank x)) us) e)) (below us (and_right (nat_lt (rank u) (rank x)) (list_all (λ u. nat_lt (rank u) (rank x)) us) e))

        more_lower : rank x < rank c → (list_all (λ u. nat_lt (rank u) (rank x)) more ≡ true) ⊎ (more ≡ []) → list_all (λ u. nat_lt (rank u) (rank c)) more ≡ true
        more_lower lt (inl all) = lesser more lt all
        more_lower lt (inr none) = ap (list_all (λ u. nat_lt (rank u) (rank c))) none

        by_front : (front : List ℕ) → x ∷ rest ≡ front ++ f.back → list_all (λ u. nat_lt (rank u) (rank c)) front ≡ true → first_among A front ≡ A c → Front (more ++ rest) c
        by_front [] e a s = record { front = []; back = more ++ rest; split = refl; beneath = refl; same = s }
        by_front (z ∷ zs) e a s =
            let same : z ≡ x = cc in
            let tail : rest ≡ zs ++ f.back = cc in
            let lt = ltb-true (rank z) (rank c) (and_left (nat_lt (rank z) (rank c)) (list_all (λ u. nat_lt (rank u) (rank c)) zs) a) in
            let eq : rank z ≡ rank x = ap rank same in
            record {
              front = more ++ zs;
              back = f.back;
              split = ap (λ l. more ++ l) tail ∙ sym (append_assoc more zs f.back);
              beneath = all_join (λ u. nat_lt (rank u) (rank c)) more zs (more_lower (omega (arith, lt, eq)) l) (and_right (nat_lt (rank z) (rank c)) (list_all (λ u. nat_lt (rank u) (rank c)) zs) a);
              same = among_join A more zs ∙ sym (ap (λ o. option_or o (first_among A zs)) h) ∙ sym (ap (λ w. option_or (A w) (first_among A zs)) same) ∙ s;
            }

    pub skips : (seen seen' : List Bool) (stack rest stack' : List ℕ) (x : ℕ) (r : Option ℕ) (whole : Option X) → stack ≡ x ∷ rest → Skips seen rest x seen' stack' r → Going seen stack whole → Going seen' stack' whole
    skips seen seen' stack rest stack' x r whole e k g =
        let g' : Going seen (x ∷ rest) whole = subst (λ l. Going seen l whole) e g in
        let none : A x ≡ None = seen_none seen rest x whole g' k.why in
        subst (λ l. Going l stack' whole) (sym k.same) (subst (λ l. Going seen l whole) (sym k.rest) (record {
          total = sym (ap (λ o. option_or o (first_among A rest)) none) ∙ g'.total;
          fronts = λ c s. without x [] rest c none (inr refl) (g'.fronts c s);
          size = g.size;
        }))

    pub opens : (seen seen' : List Bool) (stack rest stack' ups : List ℕ) (x : ℕ) (found r : Option ℕ) (whole : Option X) → stack ≡ x ∷ rest → own x ≡ None → ups ≡ above x → Opens seen rest x found ups seen' stack' r → Going seen stack whole → Going seen' stack' whole
    opens seen seen' stack rest stack' ups x found r whole e none up k g =
        let g' : Going seen (x ∷ rest) whole = subst (λ l. Going seen l whole) e g in
        let on : A x ≡ first_among A (above x) = step_up x ∙ ap (λ o. option_or o (first_among A (above x))) none in
        subst (λ l. Going l stack' whole) (sym k.marked) (subst (λ l. Going (slice_set seen x true) l whole) (sym (k.longer ∙ ap (λ l. l ++ rest) up)) (record {
          total = among_join A (above x) rest ∙ sym (ap (λ o. option_or o (first_among A rest)) on) ∙ g'.total;
          fronts = λ c s. elim (marked_at seen x c s) [
            | inl same ↦ record { front = above x; back = rest; split = refl; beneath = ap (λ w. list_all (λ u. nat_lt (rank u) (rank w)) (above x)) same ∙ lower x; same = sym on ∙ ap A (sym same) }
            | inr old ↦ without x (above x) rest c on (inl (lower x)) (g'.fronts c old)
          ];
          size = set_size seen x true ∙ g.size;
        }))

-- ---- each step is one of so many

abbrev pub weight : (ℕ → ℕ) → ℕ → List Bool → ℕ
weight deg at [] = 0
weight deg at (true ∷ bs) = weight deg (suc at) bs
weight deg at (false ∷ bs) = deg at + weight deg (suc at) bs

pub weight_set : (deg : ℕ → ℕ) (at x : ℕ) (l : List Bool) → x < length l → slice_index_or l x false ≡ false → weight deg at (slice_set l x true) + deg (at + x) ≡ weight deg at l
weight_set deg at x [] lt e = absurd (omega (arith, lt))
weight_set deg at zero (true ∷ bs) lt e = absurd (true≢false e)
weight_set deg at zero (false ∷ bs) lt e = let z : deg (at + 0) ≡ deg at = ap deg (omega arith) in omega (arith, z)
weight_set deg at (suc x) (true ∷ bs) lt e = let h = weight_set deg (suc at) x bs (omega (arith, lt)) e in let z : deg (at + suc x) ≡ deg (suc at + x) = ap deg (omega arith) in omega (arith, h, z)
weight_set deg at (suc x) (false ∷ bs) lt e = let h = weight_set deg (suc at) x bs (omega (arith, lt)) e in let z : deg (at + suc x) ≡ deg (suc at + x) = ap deg (omega arith) in omega (arith, h, z)

pub fewer : (deg : ℕ → ℕ) (seen seen' : List Bool) (stack rest stack' ups : List ℕ) (x : ℕ) (found r : Option ℕ) → stack ≡ x ∷ rest → length ups ≡ deg x → r ≡ None → Visits seen rest x found ups seen' stack' r
    → weight deg 0 seen' + length stack' < weight deg 0 seen + length stack
fewer deg seen seen' stack rest stack' ups x found r e d none (inl k) =
    let w : weight deg 0 seen' ≡ weight deg 0 seen = ap (weight deg 0) k.same in
    let l : length stack' ≡ length rest = ap length k.rest in
    let m : length stack ≡ suc (length rest) = ap length e in
    omega (arith, w, l, m)
fewer deg seen seen' stack rest stack' ups x found r e d none (inr (inl k)) = let z : None ≡ Some k.place = sym none ∙ k.is in cc
fewer deg seen seen' stack rest stack' ups x found r e d none (inr (inr k)) =
    let w : weight deg 0 seen' ≡ weight deg 0 (slice_set seen x true) = ap (weight deg 0) k.marked in
    let v : weight deg 0 (slice_set seen x true) + deg (0 + x) ≡ weight deg 0 seen = weight_set deg 0 x seen k.short k.new in
    let z : deg (0 + x) ≡ deg x = ap deg (omega arith) in
    let l : length stack' ≡ length ups + length rest = ap length k.longer ∙ length-append ups rest in
    let m : length stack ≡ suc (length rest) = ap length e in
    omega (arith, w, v, z, l, m, d)
