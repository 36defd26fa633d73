-- Rows of ranges: what they have, and how ranges that meet become one.
use Rattle.std.proofs.Common.{◌≡◌, ℕ, zero, suc, ◌+◌, ◌-◌, ◌<◌, ◌≤◌, ◌⊎◌, inl, inr, Bool, true, false, true≢false, List, [], ◌∷◌, ◌++◌, length, take, drop, get_or, Some, Result, Ok, Err, refl, sym, ap, subst, ◌∙◌, arith, leb-true, ltb-true, le-leb, lt-ltb, leb}
use Rattle.std.proofs.lemmas.List.{take_more, drop_more}
use Rattle.std.proofs.lemmas.List.Folds.{list_any-append}
use Rattle.std.proofs.lemmas.List.Sorted.{IsNonDecreasingBy-push}
use Rattle.std.proofs.lemmas.Map.Keys.{any_passes_from_place}
use Rattle.std.specs.Prelude.{IfOk, ◌||◌, nat_le, nat_lt, slice_get, flat_map}
use Rattle.std.specs.List.{list_any}
use Rattle.std.specs.List.Sorted.{IsNonDecreasingBy, IsPartitionPoint}
use Rattle.class_defs.proofs.Positions.{same_test, both}
use Rattle.class_defs.proofs.WellFormed.{and_left, and_right}
use Rattle.hierarchy.specs.declared.ranges.Range.{Range}
use Rattle.hierarchy.specs.Touring.{in_range, in_ranges, IsRising, StartFrom, AddsRange}
use Rattle.hierarchy.proofs.Keyed.{got_short}
use Rattle.hierarchy.proofs.Above.{or_right}

-- ---- one range

pub range_has : (k : ℕ) (r : Range) → in_range k r ≡ true → (r.first ≤ k) × (k < r.end)
range_has k r e = (leb-true r.first k (and_left (nat_le r.first k) (nat_lt k r.end) e), ltb-true k r.end (and_right (nat_le r.first k) (nat_lt k r.end) e))

pub has_range : (k : ℕ) (r : Range) → r.first ≤ k → k < r.end → in_range k r ≡ true
has_range k r l h = both (nat_le r.first k) (nat_lt k r.end) (le-leb r.first k l) (lt-ltb k r.end h)

pub or_cases : (a b : Bool) → (a || b) ≡ true → (a ≡ true) ⊎ (b ≡ true)
or_cases true b e = inl refl
or_cases false b e = inr e

pub or_first : (a b : Bool) → a ≡ true → (a || b) ≡ true
or_first a b e = ap (λ x. x || b) e

-- ---- ranges at places

pub record HasAt (k : ℕ) (rs : List Range) : Type 0 where
  pub place : ℕ
  pub one : Range
  pub is : slice_get rs place ≡ Some one
  pub has : in_range k one ≡ true

pub has_at : (k : ℕ) (rs : List Range) → in_ranges k rs ≡ true → HasAt k rs
has_at k [] e = absurd (true≢false (sym e))
has_at k (r ∷ rs) e = elim (or_cases (in_range k r) (in_ranges k rs) e) [
  | inl h ↦ record { place = 0; one = r; is = refl; has = h }
  | inr h ↦ (let m = has_at k rs h in record { place = suc m.place; one = m.one; is = m.is; has = m.has })
]

at_or : (rs : List Range) (i : ℕ) (x d : Range) → slice_get rs i ≡ Some x → get_or rs i d ≡ x
at_or [] i x d e = cc
at_or (r ∷ rs) zero x d e = cc
at_or (r ∷ rs) (suc i) x d e = at_or rs i x d e

rises_at : (n : Range → ℕ) (rs : List Range) (i j : ℕ) (x y : Range) → IsNonDecreasingBy n rs → slice_get rs i ≡ Some x → slice_get rs j ≡ Some y → i ≤ j → n x ≤ n y
rises_at n rs i j x y up e f l =
    let h = up i j x l (got_short rs j y f) in
    let a : get_or rs i x ≡ x = at_or rs i x x e in
    let b : get_or rs j x ≡ y = at_or rs j y x f in
    subst (λ w. n x ≤ n w) b (subst (λ w. n w ≤ n (get_or rs j x)) a h)

abbrev pub ends_by : ℕ → Range → Bool
ends_by k r = leb r.end k

module _ (row : List Range) (k at : ℕ) (rising : IsRising row) (point : IsPartitionPoint (λ r. ends_by k r ≡ true) (λ r. ends_by k r ≡ false) row at) where
  ends_before : (i : ℕ) (y : Range) → slice_get row i ≡ Some y → i < at → y.end ≤ k
  ends_before i y e l = leb-true y.end k (subst (λ w. ends_by k w ≡ true) (at_or row i y y e) (point.0 i y (omega arith) l))

  behind_at : (i : ℕ) (y : Range) → slice_get row i ≡ Some y → in_range k y ≡ true → i < at → ⊥
  behind_at i y e h l = let b = ends_before i y e l in let c = (range_has k y h).1 in omega (arith, b, c)

  pub found_range : (x : Range) → slice_get row at ≡ Some x → nat_le x.first k ≡ in_ranges k row
  found_range x e = same_test (nat_le x.first k) (in_ranges k row)
      (λ f. any_passes_from_place (in_range k) row at x e (has_range k x (leb-true x.first k f) (not_ended x.end (subst (λ w. ends_by k w ≡ false) (at_or row at x x e) (point.1 at x (omega arith) (got_short row at x e))))))
      (λ f. let h = has_at k row f in
      let l = rises_at (λ r. r.first) row at h.place x h.one rising.firsts e h.is (past h.place (behind_at h.place h.one h.is h.has)) in
      let s = (range_has k h.one h.has).0 in le-leb x.first k (omega (arith, l, s)))
    where
      not_ended : (e : ℕ) → leb e k ≡ false → k < e
      not_ended e f = elim (or_le e k) [ inl l ↦ absurd (true≢false (sym (le-leb e k l) ∙ f)) | inr l ↦ l ]
        where
          or_le : (a b : ℕ) → (a ≤ b) ⊎ (b < a)
          or_le zero b = inl (omega arith)
          or_le (suc a) zero = inr (omega arith)
          or_le (suc a) (suc b) = elim (or_le a b) [ inl l ↦ inl (omega (arith, l)) | inr l ↦ inr (omega (arith, l)) ]

      past : (i : ℕ) → (i < at → ⊥) → at ≤ i
      past i h = elim (or_lt i at) [ inl l ↦ absurd (h l) | inr l ↦ l ]
        where
          or_lt : (a b : ℕ) → (a < b) ⊎ (b ≤ a)
          or_lt a zero = inr (omega arith)
          or_lt zero (suc b) = inl (omega arith)
          or_lt (suc a) (suc b) = elim (or_lt a b) [ inl l ↦ inl (omega (arith, l)) | inr l ↦ inr (omega (arith, l)) ]

  pub no_range : length row ≤ at → false ≡ in_ranges k row
  no_range l = same_test false (in_ranges k row) (λ e. absurd (true≢false (sym e)))
      (λ f. let h = has_at k row f in absurd (behind_at h.place h.one h.is h.has (let s = got_short row h.place h.one h.is in omega (arith, s, l))))

-- ---- ranges in order by their first numbers

pub start_from : (n : ℕ) (rs : List Range) → ((d : Range) → 0 < length rs → n ≤ (get_or rs 0 d).first) → IsNonDecreasingBy (λ r. r.first) rs → StartFrom n rs
start_from n [] h up = tt
start_from n (r ∷ rs) h up = (le-leb n r.first (h r (omega arith)), start_from r.first rs (λ d l. up 0 1 d (omega arith) (omega (arith, l))) (λ i j d l s. up (suc i) (suc j) d (omega (arith, l)) (omega (arith, s))))

start_weaker : (m n : ℕ) (rs : List Range) → m ≤ n → StartFrom n rs → StartFrom m rs
start_weaker m n [] l s = tt
start_weaker m n (r ∷ rs) l s = let a = leb-true n r.first s.0 in (le-leb m r.first (omega (arith, l, a)), s.1)

-- ---- joining

-- the row and the last range have the numbers of the first range and of those that are done
pub record Joined (first : Range) (done row : List Range) (last : Range) : Type 0 where
  pub same : (k : ℕ) → in_ranges k (row ++ last ∷ []) ≡ in_ranges k (first ∷ done)
  pub firsts : IsNonDecreasingBy (λ r. r.first) row
  pub ends : IsNonDecreasingBy (λ r. r.end) row
  pub below_first : (d : Range) → 0 < length row → (get_or row (length row - 1) d).first ≤ last.first
  pub below_end : (d : Range) → 0 < length row → (get_or row (length row - 1) d).end ≤ last.end

pub joined_none : (first last : Range) → last ≡ first → Joined first [] [] last
joined_none first last e = record {
  same = λ k. ap (λ r. in_ranges k (r ∷ [])) e;
  firsts = λ i j d l s. absurd (omega (arith, s));
  ends = λ i j d l s. absurd (omega (arith, s));
  below_first = λ d l. absurd (omega (arith, l));
  below_end = λ d l. absurd (omega (arith, l));
}

last_or : (row : List Range) (y d : Range) → get_or (row ++ y ∷ []) (length (row ++ y ∷ []) - 1) d ≡ y
last_or row y d = ap (λ n. get_or (row ++ y ∷ []) n d) (pushed row) ∙ at_end row
  where
    pushed : (row : List Range) → length (row ++ y ∷ []) - 1 ≡ length row
    pushed [] = refl
    pushed (x ∷ xs) = let e : length (xs ++ y ∷ []) ≡ length xs + 1 = longer xs in omega (arith, e)
      where
        longer : (xs : List Range) → length (xs ++ y ∷ []) ≡ length xs + 1
        longer [] = refl
        longer (x ∷ xs) = let e = longer xs in omega (arith, e)

    at_end : (row : List Range) → get_or (row ++ y ∷ []) (length row) d ≡ y
    at_end [] = refl
    at_end (x ∷ xs) = at_end xs

-- a row with its last range is rising
pub joined_rising : (first : Range) (done row : List Range) (last : Range) → Joined first done row last → IsRising (row ++ last ∷ [])
joined_rising first done row last j = record { firsts = IsNonDecreasingBy-push (λ r. r.first) row last j.firsts j.below_first; ends = IsNonDecreasingBy-push (λ r. r.end) row last j.ends j.below_end }

-- two ranges have the numbers of one
both_in : (k : ℕ) (last range next : Range) → (in_range k last ≡ true → in_range k next ≡ true) → (in_range k range ≡ true → in_range k next ≡ true) → (in_range k next ≡ true → (in_range k last ≡ true) ⊎ (in_range k range ≡ true))
    → (in_range k last || (in_range k range || false)) ≡ (in_range k next || false)
both_in k last range next a b c = same_test (in_range k last || (in_range k range || false)) (in_range k next || false)
    (λ e. or_first (in_range k next) false (elim (or_cases (in_range k last) (in_range k range || false) e) [ inl h ↦ a h | inr h ↦ b (sole (in_range k range) h) ]))
    (λ e. elim (c (sole (in_range k next) e)) [ inl h ↦ or_first (in_range k last) (in_range k range || false) h | inr h ↦ or_right (in_range k last) (in_range k range || false) (or_first (in_range k range) false h) ])
  where
    sole : (b : Bool) → (b || false) ≡ true → b ≡ true
    sole true e = refl
    sole false e = e

or_assoc : (a b c : Bool) → ((a || (b || false)) || c) ≡ (a || (b || c))
or_assoc true b c = refl
or_assoc false true c = refl
or_assoc false false c = refl

or_le : (a b : ℕ) → (a < b) ⊎ (b ≤ a)
or_le a zero = inr (omega arith)
or_le zero (suc b) = inl (omega arith)
or_le (suc a) (suc b) = elim (or_le a b) [ inl l ↦ inl (omega (arith, l)) | inr l ↦ inr (omega (arith, l)) ]

module _ (first : Range) (done row : List Range) (last range : Range) (j : Joined first done row last) (start : last.first ≤ range.first) where
  -- all that is in the row, in the last range and in the new one
  all_of : (k : ℕ) → in_ranges k (first ∷ (done ++ range ∷ [])) ≡ (in_ranges k row || (in_range k last || (in_range k range || false)))
  all_of k = list_any-append (in_range k) (first ∷ done) (range ∷ [])
      ∙ ap (λ b. b || (in_range k range || false)) (sym (j.same k) ∙ list_any-append (in_range k) row (last ∷ []))
      ∙ or_assoc (in_ranges k row) (in_range k last) (in_range k range || false)

  kept : (next : Range) → next.first ≡ last.first → last.end ≤ next.end → ((k : ℕ) → (in_range k last || (in_range k range || false)) ≡ (in_range k next || false)) → Joined first (done ++ range ∷ []) row next
  kept next f l s = record {
    same = λ k. list_any-append (in_range k) row (next ∷ []) ∙ ap (λ b. in_ranges k row || b) (sym (s k)) ∙ sym (all_of k);
    firsts = j.firsts;
    ends = j.ends;
    below_first = λ d z. let b = j.below_first d z in omega (arith, b, f);
    below_end = λ d z. let b = j.below_end d z in omega (arith, b, l);
  }

  longer : last.end < range.end → Joined first (done ++ range ∷ []) (row ++ last ∷ []) range
  longer l = record {
    same = λ k. list_any-append (in_range k) (row ++ last ∷ []) (range ∷ []) ∙ ap (λ b. b || (in_range k range || false)) (j.same k) ∙ sym (list_any-append (in_range k) (first ∷ done) (range ∷ []));
    firsts = (joined_rising first done row last j).firsts;
    ends = (joined_rising first done row last j).ends;
    below_first = λ d z. let e : (get_or (row ++ last ∷ []) (length (row ++ last ∷ []) - 1) d).first ≡ last.first = ap (λ r. r.first) (last_or row last d) in omega (arith, e, start);
    below_end = λ d z. let e : (get_or (row ++ last ∷ []) (length (row ++ last ∷ []) - 1) d).end ≡ last.end = ap (λ r. r.end) (last_or row last d) in omega (arith, e, l);
  }

  within : (k : ℕ) → range.end ≤ last.end → (in_range k last || (in_range k range || false)) ≡ (in_range k last || false)
  within k l = both_in k last range last (λ h. h) (λ h. let r = range_has k range h in let a = r.0 in let b = r.1 in has_range k last (omega (arith, a, start)) (omega (arith, b, l))) (λ h. inl h)

  lengthened : (k : ℕ) (next : Range) → next.first ≡ last.first → next.end ≡ range.end → last.end < range.end → range.first ≤ last.end → (in_range k last || (in_range k range || false)) ≡ (in_range k next || false)
  lengthened k next f e l m = both_in k last range next
      (λ h. let r = range_has k last h in let a = r.0 in let b = r.1 in has_range k next (omega (arith, a, f)) (omega (arith, b, l, e)))
      (λ h. let r = range_has k range h in let a = r.0 in let b = r.1 in has_range k next (omega (arith, a, f, start)) (omega (arith, b, e)))
      (λ h. let r = range_has k next h in let a = r.0 in let b = r.1 in elim (or_le k last.end) [
        | inl s ↦ inl (has_range k last (omega (arith, a, f)) s)
        | inr s ↦ inr (has_range k range (omega (arith, s, m)) (omega (arith, b, e)))
      ])

  pub joined_more : (row' : List Range) (next : Range) → AddsRange row last range row' next → Joined first (done ++ range ∷ []) row' next × (next.first ≤ range.first)
  joined_more row' next (inl w) =
      let ends = w.ends in
      let is = w.is in
      (subst (λ r. Joined first (done ++ range ∷ []) r next) (sym w.same) (subst (Joined first (done ++ range ∷ []) row) (sym is) (kept last refl (omega arith) (λ k. within k ends))), subst (λ r. r.first ≤ range.first) (sym is) start)
  joined_more row' next (inr (inl w)) =
      let ends = w.ends in
      let f = w.first in
      let e = w.end in
      (subst (λ r. Joined first (done ++ range ∷ []) r next) (sym w.same) (kept next f (omega (arith, ends, e)) (λ k. lengthened k next f e ends w.meets)), omega (arith, f, start))
  joined_more row' next (inr (inr w)) =
      let ends = w.ends in
      (subst (λ r. Joined first (done ++ range ∷ []) r next) (sym w.longer) (subst (Joined first (done ++ range ∷ []) (row ++ last ∷ [])) (sym w.is) (longer ends)), subst (λ r. r.first ≤ range.first) (sym w.is) (omega arith))

-- one range more of a list
pub joined_step : (first : Range) (others row row' : List Range) (last range next : Range) (i : ℕ) → i < length others → ((d : Range) → get_or others i d ≡ range) → AddsRange row last range row' next
    → StartFrom last.first (drop i others) → Joined first (take i others) row last → StartFrom next.first (drop (i + 1) others) × Joined first (take (i + 1) others) row' next
joined_step first others row row' last range next i l is a s j =
    let e : drop i others ≡ range ∷ drop (i + 1) others = drop_more others i range l ∙ ap (λ r. r ∷ drop (i + 1) others) (is range) in
    let t : StartFrom last.first (range ∷ drop (i + 1) others) = subst (StartFrom last.first) e s in
    let m = joined_more first (take i others) row last range j (leb-true last.first range.first t.0) row' next a in (
      start_weaker next.first range.first (drop (i + 1) others) m.1 t.1,
      subst (λ w. Joined first w row' next) (sym (take_more others i range l ∙ ap (λ r. take i others ++ r ∷ []) (is range))) m.0,
    )

-- ---- the ranges of several rows

pub any_flat : (k : ℕ) (f : ℕ → List Range) (ds : List ℕ) → in_ranges k (flat_map f ds) ≡ list_any (λ d. in_ranges k (f d)) ds
any_flat k f [] = refl
any_flat k f (d ∷ ds) = list_any-append (in_range k) (f d) (flat_map f ds) ∙ ap (λ b. in_ranges k (f d) || b) (any_flat k f ds)

pub ok_same : {E : Type 0} (r : Result (List Range) E) (list : List Range) (test : ℕ → Bool) → IfOk r (λ row. (k : ℕ) → in_ranges k row ≡ in_ranges k list) → ((k : ℕ) → in_ranges k list ≡ test k) → IfOk r (λ row. (k : ℕ) → in_ranges k row ≡ test k)
ok_same (Err e) list test h s = h
ok_same (Ok row) list test h s = λ k. h k ∙ s k
