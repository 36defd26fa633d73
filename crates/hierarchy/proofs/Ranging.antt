-- The ranges of the numbers of those under each class, along an order of the classes from its end.
use Rattle.std.proofs.Common.{◌≡◌, ℕ, zero, suc, ◌+◌, ◌<◌, ◌≤◌, inl, inr, true, List, [], ◌∷◌, length, replicate, slice_index, Some, None, refl, sym, ap, subst, ◌∙◌, arith}
use Rattle.std.proofs.lemmas.Option.{slice_get_past}
use Rattle.std.specs.Prelude.{◌||◌, slice_get, slice_set, option_and_then}
use Rattle.std.specs.List.{list_any}
use Rattle.program_model.specs.declared.program.Program.{Program}
use Rattle.program_model.specs.Lookups.{class_place}
use Rattle.class_defs.specs.Places.{placed, listed, above_places, is_under}
use Rattle.class_defs.proofs.Positions.{same_test}
use Rattle.hierarchy.specs.declared.ranges.Range.{Range}
use Rattle.hierarchy.specs.Climbing.{In, ups}
use Rattle.hierarchy.specs.Tables.{row_of}
use Rattle.hierarchy.specs.Touring.{in_range, in_ranges, ranges_or_empty, ranges_of, IsRising, IsNumbering, IsRanged, HasRanges, Leads}
use Rattle.hierarchy.proofs.Keyed.{got_short}
use Rattle.hierarchy.proofs.Above.{or_right}
use Rattle.hierarchy.proofs.Joined.{range_has, has_range, or_cases, or_first}
use Rattle.hierarchy.proofs.Linked.{got_set_here, got_set_other, set_length, or_same, or_short}
use Rattle.hierarchy.proofs.Under.{passes, passed, under_self, under_more, under_last, ups_above, above_ups}

pub index_of_get : (xs : List ℕ) (i x : ℕ) → slice_get xs i ≡ Some x → slice_index xs i ≡ x
index_of_get [] i x e = cc
index_of_get (y ∷ ys) zero x e = cc
index_of_get (y ∷ ys) (suc i) x e = index_of_get ys i x e

-- ---- numbers

module _ (n : ℕ) (numbers places : List ℕ) (b : IsNumbering n numbers places) where
  pub number_short : (c : ℕ) → c < n → slice_index numbers c < n
  number_short c l = let s = got_short places (slice_index numbers c) c (b.back c l) in let z = b.same in omega (arith, s, z)

  pub place_short : (k : ℕ) → k < n → slice_index places k < n
  place_short k l = let s = got_short numbers (slice_index places k) k (b.forth k l) in let z = b.size in omega (arith, s, z)

  pub place_of_number : (c : ℕ) → c < n → slice_index places (slice_index numbers c) ≡ c
  place_of_number c l = index_of_get places (slice_index numbers c) c (b.back c l)

  pub number_of_place : (k : ℕ) → k < n → slice_index numbers (slice_index places k) ≡ k
  number_of_place k l = index_of_get numbers (slice_index places k) k (b.forth k l)

-- ---- a class that stands below another is there

pub above_class : (p : Program) (c u : ℕ) → In u (above_places p c) → c < length p.classes
above_class p c u i = elim (or_short c (length p.classes)) [ inl l ↦ l | inr h ↦ absurd (none (slice_get_past p.classes c (past c (length p.classes) h)) i) ]
  where
    past : (a b : ℕ) → (a < b → ⊥) → b ≤ a
    past a zero h = omega arith
    past zero (suc b) h = absurd (h (omega arith))
    past (suc a) (suc b) h = let l = past a b (λ l. h (omega (arith, l))) in omega (arith, l)

    none : slice_get p.classes c ≡ None → In u (above_places p c) → ⊥
    none e j = subst (λ o. In u (placed (option_and_then (λ k. class_place p k.superclass) o) (listed p o))) e j

-- ---- a table that is filled from the end of an order

pub record RangesFrom (p : Program) (places order : List ℕ) (table : List (List Range)) (at : ℕ) : Type 0 where
  pub size : length table ≡ length p.classes
  pub rising : (d : ℕ) → IsRising (ranges_of table d)
  pub are : (j d : ℕ) → at ≤ j → slice_get order j ≡ Some d → IsRanged p places d (ranges_of table d)

rising_none : (row : List Range) → row ≡ [] → IsRising row
rising_none row e = subst IsRising (sym e) (record { firsts = λ i j d l s. absurd (omega (arith, s)); ends = λ i j d l s. absurd (omega (arith, s)) })

abbrev empties : ℕ → List (List Range)
empties n = replicate n []

empties_length : (n : ℕ) → length (empties n) ≡ n
empties_length zero = refl
empties_length (suc n) = ap suc (empties_length n)

no_ranges : (n d : ℕ) → ranges_of (empties n) d ≡ []
no_ranges zero d = refl
no_ranges (suc n) zero = refl
no_ranges (suc n) (suc d) = no_ranges n d

module _ (p : Program) (supers : List ℕ) (rows lower : List (List ℕ)) (order numbers places : List ℕ) (s : Leads p supers rows lower order numbers places) where
  pub ranges_none : (table : List (List Range)) (at : ℕ) → table ≡ replicate (length numbers) [] → length order ≤ at → RangesFrom p places order table at
  ranges_none table at e l = record {
    size = ap length e ∙ empties_length (length numbers) ∙ s.numbered.size;
    rising = λ d. rising_none (ranges_of table d) (ap (λ t. ranges_of t d) e ∙ no_ranges (length numbers) d);
    are = λ j d a f. absurd (let z = got_short order j d f in omega (arith, z, a, l));
  }

  -- the ranges of a class, by those directly below it
  module _ (table : List (List Range)) (at d : ℕ) (own : Range) (row : List Range) (here : slice_get order at ≡ Some d) (first : own.first ≡ slice_index numbers d) (end : own.end ≡ slice_index numbers d + 1)
      (is : (k : ℕ) → in_ranges k row ≡ (in_range k own || list_any (λ e. in_ranges k (ranges_of table e)) (row_of lower d))) (f : RangesFrom p places order table (at + 1)) where
    d_short : d < length p.classes
    d_short = let l = s.ordered.short at d here in let z = s.long in omega (arith, l, z)

    -- a class directly below is behind, so its ranges are known
    lower_are : (e : ℕ) → e < length p.classes → In d (ups supers rows e) → IsRanged p places e (ranges_of table e)
    lower_are e l i =
        let a = s.ordered.all e (let z = s.long in omega (arith, l, z)) in
        let b = s.ordered.behind a.at e d a.is i (let z = s.long in omega (arith, d_short, z)) in
        let same : b.at ≡ at = s.ordered.once b.at at d b.is here in
        f.are a.at e (let z = b.before in omega (arith, z, same)) a.is

    sound : (k : ℕ) → in_ranges k row ≡ true → (k < length p.classes) × (is_under p (slice_index places k) d ≡ true)
    sound k e = elim (or_cases (in_range k own) (list_any (λ e. in_ranges k (ranges_of table e)) (row_of lower d)) (sym (is k) ∙ e)) [
      | inl h ↦ (
          let r = range_has k own h in
          let low = r.0 in
          let high = r.1 in
          let same : k ≡ slice_index numbers d = omega (arith, low, high, first, end) in
          let short = number_short (length p.classes) numbers places s.numbered d d_short in
          (omega (arith, same, short), under_self p s.ranked (slice_index places k) d (ap (slice_index places) same ∙ place_of_number (length p.classes) numbers places s.numbered d d_short))
          )
      | inr h ↦ (
          let q = passes (λ e. in_ranges k (ranges_of table e)) (row_of lower d) h in
          let w = s.below.down d q.one q.there in
          let l : q.one < length p.classes = (let a = w.1 in let z = s.long in omega (arith, a, z)) in
          let r = (lower_are q.one l w.0).sound k q.is in
          (r.0, under_more p s.ranked (slice_index places k) q.one d (place_short (length p.classes) numbers places s.numbered k r.0) r.1 (ups_above p supers rows s.supers_are s.lists_are q.one d w.0))
          )
    ]

    complete : (k : ℕ) → k < length p.classes → is_under p (slice_index places k) d ≡ true → in_ranges k row ≡ true
    complete k l u = is k ∙ elim (under_last p s.ranked (slice_index places k) d (place_short (length p.classes) numbers places s.numbered k l) u) [
      | inl same ↦ (
          let e : slice_index numbers d ≡ k = ap (slice_index numbers) (sym same) ∙ number_of_place (length p.classes) numbers places s.numbered k l in
          or_first (in_range k own) (list_any (λ e. in_ranges k (ranges_of table e)) (row_of lower d)) (has_range k own (omega (arith, e, first)) (omega (arith, e, end)))
          )
      | inr b ↦ (
          let short = above_class p b.one d b.there in
          let i = above_ups p supers rows s.supers_are s.lists_are b.one d b.there in
          or_right (in_range k own) (list_any (λ e. in_ranges k (ranges_of table e)) (row_of lower d))
          (passed (λ e. in_ranges k (ranges_of table e)) (row_of lower d) b.one
          (s.below.up d b.one (let z = s.long in omega (arith, d_short, z)) (let z = s.long in omega (arith, short, z)) i)
          ((lower_are b.one short i).complete k l b.under))
          )
    ]

    pub ranges_more : (more : List (List Range)) → IsRising row → more ≡ slice_set table d row → RangesFrom p places order more at
    ranges_more more up set = record {
      size = ap length set ∙ set_length table d row ∙ f.size;
      rising = λ e. subst (λ t. IsRising (ranges_of t e)) (sym set) (elim (or_same e d) [
        | inl same ↦ subst IsRising (sym (ap (ranges_of (slice_set table d row)) same ∙ here_row)) up
        | inr other ↦ subst IsRising (sym (ap ranges_or_empty (got_set_other table d e row other))) (f.rising e)
      ]);
      are = λ j e l g. subst (λ t. IsRanged p places e (ranges_of t e)) (sym set) (elim (or_same e d) [
        | inl same ↦ subst (λ x. IsRanged p places x (ranges_of (slice_set table d row) x)) (sym same) (subst (IsRanged p places d) (sym here_row) (record { sound = sound; complete = complete }))
        | inr other ↦ subst (IsRanged p places e) (sym (ap ranges_or_empty (got_set_other table d e row other))) (f.are j e (later j e l g other) g)
      ]);
    }
      where
        here_row : ranges_of (slice_set table d row) d ≡ row
        here_row = ap ranges_or_empty (got_set_here table d row (let z = f.size in omega (arith, d_short, z)))

        later : (j e : ℕ) → at ≤ j → slice_get order j ≡ Some e → (e ≡ d → ⊥) → at + 1 ≤ j
        later j e l g other = elim (or_same j at) [
          | inl same ↦ absurd (other (let q : Some e ≡ Some d = sym g ∙ ap (slice_get order) same ∙ here in cc))
          | inr apart ↦ apart_more j at l apart
        ]
          where
            apart_more : (j at : ℕ) → at ≤ j → (j ≡ at → ⊥) → at + 1 ≤ j
            apart_more zero zero l h = absurd (h refl)
            apart_more zero (suc at) l h = absurd (omega (arith, l))
            apart_more (suc j) zero l h = omega arith
            apart_more (suc j) (suc at) l h = let r = apart_more j at (omega (arith, l)) (λ e. h (ap suc e)) in omega (arith, r)

  pub ranges_all : (table : List (List Range)) → RangesFrom p places order table 0 → HasRanges p places table
  ranges_all table f = record {
    rising = f.rising;
    are = λ d l. let a = s.ordered.all d (let z = s.long in omega (arith, l, z)) in f.are a.at d (omega arith) a.is;
  }

-- ---- what the ranges say

pub ranged_test : (p : Program) (numbers places : List ℕ) (rows : List (List Range)) (lower upper number : ℕ) → IsNumbering (length p.classes) numbers places → HasRanges p places rows → lower < length p.classes → upper < length p.classes
    → number ≡ slice_index numbers lower → in_ranges number (ranges_of rows upper) ≡ is_under p lower upper
ranged_test p numbers places rows lower upper number b h l u e =
    let r = h.are upper u in
    let short : number < length p.classes = (let z = number_short (length p.classes) numbers places b lower l in omega (arith, z, e)) in
    let same : slice_index places number ≡ lower = ap (slice_index places) e ∙ place_of_number (length p.classes) numbers places b lower l in
    same_test (in_ranges number (ranges_of rows upper)) (is_under p lower upper) (λ f. ap (λ c. is_under p c upper) (sym same) ∙ (r.sound number f).1) (λ f. r.complete number short (ap (λ c. is_under p c upper) same ∙ f))
