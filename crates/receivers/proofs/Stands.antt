-- What stands under a type by the program's own lists: by the rows of the classes that list it, and on the way down.
use Rattle.std.proofs.Common.{◌≡◌, inl, inr, ℕ, ◌<◌, true, false, true≢false, nat_eq, List, length, Option, Some, None, refl, sym, ap, ◌∙◌, subst, arith}
use Rattle.std.specs.Prelude.{◌&&◌, slice_get}
use Rattle.std.specs.List.{list_any, range_with_len}
use Rattle.lemmas.proofs.Bools.{and_left, and_right, and_both, or_left, or_right, or_cases}
use Rattle.program_model.specs.declared.program.Class.{Class}
use Rattle.program_model.specs.declared.program.Program.{Program}
use Rattle.program_model.specs.Lookups.{class_place}
use Rattle.class_defs.specs.Places.{is_under}
use Rattle.class_defs.proofs.Positions.{same_test, number_of, number_test}
use Rattle.hierarchy.specs.Climbing.{In}
use Rattle.hierarchy.specs.Ranks.{IsRanked}
use Rattle.hierarchy.specs.Tables.{row_of}
use Rattle.receivers.specs.Listing.{ListsKind, AreListed}
use Rattle.receivers.specs.Receiving.{lists, lists_above, under_place, stands_under}
use Rattle.receivers.proofs.Ranges.{numbers_in, in_numbers}
use Rattle.receivers.proofs.Walks.{any_of, of_any, under_on}

-- ---- rows

in_interfaces : (ks : List ℕ) (kind : ℕ) → In kind ks → list_any (λ k. nat_eq k kind) ks ≡ true
in_interfaces ks kind i = of_any (λ k. nat_eq k kind) ks kind i (number_test kind kind refl)

interfaces_in : (ks : List ℕ) (kind : ℕ) → list_any (λ k. nat_eq k kind) ks ≡ true → In kind ks
interfaces_in ks kind e = let x = any_of (λ k. nat_eq k kind) ks e in subst (λ k. In k ks) (number_of x.at kind x.is) x.there

lists_kind : (cs : List Class) (place kind : ℕ) → ListsKind cs place kind → lists (slice_get cs place) kind ≡ true
lists_kind cs place kind h = ap (λ o. lists o kind) h.there ∙ elim h.lists [
  | inl e ↦ or_left (nat_eq h.class.superclass kind) (list_any (λ k. nat_eq k kind) h.class.interfaces) (number_test h.class.superclass kind (sym e))
  | inr i ↦ or_right (nat_eq h.class.superclass kind) (list_any (λ k. nat_eq k kind) h.class.interfaces) (in_interfaces h.class.interfaces kind i)
]

kind_listed : (cs : List Class) (place kind : ℕ) → lists (slice_get cs place) kind ≡ true → ListsKind cs place kind
kind_listed cs place kind e = by (slice_get cs place) refl e
  where
    by : (o : Option Class) → slice_get cs place ≡ o → lists o kind ≡ true → ListsKind cs place kind
    by None i f = absurd (true≢false (sym f))
    by (Some c) i f = record {
      class = c;
      there = i;
      lists = elim (or_cases (nat_eq c.superclass kind) (list_any (λ k. nat_eq k kind) c.interfaces) f) [
        | inl g ↦ inl (sym (number_of c.superclass kind g))
        | inr g ↦ inr (interfaces_in c.interfaces kind g)
      ];
    }

-- under one of the classes of a row is under one that lists the type
pub rows_above : (p : Program) (rows : List (List ℕ)) (class kind : ℕ) → AreListed p.classes (length p.types) rows (length p.classes) → kind < length p.types
    → list_any (is_under p class) (row_of rows kind) ≡ lists_above p class kind
rows_above p rows class kind a l = same_test (list_any (is_under p class) (row_of rows kind)) (lists_above p class kind) there back
  where
    there : list_any (is_under p class) (row_of rows kind) ≡ true → lists_above p class kind ≡ true
    there e =
        let x = any_of (is_under p class) (row_of rows kind) e in
        let o = a.only kind x.at x.there in
        let m = o.1 in
        of_any (λ d. is_under p class d && lists (slice_get p.classes d) kind) (range_with_len 0 (length p.classes)) x.at
        (numbers_in 0 (length p.classes) x.at (omega arith) (omega (arith, m))) (and_both (is_under p class x.at) (lists (slice_get p.classes x.at) kind) x.is (lists_kind p.classes x.at kind o.0))

    back : lists_above p class kind ≡ true → list_any (is_under p class) (row_of rows kind) ≡ true
    back e =
        let x = any_of (λ d. is_under p class d && lists (slice_get p.classes d) kind) (range_with_len 0 (length p.classes)) e in
        let n = (in_numbers 0 (length p.classes) x.at x.there).1 in
        of_any (is_under p class) (row_of rows kind) x.at
        (a.all kind x.at l (omega (arith, n)) (kind_listed p.classes x.at kind (and_right (is_under p class x.at) (lists (slice_get p.classes x.at) kind) x.is)))
        (and_left (is_under p class x.at) (lists (slice_get p.classes x.at) kind) x.is)

-- ---- down

pub stands_down : (p : Program) (r : IsRanked p) (low class kind : ℕ) → is_under p low class ≡ true → stands_under p class kind ≡ true → stands_under p low kind ≡ true
stands_down p r low class kind u e = by (class_place p kind) e
  where
    by : (o : Option ℕ) → under_place p class kind o ≡ true → under_place p low kind o ≡ true
    by (Some upper) f = under_on p r low class upper u f
    by None f =
        let x = any_of (λ d. is_under p class d && lists (slice_get p.classes d) kind) (range_with_len 0 (length p.classes)) f in
        of_any (λ d. is_under p low d && lists (slice_get p.classes d) kind) (range_with_len 0 (length p.classes)) x.at x.there
        (and_both (is_under p low x.at) (lists (slice_get p.classes x.at) kind)
        (under_on p r low class x.at u (and_left (is_under p class x.at) (lists (slice_get p.classes x.at) kind) x.is)) (and_right (is_under p class x.at) (lists (slice_get p.classes x.at) kind) x.is))
