-- Numbers that ascend: how many lie below a unit, and where a unit stands.
use Rattle.std.proofs.Common.{◌≡◌, ℕ, zero, suc, ◌≤◌, ◌<◌, ◌+◌, ◌-◌, List, [], ◌∷◌, ◌++◌, length, get_or, refl, sym, ap, subst, ◌∙◌, arith, inl, inr}
use Rattle.std.specs.Prelude.{Bool, true, false, ◌||◌, ◌==◌, cond, nat_lt, nat_le, ◌&&◌, IsTrue, position, Option, Some, None, Result, Ok, Err, if◌then◌else◌}
use Rattle.std.specs.List.{list_any, position_or_len}
use Rattle.std.specs.List.Sorted.{IsBinarySearchResult}
use Rattle.std.specs.Ordering.{nat_cmp}
use Rattle.std.specs.Result.{is_ok}
use Rattle.std.proofs.lemmas.Bool.{and_parts, and_from, leb-true, ltb-true, le-leb, cases_lt, cond-true, cond-false, lt-ltb, le-ltb, eq-eqb, ne_eqb}
use Rattle.std.proofs.lemmas.List.{get_or_append_left, get_or_push, length_push}
use Rattle.std.proofs.lemmas.List.Sums.{position_or_len_is}
use Rattle.std.proofs.lemmas.List.Folds.{list_any_at}
use Rattle.std.proofs.lemmas.List.Sorted.{searched}
use Rattle.code_read.specs.Positions.{rises_in, IsCounted, count_below, position_of}

-- numbers that ascend, from the first of these on and below the second
abbrev pub RisesIn : ℕ → ℕ → List ℕ → Type 0
RisesIn low high [] = Unit {0}
RisesIn low high (x ∷ xs) = (low ≤ x) × (x < high) × RisesIn (suc x) high xs

pub rising : (low high : ℕ) (xs : List ℕ) → IsTrue (rises_in low high xs) → RisesIn low high xs
rising low high [] h = tt
rising low high (x ∷ xs) h =
    let p = and_parts (nat_le low x) (nat_lt x high && rises_in (suc x) high xs) h in
    let q = and_parts (nat_lt x high) (rises_in (suc x) high xs) p.1 in
    (leb-true low x p.0, ltb-true x high q.0, rising (suc x) high xs q.1)

pub risen : (low high : ℕ) (xs : List ℕ) → RisesIn low high xs → IsTrue (rises_in low high xs)
risen low high [] r = refl
risen low high (x ∷ xs) r = and_from (nat_le low x) (nat_lt x high && rises_in (suc x) high xs) (le-leb low x r.0)
    (and_from (nat_lt x high) (rises_in (suc x) high xs) (lt-ltb x high r.1) (risen (suc x) high xs r.2))

pub rises_few : (low high : ℕ) (xs : List ℕ) → RisesIn low high xs → low ≤ high → length xs + low ≤ high
rises_few low high [] r le = omega (arith, le)
rises_few low high (x ∷ xs) r le = omega (arith, r.0, r.1, rises_few (suc x) high xs r.2 (omega (arith, r.1)))

pub rises_wider : (low high least most : ℕ) (xs : List ℕ) → least ≤ low → high ≤ most → RisesIn low high xs → RisesIn least most xs
rises_wider low high least most [] a b r = tt
rises_wider low high least most (x ∷ xs) a b r = (omega (arith, a, r.0), omega (arith, b, r.1), rises_wider (suc x) high (suc x) most xs (omega arith) b r.2)

pub rises_within : (low high : ℕ) (xs : List ℕ) (k : ℕ) → RisesIn low high xs → k < length xs → (low ≤ get_or xs k 0) × (get_or xs k 0 < high)
rises_within low high [] k r lt = absurd (omega (arith, lt))
rises_within low high (x ∷ xs) zero r lt = (r.0, r.1)
rises_within low high (x ∷ xs) (suc k) r lt = let h = rises_within (suc x) high xs k r.2 (omega (arith, lt)) in (omega (arith, h.0, r.0), h.1)

pub rises_strictly : (low high : ℕ) (xs : List ℕ) (i j : ℕ) → RisesIn low high xs → i < j → j < length xs → get_or xs i 0 < get_or xs j 0
rises_strictly low high [] i j r lt inside = absurd (omega (arith, inside))
rises_strictly low high (x ∷ xs) i zero r lt inside = absurd (omega (arith, lt))
rises_strictly low high (x ∷ xs) zero (suc j) r lt inside = (rises_within (suc x) high xs j r.2 (omega (arith, inside))).0
rises_strictly low high (x ∷ xs) (suc i) (suc j) r lt inside = rises_strictly (suc x) high xs i j r.2 (omega (arith, lt)) (omega (arith, inside))

pub rises_weakly : (low high : ℕ) (xs : List ℕ) (i j : ℕ) → RisesIn low high xs → i ≤ j → j < length xs → get_or xs i 0 ≤ get_or xs j 0
rises_weakly low high xs i j r le inside = elim (cases_lt i j) [
  | inl lt ↦ let h = rises_strictly low high xs i j r lt inside in omega (arith, h)
  | inr ge ↦ let e : i ≡ j = omega (arith, le, ge) in subst (λ (k : ℕ). get_or xs i 0 ≤ get_or xs k 0) e (omega arith)
]

-- ---- how many lie below a unit

count_yes : (unit x : ℕ) (xs : List ℕ) → x < unit → count_below unit (x ∷ xs) ≡ suc (count_below unit xs)
count_yes unit x xs lt = cond-true (nat_lt x unit) (suc (count_below unit xs)) 0 (lt-ltb x unit lt)

count_no : (unit x : ℕ) (xs : List ℕ) → unit ≤ x → count_below unit (x ∷ xs) ≡ 0
count_no unit x xs le = cond-false (nat_lt x unit) (suc (count_below unit xs)) 0 (le-ltb x unit le)

pub count_le : (unit : ℕ) (xs : List ℕ) → count_below unit xs ≤ length xs
count_le unit [] = omega arith
count_le unit (x ∷ xs) = elim (cases_lt x unit) [
  | inl lt ↦ omega (arith, count_yes unit x xs lt, count_le unit xs)
  | inr le ↦ omega (arith, count_no unit x xs le)
]

pub count_none : (low high unit : ℕ) (xs : List ℕ) → RisesIn low high xs → unit ≤ low → count_below unit xs ≡ 0
count_none low high unit [] r le = refl
count_none low high unit (x ∷ xs) r le = count_no unit x xs (omega (arith, r.0, le))

pub count_all : (low high unit : ℕ) (xs : List ℕ) → RisesIn low high xs → high ≤ unit → count_below unit xs ≡ length xs
count_all low high unit [] r le = refl
count_all low high unit (x ∷ xs) r le = count_yes unit x xs (omega (arith, r.1, le)) ∙ ap suc (count_all (suc x) high unit xs r.2 le)

below_first : (unit x : ℕ) (xs : List ℕ) (k : ℕ) → ((j : ℕ) → j < count_below unit xs → get_or xs j 0 < unit) → x < unit → k < suc (count_below unit xs) → get_or (x ∷ xs) k 0 < unit
below_first unit x xs zero more below lt = below
below_first unit x xs (suc k) more below lt = more k (omega (arith, lt))

pub below_count : (unit : ℕ) (xs : List ℕ) (k : ℕ) → k < count_below unit xs → get_or xs k 0 < unit
below_count unit [] k lt = absurd (omega (arith, lt))
below_count unit (x ∷ xs) k lt = elim (cases_lt x unit) [
  | inl below ↦ below_first unit x xs k (λ j. below_count unit xs j) below (omega (arith, lt, count_yes unit x xs below))
  | inr above ↦ absurd (omega (arith, lt, count_no unit x xs above))
]

pub at_count : (unit : ℕ) (xs : List ℕ) → count_below unit xs < length xs → unit ≤ get_or xs (count_below unit xs) 0
at_count unit [] lt = absurd (omega (arith, lt))
at_count unit (x ∷ xs) lt = elim (cases_lt x unit) [
  | inl below ↦ let e = count_yes unit x xs below in
      let h = at_count unit xs (omega (arith, lt, e)) in
      subst (λ (n : ℕ). unit ≤ get_or (x ∷ xs) n 0) (sym e) h
  | inr above ↦ subst (λ (n : ℕ). unit ≤ get_or (x ∷ xs) n 0) (sym (count_no unit x xs above)) above
]

-- one unit on
pub one_more : (low high unit : ℕ) (xs : List ℕ) → RisesIn low high xs → count_below unit xs < length xs → get_or xs (count_below unit xs) 0 < suc unit → count_below (suc unit) xs ≡ suc (count_below unit xs)
one_more low high unit [] r lt at = absurd (omega (arith, lt))
one_more low high unit (x ∷ xs) r lt at = elim (cases_lt x unit) [
  | inl below ↦ let e = count_yes unit x xs below in
      let h = one_more (suc x) high unit xs r.2 (omega (arith, lt, e)) (subst (λ (n : ℕ). get_or (x ∷ xs) n 0 < suc unit) e at) in
      count_yes (suc unit) x xs (omega (arith, below)) ∙ ap suc h ∙ ap suc (sym e)
  | inr above ↦ let e = count_no unit x xs above in
      let here : x < suc unit = subst (λ (n : ℕ). get_or (x ∷ xs) n 0 < suc unit) e at in
      count_yes (suc unit) x xs here ∙ ap suc (count_none (suc x) high (suc unit) xs r.2 (omega (arith, above))) ∙ ap suc (sym e)
]

pub no_more : (low high unit : ℕ) (xs : List ℕ) → RisesIn low high xs → (count_below unit xs < length xs → suc unit ≤ get_or xs (count_below unit xs) 0) → count_below (suc unit) xs ≡ count_below unit xs
no_more low high unit [] r at = refl
no_more low high unit (x ∷ xs) r at = elim (cases_lt x unit) [
  | inl below ↦ let e = count_yes unit x xs below in
      let h = no_more (suc x) high unit xs r.2 (λ lt. subst (λ (n : ℕ). suc unit ≤ get_or (x ∷ xs) n 0) e (at (omega (arith, lt, e)))) in
      count_yes (suc unit) x xs (omega (arith, below)) ∙ ap suc h ∙ sym e
  | inr above ↦ let e = count_no unit x xs above in
      let far : suc unit ≤ x = subst (λ (n : ℕ). suc unit ≤ get_or (x ∷ xs) n 0) e (at (omega (arith, e))) in
      count_no (suc unit) x xs far ∙ sym e
]

-- ---- where a unit stands

pub found_at : (xs : List ℕ) (unit : ℕ) → count_below unit xs < length xs → get_or xs (count_below unit xs) 0 ≡ unit → position_of xs unit ≡ Some (count_below unit xs)
found_at xs unit lt at =
    let p = λ (s : ℕ). s == unit in
    let i = count_below unit xs in
    let e : position_or_len p xs ≡ i = position_or_len_is p xs i 0 (omega (arith, lt))
    (λ k below. ne_eqb (get_or xs k 0) unit (λ h. omega (arith, h, below_count unit xs k below)))
    (λ h. eq-eqb (get_or xs i 0) unit at) in
    subst (λ (n : ℕ). cond (nat_lt n (length xs)) (Some n) None ≡ Some i) (sym e) (cond-true (nat_lt i (length xs)) (Some i) None (lt-ltb i (length xs) lt))

apart : (low high : ℕ) (xs : List ℕ) (unit k : ℕ) → RisesIn low high xs → (count_below unit xs < length xs → get_or xs (count_below unit xs) 0 ≡ unit → ⊥) → k < length xs → get_or xs k 0 ≡ unit → ⊥
apart low high xs unit k r never inside at = elim (cases_lt k (count_below unit xs)) [
  | inl below ↦ omega (arith, at, below_count unit xs k below)
  | inr ge ↦ elim (cases_lt (count_below unit xs) k) [
    | inl above ↦ omega (arith, at, at_count unit xs (omega (arith, above, inside)), rises_strictly low high xs (count_below unit xs) k r above inside)
    | inr le ↦ let e : k ≡ count_below unit xs = omega (arith, ge, le) in never (omega (arith, e, inside)) (subst (λ (n : ℕ). get_or xs n 0 ≡ unit) e at)
  ]
]

pub not_found : (low high : ℕ) (xs : List ℕ) (unit : ℕ) → RisesIn low high xs → (count_below unit xs < length xs → get_or xs (count_below unit xs) 0 ≡ unit → ⊥) → position_of xs unit ≡ None
not_found low high xs unit r never =
    let p = λ (s : ℕ). s == unit in
    let e : position_or_len p xs ≡ length xs = position_or_len_is p xs (length xs) 0 (omega arith)
    (λ k below. ne_eqb (get_or xs k 0) unit (apart low high xs unit k r never below))
    (λ h. absurd (omega (arith, h))) in
    subst (λ (n : ℕ). cond (nat_lt n (length xs)) (Some n) None ≡ None) (sym e) (cond-false (nat_lt (length xs) (length xs)) (Some (length xs)) None (le-ltb (length xs) (length xs) (omega arith)))

none_any : (xs : List ℕ) (unit : ℕ) → ((k : ℕ) → k < length xs → get_or xs k 0 ≡ unit → ⊥) → list_any (λ u. u == unit) xs ≡ false
none_any [] unit never = refl
none_any (x ∷ xs) unit never =
    let e : (x == unit) ≡ false = ne_eqb x unit (never 0 (omega arith)) in
    let rest = none_any xs unit (λ k lt. never (suc k) (omega (arith, lt))) in
    ap (λ (b : Bool). b || list_any (λ u. u == unit) xs) e ∙ rest

-- what a binary search finds is there
pub search_finds : (low high : ℕ) (xs : List ℕ) (unit : ℕ) (r : Result ℕ ℕ) → RisesIn low high xs → IsBinarySearchResult (λ y. nat_cmp y unit) xs r → is_ok r ≡ list_any (λ u. u == unit) xs
search_finds low high xs unit (Ok i) rises h =
    let s = searched xs unit (Ok i) h (λ i j le lt. rises_weakly low high xs i j rises le lt) in
    sym (list_any_at (λ u. u == unit) xs i 0 s.0 (eq-eqb (get_or xs i 0) unit s.1))
search_finds low high xs unit (Err i) rises h =
    let s = searched xs unit (Err i) h (λ i j le lt. rises_weakly low high xs i j rises le lt) in
    sym (none_any xs unit (λ k lt at. elim (cases_lt k i) [ inl below ↦ omega (arith, at, s.1 k below) | inr ge ↦ omega (arith, at, s.2 k ge lt) ]))

pub none_past : (low high : ℕ) (xs : List ℕ) (unit : ℕ) → RisesIn low high xs → high ≤ unit → list_any (λ u. u == unit) xs ≡ false
none_past low high xs unit rises le = none_any xs unit (λ k lt at. omega (arith, at, le, (rises_within low high xs k rises lt).1))

-- ---- a table of these numbers

pub next_yes : (xs : List ℕ) (place unit : ℕ) → IsTrue (rises_in 0 4294967296 xs) → place ≡ count_below unit xs → place < length xs → get_or xs place 0 ≤ unit → place + 1 ≡ count_below (suc unit) xs
next_yes xs place unit rise e lt at =
    let inside : count_below unit xs < length xs = omega (arith, e, lt) in
    let low : get_or xs (count_below unit xs) 0 < suc unit = subst (λ (n : ℕ). get_or xs n 0 < suc unit) e (omega (arith, at)) in
    omega (arith, e, one_more 0 4294967296 unit xs (rising 0 4294967296 xs rise) inside low)

pub next_no : (xs : List ℕ) (place unit : ℕ) → IsTrue (rises_in 0 4294967296 xs) → place ≡ count_below unit xs → (place < length xs → unit < get_or xs place 0) → place ≡ count_below (suc unit) xs
next_no xs place unit rise e at =
    let far : count_below unit xs < length xs → suc unit ≤ get_or xs (count_below unit xs) 0 = λ lt. subst (λ (n : ℕ). suc unit ≤ get_or xs n 0) e (omega (arith, at (omega (arith, e, lt)))) in
    e ∙ sym (no_more 0 4294967296 unit xs (rising 0 4294967296 xs rise) far)

counted_more : (starts before : List ℕ) (n : ℕ) → IsCounted starts before → n ≡ count_below (length before) starts → (unit : ℕ) → unit < length before + 1 → get_or (before ++ n ∷ []) unit 0 ≡ count_below unit starts
counted_more starts before n c e unit lt = elim (cases_lt unit (length before)) [
  | inl inside ↦ get_or_append_left before (n ∷ []) 0 unit inside ∙ c.is unit inside
  | inr past ↦ let same : length before ≡ unit = omega (arith, lt, past) in get_or_push before n 0 unit same ∙ e ∙ ap (λ (k : ℕ). count_below k starts) same
]

pub counted_push : (starts before longer : List ℕ) (n : ℕ) → IsCounted starts before → n ≡ count_below (length before) starts → longer ≡ before ++ n ∷ [] → IsCounted starts longer
counted_push starts before longer n c e l = record { is = λ unit lt. rw l (counted_more starts before n c e unit (omega (arith, lt, l, length_push before n, ap length l))) }

pub count_zero : (xs : List ℕ) → 0 ≡ count_below 0 xs
count_zero [] = refl
count_zero (x ∷ xs) = sym (count_no 0 x xs (omega arith))

pub counted_first : (starts before : List ℕ) → before ≡ 0 ∷ [] → IsCounted starts before
counted_first starts before e = counted_push starts [] before 0 (record { is = λ unit lt. absurd (omega (arith, lt)) }) (count_zero starts) e

pub rises_all : (units : ℕ) (xs : List ℕ) → units < 4294967296 → IsTrue (rises_in 0 units xs) → IsTrue (rises_in 0 4294967296 xs)
rises_all units xs lt rise = risen 0 4294967296 xs (rises_wider 0 units 0 4294967296 xs (omega arith) (omega (arith, lt)) (rising 0 units xs rise))

pub count_whole : (units unit : ℕ) (xs : List ℕ) → IsTrue (rises_in 0 units xs) → units < unit → length xs ≡ count_below unit xs
count_whole units unit xs rise le = sym (count_all 0 units unit xs (rising 0 units xs rise) (omega (arith, le)))

pub few_rise : (units : ℕ) (xs : List ℕ) → IsTrue (rises_in 0 units xs) → length xs ≤ units
few_rise units xs rise = omega (arith, rises_few 0 units xs (rising 0 units xs rise) (omega arith))

pub search_in : (units : ℕ) (xs : List ℕ) (unit : ℕ) (r : Result ℕ ℕ) → IsTrue (rises_in 0 units xs) → IsBinarySearchResult (λ y. nat_cmp y unit) xs r → is_ok r ≡ list_any (λ u. u == unit) xs
search_in units xs unit r rise h = search_finds 0 units xs unit r (rising 0 units xs rise) h

pub none_behind : (units : ℕ) (xs : List ℕ) (unit : ℕ) → IsTrue (rises_in 0 units xs) → units ≤ unit → false ≡ list_any (λ u. u == unit) xs
none_behind units xs unit rise le = sym (none_past 0 units xs unit (rising 0 units xs rise) le)

pub not_found_in : (units : ℕ) (xs : List ℕ) (unit place : ℕ) → IsTrue (rises_in 0 units xs) → place ≡ count_below unit xs → (place < length xs → get_or xs place 0 ≡ unit → ⊥) → None ≡ position_of xs unit
not_found_in units xs unit place rise e never = sym (not_found 0 units xs unit (rising 0 units xs rise) (subst (λ (n : ℕ). n < length xs → get_or xs n 0 ≡ unit → ⊥) e never))

pub found_in : (xs : List ℕ) (unit place : ℕ) → place ≡ count_below unit xs → place < length xs → get_or xs place 0 ≡ unit → Some place ≡ position_of xs unit
found_in xs unit place e lt at = ap Some e ∙ sym (found_at xs unit (subst (λ (n : ℕ). n < length xs) e lt) (subst (λ (n : ℕ). get_or xs n 0 ≡ unit) e at))
