-- Lists that have each number once.
use Rattle.std.proofs.Common.{◌≡◌, ◌≢◌, ℕ, zero, suc, ◌+◌, ◌<◌, ◌≤◌, ◌⊎◌, inl, inr, Bool, true, false, cond, List, [], ◌∷◌, ◌++◌, length, slice_index, slice_index_or, count_by, get_or, set, replicate, take, drop, All, Contains, refl, sym, ap, ◌∙◌, subst, arith, length-set, get_or-set_other, get_or-set_same}
use Rattle.std.specs.List.{sum_by}
use Rattle.std.proofs.lemmas.Bool.{false≢true}
use Rattle.std.proofs.lemmas.List.{length_push, take_at, get_or_append_left, get_or_push, get_or_default}
use Rattle.std.proofs.lemmas.List.Elements.{All-nil, All-push, All-weaker, All-get_or, All-from_get_or, Contains-push, Contains-append_left}
use Rattle.std.proofs.lemmas.List.Sums.{sum_by-set, sum_by-cons}
use Rattle.std.proofs.lemmas.List.Folds.{sum_by-replicate}
use Rattle.flow_cfg.specs.Listing.{AreDistinct, ListsOnce, Lists, ArePlaces, itself}
use Rattle.flow_cfg.proofs.Nested.{three, at_or_not}

abbrev one : Bool → ℕ
one b = cond (itself b) 1 0

-- ---- one more number

still_marked : (seen : List Bool) (n : ℕ) → n < length seen → (k : ℕ) → slice_index_or seen k false ≡ true → slice_index_or (set seen n true) k false ≡ true
still_marked seen n lt k marked = elim (at_or_not k n) [ inl same ↦ rw (same, get_or-set_same seen n true false lt) refl | inr other ↦ get_or-set_other seen n k true false other ∙ marked ]

marked_more : (seen : List Bool) (order : List ℕ) (n : ℕ) → Lists seen order → (k : ℕ) → slice_index_or (set seen n true) k false ≡ true → Contains (order ++ n ∷ []) k
marked_more seen order n l k marked = elim (at_or_not k n) [
  | inl same ↦ subst (λ (m : ℕ). Contains (order ++ n ∷ []) m) (sym same) (Contains-push order n)
  | inr other ↦ Contains-append_left order (n ∷ []) k (l.marked k (sym (get_or-set_other seen n k true false other) ∙ marked))
]

not_listed : (seen : List Bool) (order : List ℕ) (n : ℕ) → Lists seen order → slice_index_or seen n false ≡ false → (i : ℕ) → i < length order → slice_index order i ≢ n
not_listed seen order n l new i lt same =
    let marked : slice_index_or seen (slice_index order i) false ≡ true = All-get_or (λ m. slice_index_or seen m false ≡ true) order i 0 lt l.kept in
    false≢true (sym new ∙ subst (λ (m : ℕ). slice_index_or seen m false ≡ true) same marked)

once_more : (order : List ℕ) (n : ℕ) → AreDistinct order → ((i : ℕ) → i < length order → slice_index order i ≢ n) → AreDistinct (order ++ n ∷ [])
once_more order n once new i j lt lt' same =
    let long : length (order ++ n ∷ []) ≡ length order + 1 = length_push order n in
    elim (three i (length order)) [
      | inl before ↦ elim before [
        | inl less ↦
            let left : slice_index (order ++ n ∷ []) i ≡ slice_index order i = get_or_append_left order (n ∷ []) 0 i less in
            elim (three j (length order)) [
              | inl also ↦ elim also [
                | inl less' ↦ once i j less less' (sym left ∙ same ∙ get_or_append_left order (n ∷ []) 0 j less')
                | inr at ↦ absurd (new i less (sym left ∙ same ∙ get_or_push order n 0 j (sym at)))
              ]
              | inr past ↦ absurd (omega (arith, past, lt', long))
            ]
        | inr at ↦
            let right : slice_index (order ++ n ∷ []) i ≡ n = get_or_push order n 0 i (sym at) in
            elim (three j (length order)) [
              | inl also ↦ elim also [
                | inl less' ↦ absurd (new j less' (sym (get_or_append_left order (n ∷ []) 0 j less') ∙ sym same ∙ right))
                | inr at' ↦ omega (arith, at, at')
              ]
              | inr past ↦ absurd (omega (arith, past, lt', long))
            ]
      ]
      | inr past ↦ absurd (omega (arith, past, lt, long))
    ]

counted_more : (seen : List Bool) (order : List ℕ) (n : ℕ) → length order ≡ count_by itself seen → n < length seen → slice_index_or seen n false ≡ false → length (order ++ n ∷ []) ≡ count_by itself (set seen n true)
counted_more seen order n counted lt new =
    let none : one (slice_index_or seen n false) ≡ 0 = ap one new in
    let sums : sum_by one (set seen n true) + one (get_or seen n false) ≡ sum_by one seen + 1 = sum_by-set one seen n true false lt in
    omega (arith, length_push order n, counted, none, sums)

pub lists_more : (seen : List Bool) (order : List ℕ) (n : ℕ) → Lists seen order → n < length seen → slice_index_or seen n false ≡ false → Lists (set seen n true) (order ++ n ∷ [])
lists_more seen order n l lt new = record {
  within = rw (length-set seen n true) (All-push (λ k. k < length seen) order n l.within lt);
  marked = marked_more seen order n l;
  kept = All-push (λ k. slice_index_or (set seen n true) k false ≡ true) order n (All-weaker (λ k. slice_index_or seen k false ≡ true) (λ k. slice_index_or (set seen n true) k false ≡ true) (still_marked seen n lt) order l.kept) (get_or-set_same seen n true false lt);
  once = once_more order n l.once (not_listed seen order n l new);
  counted = counted_more seen order n l.counted lt new;
}

-- ---- the loops

pub none_marked : (n k : ℕ) → slice_index_or (replicate n false) k false ≡ false
none_marked zero k = refl
none_marked (suc n) zero = refl
none_marked (suc n) (suc k) = none_marked n k

pub lists_none : (n : ℕ) → Lists (replicate n false) []
lists_none n = record {
  within = All-nil (λ k. k < length (replicate n false));
  marked = λ k marked. absurd (false≢true (sym (none_marked n k) ∙ marked));
  kept = All-nil (λ k. slice_index_or (replicate n false) k false ≡ true);
  once = λ i j lt. absurd (omega (arith, lt));
  counted = omega (arith, sum_by-replicate one n false);
}

-- what is listed so far, where each number below `upto` is
pub record ListsBelow (nodes upto : ℕ) (seen : List Bool) (order : List ℕ) : Type 0 where
  pub long : length seen ≡ nodes
  pub lists : Lists seen order
  pub below : (n : ℕ) → n < upto → slice_index_or seen n false ≡ true

pub below_grown : (nodes upto len : ℕ) (seen slice more : List Bool) (order : List ℕ) → length more ≡ len → slice ≡ seen → length more ≡ nodes → ListsBelow nodes upto seen order → (grown : List ℕ) → Lists more grown → ((n : ℕ) → slice_index_or slice n false ≡ true → slice_index_or more n false ≡ true)
    → ListsBelow nodes upto (take len (more ++ drop (length more) seen)) grown
below_grown nodes upto len seen slice more order whole same long l grown lists stay =
    rw (take_at more (drop (length more) seen) len whole) (let all : ListsBelow nodes upto more grown = record {
      long = long;
      lists = lists;
      below = λ n lt. stay n (subst (λ (s : List Bool). slice_index_or s n false ≡ true) (sym same) (l.below n lt));
    } in all)

below_or_at : (n upto : ℕ) → n < upto + 1 → (n < upto) ⊎ (n ≡ upto)
below_or_at n upto lt = elim (three n upto) [ inl before ↦ before | inr past ↦ absurd (omega (arith, past, lt)) ]

pub below_more : (nodes upto len : ℕ) (seen slice more : List Bool) (order : List ℕ) → length more ≡ len → slice ≡ seen → length more ≡ nodes → ListsBelow nodes upto seen order → (grown : List ℕ) → Lists more grown → ((n : ℕ) → slice_index_or slice n false ≡ true → slice_index_or more n false ≡ true)
    → slice_index_or more upto false ≡ true → ListsBelow nodes (upto + 1) (take len (more ++ drop (length more) seen)) grown
below_more nodes upto len seen slice more order whole same long l grown lists stay here =
    rw (take_at more (drop (length more) seen) len whole) (let all : ListsBelow nodes (upto + 1) more grown = record {
      long = long;
      lists = lists;
      below = λ n lt. elim (below_or_at n upto lt) [ inl less ↦ stay n (subst (λ (s : List Bool). slice_index_or s n false ≡ true) (sym same) (l.below n less)) | inr at ↦ rw at here ];
    } in all)

all_counted : (seen : List Bool) → ((n : ℕ) → n < length seen → slice_index_or seen n false ≡ true) → sum_by one seen ≡ length seen
all_counted [] all = refl
all_counted (false ∷ seen) all = absurd (false≢true (all 0 (omega arith)))
all_counted (true ∷ seen) all = omega (arith, sum_by-cons one true seen, all_counted seen (λ n lt. all (suc n) (omega (arith, lt))))

pub lists_all : (nodes upto : ℕ) (seen : List Bool) (order : List ℕ) → nodes ≤ upto → ListsBelow nodes upto seen order → ListsOnce nodes order
lists_all nodes upto seen order all l = record {
  long = omega (arith, l.lists.counted, all_counted seen (λ n lt. l.below n (omega (arith, lt, l.long, all))), l.long);
  within = subst (λ (m : ℕ). All (λ n. n < m) order) l.long l.lists.within;
  all = λ n lt. l.lists.marked n (l.below n (omega (arith, lt, all)));
  once = l.lists.once;
}

-- ---- places

pub record PlacesSoFar (order places : List ℕ) (place upto : ℕ) : Type 0 where
  pub next : place ≡ upto
  pub long : length places ≡ length order
  pub each : (k : ℕ) → k < upto → slice_index places (slice_index order k) ≡ k

pub places_more : (order places : List ℕ) (place upto : ℕ) → ListsOnce (length order) order → PlacesSoFar order places place upto → upto < length order → PlacesSoFar order (set places (slice_index order upto) place) (place + 1) (upto + 1)
places_more order places place upto o p lt =
    let node : ℕ = slice_index order upto in
    let short : slice_index order upto < length places = omega (arith, p.long, All-get_or (λ n. n < length order) order upto 0 lt o.within) in
    record {
      next = omega (arith, p.next);
      long = length-set places (slice_index order upto) place ∙ p.long;
      each = λ k below. elim (below_or_at k upto below) [
        | inl less ↦ get_or-set_other places (slice_index order upto) (slice_index order k) place 0 (λ same. omega (arith, o.once k upto (omega (arith, less, lt)) lt same, less)) ∙ p.each k less
        | inr at ↦ rw at (get_or-set_same places (slice_index order upto) place 0 short ∙ p.next)
      ];
    }

pub places_all : (order places : List ℕ) (place upto : ℕ) → PlacesSoFar order places place upto → length order ≤ upto → ArePlaces order places
places_all order places place upto p all = λ k lt. p.each k (omega (arith, lt, all))

pub places_within : (order places : List ℕ) → ListsOnce (length order) order → length places ≡ length order → ArePlaces order places → All (λ p. p < length places) places
places_within order places o long p = All-from_get_or (λ p. p < length places) places 0 (λ n lt.
    let found = o.all n (omega (arith, lt, long)) in
    let same : slice_index order found.0 ≡ n = get_or_default order found.0 0 n found.1 ∙ found.2 in
    let at : slice_index places n ≡ found.0 = subst (λ (m : ℕ). slice_index places m ≡ found.0) same (p found.0 found.1) in
    omega (arith, at, found.1, long))
