-- Values by places.
use Rattle.std.specs.Prelude.{◌≡◌, ℕ, zero, suc, Bool, ◌+◌, ◌<◌, ◌≤◌, ◌^◌, max, List, [], ◌∷◌, ◌++◌, length, slice_index_or, ◌⊎◌, refl}
use Rattle.std.proofs.Common.{sym, ◌∙◌, subst, arith, inl, inr, length-append}
use Rattle.std.proofs.lemmas.Bool.{cases_lt}
use Rattle.std.proofs.lemmas.List.{get_or_append_left, get_or_past}
use Rattle.std.proofs.Math.Seq.{get_or-append_seam}
use Rattle.lattice_core.specs.Laws.{IsUpper, IsWidened}

pub record FitsPlaces {L : Type 0} (items : List L) (low least : L) : Type 0 where
  pub few : length items ≤ 2 ^ 32
  pub low_is : low ≡ least

abbrev pub Below : {L : Type 0} → (L → L → Type 0) → L → List L → List L → Type 0
Below below d xs ys = (k : ℕ) → below (slice_index_or xs k d) (slice_index_or ys k d)

-- the list of f at the first n places
abbrev pub table : {L : Type 0} → (ℕ → L) → ℕ → List L
table f zero = []
table f (suc n) = table f n ++ f n ∷ []

abbrev pub both : {L : Type 0} → (L → L → L) → L → List L → List L → List L
both f d xs ys = table (λ k. f (slice_index_or xs k d) (slice_index_or ys k d)) (max (length xs) (length ys))

-- the sum of f at the first n places
unfoldable pub total : (ℕ → ℕ) → ℕ → ℕ
total f zero = 0
total f (suc n) = total f n + f n

abbrev pub env_rank : {L : Type 0} → (L → ℕ) → L → List L → ℕ
env_rank rank d xs = total (λ k. rank (slice_index_or xs k d)) (2 ^ 32)

pub total_falls : (f g : ℕ → ℕ) (P : ℕ → Type 0) (n : ℕ) → ((k : ℕ) → k < n → g k ≤ f k) → ((k : ℕ) → k < n → P k ⊎ g k < f k)
    → (total g n ≤ total f n) × (((k : ℕ) → k < n → P k) ⊎ total g n < total f n)
unfolding total
total_falls f g P zero le h = (omega arith, inl (λ k lt. absurd (omega arith)))
total_falls f g P (suc n) le h =
    let r = total_falls f g P n (λ k lt. le k (omega arith)) (λ k lt. h k (omega arith)) in
    let here : g n ≤ f n = le n (omega arith) in
    let sum : total g n ≤ total f n = r.0 in
    (omega arith, elim r.1 [ inr less ↦ inr (omega arith) | inl all ↦ elim (h n (omega arith)) [ inr less ↦ inr (omega arith) | inl this ↦ inl (λ k lt. elim (cases_lt k n) [ inl below ↦ all k below | inr above ↦ let e : n ≡ k = omega arith in subst P e this ]) ] ])

pub length-table : {L : Type 0} (f : ℕ → L) (n : ℕ) → length (table f n) ≡ n
length-table f zero = refl
length-table f (suc n) = length-append (table f n) (f n ∷ []) ∙ omega (arith, length-table f n)

pub get_or-table : {L : Type 0} (f : ℕ → L) (n k : ℕ) (d : L) → k < n → slice_index_or (table f n) k d ≡ f k
get_or-table f zero k d lt = absurd (omega arith)
get_or-table f (suc n) k d lt = elim (cases_lt k n) [
  | inl below ↦ get_or_append_left (table f n) (f n ∷ []) d k (omega (arith, length-table f n)) ∙ get_or-table f n k d below
  | inr above ↦
      let e : n ≡ k = omega arith in
      subst (λ i. slice_index_or (table f n ++ f n ∷ []) i d ≡ f i) e (subst (λ i. slice_index_or (table f n ++ f n ∷ []) i d ≡ f n) (length-table f n) (get_or-append_seam (table f n) (f n) [] d))
]

module _ {L : Type 0} (f : L → L → L) (d : L) (xs ys : List L) (k : ℕ) where
  abbrev pub Past : Type 0
  Past = (slice_index_or (both f d xs ys) k d ≡ d) × (slice_index_or xs k d ≡ d) × (slice_index_or ys k d ≡ d)

  pub past_both : max (length xs) (length ys) ≤ k → Past
  past_both above =
      let one : length xs ≤ k = omega arith in
      let two : length ys ≤ k = omega arith in
      (get_or_past _ k d (omega (arith, length-table (λ k. f (slice_index_or xs k d) (slice_index_or ys k d)) (max (length xs) (length ys)))), get_or_past xs k d one, get_or_past ys k d two)

  pub at_both : (slice_index_or (both f d xs ys) k d ≡ f (slice_index_or xs k d) (slice_index_or ys k d)) ⊎ Past
  at_both = elim (cases_lt k (max (length xs) (length ys))) [
    | inl below ↦ inl (get_or-table _ (max (length xs) (length ys)) k d below)
    | inr above ↦ inr (past_both above)
  ]

pub join_least_env : {L : Type 0} (below : L → L → Type 0) (f : L → L → L) (d : L) → ((x : L) → below x x) → ((x y z : L) → below x z → below y z → below (f x y) z)
    → (xs ys zs : List L) → Below below d xs zs → Below below d ys zs → Below below d (both f d xs ys) zs
join_least_env below f d same least xs ys zs h i k = elim (at_both f d xs ys k) [
  | inl e ↦ subst (λ o. below o (slice_index_or zs k d)) (sym e) (least _ _ _ (h k) (i k))
  | inr e ↦ subst (λ o. below o (slice_index_or zs k d)) (e.1 ∙ sym e.0) (h k)
]

-- what a loop over the places of two values has made
pub record Joins {L : Type 0} (below : L → L → Type 0) (f : L → L → L) (d : L) (xs ys : List L) (i : ℕ) (out : List L) : Type 0 where
  pub is : out ≡ table (λ k. f (slice_index_or xs k d) (slice_index_or ys k d)) i
  pub over : (k : ℕ) → k < i → IsUpper below (slice_index_or xs k d) (slice_index_or ys k d) (f (slice_index_or xs k d) (slice_index_or ys k d))

pub record Widens {L : Type 0} (below : L → L → Type 0) (rank : L → ℕ) (exact : Bool) (j f : L → L → L) (d : L) (xs ys : List L) (i : ℕ) : Type 0 where
  pub falls : (k : ℕ) → k < i → IsWidened below rank exact (j (slice_index_or xs k d) (slice_index_or ys k d)) (slice_index_or xs k d) (f (slice_index_or xs k d) (slice_index_or ys k d))
