-- The queue of the positions that wait.
use Rattle.std.proofs.Common.{◌≡◌, ℕ, zero, suc, ◌+◌, ◌<◌, Bool, true, false, List, [], ◌∷◌, set, length, get_or, refl, sym, ap, ◌∙◌, subst, ◌⊎◌, inl, inr, arith, get_or-set_other, get_or-set_same}
use Rattle.std.specs.Prelude.{Contains, slice_index_or}
use Rattle.std.specs.List.{sum_by}
use Rattle.std.specs.List.Sorted.{IsPermutation}
use Rattle.std.proofs.lemmas.Bool.{cases_eq, cases_lt}
use Rattle.std.proofs.lemmas.List.{set_past, set-get_or, get_or_past}
use Rattle.std.proofs.lemmas.List.Elements.{Contains-append_right}
use Rattle.std.proofs.lemmas.List.Sums.{sum_by-set}
use Rattle.std.proofs.lemmas.List.Sorted.{Contains-permutation, length_permutation}
use Rattle.verify.specs.Waiting.{Waits, one_if, Queues}

pub queues_same : (w : List Bool) (q : List ℕ) → Queues w w q q
queues_same w q = record { kept = λ n h. h; queued = λ n h. inl h; counts = refl }

pub queues_on : (w w' w'' : List Bool) (q q' q'' : List ℕ) → Queues w w' q q' → Queues w' w'' q' q'' → Queues w w'' q q''
queues_on w w' w'' q q' q'' a b = record {
  kept = λ n h. b.kept n (a.kept n h);
  queued = λ n h. elim (b.queued n h) [ inr c ↦ inr c | inl x ↦ elim (a.queued n x) [ inl y ↦ inl y | inr c ↦ inr (b.kept n c) ] ];
  counts = omega (arith, a.counts, b.counts);
}

first_in : (x : ℕ) (q : List ℕ) → Contains (x ∷ q) x
first_in x q = (0, omega arith, refl)

pub queues_woken : (w : List Bool) (q q' : List ℕ) (n : ℕ) → n < length w → slice_index_or w n false ≡ false → IsPermutation (n ∷ q) q' → Queues w (set w n true) q q'
queues_woken w q q' n lt off p =
    let s : sum_by one_if (set w n true) + one_if (get_or w n false) ≡ sum_by one_if w + one_if true = sum_by-set one_if w n true false lt in
    let s' : sum_by one_if (set w n true) + 0 ≡ sum_by one_if w + 1 = rw off at s in
    let long : length q' ≡ suc (length q) = length_permutation (n ∷ q) q' p in
    record {
      kept = λ k h. Contains-permutation (n ∷ q) q' k p (Contains-append_right (n ∷ []) q k h);
      queued = λ k h. elim (cases_eq k n) [
        | inl e ↦ inr (Contains-permutation (n ∷ q) q' k p (subst (Contains (n ∷ q)) (sym e) (first_in n q)))
        | inr e ↦ inl (sym (get_or-set_other w n k true false e) ∙ h)
      ];
      counts = omega (arith, s', long);
    }

-- what waits or has no mark is woken already
pub woken_already : (w : List Bool) (n : ℕ) → (n < length w → slice_index_or w n false ≡ true) → set w n true ≡ w
woken_already w n h = elim (cases_lt n (length w)) [
  | inr b ↦ set_past w n true b
  | inl b ↦ ap (λ x. set w n x) (sym (h b)) ∙ set-get_or w n false
]

-- ---- the next position

first_or : (x : ℕ) (q : List ℕ) (n : ℕ) → Contains (x ∷ q) n → (x ≡ n) ⊎ Contains q n
first_or x q n (zero, lt, e) = inl e
first_or x q n (suc k, lt, e) = inr (k, omega (arith), e)

-- a position that is taken waits no more, and what waits stands in the rest
pub taken : (w : List Bool) (v q : List ℕ) (x : ℕ) → IsPermutation v (x ∷ q) → ((n : ℕ) → Waits w n → Contains v n) → (n : ℕ) → Waits (set w x false) n → Contains q n
taken w v q x p h n k = elim (cases_eq n x) [
  | inl e ↦ elim (cases_lt x (length w)) [
    | inl b ↦ let f : false ≡ true = sym (get_or-set_same w x false false b) ∙ subst (Waits (set w x false)) e k in absurd (cc)
    | inr b ↦ let g : Waits w n = subst (λ l. Waits l n) (set_past w x false b) k in
        let f : slice_index_or w n false ≡ false = subst (λ i. slice_index_or w i false ≡ false) (sym e) (get_or_past w x false b) in
        let y : false ≡ true = sym f ∙ g in absurd (cc)
  ]
  | inr e ↦ elim (first_or x q n (Contains-permutation v (x ∷ q) n p (h n (sym (get_or-set_other w x n false false e) ∙ k)))) [ inr c ↦ c | inl s ↦ absurd (e (sym s)) ]
]

pub none_waits : (w : List Bool) (v : List ℕ) → v ≡ [] → ((n : ℕ) → Waits w n → Contains v n) → (n : ℕ) → Waits w n → ⊥
none_waits w v e h n k = let c : Contains [] n = subst (λ l. Contains l n) e (h n k) in absurd (omega (arith, c.1))
