-- The queue of the nodes to visit.
use Rattle.std.proofs.Common.{◌≡◌, ℕ, zero, suc, ◌+◌, ◌<◌, Bool, true, false, List, [], ◌∷◌, ◌++◌, length, refl, sym, ap, ◌∙◌, subst, ◌⊎◌, inl, inr, arith, length-append, get_or-set_other, get_or-set_same}
use Rattle.std.specs.Prelude.{All, Contains, slice_index_or}
use Rattle.std.specs.List.{sum_by}
use Rattle.std.proofs.Math.ListN.{set}
use Rattle.std.proofs.lemmas.Bool.{cases_eq, cases_lt}
use Rattle.std.proofs.lemmas.List.Elements.{All-push, All-weaker, All-contains, All-contains_itself, Contains-append_left, Contains-append_right, Contains-push}
use Rattle.fixpoint.specs.Graph.{Graph}
use Rattle.fixpoint.specs.Rising.{Waits, Queues}

module _ {S : Type 0} (rank : S → ℕ) (g : Graph S) where
  pub queues_on : (t t' t'' : List S) (w w' w'' : List Bool) (q q' q'' : List ℕ) → Queues rank g t w q t' w' q' → Queues rank g t' w' q' t'' w'' q'' → Queues rank g t w q t'' w'' q''
  queues_on t t' t'' w w' w'' q q' q'' a b = record {
    kept = λ n h. b.kept n (a.kept n h);
    queued = λ n h. elim (b.queued n h) [ inr c ↦ inr c | inl x ↦ elim (a.queued n x) [ inl y ↦ inl y | inr c ↦ inr (b.kept n c) ] ];
    range = λ h. b.range (a.range h);
    falls = omega (arith, a.falls, b.falls);
  }

  pub queues_pushed : (t t' : List S) (w w' : List Bool) (q q' : List ℕ) (e i : ℕ) → i ≡ g.target e → g.target e < g.nodes → w' ≡ set w (g.target e) true → sum_by rank t' < sum_by rank t → q' ≡ q ++ i ∷ [] → Queues rank g t w q t' w' q'
  queues_pushed t t' w w' q q' e i qi lt qw less qq = record {
    kept = λ n h. subst (λ l. Contains l n) (sym qq) (Contains-append_left q (i ∷ []) n h);
    queued = λ n h. elim (cases_eq n (g.target e)) [
      | inl k ↦ inr (subst (λ l. Contains l n) (sym qq) (subst (Contains (q ++ i ∷ [])) (qi ∙ sym k) (Contains-push q i)))
      | inr k ↦ inl (sym (get_or-set_other w (g.target e) n true false k) ∙ subst (λ l. Waits l n) qw h)
    ];
    range = λ h. subst (All (λ n. n < g.nodes)) (sym qq) (All-push (λ n. n < g.nodes) q i h (subst (λ n. n < g.nodes) (sym qi) lt));
    falls = let r = ap length qq in omega (arith, less, r, length-append q (i ∷ []));
  }

-- the first of a queue, or one behind it
first_or : (x : ℕ) (q : List ℕ) (n : ℕ) → Contains (x ∷ q) n → (x ≡ n) ⊎ Contains q n
first_or x q n (zero, lt, e) = inl e
first_or x q n (suc k, lt, e) = inr (k, omega (arith, lt), e)

module _ (w : List Bool) (v q : List ℕ) (x : ℕ) (popped : v ≡ x ∷ q) where
  pub rest_range : (m : ℕ) → All (λ n. n < m) v → All (λ n. n < m) q
  rest_range m h = All-weaker (Contains q) (λ n. n < m) (λ n i. All-contains (λ n. n < m) v n h (subst (λ l. Contains l n) (sym popped) (Contains-append_right (x ∷ []) q n i))) q (All-contains_itself q)

  pub first_range : (m : ℕ) → All (λ n. n < m) v → x < m
  first_range m h = All-contains (λ n. n < m) v x h (subst (λ l. Contains l x) (sym popped) (Contains-append_left (x ∷ []) q x (zero, omega arith, refl)))

  -- a node that doesn't wait is skipped
  pub skipped : (slice_index_or w x false ≡ false) → ((n : ℕ) → Waits w n → Contains v n) → (n : ℕ) → Waits w n → Contains q n
  skipped not h n k = elim (first_or x q n (subst (λ l. Contains l n) popped (h n k))) [
    | inr c ↦ c
    | inl e ↦ let f : false ≡ true = sym not ∙ subst (Waits w) (sym e) k in absurd (cc)
  ]

  -- a node that waits is taken out
  pub taken : x < length w → ((n : ℕ) → Waits w n → Contains v n) → (n : ℕ) → Waits (set w x false) n → Contains q n
  taken lt h n k = elim (cases_eq n x) [
    | inl e ↦ let f : false ≡ true = sym (get_or-set_same w x false false lt) ∙ subst (Waits (set w x false)) e k in absurd (cc)
    | inr e ↦ elim (first_or x q n (subst (λ l. Contains l n) popped (h n (sym (get_or-set_other w x n false false e) ∙ k)))) [ inr c ↦ c | inl s ↦ absurd (e (sym s)) ]
  ]

-- one more node is queued
pub pushed_all : (n : ℕ) (w w' : List ℕ) → ((k : ℕ) → k < n → Contains w k) → w' ≡ w ++ n ∷ [] → (k : ℕ) → k < n + 1 → Contains w' k
pushed_all n w w' all q k lt = elim (cases_lt k n) [
  | inl b ↦ subst (λ l. Contains l k) (sym q) (Contains-append_left w (n ∷ []) k (all k b))
  | inr b ↦ let e : n ≡ k = omega arith in subst (λ l. Contains l k) (sym q) (subst (Contains (w ++ n ∷ [])) e (Contains-push w n))
]

pub pushed_range : (m n : ℕ) (w w' : List ℕ) → n < m → All (λ k. k < m) w → w' ≡ w ++ n ∷ [] → All (λ k. k < m) w'
pushed_range m n w w' lt h q = subst (All (λ k. k < m)) (sym q) (All-push (λ k. k < m) w n h lt)
