-- The edges that leave each node.
use Rattle.std.proofs.Common.{◌≡◌, ℕ, ◌+◌, ◌<◌, ◌≢◌, List, [], ◌∷◌, ◌++◌, length, sym, ◌∙◌, subst, inl, inr, arith, get_or-set_other, get_or-set_same}
use Rattle.std.specs.Prelude.{All, Contains, slice_index_or}
use Rattle.std.proofs.Math.ListN.{set, length-set}
use Rattle.std.proofs.lemmas.Bool.{cases_eq, cases_lt}
use Rattle.std.proofs.lemmas.List.Elements.{All-weaker, All-contains_itself, Contains-append_left, Contains-push, Contains-push_cases}
use Rattle.fixpoint.specs.Graph.{Graph}
use Rattle.fixpoint.specs.Rising.{AreRows}

module _ {S : Type 0} (g : Graph S) where
  pub rows_first : (rows : List (List ℕ)) → length rows ≡ g.nodes → ((n : ℕ) → slice_index_or rows n [] ≡ []) → AreRows g 0 rows
  rows_first rows long empty = record {
    long = long;
    within = λ n e h. let c : Contains [] e = subst (λ l. Contains l e) (empty n) h in absurd (omega (arith, c.1));
    all = λ e lt. absurd (omega arith);
  }

  pub rows_more : (rows : List (List ℕ)) (row : List ℕ) (e n : ℕ) → e < g.edges → n ≡ g.source e → n < length rows → AreRows g e rows → row ≡ slice_index_or rows n [] ++ e ∷ [] → AreRows g (e + 1) (set rows n row)
  rows_more rows row e n lt q inside a eq = record {
    long = length-set rows n row ∙ a.long;
    within = λ m i. at_row (λ m l. Contains l i → i < g.edges)
        (λ h. elim (Contains-push_cases (slice_index_or rows n []) e i (subst (λ l. Contains l i) eq h)) [ inl o ↦ a.within n i o | inr s ↦ let r : e ≡ i = s in subst (λ j. j < g.edges) r lt ])
        (λ m k. a.within m i) m;
    all = λ i h. elim (cases_lt i e) [
      | inl b ↦ at_row (λ m l. Contains (slice_index_or rows m []) i → Contains l i) (λ c. subst (λ l. Contains l i) (sym eq) (Contains-append_left _ (e ∷ []) i c)) (λ m k c. c) (g.source i) (a.all i b)
      | inr b ↦ let s : e ≡ i = omega arith in subst (λ j. Contains (slice_index_or (set rows n row) (g.source j) []) j) s (subst (λ m. Contains (slice_index_or (set rows n row) m []) e) q (subst (λ l. Contains l e) (sym (here ∙ eq)) (Contains-push _ e)))
    ];
  }
    where
      here : slice_index_or (set rows n row) n [] ≡ row
      here = get_or-set_same rows n row [] inside

      at_row : (P : ℕ → List ℕ → Type 0) → P n row → ((m : ℕ) → m ≢ n → P m (slice_index_or rows m [])) → (m : ℕ) → P m (slice_index_or (set rows n row) m [])
      at_row P p r m = elim (cases_eq m n) [
        | inl k ↦ subst (λ i. P i (slice_index_or (set rows n row) i [])) (sym k) (subst (P n) (sym here) p)
        | inr k ↦ subst (P m) (sym (get_or-set_other rows n m row [] k)) (r m k)
      ]

  pub row_range : (rows : List (List ℕ)) (x : ℕ) → AreRows g g.edges rows → All (λ e. e < g.edges) (slice_index_or rows x [])
  row_range rows x a = All-weaker (Contains (slice_index_or rows x [])) (λ e. e < g.edges) (λ e. a.within x e) (slice_index_or rows x []) (All-contains_itself (slice_index_or rows x []))
