-- Loops over the places of two values.
use Rattle.std.proofs.Common.{◌≡◌, ℕ, Bool, ◌+◌, ◌<◌, ◌≤◌, ◌^◌, List, [], ◌∷◌, ◌++◌, length, sym, ◌∙◌, ap, subst, refl, arith, ◌⊎◌, inl, inr, add-one}
use Rattle.std.specs.Prelude.{max, slice_index_or}
use Rattle.std.proofs.lemmas.Bool.{cases_lt}
use Rattle.lattice_core.specs.Laws.{IsUpper, IsWidened}
use Rattle.lattice_core.specs.Places.{Below, table, both, env_rank, total_falls, length-table, get_or-table, FitsPlaces, past_both, Joins, Widens}

-- what holds below i and at i holds below i + 1
up_to : (P : ℕ → Type 0) (i : ℕ) → ((k : ℕ) → k < i → P k) → P i → (k : ℕ) → k < i + 1 → P k
up_to P i h this k lt = elim (cases_lt k i) [ inl b ↦ h k b | inr a ↦ let e : i ≡ k = omega arith in subst P e this ]

module _ {L : Type 0} (below : L → L → Type 0) (f : L → L → L) (d : L) (xs ys : List L) where
  pub joins_first : Joins below f d xs ys 0 []
  joins_first = record { is = refl; over = λ k lt. absurd (omega arith) }

  pub joins_more : (i : ℕ) (out out' : List L) (x y o d' : L) → d' ≡ d → Joins below f d xs ys i out → x ≡ slice_index_or xs i d' → y ≡ slice_index_or ys i d' → o ≡ f x y → IsUpper below x y o → out' ≡ out ++ o ∷ [] → Joins below f d xs ys (i + 1) out'
  joins_more i out out' x y o d' de h ex ey eo u eq =
      let ax : x ≡ slice_index_or xs i d = ex ∙ ap (slice_index_or xs i) de in
      let ay : y ≡ slice_index_or ys i d = ey ∙ ap (slice_index_or ys i) de in
      let e : o ≡ f (slice_index_or xs i d) (slice_index_or ys i d) = eo ∙ ap (λ a. f a y) ax ∙ ap (f (slice_index_or xs i d)) ay in
      record {
        is = eq ∙ ap (λ l. l ++ o ∷ []) h.is ∙ ap (λ a. table (λ k. f (slice_index_or xs k d) (slice_index_or ys k d)) i ++ a ∷ []) e ∙ ap (table (λ k. f (slice_index_or xs k d) (slice_index_or ys k d))) (sym (add-one i));
        over = up_to (λ k. IsUpper below (slice_index_or xs k d) (slice_index_or ys k d) (f (slice_index_or xs k d) (slice_index_or ys k d))) i h.over
            (subst (λ a. IsUpper below a (slice_index_or ys i d) (f (slice_index_or xs i d) (slice_index_or ys i d))) ax (subst (λ b. IsUpper below x b (f (slice_index_or xs i d) (slice_index_or ys i d))) ay (subst (IsUpper below x y) e u)));
      }

  pub upper_env : ((x : L) → below x x) → Joins below f d xs ys (max (length xs) (length ys)) (both f d xs ys) → IsUpper (Below below d) xs ys (both f d xs ys)
  upper_env same h = record {
    first = λ k. elim (at k) [ inl u ↦ u.first | inr e ↦ subst (λ o. below (slice_index_or xs k d) o) (e.1 ∙ sym e.0) (same _) ];
    second = λ k. elim (at k) [ inl u ↦ u.second | inr e ↦ subst (λ o. below (slice_index_or ys k d) o) (e.2 ∙ sym e.0) (same _) ];
  }
    where
      at : (k : ℕ) → IsUpper below (slice_index_or xs k d) (slice_index_or ys k d) (slice_index_or (both f d xs ys) k d) ⊎ ((slice_index_or (both f d xs ys) k d ≡ d) × (slice_index_or xs k d ≡ d) × (slice_index_or ys k d ≡ d))
      at k = elim (cases_lt k (max (length xs) (length ys))) [
        | inl lt ↦ inl (subst (IsUpper below (slice_index_or xs k d) (slice_index_or ys k d)) (sym (get_or-table (λ k. f (slice_index_or xs k d) (slice_index_or ys k d)) (max (length xs) (length ys)) k d lt)) (h.over k lt))
        | inr ge ↦ inr (past_both f d xs ys k ge)
      ]

module _ {L : Type 0} (below : L → L → Type 0) (rank : L → ℕ) (exact : Bool) (j f : L → L → L) (d : L) (xs ys : List L) where
  pub widens_first : Widens below rank exact j f d xs ys 0
  widens_first = record { falls = λ k lt. absurd (omega arith) }

  pub widens_more : (i : ℕ) (x y o d' : L) → d' ≡ d → Widens below rank exact j f d xs ys i → x ≡ slice_index_or xs i d' → y ≡ slice_index_or ys i d' → o ≡ f x y → IsWidened below rank exact (j x y) x o → Widens below rank exact j f d xs ys (i + 1)
  widens_more i x y o d' de h ex ey eo u =
      let ax : x ≡ slice_index_or xs i d = ex ∙ ap (slice_index_or xs i) de in
      let ay : y ≡ slice_index_or ys i d = ey ∙ ap (slice_index_or ys i) de in
      record {
        falls = up_to (λ k. IsWidened below rank exact (j (slice_index_or xs k d) (slice_index_or ys k d)) (slice_index_or xs k d) (f (slice_index_or xs k d) (slice_index_or ys k d))) i h.falls
            (subst (λ a. IsWidened below rank exact (j a (slice_index_or ys i d)) a (f a (slice_index_or ys i d))) ax (subst (λ b. IsWidened below rank exact (j x b) x (f x b)) ay (subst (IsWidened below rank exact (j x y) x) eo u)));
      }

  pub widened_env : ((x : L) → below x x) → length xs ≤ 2 ^ 32 → length ys ≤ 2 ^ 32 → Widens below rank exact j f d xs ys (max (length xs) (length ys))
      → IsWidened (Below below d) (env_rank rank d) exact (both j d xs ys) xs (both f d xs ys)
  widened_env same fx fy h = record {
    no_rise = falling.0;
    falls = elim falling.1 [ inr less ↦ inr less | inl all ↦ inl (λ k. elim (cases_lt k (2 ^ 32)) [ inl lt ↦ all k lt | inr ge ↦ past k (omega (arith, fx, fy)) ]) ];
    tight = λ e k. elim (cases_lt k (max (length xs) (length ys))) [
      | inl lt ↦ subst (λ o. below o (slice_index_or (both j d xs ys) k d)) (sym (made f k lt)) (subst (below (f (slice_index_or xs k d) (slice_index_or ys k d))) (sym (made j k lt)) ((h.falls k lt).tight e))
      | inr ge ↦ subst (λ o. below o (slice_index_or (both j d xs ys) k d)) (sym (past_both f d xs ys k ge).0) (subst (below d) (sym (past_both j d xs ys k ge).0) (same d))
    ];
  }
    where
      made : (f : L → L → L) (k : ℕ) → k < max (length xs) (length ys) → slice_index_or (both f d xs ys) k d ≡ f (slice_index_or xs k d) (slice_index_or ys k d)
      made f k lt = get_or-table (λ k. f (slice_index_or xs k d) (slice_index_or ys k d)) (max (length xs) (length ys)) k d lt

      past_is : (k : ℕ) → max (length xs) (length ys) ≤ k → slice_index_or (both f d xs ys) k d ≡ slice_index_or xs k d
      past_is k ge = let p = past_both f d xs ys k ge in p.0 ∙ sym p.1

      past : (k : ℕ) → max (length xs) (length ys) ≤ k → below (slice_index_or (both f d xs ys) k d) (slice_index_or xs k d)
      past k ge = subst (λ o. below o (slice_index_or xs k d)) (sym (past_is k ge)) (same _)

      no_rise_at : (k : ℕ) → rank (slice_index_or (both f d xs ys) k d) ≤ rank (slice_index_or xs k d)
      no_rise_at k = elim (cases_lt k (max (length xs) (length ys))) [
        | inl lt ↦ subst (λ o. rank o ≤ rank (slice_index_or xs k d)) (sym (made f k lt)) (h.falls k lt).no_rise
        | inr ge ↦ subst (λ o. rank o ≤ rank (slice_index_or xs k d)) (sym (past_is k ge)) (omega arith)
      ]

      falls_at : (k : ℕ) → below (slice_index_or (both f d xs ys) k d) (slice_index_or xs k d) ⊎ rank (slice_index_or (both f d xs ys) k d) < rank (slice_index_or xs k d)
      falls_at k = elim (cases_lt k (max (length xs) (length ys))) [
        | inl lt ↦ subst (λ o. below o (slice_index_or xs k d) ⊎ rank o < rank (slice_index_or xs k d)) (sym (made f k lt)) (h.falls k lt).falls
        | inr ge ↦ inl (past k ge)
      ]

      falling : (env_rank rank d (both f d xs ys) ≤ env_rank rank d xs) × (((k : ℕ) → k < 2 ^ 32 → below (slice_index_or (both f d xs ys) k d) (slice_index_or xs k d)) ⊎ env_rank rank d (both f d xs ys) < env_rank rank d xs)
      falling = total_falls (λ k. rank (slice_index_or xs k d)) (λ k. rank (slice_index_or (both f d xs ys) k d)) (λ k. below (slice_index_or (both f d xs ys) k d) (slice_index_or xs k d)) (2 ^ 32) (λ k lt. no_rise_at k) (λ k lt. falls_at k)

-- what the loops have made at their ends
module _ {L : Type 0} (below : L → L → Type 0) (f : L → L → L) (d : L) (xs ys xs' ys' out : List L) (i : ℕ) (at_end : i ≡ max (length xs) (length ys)) (one : xs ≡ xs') (two : ys ≡ ys') where
  whole : Joins below f d xs ys i out → out ≡ both f d xs ys
  whole h = h.is ∙ ap (table (λ k. f (slice_index_or xs k d) (slice_index_or ys k d))) at_end

  pub ends_upper : ((x : L) → below x x) → Joins below f d xs ys i out → IsUpper (Below below d) xs' ys' out
  ends_upper same h =
      let e = whole h in
      let u : IsUpper (Below below d) xs ys (both f d xs ys) = upper_env below f d xs ys same (subst (λ o. Joins below f d xs ys (max (length xs) (length ys)) o) e (subst (λ n. Joins below f d xs ys n out) at_end h)) in
      subst (λ a. IsUpper (Below below d) a ys' out) one (subst (λ b. IsUpper (Below below d) xs b out) two (subst (IsUpper (Below below d) xs ys) (sym e) u))

  pub ends_fits : (low copied : L) → length xs ≤ 2 ^ 32 → length ys ≤ 2 ^ 32 → copied ≡ low → low ≡ d → Joins below f d xs ys i out → FitsPlaces out copied d
  ends_fits low copied fx fy ec el h = record {
    few = let e : length out ≡ i = ap length h.is ∙ length-table (λ k. f (slice_index_or xs k d) (slice_index_or ys k d)) i in omega arith;
    low_is = ec ∙ el;
  }

  pub ends_widened : (rank : L → ℕ) (exact : Bool) (j : L → L → L) → ((x : L) → below x x) → length xs ≤ 2 ^ 32 → length ys ≤ 2 ^ 32 → Joins below f d xs ys i out → Widens below rank exact j f d xs ys i
      → IsWidened (Below below d) (env_rank rank d) exact (both j d xs' ys') xs' out
  ends_widened rank exact j same fx fy h w =
      let u : IsWidened (Below below d) (env_rank rank d) exact (both j d xs ys) xs (both f d xs ys) = widened_env below rank exact j f d xs ys same fx fy (subst (Widens below rank exact j f d xs ys) at_end w) in
      subst (λ a. IsWidened (Below below d) (env_rank rank d) exact (both j d a ys') a out) one (subst (λ b. IsWidened (Below below d) (env_rank rank d) exact (both j d xs b) xs out) two (subst (IsWidened (Below below d) (env_rank rank d) exact (both j d xs ys) xs) (sym (whole h)) u))
