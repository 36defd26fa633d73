-- What is chosen of a caller is a candidate at each position, and nothing is chosen past its code.
use Rattle.std.proofs.Common.{◌≡◌, ℕ, zero, suc, ◌+◌, ◌<◌, ◌≤◌, List, [], ◌∷◌, length, refl, sym, ap, ◌∙◌, subst, arith, ◌⊎◌, inl, inr, Option, Some, None}
use Rattle.std.proofs.lemmas.Bool.{cases_order}
use Rattle.splice.specs.Callees.{chosen_at}
use Rattle.splice.specs.declared.callee.Callee.{Callee}
use Rattle.splice.specs.declared.spliced.Spliced.{Spliced}
use Rattle.inline_calls.specs.declared.site.Known.{Known}
use Rattle.inline_calls.specs.declared.site.Caller.{Caller}
use Rattle.inline_calls.specs.declared.caller.Inliner.{Inliner}
use Rattle.inline_calls.specs.Accepting.{chosen_by, Weighs, Tries, Unsuited, Suited, HasTried, Untried, Tried}
use Rattle.inline_calls.specs.Asked.{Row}
use Rattle.inline_calls.specs.Candidates.{IsCandidate, IsWith, AreCandidates}

-- nothing is chosen past the end
past : (chosen : List (Option Callee)) (n : ℕ) → length chosen ≤ n → chosen_at chosen n ≡ None
past [] zero le = refl
past [] (suc n) le = refl
past (y ∷ ys) zero le = absurd (omega (arith, le))
past (y ∷ ys) (suc n) le = past ys n (omega arith)

none_some : (y : Callee) → None ≡ Some y → ⊥
none_some y e = absurd (cc e)

module _ (k : Known) (c : Caller) where
  pub none_chosen : AreCandidates k c []
  none_chosen n y e = absurd (none_some y (sym (past [] n (omega arith)) ∙ e))

  with_candidate : (old new : List (Option Callee)) (n : ℕ) (y : Callee) → IsCandidate k c n y → IsWith old n y new → AreCandidates k c old → AreCandidates k c new
  with_candidate old new n y is with was m z e = at (cases_order m n)
    where
      at : (m ≡ n) ⊎ ((m < n) ⊎ (n < m)) → IsCandidate k c m z
      at (inl s) =
          let same : Some y ≡ Some z = sym with.here ∙ ap (chosen_at new) (sym s) ∙ e in
          let v : y ≡ z = cc same in
          subst (λ (j : ℕ). IsCandidate k c j z) (sym s) (subst (λ (w : Callee). IsCandidate k c n w) v is)
      at (inr (inl lt)) = was m z (sym (with.before m lt) ∙ e)
      at (inr (inr gt)) = absurd (none_some z (sym (past new m (omega (arith, with.long, gt))) ∙ e))

  chosen_candidates : (s : Option Spliced) (old new : List (Option Callee)) (n : ℕ) (y : Callee) → IsCandidate k c n y → IsWith old n y new → AreCandidates k c old → AreCandidates k c (chosen_by s old new)
  chosen_candidates None old new n y is with was = was
  chosen_candidates (Some s) old new n y is with was = with_candidate old new n y is with was

module _ (i : Inliner) (c : Caller) (cells : ℕ) where
  tries_candidates : (n : ℕ) (old new : List (Option Callee)) (rows : List Row) → Tries i c cells n old rows new → AreCandidates i.known c old → AreCandidates i.known c new
  tries_candidates n old _ _ (Unsuited none) was = was
  tries_candidates n old _ _ (Suited y new rows s is with weighs) was = chosen_candidates i.known c s old new n y is with was

  -- what is chosen is a candidate
  pub tried_candidates : (n : ℕ) (rows : List Row) (chosen : List (Option Callee)) → HasTried i c cells n rows chosen → AreCandidates i.known c chosen
  tried_candidates _ _ _ Untried = none_chosen i.known c
  tried_candidates _ _ _ (Tried n rows more old new was tries) = tries_candidates n old new more tries (tried_candidates n rows old was)
