-- Chains of superclasses, one step at a time.
use Rattle.std.proofs.Common.{◌≡◌, ℕ, zero, suc, ◌+◌, ◌-◌, ◌<◌, ◌≤◌, List, [], ◌∷◌, ◌++◌, Option, Some, None, refl, sym, ap, ◌∙◌, arith, append_assoc, append-nil}
use Rattle.class_defs.specs.Places.{chain_from}

-- one class more at the end of what is done
pub chain_on : (up : ℕ → Option ℕ) (done more whole : List ℕ) (n d one : ℕ) (at next : Option ℕ) → d < n → at ≡ Some one → more ≡ done ++ one ∷ [] → next ≡ up one
    → done ++ chain_from up (n - d) at ≡ whole → more ++ chain_from up (n - (d + 1)) next ≡ whole
chain_on up done more whole n d one at next lt is pushed goes h =
    ap (λ l. l ++ chain_from up (n - (d + 1)) next) pushed
    ∙ ap (λ o. (done ++ one ∷ []) ++ chain_from up (n - (d + 1)) o) goes
    ∙ append_assoc done (one ∷ []) (chain_from up (n - (d + 1)) (up one))
    ∙ ap (λ k. done ++ chain_from up k (Some one)) (let e : suc (n - (d + 1)) ≡ n - d = omega arith in e)
    ∙ ap (λ o. done ++ chain_from up (n - d) o) (sym is)
    ∙ h

-- a chain that is gone over has no more
pub chain_done : (up : ℕ → Option ℕ) (done whole : List ℕ) (n d : ℕ) (at : Option ℕ) → n ≤ d → done ++ chain_from up (n - d) at ≡ whole → done ≡ whole
chain_done up done whole n d at le h = sym (append-nil done) ∙ ap (λ k. done ++ chain_from up k at) (let e : 0 ≡ n - d = omega arith in e) ∙ h

chain_none : (up : ℕ → Option ℕ) (n : ℕ) → chain_from up n None ≡ []
chain_none up zero = refl
chain_none up (suc n) = refl

pub chain_ends : (up : ℕ → Option ℕ) (done whole : List ℕ) (n : ℕ) (at : Option ℕ) → at ≡ None → done ++ chain_from up n at ≡ whole → done ≡ whole
chain_ends up done whole n at e h = sym (append-nil done) ∙ ap (λ l. done ++ l) (sym (chain_none up n)) ∙ ap (λ o. done ++ chain_from up n o) (sym e) ∙ h
