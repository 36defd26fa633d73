-- Items one behind another, each of which says where it ends.
use Rattle.std.proofs.Common.{◌≡◌, ℕ, zero, suc, List, [], ◌∷◌, length, Result, Ok, refl, sym, ap, subst, arith, inl, inr}
use Rattle.dex_base.specs.Reading.{◌>>=◌, chain}
use Rattle.dex_base.specs.Decides.{Decides, ChainOf, BadChain}
use Rattle.dex_base.proofs.Decides.{same, pure, then}

abbrev both : {X : Type 0} → List X → ℕ → List X × ℕ
both xs stop = (xs, stop)

cons_apart : {X : Type 0} (Is : ℕ → X × ℕ → Type 0) (n at : ℕ) (xs : List X) (stop : ℕ) → (length xs ≡ suc n) × ChainOf Is at xs stop
    → (x : X × ℕ) × Is at x × ((r : List X × ℕ) × ((length r.0 ≡ n) × ChainOf Is x.1 r.0 r.1) × (both xs stop ≡ both (x.0 ∷ r.0) r.1))
cons_apart Is n at [] stop h = absurd cc
cons_apart Is n at (x ∷ xs) stop h = ((x, h.1.0), h.1.1, ((xs, stop), (omega (arith, h.0), h.1.2), refl))

none_apart : {X : Type 0} (Is : ℕ → X × ℕ → Type 0) (at : ℕ) (xs : List X) (stop : ℕ) → (length xs ≡ 0) × ChainOf Is at xs stop → both xs stop ≡ both [] at
none_apart {X = X} Is at [] stop h = ap (λ (s : ℕ). both {X = X} [] s) h.1
none_apart Is at (x ∷ xs) stop h = absurd cc

pub decides_chain : {X F : Type 0} (Is : ℕ → X × ℕ → Type 0) (Has : ℕ → F → Type 0) (f : ℕ → Result (X × ℕ) F) → ((at : ℕ) → Decides (Is at) (Has at) (f at)) → (n at : ℕ)
    → Decides (λ r. (length r.0 ≡ n) × ChainOf Is at r.0 r.1) (BadChain Is Has n at) (chain f n at)
decides_chain {X = X} Is Has f d zero at = same (chain f zero at) (pure ([], at))
    (λ r p. subst (λ (r : List X × ℕ). (length r.0 ≡ 0) × ChainOf Is at r.0 r.1) (sym p) (refl, refl))
    (λ r p. none_apart Is at r.0 r.1 p)
    (λ e p. p) (λ e p. p)
decides_chain {X = X} Is Has f d (suc n) at =
    same (chain f (suc n) at)
    (then (f at) (λ x. chain f n x.1 >>= λ xs. Ok (x.0 ∷ xs.0, xs.1)) (d at) (λ x _. then (chain f n x.1) (λ xs. Ok (x.0 ∷ xs.0, xs.1)) (decides_chain Is Has f d n x.1) (λ xs _. pure (x.0 ∷ xs.0, xs.1))))
    (λ r p. subst (λ (r : List X × ℕ). (length r.0 ≡ suc n) × ChainOf Is at r.0 r.1) (sym p.2.2) (ap suc p.2.1.0, (p.0.1, p.1, p.2.1.1)))
    (λ r p. cons_apart Is n at r.0 r.1 p)
    (λ e b. elim b [ inl h ↦ inl h | inr p ↦ elim p.2 [ inl q ↦ inr (p.0, p.1, q) | inr q ↦ absurd q.2 ] ])
    (λ e b. elim b [ inl h ↦ inl h | inr p ↦ inr (p.0, p.1, inl p.2) ])
