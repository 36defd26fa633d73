-- Where positions begin.
use Rattle.std.proofs.Common.{◌≡◌, ℕ, zero, suc, ◌+◌, ◌*◌, ◌≤◌, ◌<◌, List, [], ◌∷◌, ◌++◌, length, slice_index, refl, arith, All}
use Rattle.std.proofs.lemmas.List.Elements.{All-head, All-tail}
use Rattle.relax.specs.Sizes.{start, Below}

pub start_more : (ss : List ℕ) (k : ℕ) → k < length ss → start ss (suc k) ≡ start ss k + slice_index ss k
start_more [] k lt = absurd (omega (arith, lt))
start_more (s ∷ ss) zero lt = omega arith
start_more (s ∷ ss) (suc k) lt = omega (arith, start_more ss k (omega (arith, lt)))

pub start_mono : (ss : List ℕ) (i j : ℕ) → i ≤ j → start ss i ≤ start ss j
start_mono ss zero j le = omega arith
start_mono ss (suc i) zero le = absurd (omega (arith, le))
start_mono [] (suc i) (suc j) le = omega arith
start_mono (s ∷ ss) (suc i) (suc j) le = omega (arith, start_mono ss i j (omega (arith, le)))

-- larger sizes, larger distances
pub farther : (ss ts : List ℕ) (i j : ℕ) → i ≤ j → Below ss ts → start ss j + start ts i ≤ start ts j + start ss i
farther ss ts zero zero le b = omega arith
farther [] [] zero (suc j) le b = omega arith
farther [] (t ∷ ts) i j le b = absurd b
farther (s ∷ ss) [] i j le b = absurd b
farther (s ∷ ss) (t ∷ ts) zero (suc j) le b = omega (arith, farther ss ts zero j (omega arith) b.1, b.0)
farther ss ts (suc i) zero le b = absurd (omega (arith, le))
farther [] [] (suc i) (suc j) le b = omega arith
farther (s ∷ ss) (t ∷ ts) (suc i) (suc j) le b = omega (arith, farther ss ts i j (omega (arith, le)) b.1)

pub push_place : (found : List ℕ) (at k : ℕ) (f : ℕ → ℕ) → ((j : ℕ) → j < length found → slice_index found j ≡ f j) → at ≡ f (length found) → k < length found + 1 → slice_index (found ++ at ∷ []) k ≡ f k
push_place [] at zero f h e lt = e
push_place [] at (suc k) f h e lt = absurd (omega (arith, lt))
push_place (x ∷ found) at zero f h e lt = h 0 (omega arith)
push_place (x ∷ found) at (suc k) f h e lt = push_place found at k (λ j. f (suc j)) (λ j l. h (suc j) (omega (arith, l))) e (omega (arith, lt))

pub start_past : (ss : List ℕ) (k : ℕ) → length ss ≤ k → start ss k ≡ start ss (length ss)
start_past [] zero le = refl
start_past [] (suc k) le = refl
start_past (s ∷ ss) zero le = absurd (omega (arith, le))
start_past (s ∷ ss) (suc k) le = omega (arith, start_past ss k (omega (arith, le)))

pub start_small : (ss : List ℕ) (k : ℕ) → All (λ s. s ≤ 5) ss → start ss k ≤ 5 * k
start_small ss zero all = omega arith
start_small [] (suc k) all = omega arith
start_small (s ∷ ss) (suc k) all = omega (arith, All-head (λ s. s ≤ 5) s ss all, start_small ss k (All-tail (λ s. s ≤ 5) s ss all))
