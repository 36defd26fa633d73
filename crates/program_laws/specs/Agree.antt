-- Registers that agree where they are needed.
use Rattle.std.specs.Prelude.{◌≡◌, ℕ, suc, List, [], ◌∷◌}
use Rattle.dalvik_defs.specs.declared.state.Value.{Value}

-- lists that are as long, and equal at the places of a set
abbrev pub Agree : (ℕ → Type 0) → List Value → List Value → Type 0
Agree P [] [] = Unit {0}
Agree P [] (y ∷ ys) = ⊥
Agree P (x ∷ xs) [] = ⊥
Agree P (x ∷ xs) (y ∷ ys) = (P 0 → x ≡ y) × Agree (λ r. P (suc r)) xs ys
