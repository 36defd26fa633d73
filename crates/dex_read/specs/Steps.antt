-- Readings one after the other that change a state, and readings for each entry of a list.
use Rattle.std.specs.Prelude.{ℕ, zero, suc, List, [], ◌∷◌, ◌++◌, Result, Ok}
use Rattle.dex_base.specs.Reading.{◌>>=◌}

-- so many steps from this one on
abbrev pub steps : {S F : Type 0} → (ℕ → S → Result S F) → ℕ → ℕ → S → Result S F
steps f from zero s = Ok s
steps f from (suc n) s = f from s >>= λ t. steps f (suc from) n t

-- what is read for each entry, and what is left behind the last
abbrev pub for_each : {X Y S F : Type 0} → (X → S → Result (Y × S) F) → List X → S → Result (List Y × S) F
for_each f [] s = Ok ([], s)
for_each f (x ∷ xs) s = f x s >>= λ y. for_each f xs y.1 >>= λ ys. Ok (y.0 ∷ ys.0, ys.1)

-- behind what was read before
abbrev pub behind : {X S F : Type 0} → List X → Result (List X × S) F → Result (List X × S) F
behind front read = read >>= λ r. Ok (front ++ r.0, r.1)

-- a list with the entry at this place changed
abbrev pub change_at : {X : Type 0} → (X → X) → ℕ → List X → List X
change_at change place [] = []
change_at change zero (x ∷ xs) = change x ∷ xs
change_at change (suc place) (x ∷ xs) = x ∷ change_at change place xs
