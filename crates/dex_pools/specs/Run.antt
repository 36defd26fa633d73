-- Entries read one after the other, each of which hands on what is left, or where the next one begins.
use Rattle.std.specs.Prelude.{ℕ, zero, suc, List, [], ◌∷◌, Result, Ok}
use Rattle.dex_base.specs.Reading.{◌>>=◌}

-- the entries from this one on, so many
abbrev pub run : {X S F : Type 0} → (ℕ → S → Result (X × S) F) → ℕ → ℕ → S → Result (List X × S) F
run f from zero s = Ok ([], s)
run f from (suc n) s = f from s >>= λ x. run f (suc from) n x.1 >>= λ xs. Ok (x.0 ∷ xs.0, xs.1)
