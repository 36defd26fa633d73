-- Shorties that have more letters than the proto has types.
use Rattle.std.proofs.Common.{◌≡◌, ℕ, ◌<◌, List, [], ◌∷◌, false, length, drop, refl, arith, zero, suc}
use Rattle.dex_pools.specs.Tables.{spells_all}

pub too_many : (letters units kinds : List ℕ) (i : ℕ) → i < length units → length kinds < 1 → spells_all letters (drop i units) kinds ≡ false
too_many letters [] kinds i h e = absurd (omega (arith, h))
too_many letters (unit ∷ units) [] zero h e = refl
too_many letters (unit ∷ units) (kind ∷ kinds) zero h e = absurd (omega (arith, e))
too_many letters (unit ∷ units) kinds (suc i) h e = too_many letters units kinds i (omega (arith, h)) e
