-- Regions that lie one behind another.
use Rattle.std.proofs.Common.{◌≡◌, ℕ, ◌≤◌, List, [], ◌∷◌, ◌++◌, refl, arith}
use Rattle.std.specs.Prelude.{IsTrue, Bool, true, false, ◌&&◌, nat_le}
use Rattle.program_model.specs.declared.body.Region.{Region}
use Rattle.code_read.specs.Regions.{are_apart}

-- where the last of the regions ends, or `from` where there is none
abbrev pub last_end : ℕ → List Region → ℕ
last_end from [] = from
last_end from (region ∷ rest) = last_end region.end rest

pub end_push : (from : ℕ) (xs : List Region) (x : Region) → last_end from (xs ++ x ∷ []) ≡ x.end
end_push from [] x = refl
end_push from (y ∷ ys) x = end_push y.end ys x

both : (a b : Bool) → (a && b) ≡ true → (a ≡ true) × (b ≡ true)
both true true e = (refl, refl)
both true false e = absurd cc
both false b e = absurd cc

pub apart_push : (from : ℕ) (xs : List Region) (x : Region) → IsTrue (are_apart from xs) → last_end from xs ≤ x.first → IsTrue (are_apart from (xs ++ x ∷ []))
apart_push from [] x apart below = grind arith
apart_push from (y ∷ ys) x apart below =
    let parts = both (nat_le from y.first) (are_apart y.end ys) apart in
    let more : are_apart y.end (ys ++ x ∷ []) ≡ true = apart_push y.end ys x parts.1 below in
    rw (parts.0, more) refl
