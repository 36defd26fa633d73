-- A sweep finds no more instructions than there are units.
use Rattle.std.proofs.Common.{◌≡◌, ℕ, zero, suc, ◌≤◌, ◌-◌, Bool, true, false, cond, List, [], ◌∷◌, length, refl, ap, subst, arith}
use Rattle.std.specs.Prelude.{Ok}
use Rattle.code_read.specs.Sweep.{Piece, Places, size_in, piece, pieces_from, only_fills, instructions, starts_of, places_of, sweep_of}
use Rattle.read_laws.proofs.BodyLists.{Found, weaker, done, as_read, next}

few_pieces : (at left : ℕ) (us : List ℕ) → Found (λ ps. length ps ≤ length us) (pieces_from at left us)
few_pieces at left [] = weaker (Ok []) (done []) (λ y p. subst (λ (ps : List Piece). length ps ≤ 0) p (omega arith))
few_pieces at (suc left) (u ∷ us) = weaker (pieces_from (suc at) left us) (few_pieces (suc at) left us) (λ y h. omega (arith, h))
few_pieces at zero (u ∷ us) = weaker (pieces_from at 0 (u ∷ us))
    (next (as_read (size_in at (u ∷ us))) (λ size _. next (few_pieces (suc at) (size - 1) us) (λ ps _. done (piece at (u ∷ us) size ∷ ps))))
    (λ y p. subst (λ (ps : List Piece). length ps ≤ suc (length us)) p.2.2 (omega (arith, p.2.1)))

by_fills : (b : Bool) (xs ys : List Piece) (n : ℕ) → length xs ≤ n → length ys ≤ n → length (cond b xs ys) ≤ n
by_fills true xs ys n h g = h
by_fills false xs ys n h g = g

fewer : (ps : List Piece) → length (instructions ps) ≤ length ps
fewer [] = omega arith
fewer (p ∷ ps) =
    let rest = fewer ps in
    by_fills (only_fills (p ∷ ps)) (instructions ps) (p ∷ instructions ps) (suc (length ps)) (omega (arith, rest)) (omega (arith, rest))

as_many_starts : (ps : List Piece) → length (starts_of ps) ≡ length ps
as_many_starts [] = refl
as_many_starts (p ∷ ps) = ap suc (as_many_starts ps)

founds_few : (units : List ℕ) → Found (λ places. length places.starts ≤ length units) (sweep_of units)
unfolding sweep_of
founds_few units = weaker (sweep_of units) (next (few_pieces 0 0 units) (λ ps _. done (places_of units ps)))
    (λ y p. subst (λ (q : Places). length q.starts ≤ length units) p.2 (omega (arith, as_many_starts (instructions p.0), fewer p.0, p.1)))

pub few_starts : (units : List ℕ) (places : Places) → sweep_of units ≡ Ok places → length places.starts ≤ length units
few_starts units places h = (founds_few units).found places h
