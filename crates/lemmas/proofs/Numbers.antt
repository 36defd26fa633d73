-- Natural numbers.
use Rattle.std.proofs.Common.{◌≡◌, ℕ, suc, ◌+◌, ◌≤◌, ◌⊎◌, Bool, true, inl, inr, refl, arith}
use Rattle.std.specs.Prelude.{nat_eq}
use Rattle.std.proofs.lemmas.Bool.{eq-eqb}

pub next_is : (n : ℕ) → n + 1 ≡ suc n
next_is n = omega arith

pub itself : (n : ℕ) → n ≤ n
itself n = omega arith

pub same_number : (n : ℕ) → nat_eq n n ≡ true
same_number n = eq-eqb n n refl
