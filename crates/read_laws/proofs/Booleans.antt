-- Tests that hold together.
use Rattle.std.proofs.Common.{◌≡◌, ℕ, Bool, true, false, refl, sym, true≢false, List, [], ◌∷◌, suc}
use Rattle.std.specs.Prelude.{◌&&◌, not}
use Rattle.std.specs.List.{list_all}
use Rattle.lemmas.proofs.Bools.{and_both}
use Rattle.dex_base.specs.Decides.{Each}

pub denied : (b : Bool) → (b ≡ true → ⊥) → not b ≡ true
denied true h = absurd (h refl)
denied false h = refl

-- a test that each entry passes
pub each_passes : {X : Type 0} (Is : ℕ → X → Type 0) (test : X → Bool) → ((i : ℕ) (x : X) → Is i x → test x ≡ true) → (from : ℕ) (xs : List X) → Each Is from xs → list_all test xs ≡ true
each_passes Is test h from [] e = refl
each_passes Is test h from (x ∷ xs) e = and_both (test x) (list_all test xs) (h from x e.0) (each_passes Is test h (suc from) xs e.1)
