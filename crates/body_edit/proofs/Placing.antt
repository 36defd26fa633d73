-- What the table of places says is the place.
use Rattle.std.proofs.Common.{◌≡◌, ℕ, zero, suc, ◌+◌, ◌-◌, ◌<◌, List, [], ◌∷◌, get_or, refl, arith}
use Rattle.std.proofs.Math.Path.{fun_ext}
use Rattle.pass_defs.specs.Thinned.{Fate, Stays, Empties, Goes, place}
use Rattle.body_edit.specs.Places.{gone_from, total_from, place_in}
use Rattle.body_edit.specs.declared.places.Places.{Places}

gone_before : (k : ℕ) (fs : List Fate) (n : ℕ) → get_or (gone_from k fs) n (total_from k fs) + place fs n ≡ k + n
gone_before k [] n = refl
gone_before k (Stays ∷ fs) zero = refl
gone_before k (Empties ∷ fs) zero = refl
gone_before k (Goes ∷ fs) zero = refl
gone_before k (Stays ∷ fs) (suc n) = omega (arith, gone_before k fs n)
gone_before k (Empties ∷ fs) (suc n) = omega (arith, gone_before k fs n)
gone_before k (Goes ∷ fs) (suc n) = omega (arith, gone_before (suc k) fs n)

pub is_place : (t : Places) (fs : List Fate) → t.gone.items ≡ gone_from 0 fs → t.total ≡ total_from 0 fs → place_in t ≡ place fs
is_place t fs g e = fun_ext (λ n. rw (g, e) (omega (arith, gone_before 0 fs n)))
