-- The table from which places are read: how many positions go before each one.
use Rattle.std.specs.Prelude.{ℕ, ◌-◌, List, [], ◌∷◌, slice_index_or}
use Rattle.pass_defs.specs.Thinned.{Fate}
use Rattle.body_edit.specs.Fates.{counted}
use Rattle.body_edit.specs.declared.places.Places.{Places}

abbrev pub gone_from : ℕ → List Fate → List ℕ
gone_from k [] = []
gone_from k (f ∷ fs) = k ∷ gone_from (counted k f) fs

abbrev pub total_from : ℕ → List Fate → ℕ
total_from k [] = k
total_from k (f ∷ fs) = total_from (counted k f) fs

-- where the table says that a position goes
abbrev pub place_in : Places → ℕ → ℕ
place_in t n = n - slice_index_or t.gone.items n t.total
