-- Marks by number.
use Rattle.std.specs.Prelude.{ℕ, suc, zero, List, [], ◌∷◌, ◌++◌, Bool, true, false, slice_index_or, if◌then◌else◌}
use Rattle.keep_rules.specs.declared.marks.Hold.{Hold}
use Rattle.keep_rules.specs.declared.marks.Hold.TheVariants.{Always, Live}

-- whether members are kept at all events
abbrev pub is_always : Hold → Bool
is_always Always = true
is_always Live = false

-- the marked numbers below the size
abbrev pub numbers_of : List Bool → ℕ → List ℕ
numbers_of marks zero = []
numbers_of marks (suc n) = numbers_of marks n ++ (if slice_index_or marks n false then n ∷ [] else [])

abbrev pub is_on : List Bool → ℕ → Bool
is_on marks n = slice_index_or marks n false
