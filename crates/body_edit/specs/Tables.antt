-- Where positions go by a table with an entry for each.
use Rattle.std.specs.Prelude.{ℕ, List, slice_index_or}

-- a position past the table stays
abbrev pub place_in : List ℕ → ℕ → ℕ
place_in places n = slice_index_or places n n
