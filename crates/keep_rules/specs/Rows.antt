-- Rows of numbers by number.
use Rattle.std.specs.Prelude.{ℕ, List, [], Some, None, Vec, slice_get}
use Rattle.std.specs.declared.alloc.Global.{Global}

-- the row of a number, empty past the end
abbrev pub row_in : List (Vec ℕ Global) → ℕ → List ℕ
row_in rows k = elim (slice_get rows k) [ Some row ↦ row.items | None ↦ [] ]
