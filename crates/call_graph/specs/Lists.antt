-- A list for each number of a table.
use Rattle.std.specs.Prelude.{ℕ, List, [], length, Option, Some, None, slice_get, Vec}
use Rattle.std.specs.declared.alloc.Global.{Global}
use Rattle.call_graph.specs.declared.lists.Lists.{Lists}

abbrev pub row_in : Option (Vec ℕ Global) → List ℕ
row_in None = []
row_in (Some row) = row.items

-- the list of a number
abbrev pub row_of : Lists → ℕ → List ℕ
row_of l n = row_in (slice_get l.rows.items n)

abbrev pub size_of : Lists → ℕ
size_of l = length l.rows.items
