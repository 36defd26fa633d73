-- What walks through a graph come to.
use Rattle.std.specs.Prelude.{◌≡◌, ◌↔◌, ℕ, ◌<◌, Bool, true, false, List, [], length, slice_index_or, Contains}

-- the nodes to which an edge leads from a node
abbrev pub row_of : List (List ℕ) → ℕ → List ℕ
row_of rows n = slice_index_or rows n []

abbrev pub is_on : List Bool → ℕ → Bool
is_on marks n = slice_index_or marks n false

-- a walk from one of the seeds comes to the node, along edges that are let through
pub data Comes (rows : List (List ℕ)) (lets : ℕ → ℕ → Bool) (seeds : List ℕ) : ℕ → Type 0 where
  Begins : (n : ℕ) → Contains seeds n → Comes rows lets seeds n
  Goes : (n m : ℕ) → Comes rows lets seeds n → Contains (row_of rows n) m → lets n m ≡ true → Comes rows lets seeds m

-- the same edges, turned round, where they lead to a number below the count
abbrev pub AreTurned : List (List ℕ) → ℕ → List (List ℕ) → Type 0
AreTurned rows count back = (n m : ℕ) → m < count → Contains (row_of back m) n ↔ Contains (row_of rows n) m
