-- Ranks of the nodes of a graph: a node has one where all that it needs have lower ones.
use Rattle.std.specs.Prelude.{◌≡◌, ◌<◌, ◌&&◌, ℕ, Bool, true, List, length, Option, Some, None, is_some, slice_get, slice_index_or, Contains}
use Rattle.std.specs.List.{list_all}
use Rattle.quiet_methods.specs.declared.ranks.Node.{Node}

-- the rank of a node, none where it has none
abbrev pub rank_at : List (Option ℕ) → ℕ → Option ℕ
rank_at ranks n = slice_index_or ranks n None

abbrev pub has_rank : List (Option ℕ) → ℕ → Bool
has_rank ranks n = is_some (rank_at ranks n)

-- a node may have a rank, and all that it needs have one
abbrev pub is_ready : List (Option ℕ) → Node → Bool
is_ready ranks x = x.may && list_all (has_rank ranks) x.needs

-- a node has a rank below a number
pub record IsLower (ranks : List (Option ℕ)) (r n : ℕ) : Type 0 where
  pub rank : ℕ
  pub is : rank_at ranks n ≡ Some rank
  pub lower : rank < r

-- a rank of a node
pub record IsRank (ranks : List (Option ℕ)) (x : Node) (r : ℕ) : Type 0 where
  pub may : x.may ≡ true
  pub needs : (n : ℕ) → Contains x.needs n → IsLower ranks r n

-- Each rank stands above those of all that its node needs, and a node that may have a rank has none only where something that it
-- needs has none.
pub record IsSettled (nodes : List Node) (ranks : List (Option ℕ)) : Type 0 where
  pub long : length ranks ≡ length nodes
  pub short : (n r : ℕ) → rank_at ranks n ≡ Some r → r < length nodes
  pub sound : (n r : ℕ) (x : Node) → slice_get nodes n ≡ Some x → rank_at ranks n ≡ Some r → IsRank ranks x r
  pub closed : (n : ℕ) (x : Node) → slice_get nodes n ≡ Some x → is_ready ranks x ≡ true → has_rank ranks n ≡ true
