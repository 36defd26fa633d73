-- Ranks as they are given, one after another.
use Rattle.std.specs.Prelude.{◌≡◌, ◌<◌, ◌≤◌, ◌+◌, ℕ, true, List, length, Option, Some, is_some, cond, sum_by, slice_get}
use Rattle.quiet_methods.specs.declared.ranks.Node.{Node}
use Rattle.quiet_methods.specs.Settled.{rank_at, has_rank, is_ready, IsRank}

abbrev pub blank : Option ℕ → ℕ
blank o = cond (is_some o) 0 1

-- Ranks below the next one, as many as it says.
pub record AreRanks (nodes : List Node) (ranks : List (Option ℕ)) (next : ℕ) : Type 0 where
  pub long : length ranks ≡ length nodes
  pub below : (n r : ℕ) → rank_at ranks n ≡ Some r → r < next
  pub sound : (n r : ℕ) (x : Node) → slice_get nodes n ≡ Some x → rank_at ranks n ≡ Some r → IsRank ranks x r
  pub count : next + sum_by blank ranks ≡ length nodes

-- a node that may have a rank has one
pub record IsClosedAt (nodes : List Node) (n : ℕ) (ranks : List (Option ℕ)) : Type 0 where
  pub closed : (x : Node) → slice_get nodes n ≡ Some x → is_ready ranks x ≡ true → has_rank ranks n ≡ true

-- a rank was given, or nothing was left to give at the node
pub record Turns (nodes : List Node) (n : ℕ) (ranks : List (Option ℕ)) (next : ℕ) (ranks' : List (Option ℕ)) (next' : ℕ) : Type 0 where
  pub grows : next ≤ next'
  pub still : next' ≡ next → ranks' ≡ ranks
  pub closed : next' ≡ next → IsClosedAt nodes n ranks'

-- ranks were given, or nothing was left to give at the last nodes
pub record Sweeps (nodes : List Node) (k : ℕ) (next : ℕ) (ranks' : List (Option ℕ)) (next' : ℕ) : Type 0 where
  pub grows : next ≤ next'
  pub closed : next' ≡ next → (n : ℕ) → n < length nodes → length nodes ≤ n + k → IsClosedAt nodes n ranks'
