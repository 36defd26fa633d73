-- How the table of a flow rises.
use Rattle.std.specs.Prelude.{◌≡◌, ℕ, Bool, true, false, ◌+◌, ◌<◌, ◌≤◌, List, [], length, set, All, Contains, slice_index_or, ◌⊎◌, if◌then◌else◌}
use Rattle.std.specs.List.{sum_by}
use Rattle.lattice_core.specs.Laws.{IsUpper}
use Rattle.fixpoint.specs.Graph.{Graph, IsInductive}

-- the edges that leave each node
pub record AreRows {S : Type 0} (g : Graph S) (upto : ℕ) (rows : List (List ℕ)) : Type 0 where
  pub long : length rows ≡ g.nodes
  pub within : (n e : ℕ) → Contains (slice_index_or rows n []) e → e < g.edges
  pub all : (e : ℕ) → e < upto → Contains (slice_index_or rows (g.source e) []) e

-- a node waits to be visited
abbrev pub Waits : List Bool → ℕ → Type 0
Waits w n = slice_index_or w n false ≡ true

-- the source of an edge waits, or its target is at or above what the edge brings
abbrev pub Done : {S : Type 0} → (S → S → Type 0) → S → Graph S → List S → List Bool → ℕ → Type 0
Done below d g t w e = Waits w (g.source e) ⊎ below (g.moved e (slice_index_or t (g.source e) d)) (slice_index_or t (g.target e) d)

-- an upper bound of an old state and a newer one, made by a join or by a widening
pub record IsRaised {S : Type 0} (below : S → S → Type 0) (rank : S → ℕ) (exact : Bool) (joined widened : S → S → S) (widens : Bool) (old newer x : S) : Type 0 where
  pub over : IsUpper below old newer x
  pub made : (x ≡ joined old newer) ⊎ (x ≡ widened old newer)
  pub tight : exact ≡ true → below x (joined old newer)
  pub falls : widens ≡ true → below x old ⊎ rank x < rank old

-- a table rises, and what rose waits
pub record Rises {S : Type 0} (below : S → S → Type 0) (exact : Bool) (stays : ℕ → S → Type 0) (d : S) (g : Graph S) (t : List S) (w : List Bool) (t' : List S) (w' : List Bool) : Type 0 where
  pub long : length t' ≡ length t
  pub flags : length w' ≡ length w
  pub up : (n : ℕ) → below (slice_index_or t n d) (slice_index_or t' n d)
  pub waits : (n : ℕ) → (slice_index_or t' n d ≡ slice_index_or t n d) ⊎ Waits w' n
  pub kept : (n : ℕ) → Waits w n → Waits w' n
  pub staying : ((n : ℕ) → n < g.nodes → stays n (slice_index_or t n d)) → (n : ℕ) → n < g.nodes → stays n (slice_index_or t' n d)
  pub least : exact ≡ true → (s : ℕ → S) → IsInductive below g s → ((n : ℕ) → n < g.nodes → below (slice_index_or t n d) (s n)) → (n : ℕ) → n < g.nodes → below (slice_index_or t' n d) (s n)

-- an edge is followed: its target rose and waits, or nothing changed
pub record Follows {S : Type 0} (below : S → S → Type 0) (rank : S → ℕ) (exact : Bool) (stays : ℕ → S → Type 0) (d : S) (g : Graph S) (widens : Bool) (e : ℕ) (t : List S) (w : List Bool) (t' : List S) (w' : List Bool) (rose : Bool) : Type 0 where
  pub rises : Rises below exact stays d g t w t' w'
  pub done : Done below d g t' w' e
  pub same : rose ≡ false → (t' ≡ t) × (w' ≡ w)
  pub marked : rose ≡ true → w' ≡ set w (g.target e) true
  pub falls : rose ≡ true → widens ≡ true → sum_by rank t' < sum_by rank t

-- the table so far: what is not inductive in it waits
pub record Keeps {S : Type 0} (below : S → S → Type 0) (exact : Bool) (stays : ℕ → S → Type 0) (d : S) (g : Graph S) (t : List S) (w : List Bool) : Type 0 where
  pub long : length t ≡ g.nodes
  pub flags : length w ≡ g.nodes
  pub entries : (n : ℕ) → n < g.nodes → below (g.begun n) (slice_index_or t n d)
  pub done : (e : ℕ) → e < g.edges → Done below d g t w e
  pub staying : (n : ℕ) → n < g.nodes → stays n (slice_index_or t n d)
  pub least : exact ≡ true → (s : ℕ → S) → IsInductive below g s → (n : ℕ) → n < g.nodes → below (slice_index_or t n d) (s n)

-- what begins to wait is queued, and a rise pays for its place in the queue
pub record Queues {S : Type 0} (rank : S → ℕ) (g : Graph S) (t : List S) (w : List Bool) (q : List ℕ) (t' : List S) (w' : List Bool) (q' : List ℕ) : Type 0 where
  pub kept : (n : ℕ) → Contains q n → Contains q' n
  pub queued : (n : ℕ) → Waits w' n → Waits w n ⊎ Contains q' n
  pub range : All (λ n. n < g.nodes) q → All (λ n. n < g.nodes) q'
  pub falls : sum_by rank t' + length q' ≤ sum_by rank t + length q

abbrev pub one_if : Bool → ℕ
one_if b = if b then 1 else 0

-- how far a table may rise by widening, and how many nodes wait
abbrev pub weight : {S : Type 0} → (S → ℕ) → List S → List Bool → ℕ
weight rank t w = sum_by rank t + sum_by one_if w

abbrev pub itself : ℕ → ℕ
itself n = n

-- joins are spent where the answer says so, and else the weight doesn't rise
pub record Spends {S : Type 0} (rank : S → ℕ) (t : List S) (w : List Bool) (p : List ℕ) (t' : List S) (w' : List Bool) (p' : List ℕ) (joined : Bool) : Type 0 where
  pub long : length p' ≡ length p
  pub no_rise : sum_by itself p' ≤ sum_by itself p
  pub spent : joined ≡ true → sum_by itself p' < sum_by itself p
  pub falls : joined ≡ false → weight rank t' w' ≤ weight rank t w

-- the node at a place waits
abbrev pub WaitsAt : List ℕ → List Bool → ℕ → Type 0
WaitsAt nodes w p = (p < length nodes) × Waits w (slice_index_or nodes p 0)

-- none of the nodes waits
abbrev pub NoneWaits : List ℕ → List Bool → Type 0
NoneWaits nodes w = (p : ℕ) → p < length nodes → slice_index_or w (slice_index_or nodes p 0) false ≡ false
