-- Orders of a graph's nodes in parts. The part at a place has the places from there up to its end.
use Rattle.std.specs.Prelude.{◌≡◌, ℕ, ◌+◌, ◌<◌, ◌≤◌, ◌⊎◌, List, length, map, slice_index, slice_index_or, Contains}
use Rattle.flow_cfg.specs.declared.weak.Part.{Part}

abbrev pub part_nodes : List Part → List ℕ
part_nodes parts = map (λ p. p.node) parts

abbrev pub part_ends : List Part → List ℕ
part_ends parts = map (λ p. p.end) parts

-- each end is past its own place and at most the length
pub record AreEnds (ends : List ℕ) : Type 0 where
  pub past : (i : ℕ) → i < length ends → i < slice_index ends i
  pub within : (i : ℕ) → i < length ends → slice_index ends i ≤ length ends

-- of two parts from a place on, they are disjoint or the first one holds the other
abbrev pub NestFrom : List ℕ → ℕ → Type 0
NestFrom ends from = (i j : ℕ) → from ≤ i → i < j → j < length ends → (slice_index ends i ≤ j) ⊎ (slice_index ends j ≤ slice_index ends i)

-- of two parts, they are disjoint or one holds the other
abbrev pub Nest : List ℕ → Type 0
Nest ends = (i j : ℕ) → i < j → j < length ends → (slice_index ends i ≤ j) ⊎ (slice_index ends j ≤ slice_index ends i)

-- the part at a place holds another place
abbrev pub Holds : List ℕ → ℕ → ℕ → Type 0
Holds ends head place = (head ≤ place) × (place < slice_index ends head)

-- an edge goes forwards to a node that heads no part with its source, or to the head of a part that holds its source
abbrev pub Follows : List ℕ → List ℕ → ℕ × ℕ → Type 0
Follows order ends edge = (i j : ℕ) → i < length order → j < length order → slice_index order i ≡ edge.0 → slice_index order j ≡ edge.1
    → ((i < j) × (¬ Holds ends j i)) ⊎ Holds ends j i

-- an edge between nodes that doesn't go forwards goes to the head of a part that holds its source, by the nodes' places
abbrev pub IsHeld : List ℕ → List ℕ → ℕ × ℕ → Type 0
IsHeld places ends edge = edge.0 < length places → edge.1 < length places → slice_index places edge.1 ≤ slice_index places edge.0 → slice_index places edge.0 < slice_index ends (slice_index places edge.1)

-- no end is smaller than the other's
abbrev pub NoSmaller : List ℕ → List ℕ → Type 0
NoSmaller ends others = (i : ℕ) → slice_index ends i ≤ slice_index others i

-- a node behind the head of a part and in it has an edge to the head
pub record HasCause (order ends : List ℕ) (edges : List (ℕ × ℕ)) (head : ℕ) : Type 0 where
  pub place : ℕ
  pub behind : head < place
  pub within : place < slice_index ends head
  pub short : place < length order
  pub edge : Contains edges (slice_index order place, slice_index order head)

-- each part of more than one node is there for an edge to its head from a node in it
abbrev pub AreCaused : List ℕ → List ℕ → List (ℕ × ℕ) → Type 0
AreCaused order ends edges = (head : ℕ) → head < length ends → head + 1 < slice_index ends head → HasCause order ends edges head

-- the last node of a part has an edge to a node in front of it in the part
pub record HasLast (order ends : List ℕ) (edges : List (ℕ × ℕ)) (head : ℕ) : Type 0 where
  pub last : ℕ
  pub is_last : last + 1 ≡ slice_index ends head
  pub short : last < length order
  pub target : ℕ
  pub from : head ≤ target
  pub before : target < last
  pub edge : Contains edges (slice_index order last, slice_index order target)

-- each part of more than one node ends with a node that has an edge back into it
abbrev pub AreTight : List ℕ → List ℕ → List (ℕ × ℕ) → Type 0
AreTight order ends edges = (head : ℕ) → head < length ends → head + 1 < slice_index ends head → HasLast order ends edges head

-- the end of a place is that of a place from there on, which is the place itself or has more than itself
pub record HasSource (old : List ℕ) (head end : ℕ) : Type 0 where
  pub source : ℕ
  pub from : head ≤ source
  pub short : source < length old
  pub same : slice_index old source ≡ end
  pub more : (source ≡ head) ⊎ (source + 1 < end)

abbrev pub HaveSources : List ℕ → List ℕ → Type 0
HaveSources old ends = (head : ℕ) → head < length ends → HasSource old head (slice_index ends head)

-- the edge between nodes goes to this place from a place behind it, which is the last before the place's end
pub record IsCausedBy (places ends : List ℕ) (edge : ℕ × ℕ) (head : ℕ) : Type 0 where
  pub from : edge.0 < length places
  pub to : edge.1 < length places
  pub is_head : slice_index places edge.1 ≡ head
  pub behind : head < slice_index places edge.0
  pub is_last : slice_index places edge.0 + 1 ≡ slice_index ends head

-- one of so many edges does
pub record Causes (places ends : List ℕ) (edges : List (ℕ × ℕ)) (upto head : ℕ) : Type 0 where
  pub at : ℕ
  pub is_below : at < upto
  pub by_edge : IsCausedBy places ends (slice_index_or edges at (0, 0)) head

-- each end that is past the next place has its cause among so many edges
abbrev pub HaveCauses : List ℕ → List ℕ → List (ℕ × ℕ) → ℕ → Type 0
HaveCauses places ends edges upto = (head : ℕ) → head + 1 < slice_index ends head → Causes places ends edges upto head

-- an end is what it was, or the edge is its cause
abbrev pub IsGrownFor : List ℕ → ℕ × ℕ → List ℕ → List ℕ → Type 0
IsGrownFor places edge old ends = (head : ℕ) → (slice_index ends head ≡ slice_index old head) ⊎ IsCausedBy places ends edge head

-- an end is what it was, or it is that of the first place and follows the second
abbrev pub IsSetFor : ℕ → ℕ → List ℕ → List ℕ → Type 0
IsSetFor head place old ends = (i : ℕ) → (slice_index ends i ≡ slice_index old i) ⊎ ((i ≡ head) × ((head < place) × (place + 1 ≡ slice_index ends head)))

-- a place that heads no more than itself still does so
abbrev pub StayAlone : List ℕ → List ℕ → Type 0
StayAlone old ends = (i : ℕ) → slice_index old i ≡ i + 1 → slice_index ends i ≡ i + 1

-- an edge among nodes by their places, from a place behind another one to it
pub record IsBack (places : List ℕ) (edges : List (ℕ × ℕ)) (from to : ℕ) : Type 0 where
  pub at : ℕ
  pub short : at < length edges
  pub is_from : (slice_index_or edges at (0, 0)).0 < length places
  pub is_to : (slice_index_or edges at (0, 0)).1 < length places
  pub starts : slice_index places (slice_index_or edges at (0, 0)).0 ≡ from
  pub ends : slice_index places (slice_index_or edges at (0, 0)).1 ≡ to

-- an end past the next place is so for an edge from within to the place, and for one from the last place back into the part
pub record IsCausedSo (places ends : List ℕ) (edges : List (ℕ × ℕ)) (head : ℕ) : Type 0 where
  pub place : ℕ
  pub behind : head < place
  pub within : place < slice_index ends head
  pub cause : IsBack places edges place head
  pub last : ℕ
  pub is_last : last + 1 ≡ slice_index ends head
  pub target : ℕ
  pub from : head ≤ target
  pub before : target < last
  pub back : IsBack places edges last target

abbrev pub AreCausedSo : List ℕ → List ℕ → List (ℕ × ℕ) → Type 0
AreCausedSo places ends edges = (head : ℕ) → head + 1 < slice_index ends head → IsCausedSo places ends edges head
