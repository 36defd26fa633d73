-- Trees of keys, and the finite maps that they stand for.
use Rattle.std.specs.Prelude.{◌≡◌, ℕ, suc, ◌==◌, ◌+◌, ◌*◌, ◌/◌, ◌%◌, ◌^◌, ◌<◌, if◌then◌else◌, List, [], ◌∷◌, ◌++◌, map, Option, Some, None}
use Rattle.std.specs.Ordering.{nat_cmp}
use Rattle.std.specs.FinMap as finite
use Rattle.pat_map.specs.declared.nodes.Node.{Node, Leaf, Branch'}

-- a map from words to values
abbrev pub WordMap : Type 0 → Type 0
WordMap V = finite.FinMap nat_cmp V

-- the value at a key: a branch goes by the key's bit of its number
abbrev pub at : {V : Type 0} → Node V → ℕ → Option V
at (Leaf key value) k = if k == key then Some value else None
at (Branch' bit block p low q high) k = if (k / 2 ^ bit) % 2 == 0 then at low k else at high k

-- without their lowest `size` bits, all keys of the tree are `block`
abbrev pub Inside : {V : Type 0} → ℕ → ℕ → Node V → Type 0
Inside size block tree = (k : ℕ) → (k / 2 ^ size ≡ block → ⊥) → at tree k ≡ None

-- a block of keys that are words
abbrev pub Fits : ℕ → ℕ → Type 0
Fits size block = block * 2 ^ size < 2 ^ 32

-- the two halves of a block
pub record Halves {V : Type 0} (bit block : ℕ) (low high : Node V) : Type 0 where
  pub bit_fits : bit < 32
  pub fits : Fits (bit + 1) block
  pub low_in : Inside bit (2 * block) low
  pub high_in : Inside bit (2 * block + 1) high

abbrev pub IsTree : {V : Type 0} → Node V → Type 0
IsTree (Leaf key value) = key < 2 ^ 32
IsTree (Branch' bit block p low q high) = Halves bit block low high × IsTree low × IsTree high

-- a node over these two trees
abbrev pub IsBranch : {V : Type 0} → ℕ → ℕ → Node V → Node V → Node V → Type 0
IsBranch bit block low high (Leaf key value) = ⊥
IsBranch bit block low high (Branch' own_bit own_block p own_low q own_high) = (own_bit ≡ bit) × (own_block ≡ block) × (own_low ≡ low) × (own_high ≡ high)

-- the keys with their values, in ascending order
abbrev pub entries_of : {V : Type 0} → Node V → List (ℕ × V)
entries_of (Leaf key value) = (key, value) ∷ []
entries_of (Branch' bit block p low q high) = entries_of low ++ entries_of high

-- the map that a tree stands for, and an empty one where there is none
abbrev pub map_of : {V : Type 0} → Node V → WordMap V
map_of tree = finite.from_entries (entries_of tree)

abbrev pub map_from : {V : Type 0} → Option (Node V) → WordMap V
map_from None = finite.empty
map_from (Some tree) = map_of tree

-- the first value that there is
abbrev pub one_of : {V : Type 0} → Option V → Option V → Option V
one_of None y = y
one_of (Some v) y = Some v

-- a value, with f of it and another where there is another
abbrev pub with_other : {V : Type 0} → (V → V → V) → Option V → V → V
with_other f None v = v
with_other f (Some w) v = f w v

-- a value, with f of it and a newer one where there is a newer one
abbrev pub with_newer : {V : Type 0} → (V → V → V) → V → Option V → V
with_newer f w None = w
with_newer f w (Some v) = f w v

-- of two maps at one key: f of both values, or the one that there is
abbrev pub either : {V : Type 0} → (V → V → V) → Option V → Option V → Option V
either f x None = x
either f x (Some w) = Some (with_other f x w)

-- a value of one map is matched by one of the other
abbrev pub BelowAt : {V : Type 0} → (V → V → Type 0) → Option V → Option V → Type 0
BelowAt below None y = Unit {0}
BelowAt below (Some v) None = ⊥
BelowAt below (Some v) (Some w) = below v w

-- each key of one map is in the other, with a value at or above its own
abbrev pub IsBelow : {V : Type 0} → (V → V → Type 0) → WordMap V → WordMap V → Type 0
IsBelow below m n = (k : ℕ) → BelowAt below (finite.get m k) (finite.get n k)

-- two maps as one, with f of both values where both have the key
abbrev pub union : {V : Type 0} → (V → V → V) → WordMap V → WordMap V → WordMap V
union f m n = finite.from_entries (map (λ e. (e.0, with_other f (finite.get m e.0) e.1)) (finite.entries n) ++ finite.entries m)

-- how many nodes there are
abbrev pub node_count : {V : Type 0} → Node V → ℕ
node_count (Leaf key value) = 1
node_count (Branch' bit block p low q high) = suc (node_count low + node_count high)
