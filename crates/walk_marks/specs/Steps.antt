-- What the steps of marking and of turning do.
use Rattle.std.specs.Prelude.{◌≡◌, ◌↔◌, ◌⊎◌, ℕ, ◌+◌, ◌<◌, ◌≤◌, Bool, true, not, List, length, count_by, Contains, All}
use Rattle.walk_marks.specs.Walks.{is_on, row_of}

-- how many nodes aren't marked
abbrev pub unmarked : List Bool → ℕ
unmarked marks = count_by not marks

-- Some of these nodes were marked, and what was marked waits.
pub record Marks (some : ℕ → Type 0) (marks : List Bool) (waiting : List ℕ) (marks' : List Bool) (waiting' : List ℕ) : Type 0 where
  pub long : length marks' ≡ length marks
  pub kept : (n : ℕ) → is_on marks n ≡ true → is_on marks' n ≡ true
  pub more : (n : ℕ) → is_on marks' n ≡ true → (is_on marks n ≡ true) ⊎ (Contains waiting' n × some n)
  pub still : (n : ℕ) → Contains waiting n → Contains waiting' n
  pub wait : (n : ℕ) → Contains waiting' n → Contains waiting n ⊎ (is_on marks' n ≡ true)
  pub falls : unmarked marks' + length waiting' ≤ unmarked marks + length waiting

-- an edge of the row that is let through leads there
abbrev pub Leads : List ℕ → (ℕ → ℕ → Bool) → ℕ → ℕ → Type 0
Leads row lets from n = Contains row n × (lets from n ≡ true)

-- where such an edge leads to a node, that is marked
abbrev pub Follows : List ℕ → (ℕ → ℕ → Bool) → ℕ → List Bool → Type 0
Follows row lets from marks = (n : ℕ) → Leads row lets from n → n < length marks → is_on marks n ≡ true

-- each of these that is a node is marked
abbrev pub AreOn : List ℕ → List Bool → Type 0
AreOn nodes marks = (n : ℕ) → Contains nodes n → n < length marks → is_on marks n ≡ true

-- an edge to a node was added to some of the rows
pub record Adds (some : ℕ → Type 0) (to : ℕ) (old new : List (List ℕ)) : Type 0 where
  pub long : length new ≡ length old
  pub kept : (m n : ℕ) → Contains (row_of old m) n → Contains (row_of new m) n
  pub added : (m : ℕ) → m < length old → some m → Contains (row_of new m) to
  pub only : (m n : ℕ) → Contains (row_of new m) n → Contains (row_of old m) n ⊎ (some m × (n ≡ to))
