-- The numbers that registers take, one run of tied registers after the other, each the least that is free.
use Rattle.std.specs.Prelude.{◌≡◌, ℕ, zero, suc, ◌+◌, ◌<◌, ◌≤◌, ◌⊎◌, Bool, true, false, List, [], ◌∷◌, ◌++◌, length, slice_index, Contains}
use Rattle.walk_marks.specs.Walks.{is_on}
use Rattle.compact.specs.Ties.{has_some}
use Rattle.compact.specs.Clashes.{Meets}
use Rattle.compact.specs.declared.clash.Clash.{Clash}

-- some of these places were marked
pub record Sets (some : ℕ → Type 0) (old new : List Bool) : Type 0 where
  pub long : length new ≡ length old
  pub kept : (x : ℕ) → is_on old x ≡ true → is_on new x ≡ true
  pub more : (x : ℕ) → is_on new x ≡ true → (is_on old x ≡ true) ⊎ some x
  pub on : (x : ℕ) → some x → x < length old → is_on new x ≡ true

-- one of these registers has the number that is so many above the place
abbrev pub Bars : List ℕ → List ℕ → ℕ → ℕ → Type 0
Bars numbers met step x = (q : ℕ) × Contains met q × (q < length numbers) × (slice_index numbers q ≡ x + step)

-- a register that a run's register meets has that number
abbrev pub BarsRun : Clash → List ℕ → ℕ → ℕ → ℕ → Type 0
BarsRun c numbers at size x = (i : ℕ) × (i < size) × (q : ℕ) × (q < length numbers) × (slice_index numbers q ≡ x + i) × Meets c (at + i) q

-- a run of tied registers
pub record IsRun (ties : List (List ℕ)) (at floor size : ℕ) : Type 0 where
  pub some : 0 < size
  pub within : at + size ≤ floor
  pub tied : (i : ℕ) → i + 1 < size → has_some ties (at + i) ≡ true
  pub ends : (s : ℕ) → suc s ≡ at + size → has_some ties s ≡ false

-- the first place that isn't marked, the length where all are
pub record IsFirstClear (marks : List Bool) (x : ℕ) : Type 0 where
  pub short : x ≤ length marks
  pub before : (y : ℕ) → y < x → is_on marks y ≡ true
  pub clear : is_on marks x ≡ false

-- so many numbers from one on
abbrev pub counted : ℕ → ℕ → List ℕ
counted x zero = []
counted x (suc k) = counted x k ++ (x + k) ∷ []

-- one more than the greatest number that a used register has, 0 where there is none
pub record IsTop (used : List Bool) (numbers : List ℕ) (top : ℕ) : Type 0 where
  pub over : (q : ℕ) → q < length numbers → is_on used q ≡ true → slice_index numbers q < top
  pub some : 0 < top → (q : ℕ) × (q < length numbers) × (is_on used q ≡ true) × (slice_index numbers q + 1 ≡ top)

-- no register is tied to the one before it or behind it
abbrev pub IsLoose : List (List ℕ) → ℕ → Type 0
IsLoose ties r = (has_some ties r ≡ false) × ((s : ℕ) → suc s ≡ r → has_some ties s ≡ false)

-- The first registers have their numbers: none rises, those that meet differ, tied ones stay side by side, and what is loose
-- meets a register at each lower number.
pub record Placed (c : Clash) (ties : List (List ℕ)) (used : List Bool) (numbers : List ℕ) (top : ℕ) : Type 0 where
  pub falls : (q : ℕ) → q < length numbers → slice_index numbers q ≤ q
  pub apart : (q r : ℕ) → q < r → r < length numbers → Meets c r q → slice_index numbers r ≡ slice_index numbers q → ⊥
  pub joined : (q : ℕ) → q + 1 < length numbers → has_some ties q ≡ true → slice_index numbers (q + 1) ≡ slice_index numbers q + 1
  pub least : (r x : ℕ) → r < length numbers → IsLoose ties r → x < slice_index numbers r → (q : ℕ) × (q < r) × (slice_index numbers q ≡ x) × Meets c r q
  pub ends : (s : ℕ) → suc s ≡ length numbers → has_some ties s ≡ false
  pub is_top : IsTop used numbers top

-- the registers from one on, up to the arguments, are each tied to the next, and the one before them isn't
pub record IsFloor (ties : List (List ℕ)) (locals floor : ℕ) : Type 0 where
  pub low : floor ≤ locals
  pub tied : (r : ℕ) → floor ≤ r → r < locals → has_some ties r ≡ true
  pub ends : (r : ℕ) → suc r ≡ floor → has_some ties r ≡ false
