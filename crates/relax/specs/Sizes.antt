-- The least sizes with room.
use Rattle.std.specs.Prelude.{ℕ, zero, suc, ◌+◌, ◌-◌, ◌≤◌, List, [], ◌∷◌, length, replicate, max, nat_le, nat_lt, nat_eq, if◌then◌else◌}
use Rattle.relax.specs.declared.step.Step.{Step}
use Rattle.relax.specs.declared.step.Step.TheVariants.{Fixed, Jump}

-- where a position begins, by the sizes of those before it; the end of the code stands for every further one
abbrev pub start : List ℕ → ℕ → ℕ
start ss zero = 0
start [] (suc k) = 0
start (s ∷ ss) (suc k) = s + start ss k

-- the units of a goto so far forwards, and so far backwards: 8, 16 and 32 signed bits
abbrev pub forward : ℕ → ℕ
forward far = if nat_le far 127 then 1 else if nat_le far 32767 then 2 else 3

abbrev pub backward : ℕ → ℕ
backward far = if nat_le far 128 then 1 else if nat_le far 32768 then 2 else 3

-- the units of the shortest spelling that has room, where the positions have these sizes. A goto to itself has the
-- longest one
abbrev pub need : List ℕ → ℕ → Step → ℕ
need sizes at (Fixed units) = units
need sizes at (Jump target) = if nat_eq target at then 3 else if nat_lt at target then forward (start sizes target - start sizes at) else backward (start sizes at - start sizes target)

-- each position has room for its spelling
abbrev pub RoomFrom : List ℕ → ℕ → List Step → List ℕ → Type 0
RoomFrom sizes at [] [] = Unit {0}
RoomFrom sizes at [] (s ∷ ss) = ⊥
RoomFrom sizes at (f ∷ fs) [] = ⊥
RoomFrom sizes at (f ∷ fs) (s ∷ ss) = (need sizes at f ≤ s) × RoomFrom sizes (suc at) fs ss

abbrev pub HasRoom : List Step → List ℕ → Type 0
HasRoom steps sizes = RoomFrom sizes 0 steps sizes

-- none is larger than the other's
abbrev pub Below : List ℕ → List ℕ → Type 0
Below [] [] = Unit {0}
Below [] (t ∷ ts) = ⊥
Below (s ∷ ss) [] = ⊥
Below (s ∷ ss) (t ∷ ts) = (s ≤ t) × Below ss ts

-- the least sizes that have room, among all that have
pub record IsLeast (steps : List Step) (sizes : List ℕ) : Type 0 where
  pub room : HasRoom steps sizes
  pub least : (others : List ℕ) → HasRoom steps others → Below sizes others

-- one round of the search
abbrev pub grown : List ℕ → ℕ → List Step → List ℕ → List ℕ
grown sizes at [] ss = []
grown sizes at (f ∷ fs) [] = []
grown sizes at (f ∷ fs) (s ∷ ss) = max s (need sizes at f) ∷ grown sizes (suc at) fs ss

abbrev pub firsts : List Step → List ℕ
firsts steps = replicate (length steps) 0

-- the most that a step ever has
abbrev pub cap : Step → ℕ
cap (Fixed units) = units
cap (Jump target) = 3
