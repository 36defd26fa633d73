-- What is chosen as the new numbers of a body's registers.
use Rattle.std.specs.Prelude.{◌≡◌, ℕ, ◌+◌, ◌<◌, ◌≤◌, ◌⊎◌, Bool, true, false, List, length, slice_index}
use Rattle.program_model.specs.declared.body.Body.{Body}
use Rattle.walk_marks.specs.Walks.{is_on}
use Rattle.compact.specs.Packed.{locals}
use Rattle.compact.specs.Ties.{AreTies}
use Rattle.compact.specs.Clashes.{IsClash, AreUsed}
use Rattle.compact.specs.Placed.{Placed, IsFloor}
use Rattle.compact.specs.declared.clash.Clash.{Clash}

-- The registers below the floor are placed, and those from there on move down to the greatest place that is used.
pub record IsChoice (w : List (List Bool)) (b : Body) (used : List Bool) (low : List ℕ) (shift : ℕ) : Type 0 where
  pub clash : Clash
  pub ties : List (List ℕ)
  pub top : ℕ
  pub is_clash : IsClash b clash
  pub are_ties : AreTies w b ties
  pub ties_long : length ties ≡ b.registers
  pub are_used : AreUsed b used
  pub placed : Placed clash ties used low top
  pub is_floor : IsFloor ties (locals b) (length low)
  pub fits : top ≤ length low
  pub is_shift : shift + top ≡ length low

-- some used register has another number
abbrev pub Moves : List Bool → List ℕ → ℕ → Bool → Type 0
Moves used low shift true = (0 < shift) ⊎ ((q : ℕ) × (q < length low) × (is_on used q ≡ true) × (slice_index low q ≡ q → ⊥))
Moves used low shift false = (shift ≡ 0) × ((q : ℕ) → q < length low → is_on used q ≡ true → slice_index low q ≡ q)
