-- Slots of a line are added.
use Rattle.std.specs.Prelude.{◌≡◌, ◌≤◌, ◌-◌, ℕ, List, ◌++◌, length}
use Rattle.if_text.specs.Wildcards.{numbered}
use Rattle.if_text.specs.declared.slots.Source.{Source}
use Rattle.if_text.specs.declared.slots.Source.TheVariants.{Line}

-- so many slots of a line that has begun at a place
pub record Adds (start count : ℕ) (old new : List Source) : Type 0 where
  pub is : new ≡ old ++ numbered (λ i. Line i) (length old - start) count
  pub begun : start ≤ length old
