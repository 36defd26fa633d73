-- What stands at a place of a file.
use Rattle.std.specs.Prelude.{◌≡◌, ◌+◌, ◌-◌, ◌≤◌, ℕ, List, length, take, drop, replicate}

-- the text stands at this place
pub record Here (bytes : List ℕ) (at : ℕ) (text : List ℕ) : Type 0 where
  pub inside : at + length text ≤ length bytes
  pub is : take (length text) (drop at bytes) ≡ text

-- nothing but zeros stands from a place to another
pub record AreZeros (bytes : List ℕ) (from to : ℕ) : Type 0 where
  pub order : from ≤ to
  pub zeros : Here bytes from (replicate (to - from) 0)
