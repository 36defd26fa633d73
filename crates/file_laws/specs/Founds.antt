-- What it means that what a reading finds stands there.
use Rattle.std.specs.Prelude.{◌≡◌, Result, Ok}

-- what is read is what stands there
pub record Founds {Y F : Type 0} (Is : Y → Type 0) (read : Result Y F) : Type 0 where
  pub found : (y : Y) → read ≡ Ok y → Is y
