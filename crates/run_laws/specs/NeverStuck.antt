-- When a run is never stuck (this project's profile): it ends only where its script has no move left, or where the move
-- whose turn it is isn't legal.
use Rattle.std.specs.Prelude.{◌≡◌, ◌⊎◌, ℕ, false}
use Rattle.dalvik_defs.specs.Face.{Bodies}
use Rattle.dalvik_defs.specs.State.{State, Ended}
use Rattle.dalvik_defs.specs.Happens.{Setting}
use Rattle.dalvik_defs.specs.MayGo.{may_go}
use Rattle.dalvik_defs.specs.Step.{step, after}

-- Whatever the number of steps, the run has ended before, or its next step ends it only where it may not go on.
abbrev pub IsNeverStuck : Setting → Bodies → State → Type 0
IsNeverStuck s find t = (n : ℕ) → (after s find t n ≡ Ended) ⊎ ((step s find (after s find t n)).0 ≡ Ended → may_go s (after s find t n) ≡ false)
