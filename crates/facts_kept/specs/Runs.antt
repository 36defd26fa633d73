-- Where a form goes on.
use Rattle.std.specs.Prelude.{◌≡◌}
use Rattle.dalvik_defs.specs.Effect.{Effect, Goes, next, go}
use Rattle.dalvik_defs.specs.State.{World}
use Rattle.dalvik_defs.specs.declared.state.Frame.{Frame}
use Rattle.const_prop.specs.declared.choices.Way.{Way}
use Rattle.const_prop.specs.declared.choices.Way.TheVariants.{Open, Next, To}

-- the effect goes a way
abbrev pub GoesBy : World → Frame → Way → Effect → Type 0
GoesBy w g Open e = Unit {0}
GoesBy w g Next e = e ≡ Goes w (next g)
GoesBy w g (To t) e = e ≡ Goes w (go g t)
