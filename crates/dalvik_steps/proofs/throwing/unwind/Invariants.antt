use Rattle.std.proofs.Common.{ℕ, ◌<◌, length, drop, List}
use Rattle.std.specs.Prelude.{◌^◌}
use Rattle.dalvik_defs.specs.State.{Next}
use Rattle.dalvik_defs.specs.declared.script.Move.{Move}
use Rattle.dalvik_lookups.specs.Tables.{IsRight}
use Rattle.dalvik_lookups.specs.declared.lookups.Lookups.{Lookups}
use Rattle.dalvik_steps.specs.Falls.{IsFalling, LandsThere}
use Rattle.dalvik_steps.specs.declared.throwing.Landing.{Landing}
use Rattle.dalvik_steps.proofs.throwing.unwind.Given as goal

abbrev pub invariant-loop-state : goal.invariant-loop-state
invariant-loop-state l = (k : Lookups) (steps : ℕ) (script : List Move) (all : Next) (to : Landing) → IsRight k → LandsThere to l.place → IsFalling k steps script all to l.fn.state l.wraps l.fn.datum
    → IsFalling k steps script all to l.state (drop l.flown.0 l.wraps) l.flown.1

abbrev pub decreases-loop-state : goal.decreases-loop-state
decreases-loop-state l = length l.state.stack.items
