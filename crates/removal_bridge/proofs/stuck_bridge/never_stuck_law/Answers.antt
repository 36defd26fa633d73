use Rattle.dalvik_defs.specs.Naming.{named}
use Rattle.run_laws.proofs.Runs.{never_stuck_regular}
use Rattle.removal_bridge.proofs.TypedFormed.{regular_program}
use Rattle.removal_bridge.proofs.stuck_bridge.never_stuck_law.Goals as goal

pub returns : goal.returns
returns c p fits twice typed o f a script fit = never_stuck_regular (named p) o f a script (regular_program p fits twice typed) fit
