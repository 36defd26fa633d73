use Rattle.reach_bridge.proofs.Unshut.{unshut}
use Rattle.reach_bridge.proofs.Within.{shows_the_same}
use Rattle.type_bridge.proofs.Programs.{typed_program}
use Rattle.reach_bridge.proofs.accepted.accepted_reach_law.Goals as goal

pub returns : goal.returns
returns c = λ p h o s formed resolved acyclic typed fits closed none.
    shows_the_same p o s (record { formed = formed; once = resolved.of.once; grounded = acyclic; sized = fits; closed = closed }) (typed_program p h formed resolved typed) (unshut p o none)
