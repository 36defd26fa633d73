use Rattle.verify.specs.Chains.{SoundBelow}
use Rattle.verify.proofs.chains.Chains.first_unsound.Given as goal

abbrev pub invariant-loop-class : goal.invariant-loop-class
invariant-loop-class l = SoundBelow l.self l.class
