use Rattle.live_regs.specs.Sweeps.{AreSoFar}
use Rattle.live_regs.proofs.sweeps.settle.Given as goal

abbrev pub invariant-loop : goal.invariant-loop
invariant-loop l = AreSoFar l.body l.caught.items l.words.items
