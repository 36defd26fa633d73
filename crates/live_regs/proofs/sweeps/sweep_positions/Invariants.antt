use Rattle.live_regs.proofs.Sweeping.{SweptFrom}
use Rattle.live_regs.proofs.sweeps.sweep_positions.Given as goal

abbrev pub invariant-loop-position : goal.invariant-loop-position
invariant-loop-position l = SweptFrom l.body l.caught l.initial.words.items l.words.items l.changed l.position
