use Rattle.live_regs.proofs.Sweeping.{SweptUpto}
use Rattle.live_regs.proofs.sweeps.sweep_regions.Given as goal

abbrev pub invariant-loop-place : goal.invariant-loop-place
invariant-loop-place l = SweptUpto l.body l.words l.caught.items l.changed l.place
