use Rattle.std.proofs.Common.{◌≡◌}
use Rattle.pipeline.specs.Silence.{marked, silenced_to}
use Rattle.pipeline.proofs.silent.silence_insns.Given as goal

abbrev pub invariant-loop-position : goal.invariant-loop-position
invariant-loop-position l = l.insns ≡ silenced_to (marked l.marks) l.position l.fn.insns
