use Rattle.vague_facts.specs.Counting.{AreFrames}
use Rattle.vague_facts.proofs.frames.frames_of.Given as goal

abbrev pub invariant-loop : goal.invariant-loop
invariant-loop l = AreFrames l.registers l.counter l.frames.items
