use Rattle.std.proofs.Common.{◌≡◌, ℕ, false, replicate, take}
use Rattle.dalvik_lookups.specs.Reached.{AreBaseMarks}
use Rattle.dalvik_lookups.proofs.outer.mark_types.Given as goal

abbrev pub invariant-loop-number : goal.invariant-loop-number
invariant-loop-number l = record { marks : (count : ℕ) → l.fn.marks ≡ replicate count false → AreBaseMarks l.program l.kinds count (take l.number-index l.numbers) l.marks }
