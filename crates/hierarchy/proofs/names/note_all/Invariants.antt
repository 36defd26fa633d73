use Rattle.std.proofs.Common.{◌≡◌, ℕ, replicate, false}
use Rattle.hierarchy.specs.Membership.{method_pair, AreKeys}
use Rattle.hierarchy.proofs.Fives.{CommonSoFar}
use Rattle.hierarchy.proofs.names.note_all.Given as goal

abbrev pub invariant-loop-number : goal.invariant-loop-number
invariant-loop-number l = (count : ℕ) → AreKeys method_pair l.methods l.keys count → l.initial.marks ≡ replicate count false → CommonSoFar l.program l.methods l.keys l.marks l.number
