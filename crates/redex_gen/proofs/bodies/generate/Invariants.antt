use Rattle.std.proofs.Common.{◌≡◌, length}
use Rattle.redex_gen.proofs.bodies.generate.Given as goal

abbrev pub invariant-loop-place : goal.invariant-loop-place
invariant-loop-place l = length l.classes ≡ l.place
