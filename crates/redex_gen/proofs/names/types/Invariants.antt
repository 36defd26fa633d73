use Rattle.std.proofs.Common.{◌≡◌, ◌+◌, length}
use Rattle.redex_gen.proofs.names.types.Given as goal

abbrev pub invariant-loop-place : goal.invariant-loop-place
invariant-loop-place l = length l.types ≡ l.place + 2
