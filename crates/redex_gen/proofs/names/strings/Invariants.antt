use Rattle.std.proofs.Common.{◌≡◌, ◌+◌, length}
use Rattle.redex_gen.proofs.names.strings.Given as goal

abbrev pub invariant-loop-text : goal.invariant-loop-text
invariant-loop-text l = length l.strings ≡ l.text-index

abbrev pub invariant-loop-place : goal.invariant-loop-place
invariant-loop-place l = length l.strings ≡ l.place-counter + 5
