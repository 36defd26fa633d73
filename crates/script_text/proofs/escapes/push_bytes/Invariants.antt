use Rattle.std.proofs.Common.{◌≡◌, ◌++◌, take}
use Rattle.script_text.proofs.escapes.push_bytes.Given as goal

abbrev pub invariant-loop-c : goal.invariant-loop-c
invariant-loop-c l = l.units.items ≡ l.initial.units.items ++ take l.c-index l.piece
