use Rattle.std.proofs.Common.{◌≡◌, ◌++◌}
use Rattle.if_text.specs.Wildcards.{blanks}
use Rattle.if_text.proofs.slots.push_blanks.Given as goal

abbrev pub invariant-loop : goal.invariant-loop
invariant-loop l = l.out.items ≡ l.fn.out.items ++ blanks l.counter
