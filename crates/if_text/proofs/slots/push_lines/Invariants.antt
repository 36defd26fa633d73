use Rattle.if_text.specs.Slots.{Adds}
use Rattle.if_text.proofs.slots.push_lines.Given as goal

abbrev pub invariant-loop : goal.invariant-loop
invariant-loop l = Adds l.fn.start l.counter l.fn.out.items l.out.items
