use Rattle.std.proofs.Common.{take}
use Rattle.keep_rules.specs.Below.{MarksSome}
use Rattle.keep_rules.proofs.above.mark_classes.Given as goal

abbrev pub invariant-loop-place : goal.invariant-loop-place
invariant-loop-place l = MarksSome l.program (take l.place-index l.places) l.initial.under.items l.under.items l.initial.kinds.items l.kinds.items
