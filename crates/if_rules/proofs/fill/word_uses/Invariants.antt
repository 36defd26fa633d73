use Rattle.std.proofs.Common.{◌≡◌, length}
use Rattle.std.specs.List.{list_any}
use Rattle.if_rules.specs.Instances.{names_line}
use Rattle.if_rules.proofs.fill.word_uses.Given as goal

abbrev pub invariant-loop-rest : goal.invariant-loop-rest
invariant-loop-rest l = list_any (names_line l.fn.slots) l.rest ≡ list_any (names_line l.fn.slots) l.fn.parts

abbrev pub decreases-loop-rest : goal.decreases-loop-rest
decreases-loop-rest l = length l.rest
