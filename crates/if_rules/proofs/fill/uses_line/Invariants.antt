use Rattle.std.proofs.Common.{◌≡◌, length}
use Rattle.std.specs.List.{list_any}
use Rattle.if_rules.specs.Instances.{names_line}
use Rattle.if_rules.specs.Lists.{lists_of}
use Rattle.if_rules.proofs.fill.uses_line.Given as goal

abbrev pub invariant-loop-rest : goal.invariant-loop-rest
invariant-loop-rest l = list_any (λ parts. list_any (names_line l.fn.slots) parts) (lists_of l.rest) ≡ list_any (λ parts. list_any (names_line l.fn.slots) parts) (lists_of l.fn.words)

abbrev pub decreases-loop-rest : goal.decreases-loop-rest
decreases-loop-rest l = length l.rest
