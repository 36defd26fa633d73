use Rattle.std.proofs.Common.{take}
use Rattle.keep_rules.specs.View.{AddsEach}
use Rattle.keep_rules.proofs.tables.add_to_each.Given as goal

abbrev pub invariant-loop-kind : goal.invariant-loop-kind
invariant-loop-kind l = AddsEach (take l.kind-index l.kinds) l.number l.initial.lists.items l.lists.items
