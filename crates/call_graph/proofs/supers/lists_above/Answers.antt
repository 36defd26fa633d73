use Rattle.std.proofs.Common.{◌∙◌, ap}
use Rattle.std.specs.List.{list_any}
use Rattle.call_graph.specs.Supers.{lists_at}
use Rattle.call_graph.proofs.SuperCalls.{decided, lists_short}
use Rattle.call_graph.proofs.supers.lists_above.Goals as goal

pub returns-clause-decides : goal.returns-clause-decides
returns-clause-decides c = λ is fits long clean short.
    decided c.args.at.now.program.now c.args.class c.args.kind c.in_ok-above.above.items c.one_lists.result (c.one_lists.ensures is ∙ ap (list_any (lists_at c.args.at.now.program.now c.args.kind)) c.as_slice.ensures.value)
    (c.in_ok-above.ensures.from is long clean) (c.in_ok-above.ensures.above is long clean) (λ u h. lists_short c.args.at.now.program.now fits c.args.kind u h)
