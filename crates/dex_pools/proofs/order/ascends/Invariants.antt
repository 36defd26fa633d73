use Rattle.std.proofs.Common.{◌≡◌, drop}
use Rattle.std.specs.Option.{option_copied}
use Rattle.dex_pools.specs.Order.{ascends_from, ascends_in}
use Rattle.dex_pools.proofs.order.ascends.Given as goal

abbrev pub invariant-loop-place : goal.invariant-loop-place
invariant-loop-place g l = ascends_from g.T.Placed.below l.table (option_copied l.before) l.place (drop l.place l.items) ≡ ascends_in g.T.Placed.below l.table l.items
