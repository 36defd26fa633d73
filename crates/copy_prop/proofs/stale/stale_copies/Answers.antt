use Rattle.std.proofs.Common.{◌∙◌}
use Rattle.copy_prop.proofs.Table.{copies_none}
use Rattle.copy_prop.proofs.stale.stale_copies.Goals as goal

pub returns-else-some : goal.returns-else-some
returns-else-some c = copies_none c.args.widths.now c.args.body.now c.in_ok-table.table.items (c.in_ok-table.ensures.long ∙ c.len.ensures) c.in_ok-table.ensures.empty (c.has_copy-some.ensures c.if-some.false)
