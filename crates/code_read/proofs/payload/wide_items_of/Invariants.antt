use Rattle.std.proofs.Common.{◌/◌}
use Rattle.code_read.specs.Payloads.{item_in, entries}
use Rattle.code_read.proofs.Entries.{Reads}
use Rattle.code_read.proofs.payload.wide_items_of.Given as goal

abbrev pub invariant-loop-left : goal.invariant-loop-left
invariant-loop-left l = Reads (item_in l.width) (l.width / 2) l.left l.items.items l.rest (entries (item_in l.width) (l.width / 2) l.count l.units)

abbrev pub decreases-loop-left : goal.decreases-loop-left
decreases-loop-left l = l.left
