use Rattle.std.proofs.Common.{◌≡◌, ◌++◌, take}
use Rattle.dex_write.specs.Tables.{type_words}
use Rattle.dex_write.proofs.tables.push_types.Given as goal

abbrev pub invariant-loop-old : goal.invariant-loop-old
invariant-loop-old l = l.out.items ≡ l.fn.out.items ++ type_words l.strings l.types (take l.old-index l.order)
