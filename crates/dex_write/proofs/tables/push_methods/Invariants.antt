use Rattle.std.proofs.Common.{◌≡◌, ◌++◌, take}
use Rattle.dex_write.specs.Tables.{method_words}
use Rattle.dex_write.proofs.tables.push_methods.Given as goal

abbrev pub invariant-loop-old : goal.invariant-loop-old
invariant-loop-old l = l.out.items ≡ l.fn.out.items ++ method_words l.numbers l.methods (take l.old-index l.order)
