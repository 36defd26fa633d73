use Rattle.std.proofs.Common.{◌≡◌, ◌++◌, take}
use Rattle.dex_write.specs.Tables.{field_words}
use Rattle.dex_write.proofs.tables.push_fields.Given as goal

abbrev pub invariant-loop-old : goal.invariant-loop-old
invariant-loop-old l = l.out.items ≡ l.fn.out.items ++ field_words l.numbers l.fields (take l.old-index l.order)
