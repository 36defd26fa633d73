use Rattle.std.proofs.Common.{◌≡◌, ◌++◌, drop}
use Rattle.dex_write.specs.Tables.{proto_words}
use Rattle.dex_write.proofs.tables.push_protos.Given as goal

abbrev pub invariant-loop-place : goal.invariant-loop-place
invariant-loop-place l = l.out.items ++ proto_words l.numbers l.protos l.parameters l.place (drop l.place l.order) ≡ l.fn.out.items ++ proto_words l.numbers l.protos l.parameters 0 l.order
