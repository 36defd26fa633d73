use Rattle.std.proofs.Common.{◌≡◌, length, All}
use Rattle.dex_pools.specs.InRange.{ProtoInRange}
use Rattle.dex_pools.specs.Tables.{proto_at}
use Rattle.dex_pools.specs.Run.{run}
use Rattle.dex_pools.proofs.Loop.{Reads}
use Rattle.dex_pools.proofs.protos.protos_of.Given as goal

abbrev pub invariant-loop-i : goal.invariant-loop-i
invariant-loop-i l = record {
  reads : Reads (proto_at l.bytes l.tables l.strings l.letters) l.found.items l.tables.protos.size l.i l.left (run (proto_at l.bytes l.tables l.strings l.letters) 0 l.tables.protos.size l.fn.left);
  sized : length l.found.items ≡ l.i;
  range : All (ProtoInRange l.tables.strings.size l.tables.types.size) l.found.items;
}
