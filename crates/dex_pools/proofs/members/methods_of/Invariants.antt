use Rattle.std.proofs.Common.{◌≡◌, length, All}
use Rattle.dex_base.specs.Reading.{each}
use Rattle.dex_pools.specs.InRange.{MethodInRange}
use Rattle.dex_pools.specs.Tables.{method_at}
use Rattle.dex_pools.proofs.Loop.{ReadsEach}
use Rattle.dex_pools.proofs.members.methods_of.Given as goal

abbrev pub invariant-loop-i : goal.invariant-loop-i
invariant-loop-i l = record {
  reads : ReadsEach (method_at l.bytes l.tables) l.found.items l.tables.methods.size l.i (each (method_at l.bytes l.tables) 0 l.tables.methods.size);
  sized : length l.found.items ≡ l.i;
  range : All (MethodInRange l.tables.strings.size l.tables.types.size l.tables.protos.size) l.found.items;
}
