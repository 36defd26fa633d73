use Rattle.std.proofs.Common.{◌≡◌, ◌<◌, length, All}
use Rattle.dex_base.specs.Reading.{each}
use Rattle.dex_pools.specs.Tables.{type_at}
use Rattle.dex_pools.proofs.Loop.{ReadsEach}
use Rattle.dex_pools.proofs.types.types_of.Given as goal

abbrev pub invariant-loop-i : goal.invariant-loop-i
invariant-loop-i l = record {
  reads : ReadsEach (type_at l.bytes l.tables l.strings) l.found.items l.tables.types.size l.i (each (type_at l.bytes l.tables l.strings) 0 l.tables.types.size);
  sized : length l.found.items ≡ l.i;
  below : All (λ n. n < l.tables.strings.size) l.found.items;
}
