use Rattle.std.proofs.Common.{◌≡◌, length, All}
use Rattle.dex_base.specs.Reading.{each}
use Rattle.dex_pools.specs.InRange.{FieldInRange}
use Rattle.dex_pools.specs.Tables.{field_at}
use Rattle.dex_pools.proofs.Loop.{ReadsEach}
use Rattle.dex_pools.proofs.members.fields_of.Given as goal

abbrev pub invariant-loop-i : goal.invariant-loop-i
invariant-loop-i l = record {
  reads : ReadsEach (field_at l.bytes l.tables l.letters) l.found.items l.tables.fields.size l.i (each (field_at l.bytes l.tables l.letters) 0 l.tables.fields.size);
  sized : length l.found.items ≡ l.i;
  range : All (FieldInRange l.tables.strings.size l.tables.types.size) l.found.items;
}
