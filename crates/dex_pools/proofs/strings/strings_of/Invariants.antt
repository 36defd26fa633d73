use Rattle.std.proofs.Common.{◌≡◌, ◌<◌, ◌^◌, length, All}
use Rattle.dex_pools.specs.Tables.{string_at}
use Rattle.dex_pools.specs.Run.{run}
use Rattle.dex_pools.proofs.Loop.{Reads}
use Rattle.dex_pools.proofs.strings.strings_of.Given as goal

abbrev pub invariant-loop-i : goal.invariant-loop-i
invariant-loop-i l = record {
  reads : Reads (string_at l.bytes l.strings) l.found.items l.strings.size l.i l.left (run (string_at l.bytes l.strings) 0 l.strings.size l.fn.left);
  sized : length l.found.items ≡ l.i;
  few : All (λ text. length text < 2 ^ 32) l.found.items;
}
