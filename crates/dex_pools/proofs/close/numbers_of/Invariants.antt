use Rattle.std.proofs.Common.{◌≡◌, ◌≤◌, ◌++◌, drop, length}
use Rattle.dex_pools.specs.Numbering.{numbers_from}
use Rattle.dex_pools.proofs.close.numbers_of.Given as goal

abbrev pub invariant-loop-number : goal.invariant-loop-number
invariant-loop-number l = record {
  numbers : l.found.items ++ numbers_from l.number (drop l.number l.flags) ≡ numbers_from 0 l.flags;
  behind : length l.found.items ≤ l.number;
  few : length l.found.items ≤ 4294967295;
}
