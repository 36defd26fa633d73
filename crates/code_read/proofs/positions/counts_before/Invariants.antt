use Rattle.std.proofs.Common.{◌≡◌, ◌+◌, length}
use Rattle.code_read.specs.Positions.{count_below, IsCounted}
use Rattle.code_read.proofs.positions.counts_before.Given as goal

abbrev pub invariant-loop-unit : goal.invariant-loop-unit
invariant-loop-unit l = record {
  place : l.place ≡ count_below l.unit l.starts;
  many : length l.before.items ≡ l.unit + 1;
  counted : IsCounted l.starts l.before.items;
}
