use Rattle.std.proofs.Common.{◌≡◌, drop}
use Rattle.dex_write.specs.Codes.{ascend}
use Rattle.line_tables.specs.Text.{AscendsFrom}
use Rattle.dex_write.proofs.codes.ascend.Given as goal

abbrev pub invariant-loop-start : goal.invariant-loop-start
invariant-loop-start l = record {
  is : ascend l.low (drop l.start-index l.starts) ≡ ascend 0 l.starts;
  rest : AscendsFrom l.low (drop l.start-index l.starts) → AscendsFrom 0 l.starts;
}
