use Rattle.std.proofs.Common.{◌≡◌, drop}
use Rattle.dex_write.specs.File.{ends_behind}
use Rattle.dex_write.proofs.file.ends_behind.Given as goal

abbrev pub invariant-loop-run : goal.invariant-loop-run
invariant-loop-run l = ends_behind l.end (drop l.run-index l.runs) ≡ ends_behind l.at l.runs
