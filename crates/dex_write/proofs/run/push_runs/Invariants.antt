use Rattle.std.proofs.Common.{◌≡◌, ◌++◌, drop}
use Rattle.dex_write.specs.Runs.{runs_text}
use Rattle.dex_write.proofs.run.push_runs.Given as goal

abbrev pub invariant-loop-run : goal.invariant-loop-run
invariant-loop-run l = l.out.items ++ runs_text l.at (drop l.run-index l.runs) ≡ l.fn.out.items ++ runs_text l.from l.runs
