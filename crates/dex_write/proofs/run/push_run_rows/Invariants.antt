use Rattle.std.proofs.Common.{◌≡◌, ◌++◌, take}
use Rattle.dex_write.specs.Runs.{run_rows}
use Rattle.dex_write.proofs.run.push_run_rows.Given as goal

abbrev pub invariant-loop-run : goal.invariant-loop-run
invariant-loop-run l = l.rows.items ≡ l.fn.rows.items ++ run_rows (take l.run-index l.runs)
