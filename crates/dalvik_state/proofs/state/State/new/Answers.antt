use Rattle.dalvik_state.proofs.Opening.{opening_runs}
use Rattle.dalvik_state.proofs.state.State.new.Goals as goal

pub returns-clause-running : goal.returns-clause-running
returns-clause-running c = λ r. opening_runs c.args.tables.now.lookups c.in_ok-state.state (c.in_ok-state.ensures r)
