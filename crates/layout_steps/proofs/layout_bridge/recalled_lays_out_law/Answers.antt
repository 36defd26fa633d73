use Rattle.layout_steps.proofs.Recalled.{rebound_lies, quieted_lies}
use Rattle.layout_steps.proofs.layout_bridge.recalled_lays_out_law.Goals as goal

pub returns-clause-rebound : goal.returns-clause-rebound
returns-clause-rebound c = λ admitted p h facts c r l. rebound_lies p h facts admitted c r l

pub returns-clause-quieted : goal.returns-clause-quieted
returns-clause-quieted c = quieted_lies
