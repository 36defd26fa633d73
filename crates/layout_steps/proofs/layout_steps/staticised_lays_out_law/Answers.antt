use Rattle.layout_steps.proofs.Loosened.{staticised_lies}
use Rattle.layout_steps.proofs.layout_steps.staticised_lays_out_law.Goals as goal

pub returns : goal.returns
returns c = staticised_lies
