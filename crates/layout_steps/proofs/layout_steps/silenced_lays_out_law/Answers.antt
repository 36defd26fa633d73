use Rattle.layout_steps.proofs.Silenced.{silent_lies}
use Rattle.layout_steps.proofs.layout_steps.silenced_lays_out_law.Goals as goal

pub returns : goal.returns
returns c = silent_lies
