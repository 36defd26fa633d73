use Rattle.layout_steps.proofs.Folded.{folded_lies}
use Rattle.layout_steps.proofs.layout_bridge.folded_lays_out_law.Goals as goal

pub returns : goal.returns
returns c = folded_lies
