use Rattle.layout_steps.proofs.Programs.{removed_lies}
use Rattle.layout_steps.proofs.layout_bridge.removed_lays_out_law.Goals as goal

pub returns : goal.returns
returns c = removed_lies
