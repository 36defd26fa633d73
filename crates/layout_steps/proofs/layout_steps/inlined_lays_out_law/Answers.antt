use Rattle.layout_steps.proofs.Inlined.{inlined_lies}
use Rattle.layout_steps.proofs.layout_steps.inlined_lays_out_law.Goals as goal

pub returns : goal.returns
returns c = inlined_lies
