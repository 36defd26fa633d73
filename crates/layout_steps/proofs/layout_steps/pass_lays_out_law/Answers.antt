use Rattle.layout_steps.proofs.Passes.{pass_lies}
use Rattle.layout_steps.proofs.layout_steps.pass_lays_out_law.Goals as goal

pub returns : goal.returns
returns c = pass_lies
