use Rattle.pass_defs.proofs.Loosely.{q_is_loose}
use Rattle.pass_defs.proofs.passes.a_method_without_need_of_its_receiver_is_loose.Goals as goal

pub returns : goal.returns
returns c = q_is_loose
