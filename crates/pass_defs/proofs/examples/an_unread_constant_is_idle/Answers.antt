use Rattle.pass_defs.proofs.Idle.{constant_is_idle}
use Rattle.pass_defs.proofs.examples.an_unread_constant_is_idle.Goals as goal

pub returns : goal.returns
returns c = constant_is_idle
