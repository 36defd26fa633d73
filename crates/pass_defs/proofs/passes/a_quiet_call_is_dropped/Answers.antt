use Rattle.pass_defs.proofs.Drops.{adding_is_quiet, call_is_droppable}
use Rattle.pass_defs.proofs.passes.a_quiet_call_is_dropped.Goals as goal

pub returns-clause-quiet : goal.returns-clause-quiet
returns-clause-quiet c = adding_is_quiet

pub returns-clause-droppable : goal.returns-clause-droppable
returns-clause-droppable c = call_is_droppable
