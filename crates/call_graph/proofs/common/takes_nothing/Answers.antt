use Rattle.call_graph.proofs.Descriptors.{something_taken}
use Rattle.call_graph.proofs.common.takes_nothing.Goals as goal

pub returns-in_default : goal.returns-in_default
returns-in_default c = something_taken c.args.program.now c.args.parameters.now c.in_default.len_at_least
