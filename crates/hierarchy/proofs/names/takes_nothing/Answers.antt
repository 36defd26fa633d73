use Rattle.hierarchy.proofs.Started.{something_taken}
use Rattle.hierarchy.proofs.names.takes_nothing.Goals as goal

pub returns-in_default : goal.returns-in_default
returns-in_default c = something_taken c.args.program.now c.args.parameters.now c.in_default.len_at_least
