use Rattle.squeeze.proofs.Needing.{nothing_left}
use Rattle.squeeze.proofs.program.apply.Goals as goal

pub returns-clause-nothing_left : goal.returns-clause-nothing_left
returns-clause-nothing_left c = nothing_left c.args.admitted.now.methods.items c.args.program c.in_ok-changed.changed c.in_ok-changed.ensures.thinned
