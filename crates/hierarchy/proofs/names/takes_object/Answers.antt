use Rattle.hierarchy.proofs.Fives.{others_taken}
use Rattle.hierarchy.proofs.names.takes_object.Goals as goal

pub returns-else-parameters-eq1 : goal.returns-else-parameters-eq1
returns-else-parameters-eq1 c = others_taken c.args.program.now c.args.parameters.now _ c.if-parameters-eq1.false
