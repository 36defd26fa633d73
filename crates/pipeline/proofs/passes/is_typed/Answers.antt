use Rattle.pipeline.proofs.Passing.{ill_typed}
use Rattle.pipeline.proofs.passes.is_typed.Goals as goal

pub returns-in-Err-IllTyped-clause-ill_typed : goal.returns-in-Err-IllTyped-clause-ill_typed
returns-in-Err-IllTyped-clause-ill_typed c = λ _. ill_typed c.args.program.now c.args.hierarchy.now c.in-Err-IllTyped.field-0 c.in-Err-IllTyped.field-0-0 c.in-Err-IllTyped.field-0-1 c.in-Err-IllTyped.field-0-2
    c.in-Err-IllTyped.field-0-is c.in-Err-IllTyped.ensures.refused
