use Rattle.pipeline.specs.Passes.{IllTyped}
use Rattle.pipeline.proofs.passes.is_propagated.Goals as goal

pub returns-clause-kept : goal.returns-clause-kept
returns-clause-kept c = λ resolved ill. IllTyped c.args.hierarchy.now resolved (c.in_ok-typed.ensures.ill_typed ill)
