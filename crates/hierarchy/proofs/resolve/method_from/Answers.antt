use Rattle.std.proofs.Common.{subst}
use Rattle.hierarchy.specs.Walking.{IsClear}
use Rattle.hierarchy.proofs.Resolving.{resolves_some, resolves_other}
use Rattle.hierarchy.proofs.resolve.method_from.Goals as goal

pub returns-in-Some-clause-is : goal.returns-in-Some-clause-is
returns-in-Some-clause-is c = λ p name proto is k fair size. resolves_some p name proto c.args.class c.in-Some.found (c.in-Some.ensures p name proto is k)

pub returns-in-None-clause-is : goal.returns-in-None-clause-is
returns-in-None-clause-is c = λ p name proto is k fair size.
    resolves_other p name proto c.args.class c.method_above.result (c.in-None.ensures p name proto is k) (c.method_above.ensures.is p name proto is k (subst (λ n. IsClear n c.clear.new.self) size (c.clear.ensures.clear fair)))
