use Rattle.std.proofs.Common.{ap, ◌∙◌, sym}
use Rattle.hierarchy.specs.Touring.{subclasses_of}
use Rattle.const_prop.specs.Given.{by_search}
use Rattle.const_prop.proofs.Unfound.{finds_nothing}
use Rattle.const_prop.proofs.results.Results.of_unfound.Goals as goal

pub returns-then-not-has_default : goal.returns-then-not-has_default
returns-then-not-has_default c = λ k name proto is lt e.
    let p = c.args.self.now.program.now in
    let f = c.args.self.now.facts.now in
    let class = c.args.class in
    c.any.ensures.is ∙ sym (ap (by_search p f name proto (subclasses_of p class)) (finds_nothing p name proto class (sym (c.has_default.ensures k name proto is) ∙ c.if-not-has_default.true) e))

pub returns : goal.returns
returns c = λ k name proto is lt e. c.of_classes.ensures k name proto is lt
