use Rattle.std.proofs.Common.{◌≡◌, ap, ◌∙◌, subst}
use Rattle.std.specs.Prelude.{fold, IfOk}
use Rattle.hierarchy.specs.Touring.{subclasses_of}
use Rattle.domains.specs.Values.{Parts}
use Rattle.const_prop.specs.Given.{with_class}
use Rattle.const_prop.proofs.results.Results.with_subclasses.Goals as goal

pub returns : goal.returns
returns c = λ k r name proto is lt.
    let p = c.args.self.now.program.now in
    let f = c.args.self.now.facts.now in
    let same : c.as_slice.result.now ≡ subclasses_of p c.args.class = c.as_slice.ensures.value ∙ c.in_ok-below.ensures p k.resolved lt in
    subst (λ (x : Parts). IfOk c.with_classes.result (λ v. v ≡ x)) (ap (fold (with_class p f name proto) c.args.first) same) (c.with_classes.ensures k r name proto is)
