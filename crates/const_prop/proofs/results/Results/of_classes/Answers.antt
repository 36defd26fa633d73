use Rattle.std.proofs.Common.{◌≡◌, ◌∙◌, subst}
use Rattle.std.specs.Prelude.{IfOk}
use Rattle.class_defs.specs.Finding.{Search}
use Rattle.hierarchy.specs.Touring.{subclasses_of}
use Rattle.receivers.specs.Receiving.{IsReady}
use Rattle.const_prop.specs.Given.{by_search}
use Rattle.const_prop.proofs.results.Results.of_classes.Goals as goal

pub returns : goal.returns
returns c = λ k name proto is lt.
    let p = c.args.self.now.program.now in
    let f = c.args.self.now.facts.now in
    let ready : IsReady p c.in_ok-walk.walk = record { fair = c.in_ok-walk.ensures.fair; size = c.in_ok-walk.ensures.clear.long ∙ k.resolved.of.count } in
    subst (λ (y : Search). IfOk c.by_given.result (λ v. v ≡ by_search p f name proto (subclasses_of p c.args.class) y)) (c.in_ok-given.ensures.is k ready name proto is)
    (c.by_given.ensures k (c.find.ensures.ready ready) name proto is lt)
