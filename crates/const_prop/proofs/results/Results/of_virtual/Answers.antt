use Rattle.std.proofs.Common.{◌≡◌, Option, Some, None, ◌∙◌, sym, subst}
use Rattle.std.specs.Prelude.{IfOk}
use Rattle.program_model.specs.declared.program.MethodAt.{MethodAt}
use Rattle.class_defs.specs.Finding.{finds_virtual}
use Rattle.const_prop.specs.Given.{by_found}
use Rattle.const_prop.proofs.results.Results.of_virtual.Goals as goal

pub returns-in-Some : goal.returns-in-Some
returns-in-Some c = λ k name proto is lt.
    let p = c.args.self.now.program.now in
    let f = c.args.self.now.facts.now in
    let class = c.args.class in
    let e : finds_virtual p name proto class ≡ Some c.in-Some.found = sym (c.find_virtual.ensures name proto k.resolved.of is) ∙ c.in-Some.is in
    subst (λ (o : Option MethodAt). IfOk c.of_inherited.result (λ v. v ≡ by_found p f name proto class o)) (sym e) (c.of_inherited.ensures k name proto is lt)

pub returns-in-None : goal.returns-in-None
returns-in-None c = λ k name proto is lt.
    let p = c.args.self.now.program.now in
    let f = c.args.self.now.facts.now in
    let class = c.args.class in
    let e : finds_virtual p name proto class ≡ None = sym (c.find_virtual.ensures name proto k.resolved.of is) ∙ c.in-None.is in
    subst (λ (o : Option MethodAt). IfOk c.of_unfound.result (λ v. v ≡ by_found p f name proto class o)) (sym e) (c.of_unfound.ensures k name proto is lt e)
