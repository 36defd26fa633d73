use Rattle.std.proofs.Common.{◌≡◌, Some, ap, ◌∙◌, sym, subst}
use Rattle.std.specs.Prelude.{fold, IfOk}
use Rattle.hierarchy.specs.Naming.{definers_of}
use Rattle.domains.specs.Values.{Parts}
use Rattle.const_prop.specs.Asked.{AreBelow, count_of}
use Rattle.const_prop.specs.Given.{found_value, with_definer}
use Rattle.const_prop.proofs.Finding.{definers_below}
use Rattle.const_prop.proofs.results.Results.of_inherited.Goals as goal

pub returns : goal.returns
returns c = λ k name proto is lt.
    let s = c.args.self.now in
    let p = s.program.now in
    let f = s.facts.now in
    let class = c.args.class in
    let own = with_definer p f name proto class in
    let all : c.definers_of.result.now ≡ definers_of p name proto = c.definers_of.ensures p name proto k.resolved.of is in
    let first : c.in_ok-first.first ≡ found_value p f (Some c.args.found) = c.in_ok-first.ensures in
    subst (λ (x : Parts). IfOk c.with_definers.result (λ v. v ≡ x))
    (ap (λ (v : Parts). fold own v c.definers_of.result.now) first ∙ ap (fold own (found_value p f (Some c.args.found))) all)
    (c.with_definers.ensures k name proto is lt (subst (AreBelow (count_of s)) (sym all) (definers_below p name proto)))
