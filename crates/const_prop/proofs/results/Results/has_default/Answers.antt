use Rattle.std.proofs.Common.{◌≡◌, ap, ◌∙◌, sym}
use Rattle.std.specs.Prelude.{◌&&◌}
use Rattle.std.specs.List.{list_any}
use Rattle.hierarchy.specs.Naming.{definers_of}
use Rattle.const_prop.specs.Defaults.{is_default}
use Rattle.const_prop.proofs.results.Results.has_default.Goals as goal

pub returns-then-not-is_037 : goal.returns-then-not-is_037
returns-then-not-is_037 c = λ k name proto is.
    let p = c.args.self.now.program.now in
    ap (λ b. b && list_any (is_default p name proto) (definers_of p name proto)) (sym c.if-not-is_037.true ∙ c.is_037.ensures)

pub returns : goal.returns
returns c = λ k name proto is.
    let p = c.args.self.now.program.now in
    let all : c.definers_of.result.now ≡ definers_of p name proto = c.definers_of.ensures p name proto k.resolved.of is in
    c.is_one_default.ensures k name proto is
    ∙ (ap (list_any (is_default p name proto)) all ∙ ap (λ b. b && list_any (is_default p name proto) (definers_of p name proto)) (sym c.if-not-is_037.false ∙ c.is_037.ensures))
