use Rattle.std.proofs.Common.{◌∙◌, ap, sym}
use Rattle.staticise.specs.Loosened.{target_at}
use Rattle.staticise.proofs.loosening.target_of.Goals as goal

pub returns-in-Some : goal.returns-in-Some
returns-in-Some c = λ res.
    let p = c.args.program.now in
    c.target_at.ensures ∙ sym (ap (target_at p c.args.given.now) (sym (c.resolve_method.ensures.is p res) ∙ c.in-Some.is))

pub returns-in-None : goal.returns-in-None
returns-in-None c = λ res.
    let p = c.args.program.now in
    sym (ap (target_at p c.args.given.now) (sym (c.resolve_method.ensures.is p res) ∙ c.in-None.is))
