use Rattle.std.proofs.Common.{◌∙◌, ap, sym}
use Rattle.loose_methods.specs.Loose.{named_by}
use Rattle.loose_methods.proofs.candidates.Judged.named.Goals as goal

pub returns-in-Some : goal.returns-in-Some
returns-in-Some c = λ j.
    let p = c.args.self.now.program.now in
    c.number_at.ensures ∙ sym (ap (named_by p c.args.called) (sym (c.resolve_method.ensures.is p j.resolved) ∙ c.in-Some.is))

pub returns-in-None : goal.returns-in-None
returns-in-None c = λ j.
    let p = c.args.self.now.program.now in
    sym (ap (named_by p c.args.called) (sym (c.resolve_method.ensures.is p j.resolved) ∙ c.in-None.is))
