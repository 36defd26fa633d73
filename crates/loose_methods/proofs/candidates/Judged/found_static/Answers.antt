use Rattle.std.proofs.Common.{◌∙◌, ap, sym}
use Rattle.loose_methods.specs.Loose.{number_found}
use Rattle.loose_methods.proofs.candidates.Judged.found_static.Goals as goal

pub returns-in-Some : goal.returns-in-Some
returns-in-Some c = λ j.
    let p = c.args.self.now.program.now in
    c.number_at.ensures ∙ sym (ap (number_found p) (sym (c.find_static.ensures j.resolved.of) ∙ c.in-Some.is))

pub returns-in-None : goal.returns-in-None
returns-in-None c = λ j.
    let p = c.args.self.now.program.now in
    sym (ap (number_found p) (sym (c.find_static.ensures j.resolved.of) ∙ c.in-None.is))
