use Rattle.std.proofs.Common.{◌∙◌, ap, sym}
use Rattle.loose_methods.specs.Loose.{number_found}
use Rattle.loose_methods.proofs.Plain.{none_plain}
use Rattle.loose_methods.proofs.candidates.Judged.keeps_plain.Goals as goal

pub returns-in-Some : goal.returns-in-Some
returns-in-Some c = λ o j e cand. c.keeps_at.ensures o j e cand (sym (c.find_static.ensures j.resolved.of) ∙ c.in-Some.is)

pub returns-in-None : goal.returns-in-None
returns-in-None c = λ o j e cand.
    let p = c.args.self.now.program.now in
    none_plain p c.args.self.now.hierarchy.now j.formed j.resolved o c.args.loose.now cand c.args.called c.args.name.now e (ap (number_found p) (sym (c.find_static.ensures j.resolved.of) ∙ c.in-None.is))
