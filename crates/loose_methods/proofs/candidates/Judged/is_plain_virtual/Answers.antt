use Rattle.std.proofs.Common.{◌∙◌, sym}
use Rattle.loose_methods.proofs.Plain.{undefined_unplain}
use Rattle.loose_methods.proofs.candidates.Judged.is_plain_virtual.Goals as goal

pub returns-in-Some : goal.returns-in-Some
returns-in-Some c = λ j e static o n cand it. c.is_plain_under.ensures c.args.name.now j e static (sym (c.place_of.ensures.is c.args.self.now.program.now j.resolved.of) ∙ c.in-Some.is) o n cand it

pub returns-in-None : goal.returns-in-None
returns-in-None c = λ j e static o n cand it.
    sym (undefined_unplain c.args.self.now.program.now n c.args.called c.args.name.now (sym (c.place_of.ensures.is c.args.self.now.program.now j.resolved.of) ∙ c.in-None.is))
