use Rattle.std.proofs.Common.{◌∙◌, sym}
use Rattle.hierarchy.proofs.Looked.{found_some, found_none}
use Rattle.hierarchy.proofs.build.Hierarchy.own_method.Goals as goal

pub returns-in-Some : goal.returns-in-Some
returns-in-Some c = λ p name proto h k. found_some p c.args.self.now c.args.key name proto c.args.class c.in-Some.place h k (sym c.find.ensures ∙ c.in-Some.is)

pub returns-in-None : goal.returns-in-None
returns-in-None c = λ p name proto h k. found_none p c.args.self.now c.args.key name proto c.args.class h k (sym c.find.ensures ∙ c.in-None.is)
