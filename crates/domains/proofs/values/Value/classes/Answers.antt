use Rattle.std.proofs.Common.{◌≡◌, sym, subst, ◌∙◌, ap}
use Rattle.domains.specs.Values.{Parts, IsReduced}
use Rattle.domains.specs.ValueLaws.{classes_listed, classes_any}
use Rattle.domains.proofs.values.Value.classes.Goals as goal

pub returns-clause-listed : goal.returns-clause-listed
returns-clause-listed c = rw (← c.self.view_is) (classes_listed _ c.self.invariant c.classes.result c.classes.ensures.is)

pub returns-clause-any : goal.returns-clause-any
returns-clause-any c = rw (← c.self.view_is) (classes_any _ c.self.invariant c.classes.result c.classes.ensures.is)
