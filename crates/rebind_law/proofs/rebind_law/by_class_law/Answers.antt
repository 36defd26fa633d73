use Rattle.rebind_law.proofs.ByClass.{by_class_shown}
use Rattle.rebind_law.proofs.rebind_law.by_class_law.Goals as goal

pub returns : goal.returns
returns c = λ p q o regular acyclic h. by_class_shown p q o regular acyclic h
