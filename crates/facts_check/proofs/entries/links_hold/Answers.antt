use Rattle.std.proofs.Common.{refl}
use Rattle.facts_check.proofs.entries.links_hold.Goals as goal

pub returns-then-all_linked : goal.returns-then-all_linked
returns-then-all_linked c = λ known e. record { linked = c.if-all_linked.ensures known refl; left = c.all_left.ensures e }
