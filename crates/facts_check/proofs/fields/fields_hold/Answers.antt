use Rattle.std.proofs.Common.{refl}
use Rattle.facts_check.proofs.fields.fields_hold.Goals as goal

pub returns-then-firsts_hold : goal.returns-then-firsts_hold
returns-then-firsts_hold c = λ e. record { firsts = c.if-firsts_hold.ensures refl; opened = c.kept_hold.ensures e }
