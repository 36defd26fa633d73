use Rattle.dex_read.specs.FirstValues.{give_first}
use Rattle.dex_read.specs.Steps.{steps}
use Rattle.dex_read.proofs.Steps.{Goes}
use Rattle.dex_read.proofs.first_values.give_firsts.Given as goal

abbrev pub invariant-loop-place : goal.invariant-loop-place
invariant-loop-place l = Goes (give_first l.source.bytes.now l.source.program.now l.statics) l.count l.place (l.fields.items, (l.next, l.left)) (steps (give_first l.source.bytes.now l.source.program.now l.statics) 0 l.count (l.fn.fields.items, (l.at, l.fn.left)))
