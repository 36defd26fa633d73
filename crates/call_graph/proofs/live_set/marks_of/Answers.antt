use Rattle.call_graph.proofs.Growth.{closed_set}
use Rattle.call_graph.proofs.Reaching.{least_set}
use Rattle.call_graph.proofs.live_set.marks_of.Goals as goal

pub returns-clause-closed : goal.returns-clause-closed
returns-clause-closed c = λ p o t are sized k. closed_set p o t c.args.facts _ c.into_marks.ensures c.into_marks-2.ensures c.into_marks-3.ensures c.into_marks-4.ensures are sized k

pub returns-clause-least : goal.returns-clause-least
returns-clause-least c = λ p o t are known. least_set p o t c.args.facts _ c.into_marks.ensures c.into_marks-2.ensures c.into_marks-3.ensures c.into_marks-4.ensures are known
