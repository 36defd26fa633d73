use Rattle.line_tables.proofs.Fronts.{HasSkipped}
use Rattle.line_tables.proofs.write.first_line.Given as goal

abbrev pub invariant-loop-line : goal.invariant-loop-line
invariant-loop-line l = HasSkipped l.lines l.line-index
