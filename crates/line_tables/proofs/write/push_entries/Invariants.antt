use Rattle.line_tables.proofs.Fronts.{HasEntries}
use Rattle.line_tables.proofs.write.push_entries.Given as goal

abbrev pub invariant-loop-i : goal.invariant-loop-i
invariant-loop-i l = HasEntries l.fn.out.items l.lines l.starts l.first l.out.items l.i l.address l.line l.shown
