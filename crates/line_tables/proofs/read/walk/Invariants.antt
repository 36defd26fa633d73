use Rattle.line_tables.specs.Item.{walk}
use Rattle.line_tables.proofs.Walking.{HasWalked}
use Rattle.line_tables.proofs.read.walk.Given as goal

abbrev pub invariant-loop-done : goal.invariant-loop-done
invariant-loop-done l = HasWalked l.bytes l.starts l.most (walk l.most l.bytes 0 l.starts l.fn.first) l.done l.lines.items l.line l.spot
