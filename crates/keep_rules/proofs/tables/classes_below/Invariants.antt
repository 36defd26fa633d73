use Rattle.std.proofs.Common.{length}
use Rattle.keep_rules.specs.View.{is_below}
use Rattle.keep_rules.proofs.ViewLemmas.{AreRowsTo}
use Rattle.keep_rules.proofs.tables.classes_below.Given as goal

abbrev pub invariant-loop-place : goal.invariant-loop-place
invariant-loop-place l = AreRowsTo (is_below l.program) (length l.program.types) l.place l.below.items
