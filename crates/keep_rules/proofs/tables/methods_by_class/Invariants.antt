use Rattle.std.proofs.Common.{length}
use Rattle.keep_rules.specs.View.{is_method_of}
use Rattle.keep_rules.proofs.ViewLemmas.{AreRowsTo}
use Rattle.keep_rules.proofs.tables.methods_by_class.Given as goal

abbrev pub invariant-loop-number : goal.invariant-loop-number
invariant-loop-number l = AreRowsTo (is_method_of l.program) (length l.program.types) l.number l.methods.items
