use Rattle.std.proofs.Common.{length}
use Rattle.program_model.specs.declared.program.Program.{Program}
use Rattle.class_defs.specs.Starts.{is_trivial}
use Rattle.hierarchy.specs.Quieting.{Serves}
use Rattle.hierarchy.proofs.AlongOrder.{FilledTo}
use Rattle.hierarchy.proofs.quiet.trivial.Given as goal

abbrev pub invariant-loop-class : goal.invariant-loop-class
invariant-loop-class l = (p : Program) → Serves p l.starts l.supers l.lists.rows l.order → FilledTo (length p.classes) (is_trivial p) l.order l.marks.items l.class-index
