use Rattle.std.proofs.Common.{ℕ, List, length}
use Rattle.program_model.specs.declared.program.Program.{Program}
use Rattle.hierarchy.specs.Quieting.{is_quiet, Serves}
use Rattle.hierarchy.proofs.AlongOrder.{FilledTo}
use Rattle.hierarchy.proofs.quiet.quiet.Given as goal

abbrev pub invariant-loop-class : goal.invariant-loop-class
invariant-loop-class l = (p : Program) (supers : List ℕ) → Serves p l.starts supers l.lists.rows l.order → FilledTo (length p.classes) (is_quiet p) l.order l.marks.items l.class-index
