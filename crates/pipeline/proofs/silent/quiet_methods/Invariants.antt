use Rattle.pipeline.proofs.Silencing.{Noting}
use Rattle.pipeline.proofs.silent.quiet_methods.Given as goal

abbrev pub invariant-loop-method : goal.invariant-loop-method
invariant-loop-method l = Noting l.program l.hierarchy l.silent l.method-index l.marks.items
