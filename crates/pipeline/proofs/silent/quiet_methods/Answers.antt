use Rattle.std.proofs.Common.{arith, refl}
use Rattle.pipeline.proofs.Silencing.{noting_more}
use Rattle.pipeline.proofs.silent.quiet_methods.Goals as goal

pub loop-method-preserved : goal.loop-method-preserved
loop-method-preserved c = noting_more c.args.program.now c.args.hierarchy.now c.args.silent.now c.loop-method.marks.items _ c.loop-method.method-index _ (omega arith) refl c.loop-method.invariant c.note.ensures.some c.note.ensures.exact
