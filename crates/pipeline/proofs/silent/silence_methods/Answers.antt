use Rattle.std.proofs.Common.{arith}
use Rattle.pipeline.specs.Silence.{marked, silenced_method}
use Rattle.pipeline.proofs.Each.{each_more}
use Rattle.pipeline.proofs.silent.silence_methods.Goals as goal

pub loop-method-preserved : goal.loop-method-preserved
loop-method-preserved c = each_more (silenced_method (marked c.args.marks.now) c.args.admitted.now) c.args.methods.now c.loop-method.methods c.loop-method.method-index _ _ (omega arith) c.loop-method.invariant c.silence_method.ensures
