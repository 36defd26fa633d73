use Rattle.std.proofs.Common.{arith}
use Rattle.pipeline.specs.Silence.{marked, silenced_class}
use Rattle.pipeline.proofs.Each.{each_more}
use Rattle.pipeline.proofs.silent.silence_classes.Goals as goal

pub loop-class-preserved : goal.loop-class-preserved
loop-class-preserved c = each_more (silenced_class (marked c.args.marks.now) c.args.admitted.now) c.args.classes.now c.loop-class.classes c.loop-class.class-index _ _ (omega arith) c.loop-class.invariant c.silence_class.ensures
