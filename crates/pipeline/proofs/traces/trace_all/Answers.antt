use Rattle.std.proofs.Common.{arith}
use Rattle.pipeline.specs.Origins.{origin_by}
use Rattle.pipeline.proofs.Each.{each_more}
use Rattle.pipeline.proofs.traces.trace_all.Goals as goal

pub loop-origin-preserved : goal.loop-origin-preserved
loop-origin-preserved c = each_more (origin_by c.args.old.now) c.args.origins.now c.loop-origin.origins c.loop-origin.origin-index _ _ (omega arith) c.loop-origin.invariant c.trace.ensures
