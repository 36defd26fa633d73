use Rattle.std.proofs.Common.{◌≡◌, false, length, replicate, arith}
use Rattle.flow_cfg.specs.Starts.{marked}
use Rattle.flow_cfg.proofs.Marked.{marks_more}
use Rattle.flow_cfg.proofs.starts.marks_of.Goals as goal

pub loop-position-preserved : goal.loop-position-preserved
loop-position-preserved c =
    let long : length c.mark.new.marks ≡ c.loop-position.marks.len = omega arith in
    marks_more c.loop-position.marks.items c.mark.new.marks c.as_mut_slice.result.now c.args.positions.now c.loop-position.position-index c.loop-position.marks.len (marked (replicate c.args.count false) c.args.positions.now) long c.as_mut_slice.ensures.value c.mark.ensures c.loop-position-test.true c.loop-position.invariant
