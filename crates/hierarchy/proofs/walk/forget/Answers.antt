use Rattle.std.proofs.Common.{refl, slice_index, arith}
use Rattle.hierarchy.proofs.Marks.{cleared_more, all_cleared}
use Rattle.hierarchy.proofs.walk.forget.Goals as goal

pub loop-class-init : goal.loop-class-init
loop-class-init c = record { size = refl; left = λ d e. (e, λ k lt at. omega (arith, lt)) }

pub loop-class-preserved : goal.loop-class-preserved
loop-class-preserved c = cleared_more c.args.list.now c.args.seen.now c.loop-class.seen c.turn.new.marks c.loop-class.class-index (slice_index c.args.list.now c.loop-class.class-index) refl c.turn.ensures c.loop-class.invariant

pub returns-clause-cleared : goal.returns-clause-cleared
returns-clause-cleared c = λ fair. all_cleared c.args.list.now c.args.seen.now c.loop-class.seen c.loop-class.class-index c.loop-class-test.false c.loop-class.invariant fair
