use Rattle.std.proofs.Common.{length}
use Rattle.dom_frame.specs.Classes.{stands_under}
use Rattle.dom_frame.proofs.Ascending.{kept_ascending, kept_room, kept_filtered}
use Rattle.dom_frame.proofs.classes.Classes.kept.Goals as goal

pub loop-class-preserved : goal.loop-class-preserved
loop-class-preserved c = record {
  ascending = kept_ascending _ _ c.args.classes.now c.loop-class.class-index _ c.loop-class-test.true c.keep.ensures.either c.loop-class.invariant.ascending;
  room = kept_room _ _ c.args.classes.now c.loop-class.class-index _ c.loop-class-test.true c.keep.ensures.either c.loop-class.invariant.room;
  is = λ p a u. kept_filtered _ _ c.args.classes.now c.loop-class.class-index _ c.loop-class-test.true (stands_under p c.args.upper) (c.keep.ensures.are p a u) (c.loop-class.invariant.is p a u);
}
