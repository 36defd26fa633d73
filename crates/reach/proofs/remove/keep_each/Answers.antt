use Rattle.std.proofs.Common.{arith, ◌∙◌}
use Rattle.reach.specs.Kept.{kept_in, removed_in}
use Rattle.reach.proofs.Each.{each_more}
use Rattle.reach.proofs.Sizes.{counted}
use Rattle.reach.proofs.remove.keep_each.Goals as goal

pub loop-class-preserved : goal.loop-class-preserved
loop-class-preserved c = record {
  kept = each_more (kept_in c.args.live.now) c.args.classes.now c.loop-class.classes c.loop-class.class-index _ _ (omega arith) c.loop-class.invariant.kept c.keep_members.ensures.kept;
  count = c.saturating_add-gone.ensures
      ∙ counted (kept_in c.args.live.now) (removed_in c.args.live.now) c.args.classes.now c.loop-class.classes c.loop-class.class-index _ _ _ (omega arith) c.loop-class.invariant.kept c.loop-class.invariant.count c.keep_members.ensures.count;
}
