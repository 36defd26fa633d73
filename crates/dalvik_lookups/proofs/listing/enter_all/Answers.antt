use Rattle.std.proofs.Common.{◌∙◌, refl}
use Rattle.hierarchy.specs.Walking.{waits}
use Rattle.dalvik_lookups.proofs.Upward.{grows_none, grows_more, grows_all}
use Rattle.dalvik_lookups.proofs.listing.enter_all.Goals as goal

pub loop-class-init : goal.loop-class-init
loop-class-init c = record { fair = λ f. f; size = refl; grows = grows_none _ _ _ _ refl refl; left = refl }

pub loop-class-preserved : goal.loop-class-preserved
loop-class-preserved c =
    let i = c.loop-class.invariant in
    record {
      fair = λ f. c.in_ok-enter.ensures.fair (i.fair f);
      size = c.in_ok-enter.ensures.size ∙ i.size;
      grows = grows_more c.args.classes.now c.loop-class.class-index c.args.walk.now.seen.items c.loop-class.walk.seen.items c.enter.new.walk.seen.items (waits c.args.walk.now) (waits c.loop-class.walk) (waits c.enter.new.walk) c.loop-class-test.true i.grows c.in_ok-enter.ensures.grows;
      left = c.in_ok-enter.ensures.left ∙ i.left;
    }

pub returns-clause-grows : goal.returns-clause-grows
returns-clause-grows c = grows_all c.args.classes.now c.loop-class.class-index c.args.walk.now.seen.items c.loop-class.walk.seen.items (waits c.args.walk.now) (waits c.loop-class.walk) c.loop-class-test.false c.loop-class.invariant.grows
