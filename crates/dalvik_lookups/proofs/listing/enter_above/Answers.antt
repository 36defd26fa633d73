use Rattle.hierarchy.specs.Walking.{waits}
use Rattle.dalvik_lookups.proofs.Upward.{grows_above}
use Rattle.dalvik_lookups.proofs.listing.enter_above.Goals as goal

pub returns-clause-grows : goal.returns-clause-grows
returns-clause-grows c = λ p is.
    grows_above p c.args.class c.super_of.result c.interfaces_of.result.now c.args.walk.now.seen.items c.enter_one.new.walk.seen.items c.enter_all.new.walk.seen.items (waits c.args.walk.now) (waits c.enter_one.new.walk) (waits c.enter_all.new.walk)
    (c.super_of.ensures.is p is) (c.interfaces_of.ensures p is) c.in_ok-enter_one.ensures.grows c.in_ok-enter_all.ensures.grows
