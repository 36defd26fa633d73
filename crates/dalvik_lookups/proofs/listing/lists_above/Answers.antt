use Rattle.std.proofs.Common.{◌∙◌}
use Rattle.hierarchy.specs.Walking.{waits}
use Rattle.dalvik_lookups.specs.Listing.{lists_at}
use Rattle.dalvik_lookups.proofs.Upward.{climb_begins}
use Rattle.dalvik_lookups.proofs.listing.lists_above.Goals as goal

pub returns-clause-is : goal.returns-clause-is
returns-clause-is c = λ is fair size.
    let clear = c.clear.ensures.clear fair in
    c.climb.ensures.is c.args.class is (climb_begins c.args.program.now is.ranked c.args.class (lists_at c.args.program.now c.args.kind) c.clear.new.self.seen.items c.enter.new.walk.seen.items (waits c.clear.new.self) (waits c.enter.new.walk) (clear.long ∙ size) clear.unseen clear.none c.in_ok-enter.ensures.grows)
