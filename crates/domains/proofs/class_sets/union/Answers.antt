use Rattle.domains.specs.ClassSets.{too_many, whole_merged, merged_overflows}
use Rattle.domains.proofs.class_sets.union.Goals as goal

pub returns-then-not-insert : goal.returns-then-not-insert
returns-then-not-insert c = too_many _ (merged_overflows _ _ _ _ c.loop-class-test.true c.loop-class.invariant.is c.if-not-insert.ensures.full)

pub returns : goal.returns
returns c = whole_merged _ _ _ _ c.loop-class-test.false c.loop-class.invariant.is c.loop-class.invariant.room
