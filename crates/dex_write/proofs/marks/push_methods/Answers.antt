use Rattle.std.proofs.Common.{ap}
use Rattle.dex_write.specs.Sets.{ordered_marks}
use Rattle.dex_write.proofs.MarkLemmas.{added_take}
use Rattle.dex_write.proofs.marks.push_methods.Goals as goal

pub loop-method-preserved : goal.loop-method-preserved
loop-method-preserved c = added_take c.args.numbers.now _ c.args.methods.now c.loop-method.method-index c.method-item.result _ _ _ _ _ _ _ c.loop-method-test.true c.method-item.is (ap (ordered_marks c.args.numbers.now) c.method_marks.ensures) c.loop-method.invariant c.in_ok-push_set.ensures
