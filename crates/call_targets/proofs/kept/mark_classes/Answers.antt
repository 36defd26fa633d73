use Rattle.std.proofs.Common.{◌∙◌, ap, length}
use Rattle.call_targets.proofs.Adding.{set_length}
use Rattle.call_targets.proofs.Marking.{marks_at}
use Rattle.call_targets.proofs.kept.mark_classes.Goals as goal

pub loop-one-preserved : goal.loop-one-preserved
loop-one-preserved c = record {
  long = ap length c.turn_on.ensures ∙ set_length c.loop-one.marks _ ∙ c.loop-one.invariant.long;
  marked = λ n lt. marks_at (λ x. x.class) c.args.marks.now c.loop-one.marks c.turn_on.new.marks c.args.conditions.now c.loop-one.one-index _ n c.loop-one.invariant.long lt c.loop-one-test.true (c.loop-one.invariant.marked n lt) c.turn_on.ensures;
}
