use Rattle.std.proofs.Common.{◌∙◌, ap, length}
use Rattle.call_targets.proofs.Adding.{set_length}
use Rattle.call_targets.proofs.Marking.{marks_at}
use Rattle.call_targets.proofs.kept.mark_all.Goals as goal

pub loop-number-preserved : goal.loop-number-preserved
loop-number-preserved c = record {
  long = ap length c.turn_on.ensures ∙ set_length c.loop-number.marks _ ∙ c.loop-number.invariant.long;
  marked = λ n lt. marks_at (λ x. x) c.args.marks.now c.loop-number.marks c.turn_on.new.marks c.args.numbers.now c.loop-number.number-index _ n c.loop-number.invariant.long lt c.loop-number-test.true (c.loop-number.invariant.marked n lt) c.turn_on.ensures;
}
