use Rattle.std.proofs.Common.{ap, get_or}
use Rattle.dex_write.specs.Sets.{ordered_marks}
use Rattle.dex_write.proofs.MarkLemmas.{added_take}
use Rattle.dex_write.proofs.TakeLemmas.{by_itself}
use Rattle.dex_write.proofs.marks.push_fields.Goals as goal

pub loop-field-preserved : goal.loop-field-preserved
loop-field-preserved c = added_take c.args.numbers.now _ c.args.fields.now c.loop-field.field-index (get_or c.args.fields.now c.loop-field.field-index (0, 0)) _ _ _ _ _ _ _ c.loop-field-test.true (by_itself c.args.fields.now c.loop-field.field-index (0, 0) c.loop-field-test.true) (ap (ordered_marks c.args.numbers.now) c.field_marks.ensures) c.loop-field.invariant c.in_ok-push_set.ensures
