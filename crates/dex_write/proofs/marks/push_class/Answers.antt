use Rattle.dex_write.specs.Plans.{plan_in}
use Rattle.dex_write.proofs.MarkLemmas.{class_added}
use Rattle.dex_write.proofs.marks.push_class.Goals as goal

pub returns : goal.returns
returns c = class_added c.args.numbers.now (plan_in c.args.ordered.now) c.push_parameters.result _ _ _ _ _ _ _ _ _ _ (rw c.as_slice.ensures at c.in_ok-push_set.ensures) (rw c.as_slice-2.ensures at c.in_ok-push_fields.ensures) (rw c.as_slice-methods.ensures at c.in_ok-push_methods.ensures) (rw c.as_slice-methods.ensures at c.push_parameters.ensures)
