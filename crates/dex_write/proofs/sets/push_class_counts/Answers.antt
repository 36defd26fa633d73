use Rattle.dex_write.specs.Plans.{plan_in}
use Rattle.dex_write.proofs.SetLemmas.{counts_added}
use Rattle.dex_write.proofs.sets.push_class_counts.Goals as goal

pub returns : goal.returns
returns c = counts_added c.push_parameter_counts.result (plan_in c.args.ordered.now) c.args.counts.now.items c.push.new.self.items c.push_field_counts.new.counts.items c.push_method_counts.new.counts.items c.push_parameter_counts.new.counts.items
    (rw (c.in_ok-word_of.ensures, c.len.ensures) at c.in_ok-push.ensures.items)
    (rw c.as_slice.ensures at c.in_ok-push_field_counts.ensures)
    (rw c.as_slice-methods.ensures at c.in_ok-push_method_counts.ensures)
    (rw c.as_slice-methods.ensures at c.push_parameter_counts.ensures)
