use Rattle.std.proofs.Common.{ℕ, List, ◌+◌, length, ◌∙◌, ap}
use Rattle.walk_marks.specs.Walks.{row_of}
use Rattle.compact.proofs.Sets.{run_none, run_more}
use Rattle.compact.proofs.places.bar_run.Goals as goal

pub loop-step-init : goal.loop-step-init
loop-step-init c = run_none c.args.clash.now c.args.numbers.now (length c.args.numbers.now) c.args.marks.now.items

pub loop-step-preserved : goal.loop-step-preserved
loop-step-preserved c = run_more c.args.clash.now c.args.numbers.now c.row.result.now c.row-in-loop-step.result.now (length c.args.numbers.now) c.loop-step.step c.args.marks.now.items c.loop-step.marks.items c.bar_all.new.marks.items c.bar_all-in-loop-step.new.marks.items
    (c.row.ensures ∙ ap (λ (l : List (List ℕ)). row_of l (length c.args.numbers.now + c.loop-step.step)) c.deref.ensures.value)
    (c.row-in-loop-step.ensures ∙ ap (λ (l : List (List ℕ)). row_of l (length c.args.numbers.now + c.loop-step.step)) c.deref-in-loop-step.ensures.value)
    c.loop-step.invariant c.bar_all.ensures c.bar_all-in-loop-step.ensures
