use Rattle.std.proofs.Common.{◌≡◌, ◌∙◌, sym, eqb-true}
use Rattle.pipeline.specs.Changes.{total_of}
use Rattle.pipeline.specs.Passes.{bodies}
use Rattle.pipeline.proofs.Looking.{due_none, not_due}
use Rattle.pipeline.proofs.Passing.{some_looked, again_looked, none_is}
use Rattle.pipeline.proofs.rounds.settle_bodies.Goals as goal

pub returns-then-due : goal.returns-then-due
returns-then-due c = λ within graph o.
    let due = due_none c.args.all c.is_none-none.result c.are_same-same.result (sym c.is_due-due.ensures ∙ c.if-due.true) in
    let none : total_of c.in_ok-left.left.changes ≡ 0 = eqb-true (total_of c.in_ok-left.left.changes) 0 (sym c.is_none-none.ensures ∙ due) in
    again_looked o c.args.marks.now.methods.items c.args.admitted.now.methods.items bodies c.args.all c.args.traced c.in_ok-left.left c.in_ok-again.again
    (c.in_ok-left.ensures.passed graph o) none (c.in_ok-again.ensures.passed (c.in_ok-left.ensures.graph graph none) o)

pub returns : goal.returns
returns c = λ within graph o.
    some_looked o c.args.marks.now.methods.items c.args.admitted.now.methods.items within bodies c.args.all c.args.traced c.in_ok-left.left
    (c.in_ok-left.ensures.passed graph o)
    (λ yes none. c.are_same-same.ensures (not_due c.args.all c.is_none-none.result c.are_same-same.result (sym c.is_due-due.ensures ∙ c.if-due.false) yes (c.is_none-none.ensures ∙ none_is none)))
