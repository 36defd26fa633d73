use Rattle.std.proofs.Common.{sym, ◌∙◌, slice_index}
use Rattle.class_defs.specs.Places.{is_under}
use Rattle.receivers.proofs.Loops.{any_here, at_index, none_done, none_more}
use Rattle.loose_methods.proofs.candidates.Judged.is_any_under.Goals as goal

pub loop-class-preserved : goal.loop-class-preserved
loop-class-preserved c = λ j short u.
    let p = c.args.self.now.program.now in
    let i = c.loop-class.class-index in
    let xs = c.args.classes.now in
    none_more (λ d. is_under p d c.args.upper) xs i c.loop-class-test.true (c.loop-class.invariant j short u)
    (sym (c.is_under.ensures p j.resolved (short i (slice_index xs i) (at_index xs i c.loop-class-test.true)) u) ∙ c.if-is_under.false)

pub returns-then-is_under : goal.returns-then-is_under
returns-then-is_under c = λ j short u.
    let p = c.args.self.now.program.now in
    let i = c.loop-class.class-index in
    let xs = c.args.classes.now in
    sym (any_here (λ d. is_under p d c.args.upper) xs i c.loop-class-test.true
    (sym (c.is_under.ensures p j.resolved (short i (slice_index xs i) (at_index xs i c.loop-class-test.true)) u) ∙ c.if-is_under.true))

pub returns : goal.returns
returns c = λ j short u. sym (none_done (λ d. is_under c.args.self.now.program.now d c.args.upper) c.args.classes.now c.loop-class.class-index c.loop-class-test.false (c.loop-class.invariant j short u))
