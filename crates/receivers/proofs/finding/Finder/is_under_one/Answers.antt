use Rattle.std.proofs.Common.{sym, ◌∙◌, slice_index}
use Rattle.class_defs.specs.Places.{is_under}
use Rattle.receivers.proofs.Loops.{any_here, at_index, none_done, none_more}
use Rattle.receivers.proofs.finding.Finder.is_under_one.Goals as goal

pub loop-other-preserved : goal.loop-other-preserved
loop-other-preserved c = λ f l short.
    let i = c.loop-other.other-index in
    let xs = c.args.others.now in
    none_more (is_under c.args.self.now.program.now c.args.class) xs i c.loop-other-test.true (c.loop-other.invariant f l short)
    (sym (c.is_under.ensures c.args.self.now.program.now f.resolved l (short i (slice_index xs i) (at_index xs i c.loop-other-test.true))) ∙ c.if-is_under.false)

pub returns-then-is_under : goal.returns-then-is_under
returns-then-is_under c = λ f l short.
    let i = c.loop-other.other-index in
    let xs = c.args.others.now in
    sym (any_here (is_under c.args.self.now.program.now c.args.class) xs i c.loop-other-test.true
    (sym (c.is_under.ensures c.args.self.now.program.now f.resolved l (short i (slice_index xs i) (at_index xs i c.loop-other-test.true))) ∙ c.if-is_under.true))

pub returns : goal.returns
returns c = λ f l short. sym (none_done (is_under c.args.self.now.program.now c.args.class) c.args.others.now c.loop-other.other-index c.loop-other-test.false (c.loop-other.invariant f l short))
