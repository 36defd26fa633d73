use Rattle.std.proofs.Common.{sym, ◌∙◌}
use Rattle.loose_methods.specs.Loose.{is_outer}
use Rattle.receivers.proofs.Loops.{any_here, none_done, none_more}
use Rattle.loose_methods.proofs.candidates.Judged.is_any_outer.Goals as goal

pub loop-kind-preserved : goal.loop-kind-preserved
loop-kind-preserved c = λ j. none_more (is_outer c.args.self.now.program.now) c.args.kinds.now c.loop-kind.kind-index c.loop-kind-test.true (c.loop-kind.invariant j) (sym (c.is_outer.ensures j) ∙ c.if-is_outer.false)

pub returns-then-is_outer : goal.returns-then-is_outer
returns-then-is_outer c = λ j. sym (any_here (is_outer c.args.self.now.program.now) c.args.kinds.now c.loop-kind.kind-index c.loop-kind-test.true (sym (c.is_outer.ensures j) ∙ c.if-is_outer.true))

pub returns : goal.returns
returns c = λ j. sym (none_done (is_outer c.args.self.now.program.now) c.args.kinds.now c.loop-kind.kind-index c.loop-kind-test.false (c.loop-kind.invariant j))
