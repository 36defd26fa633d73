use Rattle.std.proofs.Common.{sym, ◌∙◌}
use Rattle.receivers.proofs.Loops.{any_here, none_done, none_more}
use Rattle.const_prop.specs.Defaults.{is_default}
use Rattle.const_prop.proofs.results.Results.is_one_default.Goals as goal

pub loop-class-preserved : goal.loop-class-preserved
loop-class-preserved c = λ k name proto is.
    none_more (is_default c.args.self.now.program.now name proto) c.args.classes.now c.loop-class.class-index c.loop-class-test.true (c.loop-class.invariant k name proto is)
    (sym (c.is_default.ensures k name proto is) ∙ c.if-is_default.false)

pub returns-then-is_default : goal.returns-then-is_default
returns-then-is_default c = λ k name proto is.
    sym (any_here (is_default c.args.self.now.program.now name proto) c.args.classes.now c.loop-class.class-index c.loop-class-test.true (sym (c.is_default.ensures k name proto is) ∙ c.if-is_default.true))

pub returns : goal.returns
returns c = λ k name proto is.
    sym (none_done (is_default c.args.self.now.program.now name proto) c.args.classes.now c.loop-class.class-index c.loop-class-test.false (c.loop-class.invariant k name proto is))
