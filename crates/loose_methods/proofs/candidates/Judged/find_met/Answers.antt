use Rattle.std.proofs.Common.{sym, ◌∙◌, slice_index}
use Rattle.receivers.proofs.Loops.{any_here, at_index, none_done, none_more}
use Rattle.loose_methods.specs.Sifting.{find_met}
use Rattle.loose_methods.proofs.candidates.Judged.find_met.Goals as goal

pub loop-class-preserved : goal.loop-class-preserved
loop-class-preserved c = λ q j k e short.
    let i = c.loop-class.class-index in
    let xs = c.args.under.now in
    none_more (find_met c.args.self.now.program.now q c.args.at) xs i c.loop-class-test.true (c.loop-class.invariant q j k e short)
    (sym (c.finds_met.ensures q j k e (short i (slice_index xs i) (at_index xs i c.loop-class-test.true))) ∙ c.if-finds_met.false)

pub returns-then-finds_met : goal.returns-then-finds_met
returns-then-finds_met c = λ q j k e short.
    let i = c.loop-class.class-index in
    let xs = c.args.under.now in
    sym (any_here (find_met c.args.self.now.program.now q c.args.at) xs i c.loop-class-test.true
    (sym (c.finds_met.ensures q j k e (short i (slice_index xs i) (at_index xs i c.loop-class-test.true))) ∙ c.if-finds_met.true))

pub returns : goal.returns
returns c = λ q j k e short. sym (none_done (find_met c.args.self.now.program.now q c.args.at) c.args.under.now c.loop-class.class-index c.loop-class-test.false (c.loop-class.invariant q j k e short))
