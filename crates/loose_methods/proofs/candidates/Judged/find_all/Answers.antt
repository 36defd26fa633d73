use Rattle.std.proofs.Common.{◌∙◌, ap, sym}
use Rattle.class_defs.specs.Finding.{finds_virtual}
use Rattle.receivers.specs.Receiving.{is_at}
use Rattle.receivers.proofs.Loops.{all_broken, all_more, all_done}
use Rattle.loose_methods.proofs.candidates.Judged.find_all.Goals as goal

pub loop-class-preserved : goal.loop-class-preserved
loop-class-preserved c = λ q j k.
    let p = c.args.self.now.program.now in
    all_more (λ d. is_at c.args.at (finds_virtual p q.name q.proto d)) c.args.under.now c.loop-class.class-index c.loop-class-test.true (c.loop-class.invariant q j k)
    (ap (is_at c.args.at) (sym (c.find_virtual.ensures q.name q.proto j.resolved.of k)) ∙ (sym c.is_at.ensures ∙ c.if-not-is_at.false))

pub returns-then-not-is_at : goal.returns-then-not-is_at
returns-then-not-is_at c = λ q j k.
    let p = c.args.self.now.program.now in
    sym (all_broken (λ d. is_at c.args.at (finds_virtual p q.name q.proto d)) c.args.under.now c.loop-class.class-index c.loop-class-test.true
    (ap (is_at c.args.at) (sym (c.find_virtual.ensures q.name q.proto j.resolved.of k)) ∙ (sym c.is_at.ensures ∙ c.if-not-is_at.true)))

pub returns : goal.returns
returns c = λ q j k. sym (all_done (λ d. is_at c.args.at (finds_virtual c.args.self.now.program.now q.name q.proto d)) c.args.under.now c.loop-class.class-index c.loop-class-test.false (c.loop-class.invariant q j k))
