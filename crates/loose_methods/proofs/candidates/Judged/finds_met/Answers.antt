use Rattle.std.proofs.Common.{◌∙◌, ap, sym}
use Rattle.std.specs.Prelude.{◌&&◌}
use Rattle.class_defs.specs.Finding.{finds_virtual}
use Rattle.receivers.specs.Receiving.{is_at}
use Rattle.loose_methods.specs.Sifting.{is_met_by}
use Rattle.loose_methods.proofs.candidates.Judged.finds_met.Goals as goal

pub returns-then-not-is_met_by : goal.returns-then-not-is_met_by
returns-then-not-is_met_by c = λ q j k e lt.
    let p = c.args.self.now.program.now in
    sym (ap (λ b. b && is_at c.args.at (finds_virtual p q.name q.proto c.args.class)) (ap (λ x. is_met_by p x c.args.class) (sym e) ∙ (sym (c.is_met_by.ensures j lt) ∙ c.if-not-is_met_by.true)))

pub returns : goal.returns
returns c = λ q j k e lt.
    let p = c.args.self.now.program.now in
    c.is_at.ensures ∙ (ap (is_at c.args.at) (c.find_virtual.ensures q.name q.proto j.resolved.of k)
    ∙ sym (ap (λ b. b && is_at c.args.at (finds_virtual p q.name q.proto c.args.class)) (ap (λ x. is_met_by p x c.args.class) (sym e) ∙ (sym (c.is_met_by.ensures j lt) ∙ c.if-not-is_met_by.false))))
