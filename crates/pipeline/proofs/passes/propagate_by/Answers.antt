use Rattle.std.proofs.Common.{◌∙◌}
use Rattle.pipeline.proofs.Passing.{IsPassed, rereads, kept_reads_passed, copies_passed}
use Rattle.pipeline.proofs.passes.propagate_by.Goals as goal

pub returns-then-not-propagated : goal.returns-then-not-propagated
returns-then-not-propagated c = λ graph outside. kept_reads_passed outside c.args.admitted.now.methods.items c.args.traced c.unchanged.result c.unchanged.ensures.traced c.unchanged.ensures.changes
    (λ formed. c.in_ok-propagated.ensures.kept (graph formed).resolved c.if-not-propagated.true)

pub returns : goal.returns
returns c =
    let changed = c.in_ok-changed.changed in
    let left : IsPassed c.args.traced.origins changed (rereads changed.count) c.left_by.result = record { program = c.left_by.ensures.program; changes = c.left_by.ensures.changes ∙ c.reread-changes.ensures; origins = c.left_by.ensures.origins } in
    λ graph outside. copies_passed outside c.args.admitted.now.methods.items c.args.traced c.left_by.result changed c.args.hierarchy.now left graph
    (c.in_ok-propagated.ensures.narrow c.if-not-propagated.false) (c.in_ok-propagated.ensures.typed c.if-not-propagated.false) c.in_ok-changed.ensures.origins c.in_ok-changed.ensures.is c.in_ok-changed.ensures.count
