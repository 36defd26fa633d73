use Rattle.std.proofs.Common.{◌∙◌}
use Rattle.pipeline.proofs.Passing.{IsPassed, removes, loosened_passed}
use Rattle.pipeline.proofs.passes.loosen_known.Goals as goal

pub returns : goal.returns
returns c =
    let changed = c.in_ok-changed.changed in
    let left : IsPassed c.args.traced.origins changed (removes changed.count) c.left_by.result = record { program = c.left_by.ensures.program; changes = c.left_by.ensures.changes ∙ c.removed-changes.ensures; origins = c.left_by.ensures.origins } in
    λ graph formed known. loosened_passed c.args.outside.now c.args.admitted.now.methods.items c.args.traced c.left_by.result changed c.args.hierarchy.now c.args.facts.now left (graph formed) known
    (c.in_ok-changed.ensures.staticised formed (graph formed).resolved) (c.in_ok-changed.ensures.none_left formed (graph formed).resolved) c.in_ok-changed.ensures.same
    (c.in_ok-changed.ensures.changes formed (graph formed).resolved) (c.in_ok-changed.ensures.falls formed (graph formed).resolved)
