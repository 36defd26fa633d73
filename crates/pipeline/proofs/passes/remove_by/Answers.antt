use Rattle.std.proofs.Common.{◌∙◌}
use Rattle.pipeline.proofs.Passing.{IsPassed, removes, removal_passed}
use Rattle.pipeline.proofs.passes.remove_by.Goals as goal

pub returns : goal.returns
returns c =
    let changed = c.in_ok-changed.changed in
    let left : IsPassed c.args.traced.origins changed (removes changed.count) c.left_by.result = record { program = c.left_by.ensures.program; changes = c.left_by.ensures.changes ∙ c.removed-changes.ensures; origins = c.left_by.ensures.origins } in
    λ graph admitted. removal_passed c.args.outside.now admitted c.args.traced c.left_by.result changed c.args.hierarchy.now left c.requires graph
    c.in_ok-changed.ensures.origins c.in_ok-changed.ensures.closed c.in_ok-changed.ensures.kept c.in_ok-changed.ensures.same c.in_ok-changed.ensures.less
