use Rattle.std.proofs.Common.{◌≡◌, ◌∙◌, true, false, sym}
use Rattle.compact.specs.Narrow.{has_narrow_classes}
use Rattle.pipeline.proofs.Passing.{IsPassed, renames, wide_passed, compact_passed}
use Rattle.pipeline.proofs.passes.compact_bodies.Goals as goal

pub returns-then-not-has_narrow_classes : goal.returns-then-not-has_narrow_classes
returns-then-not-has_narrow_classes c =
    let wide : has_narrow_classes c.args.traced.program ≡ false = sym c.has_narrow_classes.ensures ∙ c.if-not-has_narrow_classes.true in
    λ outside. wide_passed outside c.args.admitted.now.methods.items c.args.traced c.unchanged.result c.unchanged.ensures.traced c.unchanged.ensures.changes wide

pub returns : goal.returns
returns c =
    let changed = c.in_ok-changed.changed in
    let left : IsPassed c.args.traced.origins changed (renames changed.count) c.left_by.result = record { program = c.left_by.ensures.program; changes = c.left_by.ensures.changes ∙ c.renamed-changes.ensures; origins = c.left_by.ensures.origins } in
    let narrow : has_narrow_classes c.args.traced.program ≡ true = sym c.has_narrow_classes.ensures ∙ c.if-not-has_narrow_classes.false in
    λ outside. compact_passed outside c.args.admitted.now.methods.items c.args.traced c.left_by.result changed left narrow
    c.in_ok-changed.ensures.origins c.in_ok-changed.ensures.is c.in_ok-changed.ensures.count c.in_ok-changed.ensures.less
