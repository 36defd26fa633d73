use Rattle.std.proofs.Common.{◌∙◌}
use Rattle.pipeline.proofs.Passing.{IsPassed, folds, folded_passed}
use Rattle.pipeline.proofs.passes.fold_known.Goals as goal

pub returns : goal.returns
returns c =
    let changed = c.in_ok-changed.changed in
    let left : IsPassed c.args.traced.origins changed (folds changed.count) c.left_by.result = record { program = c.left_by.ensures.program; changes = c.left_by.ensures.changes ∙ c.folded-changes.ensures; origins = c.left_by.ensures.origins } in
    λ graph outside known. folded_passed outside c.args.admitted.now.methods.items c.args.traced c.left_by.result changed c.args.hierarchy.now c.args.facts.now left graph known
    c.in_ok-changed.ensures.becomes c.in_ok-changed.ensures.folded c.in_ok-changed.ensures.none_left c.in_ok-changed.ensures.same c.in_ok-changed.ensures.less c.numbers_have_bits-bits.ensures.all
