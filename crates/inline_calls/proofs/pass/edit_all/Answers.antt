use Rattle.std.proofs.Common.{refl}
use Rattle.inline_calls.specs.Plans.{Unbegun}
use Rattle.inline_calls.proofs.Asks.{no_asks, so_asks, on_err}
use Rattle.inline_calls.proofs.Looking.{planned_by, begun_by}
use Rattle.inline_calls.proofs.pass.edit_all.Goals as goal

pub returns-in_err-verifier-clause-begun : goal.returns-in_err-verifier-clause-begun
returns-in_err-verifier-clause-begun g c = on_err _ (no_asks _ _ _ Unbegun)

pub edit_classes-requires : goal.edit_classes-requires
edit_classes-requires g c = c.in_ok-verifier.ensures.meets

pub returns-clause-planned : goal.returns-clause-planned
returns-clause-planned g c =
    so_asks _ _ _ _ _ _ (planned_by c.args.program.now c.args.hierarchy.now c.args.facts.now c.args.admitted.now _ c.args.done.now _ _
    (record { program = refl; hierarchy = refl; known = refl; marks = refl; verifier = c.in_ok-verifier.ensures; strings = c.same_numbers.ensures.strings; types = c.same_numbers.ensures.types }) c.as_slice-classes.result.now c.as_slice-classes.ensures) c.in_ok-edits.ensures.looked

pub returns-in_err-edits-clause-begun : goal.returns-in_err-edits-clause-begun
returns-in_err-edits-clause-begun g c =
    on_err _ (so_asks _ _ _ _ _ _ (begun_by c.args.program.now c.args.hierarchy.now c.args.facts.now c.args.admitted.now _ c.args.done.now
    (record { program = refl; hierarchy = refl; known = refl; marks = refl; verifier = c.in_ok-verifier.ensures; strings = c.same_numbers.ensures.strings; types = c.same_numbers.ensures.types }) c.as_slice-classes.result.now c.as_slice-classes.ensures) c.in_err-edits.ensures.begun)
