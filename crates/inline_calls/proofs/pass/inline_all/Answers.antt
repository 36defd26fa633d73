use Rattle.std.proofs.Common.{refl, sym, ap, ◌∙◌}
use Rattle.inline_calls.specs.Edited.{program_by}
use Rattle.inline_calls.specs.Plans.{Unbegun}
use Rattle.inline_calls.proofs.Asks.{no_asks, so_asks, on_err}
use Rattle.inline_calls.proofs.Looking.{is_inlined, planned_begun, begun_from, formed_by, typed_by}
use Rattle.inline_calls.proofs.pass.inline_all.Goals as goal

pub returns-in_err-done-clause-begun : goal.returns-in_err-done-clause-begun
returns-in_err-done-clause-begun g c = on_err _ (no_asks _ _ _ Unbegun)

pub returns-in_err-rows-clause-begun : goal.returns-in_err-rows-clause-begun
returns-in_err-rows-clause-begun g c =
    on_err _ (so_asks _ _ _ _ _ _ (begun_from c.args.program.now c.args.hierarchy.now c.args.facts.now c.args.admitted.now _ _ c.in_ok-done.ensures) c.in_err-rows.ensures.begun)

pub returns-in_err-put_program-clause-begun : goal.returns-in_err-put_program-clause-begun
returns-in_err-put_program-clause-begun g c =
    on_err _ (so_asks _ _ _ _ _ _ (λ rows is. begun_from c.args.program.now c.args.hierarchy.now c.args.facts.now c.args.admitted.now _ _ c.in_ok-done.ensures rows (planned_begun c.args.program.now c.args.hierarchy.now c.args.facts.now c.args.admitted.now _ _ _ rows is)) c.in_ok-rows.ensures.planned)

pub returns-in_err-check_changed-clause-begun : goal.returns-in_err-check_changed-clause-begun
returns-in_err-check_changed-clause-begun g c =
    on_err _ (so_asks _ _ _ _ _ _ (λ rows is. begun_from c.args.program.now c.args.hierarchy.now c.args.facts.now c.args.admitted.now _ _ c.in_ok-done.ensures rows (planned_begun c.args.program.now c.args.hierarchy.now c.args.facts.now c.args.admitted.now _ _ _ rows is)) c.in_ok-rows.ensures.planned)

pub returns-clause-inlined : goal.returns-clause-inlined
returns-clause-inlined g c =
    so_asks _ _ _ _ _ _ (is_inlined c.args.program.now c.args.hierarchy.now c.args.facts.now c.args.admitted.now _ _ _ _ _ _ c.in_ok-done.ensures (c.in_ok-put_program.ensures ∙ ap (λ l. program_by l c.args.program.now) c.as_slice-edits.ensures) refl refl) c.in_ok-rows.ensures.planned

pub returns-clause-formed : goal.returns-clause-formed
returns-clause-formed g c = formed_by c.args.program.now c.args.hierarchy.now c.args.facts.now c.args.admitted.now _ _ _ _ _ _ _ (returns-clause-inlined g c) c.in_ok-check_changed.ensures.formed

pub returns-clause-typed : goal.returns-clause-typed
returns-clause-typed g c = typed_by c.args.program.now c.args.hierarchy.now c.args.facts.now c.args.admitted.now _ _ _ _ _ _ _ (returns-clause-inlined g c) c.in_ok-check_changed.ensures.typed
