use Rattle.std.proofs.Common.{◌≡◌, ◌∙◌, ℕ, ap, sym, subst}
use Rattle.std.specs.Prelude.{Option, Some, None, IfOk, find}
use Rattle.std.specs.Option.{option_copied}
use Rattle.dalvik_lookups.specs.Facing.{run_face}
use Rattle.dalvik_state.specs.Drafts.{kind_text}
use Rattle.dalvik_steps.specs.Flights.{covers_in}
use Rattle.dalvik_steps.proofs.Handlers.{frame_handlers, lands_outside, lands_region}
use Rattle.dalvik_steps.proofs.throwing.lands.Goals as goal

pub returns-in-Some-clause-kept : goal.returns-in-Some-clause-kept
returns-in-Some-clause-kept c = λ size r k m s.
    let f = c.args.frame.now in
    let found : find (covers_in f.position) f.body.now.regions ≡ Some c.in-Some.region.now = sym (ap (find (covers_in f.position)) c.as_slice.ensures) ∙ sym c.region_at.ensures ∙ ap option_copied c.in-Some.is in
    c.handler_in.ensures.kept r k m (frame_handlers c.args.tables.now.lookups r size f (covers_in f.position) c.in-Some.region.now s found)

pub returns-in-Some-clause-is : goal.returns-in-Some-clause-is
returns-in-Some-clause-is c = λ size r k m s.
    let l = c.args.tables.now.lookups in
    let f = c.args.frame.now in
    let found : find (covers_in f.position) f.body.now.regions ≡ Some c.in-Some.region.now = sym (ap (find (covers_in f.position)) c.as_slice.ensures) ∙ sym c.region_at.ensures ∙ ap option_copied c.in-Some.is in
    let above = (run_face l).under (kind_text l c.args.kind) in
    subst (λ (x : Option ℕ). IfOk c.handler_in.result (λ o. o ≡ x)) (sym (lands_region l.program.now above f.position f.body.now c.in-Some.region.now found))
    (c.handler_in.ensures.is r k m (frame_handlers l r size f (covers_in f.position) c.in-Some.region.now s found))

pub returns-in-None-clause-is : goal.returns-in-None-clause-is
returns-in-None-clause-is c = λ size r k m s.
    let l = c.args.tables.now.lookups in
    let f = c.args.frame.now in
    let found : find (covers_in f.position) f.body.now.regions ≡ None = sym (ap (find (covers_in f.position)) c.as_slice.ensures) ∙ sym c.region_at.ensures ∙ ap option_copied c.in-None.is in
    sym (lands_outside l.program.now ((run_face l).under (kind_text l c.args.kind)) f.position f.body.now found)
