use Rattle.std.proofs.Common.{Bool, List, length, refl, subst, sym, ◌∙◌}
use Rattle.std.specs.Prelude.{IfOk, Option}
use Rattle.dalvik_defs.specs.Naming.{method_at}
use Rattle.dalvik_defs.specs.Outcome.{calls_out, Outcome}
use Rattle.dalvik_defs.specs.declared.events.Event.{Event}
use Rattle.dalvik_state.specs.Runs.{comes_of, world_in, IsEvent}
use Rattle.dalvik_state.specs.Views.{frame_of, names_in, values_of, AreFine}
use Rattle.dalvik_state.specs.Worlds.{spots_of}
use Rattle.dalvik_state.specs.declared.datum.Datum.{Datum}
use Rattle.dalvik_steps.proofs.Called.{unfound_by, went_on}
use Rattle.dalvik_steps.proofs.calling.calls_unfound.Goals as goal

pub returns-then-does_nothing-clause-ok : goal.returns-then-does_nothing-clause-ok
returns-then-does_nothing-clause-ok c = λ o floats script steps f h low fine.
    let l = c.args.tables.now.lookups in
    went_on l o floats script steps f c.args.state.now (record c.args.state.now { stack = c.back_on.new.stack }) h c.back_on.ensures (record { world = refl; statuses = refl; next = refl; ended = refl }) c.args.call.now.kind (method_at l.program.now c.args.call.now.method) (values_of (names_in l) c.args.call.now.values.items)
    (sym (c.does_nothing.ensures h.right) ∙ c.if-does_nothing.true)

pub returns-clause-ok : goal.returns-clause-ok
returns-clause-ok c = λ o floats script steps f h low fine.
    let l = c.args.tables.now.lookups in
    let n = names_in l in
    let old = c.args.state.now in
    let vs = values_of n c.args.call.now.values.items in
    let w = world_in l old in
    let key = method_at l.program.now c.args.call.now.method in
    let kind = c.args.call.now.kind in
    let done = c.calls_out.ensures.ok o floats script steps f h low (subst (AreFine n (length (spots_of old.world))) (sym c.as_slice.ensures.value) fine) in
    subst (λ (x : Outcome). IfOk c.calls_out.result (λ (e : Option Event). IsEvent l steps script c.calls_out.new.state e (comes_of l o floats script old f x)))
    (sym (unfound_by kind key vs w (frame_of n f) _ (sym (c.does_nothing.ensures h.right) ∙ c.if-does_nothing.false)))
    (subst (λ (b : Bool). IfOk c.calls_out.result (λ (e : Option Event). IsEvent l steps script c.calls_out.new.state e (comes_of l o floats script old f (calls_out kind b key vs w)))) c.takes_no_receiver.ensures
    (subst (λ (ds : List Datum). IfOk c.calls_out.result (λ (e : Option Event). IsEvent l steps script c.calls_out.new.state e (comes_of l o floats script old f (calls_out kind c.takes_no_receiver.result key (values_of n ds) w)))) c.as_slice.ensures.value done))
