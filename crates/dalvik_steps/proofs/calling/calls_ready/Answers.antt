use Rattle.std.proofs.Common.{[], ap, refl, subst, sym, ◌∙◌}
use Rattle.std.specs.Prelude.{IfOk, OnErr, Option, None}
use Rattle.dalvik_defs.specs.Outcome.{calls_found, when_ready, Outcome}
use Rattle.dalvik_defs.specs.declared.events.Event.{Event}
use Rattle.dalvik_state.specs.Runs.{comes_of, need_in, world_in, IsNext, IsRun, IsUndoneWith}
use Rattle.dalvik_state.specs.States.{class_text, top_frame}
use Rattle.dalvik_state.specs.Views.{names_in, values_of, AreFine}
use Rattle.dalvik_state.specs.declared.state.State.{State}
use Rattle.dalvik_steps.specs.Entries.{IsReadied}
use Rattle.dalvik_steps.proofs.Called.{ready_by, ready_of, ready_run, ready_top, ready_fine, static_test}
use Rattle.dalvik_steps.proofs.Invoked.{method_found}
use Rattle.dalvik_steps.proofs.Nexts.{err_of}
use Rattle.dalvik_steps.proofs.Outcomes.{failed_next, started_next}
use Rattle.dalvik_steps.proofs.calling.calls_ready.Goals as goal

pub returns-then-not-has-clause-ok : goal.returns-then-not-has-clause-ok
returns-then-not-has-clause-ok c = λ o floats script steps f g run top found at class fine.
    let l = c.args.tables.now.lookups in
    let vs = values_of (names_in l) c.args.call.now.values.items in
    let static = static_test l g c.args.found.1.now c.has.result _ found c.has.ensures c.if-not-has.true in
    subst (λ (x : Outcome). IfOk c.calls_found.result (λ (e : Option Event). IsNext l steps script c.calls_found.new.memo c.calls_found.new.state e (comes_of l o floats script c.args.state.now f x)))
    (sym (ready_by c.args.call.now.kind g vs (world_in l c.args.state.now) (need_in l c.args.state.now) _ static))
    (c.calls_found.ensures.ok o floats script steps f g run top found at fine)

pub returns-in-Ready-clause-ok : goal.returns-in-Ready-clause-ok
returns-in-Ready-clause-ok c = λ o floats script steps f g run top found at class fine.
    let l = c.args.tables.now.lookups in
    let vs = values_of (names_in l) c.args.call.now.values.items in
    let kind = c.args.call.now.kind in
    let old = c.args.state.now in
    let static = static_test l g c.args.found.1.now c.has.result _ found c.has.ensures c.if-not-has.false in
    let low = (method_found l run.right c.args.found.0 c.args.found.1.now at).low in
    let ready = subst (IsReadied l steps script c.readies.new.memo old c.readies.new.state c.args.found.0.class) c.in-Ready.is (c.in_ok-readies.ensures.readied steps script run low) in
    let need = ap (need_in l old) class ∙ ready.need in
    let kept = c.readies.ensures.kept steps run low in
    let done = c.calls_found-in-Ready.ensures.ok o floats script steps f g (ready_run l steps c.args.memo.now c.readies.new.memo old c.readies.new.state ready.same kept run) (ready_top old c.readies.new.state f ready.same top) found at (ready_fine l old c.readies.new.state c.args.call.now.values.items ready.same fine) in
    let there = subst (λ (s : State). IfOk c.calls_found-in-Ready.result (λ (e : Option Event). IsNext l steps script c.calls_found-in-Ready.new.memo c.calls_found-in-Ready.new.state e (comes_of l o floats script s f (calls_found kind g vs (world_in l s))))) ready.same done in
    subst (λ (x : Outcome). IfOk c.calls_found-in-Ready.result (λ (e : Option Event). IsNext l steps script c.calls_found-in-Ready.new.memo c.calls_found-in-Ready.new.state e (comes_of l o floats script old f x)))
    (sym (ready_by kind g vs (world_in l old) (need_in l old) _ static))
    (ready_of l o floats script steps old f top c.calls_found-in-Ready.new.memo c.calls_found-in-Ready.new.state (need_in l old g.key.class) g.key.class (calls_found kind g vs (world_in l old)) need c.calls_found-in-Ready.result there)

pub returns-in-Ready-clause-err : goal.returns-in-Ready-clause-err
returns-in-Ready-clause-err c = λ steps f g run top found at.
    let l = c.args.tables.now.lookups in
    let old = c.args.state.now in
    let low = (method_found l run.right c.args.found.0 c.args.found.1.now at).low in
    let ready = subst (IsReadied l steps [] c.readies.new.memo old c.readies.new.state c.args.found.0.class) c.in-Ready.is (c.in_ok-readies.ensures.readied steps [] run low) in
    let kept = c.readies.ensures.kept steps run low in
    subst (λ (s : State). OnErr c.calls_found-in-Ready.result (IsUndoneWith l steps c.calls_found-in-Ready.new.memo s c.calls_found-in-Ready.new.state)) ready.same
    (c.calls_found-in-Ready.ensures.err steps f g (ready_run l steps c.args.memo.now c.readies.new.memo old c.readies.new.state ready.same kept run) (ready_top old c.readies.new.state f ready.same top) found)

pub returns-in-Started-clause-ok : goal.returns-in-Started-clause-ok
returns-in-Started-clause-ok c = λ o floats script steps f g run top found at class fine.
    let l = c.args.tables.now.lookups in
    let vs = values_of (names_in l) c.args.call.now.values.items in
    let kind = c.args.call.now.kind in
    let old = c.args.state.now in
    let static = static_test l g c.args.found.1.now c.has.result _ found c.has.ensures c.if-not-has.false in
    let low = (method_found l run.right c.args.found.0 c.args.found.1.now at).low in
    let started = subst (IsReadied l steps script c.readies.new.memo old c.readies.new.state c.args.found.0.class) c.in-Started.is (c.in_ok-readies.ensures.readied steps script run low) in
    subst (λ (x : Outcome). IsNext l steps script c.readies.new.memo c.readies.new.state None (comes_of l o floats script old f x)) (sym (ready_by kind g vs (world_in l old) (need_in l old) _ static))
    (started_next l o floats script steps old f top c.readies.new.memo c.readies.new.state c.args.found.0.class g.key.class (calls_found kind g vs (world_in l old)) (sym class) started (c.readies.ensures.kept steps run low))

pub returns-in-Failed-clause-ok : goal.returns-in-Failed-clause-ok
returns-in-Failed-clause-ok c = λ o floats script steps f g run top found at class fine.
    let l = c.args.tables.now.lookups in
    let vs = values_of (names_in l) c.args.call.now.values.items in
    let kind = c.args.call.now.kind in
    let old = c.args.state.now in
    let static = static_test l g c.args.found.1.now c.has.result _ found c.has.ensures c.if-not-has.false in
    let low = (method_found l run.right c.args.found.0 c.args.found.1.now at).low in
    let failed = subst (IsReadied l steps script c.readies.new.memo old c.readies.new.state c.args.found.0.class) c.in-Failed.is (c.in_ok-readies.ensures.readied steps script run low) in
    subst (λ (x : Outcome). IsNext l steps script c.readies.new.memo c.readies.new.state c.in-Failed.event (comes_of l o floats script old f x)) (sym (ready_by kind g vs (world_in l old) (need_in l old) _ static))
    (failed_next l o floats script steps old f top c.readies.new.memo c.readies.new.state c.args.found.0.class g.key.class (calls_found kind g vs (world_in l old)) c.in-Failed.event (sym class) failed)

pub returns-in_err-readies-clause-err : goal.returns-in_err-readies-clause-err
returns-in_err-readies-clause-err c = λ steps f g run top found at.
    err_of _ _ (c.in_err-readies.ensures.err steps run (method_found c.args.tables.now.lookups run.right c.args.found.0 c.args.found.1.now at).low)

pub returns-then-not-has-clause-err : goal.returns-then-not-has-clause-err
returns-then-not-has-clause-err c = λ steps f g run top found at. c.calls_found.ensures.err steps f g run top found
