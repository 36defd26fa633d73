use Rattle.std.proofs.Common.{List, length, subst, sym, ◌∙◌}
use Rattle.std.specs.Prelude.{None}
use Rattle.dalvik_defs.specs.Naming.{method_at}
use Rattle.dalvik_defs.specs.Outcome.{Enters, Outcome}
use Rattle.dalvik_state.specs.Runs.{comes_of, world_in, IsNext, IsUndoneWith}
use Rattle.dalvik_state.specs.Views.{names_in, values_of, AreFine}
use Rattle.dalvik_state.specs.Worlds.{spots_of}
use Rattle.dalvik_state.specs.declared.datum.Datum.{Datum}
use Rattle.std.specs.Prelude.{IfOk, Option}
use Rattle.dalvik_defs.specs.declared.events.Event.{Event}
use Rattle.dalvik_steps.proofs.Called.{found_by, found_enters}
use Rattle.dalvik_steps.proofs.Nexts.{err_of}
use Rattle.dalvik_steps.proofs.Outcomes.{entered_next}
use Rattle.dalvik_steps.proofs.calling.calls_found.Goals as goal

pub returns-in_ok-enters-clause-ok : goal.returns-in_ok-enters-clause-ok
returns-in_ok-enters-clause-ok c = λ o floats script steps f g run top found at fine.
    let l = c.args.tables.now.lookups in
    let own = c.args.found.1.now in
    let vs = values_of (names_in l) c.args.call.now.values.items in
    let key = method_at l.program.now own.name in
    let coded = found.coded ∙ sym c.is_some.ensures ∙ c.if-is_some.true in
    subst (λ (x : Outcome). IsNext l steps script c.args.memo.now c.enters.new.state None (comes_of l o floats script c.args.state.now f x)) (found_enters c.args.call.now.kind g vs (world_in l c.args.state.now) key found.key coded)
    (subst (λ (ds : List Datum). IsNext l steps script c.args.memo.now c.enters.new.state None (comes_of l o floats script c.args.state.now f (Enters key (values_of (names_in l) ds)))) c.as_slice.ensures.value
    (entered_next l o floats script steps c.args.state.now f top c.args.memo.now c.enters.new.state key (values_of (names_in l) c.as_slice.result.now) (c.in_ok-enters.ensures.ok steps script own run.right run.state run.on at
    (subst (AreFine (names_in l) (length (spots_of c.args.state.now.world))) (sym c.as_slice.ensures.value) fine)) run.kept))

pub returns-in_err-enters-clause-err : goal.returns-in_err-enters-clause-err
returns-in_err-enters-clause-err c = λ steps f g run top found.
    let l = c.args.tables.now.lookups in
    let u : IsUndoneWith l steps c.args.memo.now c.args.state.now c.enters.new.state = record { undone = c.in_err-enters.ensures.err steps run.right run.state run.on; kept = run.kept } in
    err_of _ _ u

pub returns-else-is_some-clause-ok : goal.returns-else-is_some-clause-ok
returns-else-is_some-clause-ok c = λ o floats script steps f g run top found at fine.
    let l = c.args.tables.now.lookups in
    let vs = values_of (names_in l) c.args.call.now.values.items in
    let coded = found.coded ∙ sym c.is_some.ensures ∙ c.if-is_some.false in
    subst (λ (x : Outcome). IfOk c.calls_uncoded.result (λ (e : Option Event). IsNext l steps script c.calls_uncoded.new.memo c.calls_uncoded.new.state e (comes_of l o floats script c.args.state.now f x))) (sym (found_by c.args.call.now.kind g vs (world_in l c.args.state.now) _ coded))
    (c.calls_uncoded.ensures.ok o floats script steps f g run top found fine)
