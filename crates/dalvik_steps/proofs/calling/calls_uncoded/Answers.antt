use Rattle.std.proofs.Common.{List, arith, length, refl, subst, sym, ◌∙◌}
use Rattle.std.specs.Prelude.{IfOk, Option}
use Rattle.dalvik_defs.specs.Known.{abstract_method}
use Rattle.dalvik_defs.specs.Naming.{method_at}
use Rattle.dalvik_defs.specs.Outcome.{calls_out, Outcome}
use Rattle.dalvik_defs.specs.declared.events.Event.{Event}
use Rattle.dalvik_state.specs.Runs.{comes_of, world_in, IsNext}
use Rattle.dalvik_state.specs.Views.{names_in, values_of, AreFine}
use Rattle.dalvik_state.specs.Worlds.{spots_of}
use Rattle.dalvik_state.specs.declared.datum.Datum.{Datum}
use Rattle.dalvik_steps.proofs.Called.{faulted_of, native_called, native_test, uncoded_by}
use Rattle.dalvik_steps.proofs.Nexts.{next_of, undone_of}
use Rattle.dalvik_steps.proofs.Reserved.{step_of}
use Rattle.dalvik_steps.proofs.calling.calls_uncoded.Goals as goal

pub returns-then-has-clause-ok : goal.returns-then-has-clause-ok
returns-then-has-clause-ok c = λ o floats script steps f g run top found fine.
    let l = c.args.tables.now.lookups in
    let own = c.args.method.now in
    let vs = values_of (names_in l) c.args.call.now.values.items in
    let w = world_in l c.args.state.now in
    let native = native_test l g own c.has.result _ found c.has.ensures c.if-has.true in
    subst (λ (x : Outcome). IfOk c.calls_out.result (λ (e : Option Event). IsNext l steps script c.args.memo.now c.calls_out.new.state e (comes_of l o floats script c.args.state.now f x)))
    (native_called c.args.call.now.kind g vs w c.native_kind.result c.takes_no_receiver.result (method_at l.program.now own.name) c.native_kind.ensures c.takes_no_receiver.ensures found.key native)
    (subst (λ (ds : List Datum). IfOk c.calls_out.result (λ (e : Option Event). IsNext l steps script c.args.memo.now c.calls_out.new.state e (comes_of l o floats script c.args.state.now f (calls_out c.native_kind.result c.takes_no_receiver.result (method_at l.program.now own.name) (values_of (names_in l) ds) w)))) c.as_slice.ensures.value
    (next_of l steps script c.args.memo.now c.calls_out.new.state _ c.calls_out.result run.kept (c.calls_out.ensures.ok o floats script steps f (step_of l c.args.memo.now steps c.args.state.now f run top) found.within
    (subst (AreFine (names_in l) (length (spots_of c.args.state.now.world))) (sym c.as_slice.ensures.value) fine))))

pub returns-then-has-clause-err : goal.returns-then-has-clause-err
returns-then-has-clause-err c = λ steps f g run top found. undone_of c.args.tables.now.lookups c.args.memo.now steps c.args.state.now c.calls_out.new.state c.calls_out.result run c.calls_out.ensures.err

pub returns-else-has-clause-ok : goal.returns-else-has-clause-ok
returns-else-has-clause-ok c = λ o floats script steps f g run top found fine.
    let l = c.args.tables.now.lookups in
    let own = c.args.method.now in
    let vs = values_of (names_in l) c.args.call.now.values.items in
    let w = world_in l c.args.state.now in
    let native = native_test l g own c.has.result _ found c.has.ensures c.if-has.false in
    subst (λ (x : Outcome). IfOk c.throws.result (λ (e : Option Event). IsNext l steps script c.throws.new.memo c.throws.new.state e (comes_of l o floats script c.args.state.now f x)))
    (sym (uncoded_by c.args.call.now.kind g vs w _ native))
    (faulted_of l o floats script steps c.args.state.now f top run.right c.throws.new.memo c.throws.new.state 19 abstract_method refl c.throws.result (c.throws.ensures.ok steps script run (omega arith)))

pub returns-else-has-clause-err : goal.returns-else-has-clause-err
returns-else-has-clause-err c = λ steps f g run top found. c.throws.ensures.err steps run (omega arith)
