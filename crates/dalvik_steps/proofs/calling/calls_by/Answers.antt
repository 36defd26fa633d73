use Rattle.std.proofs.Common.{arith, refl, subst, sym, ◌∙◌}
use Rattle.std.specs.Prelude.{IfOk, Option}
use Rattle.dalvik_defs.specs.Find as name
use Rattle.dalvik_defs.specs.Known.{class_change}
use Rattle.dalvik_defs.specs.Naming.{method_at}
use Rattle.dalvik_defs.specs.Outcome.{calls_by}
use Rattle.dalvik_defs.specs.declared.events.Event.{Event}
use Rattle.dalvik_lookups.specs.Facing.{named_search}
use Rattle.dalvik_lookups.specs.declared.finds.Search.{Search}
use Rattle.dalvik_state.specs.Runs.{comes_of, need_in, world_in, IsNext}
use Rattle.dalvik_state.specs.Views.{frame_of, names_in, values_of}
use Rattle.dalvik_steps.proofs.Called.{faulted_of}
use Rattle.dalvik_steps.proofs.Invoked.{method_found, method_unfound}
use Rattle.dalvik_steps.proofs.Nexts.{next_of, undone_of}
use Rattle.dalvik_steps.proofs.Reserved.{step_of}
use Rattle.dalvik_steps.proofs.calling.calls_by.Goals as goal

pub returns-in-Nothing-clause-ok : goal.returns-in-Nothing-clause-ok
returns-in-Nothing-clause-ok c = λ o floats script steps f run top low fine.
    let l = c.args.tables.now.lookups in
    let n = names_in l in
    let old = c.args.state.now in
    subst (λ (s : Search). IfOk c.calls_unfound.result (λ (e : Option Event). IsNext l steps script c.args.memo.now c.calls_unfound.new.state e (comes_of l o floats script old f (calls_by (need_in l old) c.args.call.now.kind (method_at l.program.now c.args.call.now.method) (values_of n c.args.call.now.values.items) (world_in l old) (frame_of n f) (named_search l.program.now s))))) (sym c.in-Nothing.is)
    (next_of l steps script c.args.memo.now c.calls_unfound.new.state _ c.calls_unfound.result run.kept (c.calls_unfound.ensures.ok o floats script steps f (step_of l c.args.memo.now steps old f run top) low fine))

pub returns-in-Nothing-clause-err : goal.returns-in-Nothing-clause-err
returns-in-Nothing-clause-err c = λ steps f run top. undone_of c.args.tables.now.lookups c.args.memo.now steps c.args.state.now c.calls_unfound.new.state c.calls_unfound.result run c.calls_unfound.ensures.err

pub returns-in-Clash-clause-ok : goal.returns-in-Clash-clause-ok
returns-in-Clash-clause-ok c = λ o floats script steps f run top low fine.
    let l = c.args.tables.now.lookups in
    let n = names_in l in
    let old = c.args.state.now in
    subst (λ (s : Search). IfOk c.throws.result (λ (e : Option Event). IsNext l steps script c.throws.new.memo c.throws.new.state e (comes_of l o floats script old f (calls_by (need_in l old) c.args.call.now.kind (method_at l.program.now c.args.call.now.method) (values_of n c.args.call.now.values.items) (world_in l old) (frame_of n f) (named_search l.program.now s))))) (sym c.in-Clash.is)
    (faulted_of l o floats script steps old f top run.right c.throws.new.memo c.throws.new.state 18 class_change refl c.throws.result (c.throws.ensures.ok steps script run (omega arith)))

pub returns-in-Clash-clause-err : goal.returns-in-Clash-clause-err
returns-in-Clash-clause-err c = λ steps f run top. c.throws.ensures.err steps run (omega arith)

pub returns-in-Some-clause-ok : goal.returns-in-Some-clause-ok
returns-in-Some-clause-ok c = λ o floats script steps f run top low fine.
    let l = c.args.tables.now.lookups in
    let n = names_in l in
    let old = c.args.state.now in
    let at = sym c.in-Some.ensures in
    let found = method_found l run.right c.in-Finds.at c.in-Some.method.now at in
    let outcome = λ (s : name.Search). IfOk c.calls_ready.result (λ (e : Option Event). IsNext l steps script c.calls_ready.new.memo c.calls_ready.new.state e (comes_of l o floats script old f (calls_by (need_in l old) c.args.call.now.kind (method_at l.program.now c.args.call.now.method) (values_of n c.args.call.now.values.items) (world_in l old) (frame_of n f) s))) in
    subst (λ (s : Search). outcome (named_search l.program.now s)) (sym c.in-Finds.is)
    (subst outcome (sym found.is) (c.calls_ready.ensures.ok o floats script steps f found.found run top found.of at found.class fine))

pub returns-in-Some-clause-err : goal.returns-in-Some-clause-err
returns-in-Some-clause-err c = λ steps f run top.
    let l = c.args.tables.now.lookups in
    let at = sym c.in-Some.ensures in
    let found = method_found l run.right c.in-Finds.at c.in-Some.method.now at in
    c.calls_ready.ensures.err steps f found.found run top found.of at

pub returns-in-None-clause-ok : goal.returns-in-None-clause-ok
returns-in-None-clause-ok c = λ o floats script steps f run top low fine.
    let l = c.args.tables.now.lookups in
    let n = names_in l in
    let old = c.args.state.now in
    let outcome = λ (s : name.Search). IfOk c.calls_unfound-in-None.result (λ (e : Option Event). IsNext l steps script c.args.memo.now c.calls_unfound-in-None.new.state e (comes_of l o floats script old f (calls_by (need_in l old) c.args.call.now.kind (method_at l.program.now c.args.call.now.method) (values_of n c.args.call.now.values.items) (world_in l old) (frame_of n f) s))) in
    subst (λ (s : Search). outcome (named_search l.program.now s)) (sym c.in-Finds.is)
    (subst outcome (sym (method_unfound l c.in-Finds.at (sym c.in-None.ensures)))
    (next_of l steps script c.args.memo.now c.calls_unfound-in-None.new.state _ c.calls_unfound-in-None.result run.kept (c.calls_unfound-in-None.ensures.ok o floats script steps f (step_of l c.args.memo.now steps old f run top) low fine)))

pub returns-in-None-clause-err : goal.returns-in-None-clause-err
returns-in-None-clause-err c = λ steps f run top. undone_of c.args.tables.now.lookups c.args.memo.now steps c.args.state.now c.calls_unfound-in-None.new.state c.calls_unfound-in-None.result run c.calls_unfound-in-None.ensures.err
