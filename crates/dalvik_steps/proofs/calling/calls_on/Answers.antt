use Rattle.std.proofs.Common.{◌<◌, ap, length, subst, sym, ◌∙◌}
use Rattle.std.specs.Prelude.{IfOk, Option}
use Rattle.dalvik_defs.specs.Find as name
use Rattle.dalvik_defs.specs.Naming.{method_at}
use Rattle.dalvik_defs.specs.Outcome.{calls_by}
use Rattle.dalvik_defs.specs.declared.events.Event.{Event}
use Rattle.dalvik_lookups.specs.Facing.{run_face}
use Rattle.dalvik_state.specs.Runs.{comes_of, need_in, world_in, IsNext, IsUndoneWith}
use Rattle.dalvik_state.specs.States.{class_text}
use Rattle.dalvik_state.specs.Views.{frame_of, names_in, value_of, values_of}
use Rattle.dalvik_steps.specs.Invoking.{receiver_in}
use Rattle.dalvik_steps.proofs.Called.{run_kept}
use Rattle.dalvik_steps.proofs.Nexts.{err_of}
use Rattle.dalvik_steps.proofs.Reserved.{reserved_self, undone}
use Rattle.dalvik_steps.proofs.Sought.{found_named, step_low}
use Rattle.dalvik_steps.proofs.calling.calls_on.Goals as goal

pub returns-clause-ok : goal.returns-clause-ok
returns-clause-ok c = λ o floats script steps f run top low class fine.
    let l = c.args.tables.now.lookups in
    let n = names_in l in
    let old = c.args.state.now in
    let key = method_at l.program.now c.args.call.now.method in
    let vs = values_of n c.args.call.now.values.items in
    let own = step_low l steps old f c.args.own run.state top class in
    let kept = c.finds.ensures.kept run.right run.kept run.state.world low own in
    subst (λ (x : name.Search). IfOk c.calls_by.result (λ (e : Option Event). IsNext l steps script c.calls_by.new.memo c.calls_by.new.state e (comes_of l o floats script old f (calls_by (need_in l old) c.args.call.now.kind key vs (world_in l old) (frame_of n f) x))))
    (c.in_ok-search.ensures.is run.right run.kept run.state.world low own ∙ found_named l steps old f c.args.own c.args.call.now.kind key c.args.call.now.values.items run.state top class)
    (c.calls_by.ensures.ok o floats script steps f (run_kept l steps c.args.memo.now c.finds.new.memo old kept run) top low fine)

pub returns-clause-err : goal.returns-clause-err
returns-clause-err c = λ steps f run top low class.
    let l = c.args.tables.now.lookups in
    let own = step_low l steps c.args.state.now f c.args.own run.state top class in
    c.calls_by.ensures.err steps f (run_kept l steps c.args.memo.now c.finds.new.memo c.args.state.now (c.finds.ensures.kept run.right run.kept run.state.world low own) run) top

pub returns-in_err-search-clause-err : goal.returns-in_err-search-clause-err
returns-in_err-search-clause-err c = λ steps f run top low class.
    let l = c.args.tables.now.lookups in
    let old = c.args.state.now in
    let own = step_low l steps old f c.args.own run.state top class in
    let u : IsUndoneWith l steps c.finds.new.memo old old = record { undone = undone l steps old old (reserved_self old) run.state run.on; kept = c.finds.ensures.kept run.right run.kept run.state.world low own } in
    err_of _ _ u
