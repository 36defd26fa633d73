use Rattle.std.proofs.Common.{◌≡◌, ◌∙◌, ◌<◌, length, drop, ap, sym, subst, arith}
use Rattle.std.specs.Prelude.{slice_set}
use Rattle.dalvik_defs.specs.Stack.{goes_on, left_of}
use Rattle.dalvik_lookups.specs.Facing.{run_face}
use Rattle.dalvik_lookups.specs.Starting.{initialised_first}
use Rattle.dalvik_state.specs.Runs.{bodies_in, IsLeft, IsUndoneWith}
use Rattle.dalvik_state.specs.States.{class_text, stack_of, AreClasses}
use Rattle.dalvik_state.specs.declared.state.Status.TheVariants as status
use Rattle.dalvik_state.specs.Views.{names_in, world_of}
use Rattle.dalvik_steps.proofs.Restored.{restored, running_set}
use Rattle.dalvik_steps.proofs.Turning.{first_classes, first_is, own_class, texts}
use Rattle.dalvik_steps.proofs.Undone.{on_err, undone, undone_self}
use Rattle.dalvik_steps.proofs.starting.starts.Goals as goal

pub returns-in_err-above-clause-kept : goal.returns-in_err-above-clause-kept
returns-in_err-above-clause-kept c = λ steps run low. c.initialised_first.ensures.kept run.kept

pub returns-in_err-above-clause-err : goal.returns-in_err-above-clause-err
returns-in_err-above-clause-err c = λ steps run low.
    let u : IsUndoneWith c.args.tables.now.lookups steps c.initialised_first.new.memo c.args.state.now c.args.state.now = record { undone = undone_self c.args.tables.now.lookups steps c.args.state.now run.state run.on; kept = c.initialised_first.ensures.kept run.kept } in
    on_err _ _ u

pub returns-in-Ok-clause-ok : goal.returns-in-Ok-clause-ok
returns-in-Ok-clause-ok c = λ steps script run low.
    let l = c.args.tables.now.lookups in
    let p = l.program.now in
    let old = c.args.state.now in
    let class = c.args.class in
    let set = c.set_status.new.self in
    let e = c.set_status.ensures in
    let above = c.in_ok-above.above in
    let first : above.items ≡ initialised_first p class = c.in_ok-above.ensures.is run.right run.kept in
    let are : AreClasses l above.items = subst (AreClasses l) (sym first) (first_classes l run.right class) in
    let count : class < length old.statuses.items = (let all = run.state.classes in omega (arith, all, low)) in
    let classes = e.named p (own_class l run.right class low) count in
    let named : texts l above.items ≡ (run_face l).first (class_text p class) = ap (texts l) first ∙ sym (first_is l run.right class low) in
    let begun = c.in-Ok.ensures.ok steps script run.right (running_set l steps class status.Running old set run.state e.world e.stack e.statuses) (e.ended ∙ run.on) low are in
    subst (IsLeft l steps script c.begins.new.state)
    (λ i. goes_on (run_face l) (bodies_in l) (world_of (names_in l) (e.world i)) (classes i) (class_text p class) (left_of (classes i) (named i)) (stack_of (names_in l) script (e.stack i).items) (drop (e.next i) script)) begun

pub returns-in-Err-clause-err : goal.returns-in-Err-clause-err
returns-in-Err-clause-err c = λ steps run low.
    let l = c.args.tables.now.lookups in
    let old = c.args.state.now in
    let class = c.args.class in
    let e = c.set_status.ensures in
    let f = c.set_status-in-Err.ensures in
    let tried = c.begins.new.state in
    let statuses = f.statuses ∙ ap (slice_set tried.statuses.items class) c.status-before.ensures in
    record {
      undone = undone l steps old c.set_status-in-Err.new.self run.state run.on (restored old c.set_status.new.self tried c.set_status-in-Err.new.self class status.Running e.world e.stack e.next e.ended e.statuses c.in-Err.ensures.err f.world f.stack f.next f.ended statuses);
      kept = c.initialised_first.ensures.kept run.kept;
    }
