use Rattle.std.proofs.Common.{◌<◌, length, drop, subst, arith}
use Rattle.dalvik_defs.specs.Stack.{resumes}
use Rattle.dalvik_lookups.specs.Facing.{run_face}
use Rattle.dalvik_state.specs.Runs.{bodies_in, IsLeft}
use Rattle.dalvik_state.specs.States.{below_top, stack_of}
use Rattle.dalvik_state.specs.Views.{names_in, world_of}
use Rattle.dalvik_state.specs.declared.state.Status.TheVariants as status
use Rattle.dalvik_steps.proofs.Restored.{restored, running_set}
use Rattle.dalvik_steps.proofs.Turning.{own_class}
use Rattle.dalvik_steps.proofs.starting.ends.Goals as goal
use Rattle.std.proofs.Common.{◌∙◌, ap}
use Rattle.std.specs.Prelude.{slice_set}
use Rattle.dalvik_steps.proofs.Undone.{undone}

pub returns-in-Ok-clause-ok : goal.returns-in-Ok-clause-ok
returns-in-Ok-clause-ok c = λ steps script r run on low.
    let l = c.args.tables.now.lookups in
    let p = l.program.now in
    let old = c.args.state.now in
    let class = c.args.class in
    let set = c.set_status.new.self in
    let e = c.set_status.ensures in
    let count : class < length old.statuses.items = (let all = run.classes in omega (arith, all, low)) in
    let classes = e.named p (own_class l r class low) count in
    let begun = c.in-Ok.ensures.ok steps script r (running_set l steps class status.Done old set run e.world e.stack e.statuses) (e.ended ∙ on) in
    subst (IsLeft l steps script c.resumes.new.state)
    (λ i. resumes (run_face l) (bodies_in l) (world_of (names_in l) (e.world i)) (classes i) (stack_of (names_in l) script (below_top (e.stack i).items)) (drop (e.next i) script)) begun

pub returns-in-Err-clause-err : goal.returns-in-Err-clause-err
returns-in-Err-clause-err c = λ steps r run on low.
    let l = c.args.tables.now.lookups in
    let old = c.args.state.now in
    let class = c.args.class in
    let e = c.set_status.ensures in
    let f = c.set_status-in-Err.ensures in
    let tried = c.resumes.new.state in
    let statuses = f.statuses ∙ ap (slice_set tried.statuses.items class) c.status-before.ensures in
    undone l steps old c.set_status-in-Err.new.self run on (restored old c.set_status.new.self tried c.set_status-in-Err.new.self class status.Done e.world e.stack e.next e.ended e.statuses c.in-Err.ensures.err f.world f.stack f.next f.ended statuses)
