use Rattle.std.proofs.Common.{◌≡◌, ◌∙◌, ◌-◌, ◌<◌, length, ap, arith, refl, sym, subst}
use Rattle.std.specs.Prelude.{Option, None, IfOk, slice_get}
use Rattle.dalvik_defs.specs.Known.{no_class}
use Rattle.dalvik_defs.specs.Names.{Text}
use Rattle.dalvik_defs.specs.Stack.{throws_new}
use Rattle.dalvik_defs.specs.State.{Next}
use Rattle.dalvik_defs.specs.declared.events.Event.{Event}
use Rattle.dalvik_lookups.specs.Facing.{run_face}
use Rattle.dalvik_lookups.proofs.Descriptors.{known_at}
use Rattle.dalvik_state.specs.Runs.{bodies_in, classes_in, script_in, stack_in, world_in, IsEvent, IsNext, IsUndoneWith}
use Rattle.dalvik_steps.specs.Needs.{need_at}
use Rattle.dalvik_steps.proofs.Started.{first_failed, first_new, first_passed, first_there, passed_by}
use Rattle.dalvik_steps.proofs.Undone.{on_err}
use Rattle.dalvik_steps.proofs.starting.looks_at.Goals as goal

pub returns-in_err-starts-in-New-clause-kept : goal.returns-in_err-starts-in-New-clause-kept
returns-in_err-starts-in-New-clause-kept c = λ steps class above next run there first.
    c.starts.ensures.kept steps run (first_there c.args.tables.now.lookups steps c.args.state.now class above next c.args.first run.state there first)

pub returns-in_err-starts-in-New-clause-err : goal.returns-in_err-starts-in-New-clause-err
returns-in_err-starts-in-New-clause-err c = λ steps class above next run there first.
    let u : IsUndoneWith c.args.tables.now.lookups steps c.starts.new.memo c.args.state.now c.starts.new.state = c.in_err-starts-in-New.ensures.err steps run (first_there c.args.tables.now.lookups steps c.args.state.now class above next c.args.first run.state there first) in
    on_err _ _ u

pub returns-in_ok-starts-in-New-clause-kept : goal.returns-in_ok-starts-in-New-clause-kept
returns-in_ok-starts-in-New-clause-kept c = λ steps class above next run there first.
    c.starts.ensures.kept steps run (first_there c.args.tables.now.lookups steps c.args.state.now class above next c.args.first run.state there first)

pub returns-in_ok-starts-in-New-clause-ok : goal.returns-in_ok-starts-in-New-clause-ok
returns-in_ok-starts-in-New-clause-ok c = λ steps script setting class above next face run there first.
    let l = c.args.tables.now.lookups in
    let old = c.args.state.now in
    let low = first_there l steps old class above next c.args.first run.state there first in
    record {
      event = subst (IsEvent l steps script c.starts.new.state None)
          (first_new l setting face old class above next script (script_in script old) there run.right c.args.first low first (sym c.status.ensures ∙ c.in-New.is))
          (record { left = c.in_ok-starts-in-New.ensures.ok steps script run low; shown = refl });
      kept = c.starts.ensures.kept steps run low;
    }

pub returns-in-Failed-clause-ok : goal.returns-in-Failed-clause-ok
returns-in-Failed-clause-ok c = λ steps script setting class above next face run there first.
    let l = c.args.tables.now.lookups in
    let old = c.args.state.now in
    let low = first_there l steps old class above next c.args.first run.state there first in
    let known : 17 < 20 = omega arith in
    subst (λ (to : Next). IfOk c.throws.result (λ (e : Option Event). IsNext l steps script c.throws.new.memo c.throws.new.state e to))
    (ap (λ (t : Text). throws_new (run_face l) (bodies_in l) (world_in l old) (classes_in l old) t (stack_in l script old) (script_in script old)) (known_at l.types run.right.tabled.named.types 17 no_class refl)
    ∙ first_failed l setting face old class above next script (script_in script old) there run.right c.args.first low first (sym c.status.ensures ∙ c.in-Failed.is))
    (c.throws.ensures.ok steps script run known)

pub returns-in-Failed-clause-kept : goal.returns-in-Failed-clause-kept
returns-in-Failed-clause-kept c = λ steps class above next run there first. let known : 17 < 20 = omega arith in c.throws.ensures.kept steps run known

pub returns-in_ok-goes_on-in-Running-clause-ok : goal.returns-in_ok-goes_on-in-Running-clause-ok
returns-in_ok-goes_on-in-Running-clause-ok c = λ steps script setting class above next face run there first.
    let l = c.args.tables.now.lookups in
    let old = c.args.state.now in
    let low = first_there l steps old class above next c.args.first run.state there first in
    let top : c.saturating_sub-top.result ≡ length old.stack.items - 1 = omega arith in
    let at = ap (slice_get old.stack.items) top ∙ there in
    record {
      event = subst (IsEvent l steps script c.goes_on.new.state None)
          (first_passed l setting face old class above next script (script_in script old) there run.right c.args.first c.saturating_sub-top.result low first (ap need_at (sym c.status.ensures) ∙ passed_by c.status.result c.in-Running.is) top)
          (record { left = c.in_ok-goes_on-in-Running.ensures.class steps script class above next run.right run.state run.on at; shown = refl });
      kept = run.kept;
    }
