use Rattle.std.proofs.Common.{◌≡◌, ap, arith, map, refl, subst, sym, ◌∙◌, Bool, false}
use Rattle.std.specs.Prelude.{◌&&◌, not, IfOk, Option}
use Rattle.dalvik_defs.specs.Effect.{register}
use Rattle.dalvik_defs.specs.Known.{null_pointer}
use Rattle.dalvik_defs.specs.Naming.{method_at}
use Rattle.dalvik_defs.specs.Outcome.{calls, receiver, takes_no_receiver, Outcome}
use Rattle.dalvik_defs.specs.State.{is_null}
use Rattle.dalvik_defs.specs.declared.events.Event.{Event}
use Rattle.dalvik_defs.specs.declared.state.Value.{Value}
use Rattle.std.proofs.Common.{List}
use Rattle.dalvik_lookups.specs.Facing.{run_face}
use Rattle.dalvik_state.specs.Runs.{comes_of, need_in, world_in, IsNext}
use Rattle.dalvik_state.specs.Views.{frame_of, names_in, values_of}
use Rattle.dalvik_steps.specs.Invoking.{FramesCall, FramesPass}
use Rattle.dalvik_steps.proofs.Called.{faulted_of}
use Rattle.dalvik_steps.proofs.Invoked.{calls_null, calls_there}
use Rattle.dalvik_steps.proofs.Passed.{fine_passed, no_second, null_passed, values_passed}
use Rattle.dalvik_steps.proofs.calling.calls.Goals as goal
use Rattle.dalvik_steps.proofs.calling.calls.Goals.{else-not-takes_no_receiver-via-then-not-takes_no_receiver+else-is_null, else-not-takes_no_receiver-via-else-not-takes_no_receiver}

pub returns-then-is_null-clause-ok : goal.returns-then-is_null-clause-ok
returns-then-is_null-clause-ok c = λ o floats script steps f run top low.
    let l = c.args.tables.now.lookups in
    let n = names_in l in
    let old = c.args.state.now in
    let p = c.in-Some.passed in
    let args = c.args.args.now in
    let pass : FramesPass f args p.0.items p.1 p.2 = subst (FramesCall f args) c.in-Some.is (c.in_ok-passed.ensures f top) in
    let vs = values_of n p.0.items in
    let key = method_at l.program.now c.args.method in
    let face = run_face l in
    let need = need_in l old in
    let w = world_in l old in
    let g = frame_of n f in
    let takes : takes_no_receiver c.args.kind ≡ false = sym c.takes_no_receiver.ensures ∙ c.if-not-takes_no_receiver.true in
    let null = null_passed n f args p.0.items p.1 p.2 c.is_null.result _ pass c.is_null.ensures c.if-is_null.true in
    let is = ap (λ (xs : List Value). calls face need c.args.kind key xs w g) (values_passed n f args p.0.items p.1 p.2 pass) ∙ calls_null face need key vs w g c.args.kind takes null in
    subst (λ (x : Outcome). IfOk c.throws.result (λ (e : Option Event). IsNext l steps script c.throws.new.memo c.throws.new.state e (comes_of l o floats script old f x))) (sym is)
    (faulted_of l o floats script steps old f top run.right c.throws.new.memo c.throws.new.state 8 null_pointer refl c.throws.result (c.throws.ensures.ok steps script run (omega arith)))

pub returns-clause-ok : goal.returns-clause-ok
returns-clause-ok c = λ o floats script steps f run top low.
    let l = c.args.tables.now.lookups in
    let n = names_in l in
    let old = c.args.state.now in
    let p = c.in-Some.passed in
    let args = c.args.args.now in
    let pass : FramesPass f args p.0.items p.1 p.2 = subst (FramesCall f args) c.in-Some.is (c.in_ok-passed.ensures f top) in
    let vs = values_of n p.0.items in
    let key = method_at l.program.now c.args.method in
    let face = run_face l in
    let need = need_in l old in
    let w = world_in l old in
    let g = frame_of n f in
    let there : (not (takes_no_receiver c.args.kind) && is_null (receiver vs)) ≡ false = elim c.else-not-takes_no_receiver.branch [
      | else-not-takes_no_receiver-via-then-not-takes_no_receiver+else-is_null b ↦ no_second (not (takes_no_receiver c.args.kind)) (is_null (receiver vs)) (null_passed n f args p.0.items p.1 p.2 b.is_null.result false pass b.is_null.ensures b.if-is_null.false)
      | else-not-takes_no_receiver-via-else-not-takes_no_receiver b ↦ ap (λ (x : Bool). not x && is_null (receiver vs)) (sym c.takes_no_receiver.ensures ∙ b.if-not-takes_no_receiver.false)
    ] in
    let is = ap (λ (xs : List Value). calls face need c.args.kind key xs w g) (values_passed n f args p.0.items p.1 p.2 pass) ∙ calls_there face need key vs w g c.args.kind there in
    subst (λ (x : Outcome). IfOk c.calls_on.result (λ (e : Option Event). IsNext l steps script c.calls_on.new.memo c.calls_on.new.state e (comes_of l o floats script old f x))) (sym is)
    (c.calls_on.ensures.ok o floats script steps f run top low (sym pass.class) (fine_passed l steps old f args p.0.items p.1 p.2 run.state top pass))

pub returns-clause-err : goal.returns-clause-err
returns-clause-err c = λ steps f run top low.
    let p = c.in-Some.passed in
    let args = c.args.args.now in
    let pass : FramesPass f args p.0.items p.1 p.2 = subst (FramesCall f args) c.in-Some.is (c.in_ok-passed.ensures f top) in
    c.calls_on.ensures.err steps f run top low (sym pass.class)
