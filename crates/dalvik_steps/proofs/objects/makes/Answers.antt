use Rattle.std.proofs.Common.{subst, sym}
use Rattle.std.specs.Prelude.{IfOk, Option}
use Rattle.dalvik_defs.specs.Names.{Text}
use Rattle.dalvik_defs.specs.Outcome.{makes, Outcome}
use Rattle.dalvik_defs.specs.declared.events.Event.{Event}
use Rattle.dalvik_lookups.specs.Facing.{run_face}
use Rattle.dalvik_lookups.specs.Views.{type_text}
use Rattle.dalvik_state.specs.Runs.{comes_of, need_in, world_in, IsNext}
use Rattle.dalvik_state.specs.States.{IsFineKind}
use Rattle.dalvik_state.specs.Views.{frame_of, names_in}
use Rattle.dalvik_steps.proofs.Born.{makes_none, makes_some}
use Rattle.dalvik_steps.proofs.Depths.{fine_type}
use Rattle.dalvik_steps.proofs.Nexts.{next_of}
use Rattle.dalvik_steps.proofs.Reserved.{step_of}
use Rattle.dalvik_steps.proofs.objects.makes.Goals as goal

pub returns-in-Some-clause-ok : goal.returns-in-Some-clause-ok
returns-in-Some-clause-ok c = λ o floats script steps f run top low.
    let l = c.args.tables.now.lookups in
    let n = names_in l in
    let typed = c.kind-own.ensures.is run.right.tabled.named low in
    let t = type_text l.types c.kind-own.result in
    let fine = subst (IsFineKind l) (sym c.kind-own.ensures.table) (fine_type l run.right c.args.kind low) in
    let place = sym (c.in-Some.ensures run.right typed.kind) in
    subst (λ (x : Text). IfOk c.makes_ready.result (λ (e : Option Event). IsNext l steps script c.makes_ready.new.memo c.makes_ready.new.state e (comes_of l o floats script c.args.state.now f (makes (run_face l) (need_in l c.args.state.now) c.args.to x (world_in l c.args.state.now) (frame_of n f))))) typed.text
    (subst (λ (x : Outcome). IfOk c.makes_ready.result (λ (e : Option Event). IsNext l steps script c.makes_ready.new.memo c.makes_ready.new.state e (comes_of l o floats script c.args.state.now f x))) (sym (makes_some l run.right (need_in l c.args.state.now) c.args.to c.in-Some.class t (world_in l c.args.state.now) (frame_of n f) place))
    (c.makes_ready.ensures.ok o floats script steps f run top fine place))

pub returns-in-None-clause-ok : goal.returns-in-None-clause-ok
returns-in-None-clause-ok c = λ o floats script steps f run top low.
    let l = c.args.tables.now.lookups in
    let n = names_in l in
    let typed = c.kind-own.ensures.is run.right.tabled.named low in
    let t = type_text l.types c.kind-own.result in
    let fine = subst (IsFineKind l) (sym c.kind-own.ensures.table) (fine_type l run.right c.args.kind low) in
    let place = sym (c.in-None.ensures run.right typed.kind) in
    subst (λ (x : Text). IfOk c.makes_outer.result (λ (e : Option Event). IsNext l steps script c.args.memo.now c.makes_outer.new.state e (comes_of l o floats script c.args.state.now f (makes (run_face l) (need_in l c.args.state.now) c.args.to x (world_in l c.args.state.now) (frame_of n f))))) typed.text
    (subst (λ (x : Outcome). IfOk c.makes_outer.result (λ (e : Option Event). IsNext l steps script c.args.memo.now c.makes_outer.new.state e (comes_of l o floats script c.args.state.now f x))) (sym (makes_none l run.right (need_in l c.args.state.now) c.args.to t (world_in l c.args.state.now) (frame_of n f) place))
    (next_of l steps script c.args.memo.now c.makes_outer.new.state _ c.makes_outer.result run.kept (c.makes_outer.ensures.ok o floats script steps f (step_of l c.args.memo.now steps c.args.state.now f run top) fine)))
