use Rattle.std.proofs.Common.{[], ap, subst, sym, ◌∙◌}
use Rattle.std.specs.Prelude.{None}
use Rattle.dalvik_defs.specs.Effect.{next, write}
use Rattle.dalvik_defs.specs.Outcome.{Stays}
use Rattle.dalvik_defs.specs.State.{fresh, next_object, with_thing}
use Rattle.dalvik_lookups.specs.Views.{type_text}
use Rattle.dalvik_state.specs.Runs.{comes_of, need_in, world_in, IsEvent, IsUndoneWith}
use Rattle.dalvik_state.specs.Views.{frame_of, names_in}
use Rattle.dalvik_state.specs.declared.state.State.{State}
use Rattle.dalvik_steps.specs.Entries.{IsReadied}
use Rattle.dalvik_steps.specs.Reaching.{IsReserved, IsStep}
use Rattle.dalvik_steps.proofs.Born.{named_class_low, named_class_text}
use Rattle.dalvik_steps.proofs.Nexts.{err_of}
use Rattle.dalvik_steps.proofs.Outcomes.{failed_next, ready_next, started_next}
use Rattle.dalvik_steps.proofs.Reserved.{step_of, undone}
use Rattle.dalvik_steps.proofs.objects.makes_ready.Goals as goal

pub returns-in_ok-makes_own-in-Ready-clause-ok : goal.returns-in_ok-makes_own-in-Ready-clause-ok
returns-in_ok-makes_own-in-Ready-clause-ok c = λ o floats script steps f run top fine e.
    let l = c.args.tables.now.lookups in
    let n = names_in l in
    let t = type_text l.types c.args.kind in
    let low = named_class_low l c.args.class t e in
    let ready = subst (IsReadied l steps script c.readies.new.memo c.args.state.now c.readies.new.state c.args.class) c.in-Ready.is (c.in_ok-readies.ensures.readied steps script run low) in
    let need = ap (need_in l c.args.state.now) (sym (named_class_text l c.args.class t e)) ∙ ready.need in
    let step = subst (λ (s : State). IsStep l steps s f) (sym ready.same) (step_of l c.args.memo.now steps c.args.state.now f run top) in
    let ev = c.in_ok-makes_own-in-Ready.ensures.ok l o floats script steps f step fine in
    let there = subst (λ (s : State). IsEvent l steps script c.makes_own.new.state None (comes_of l o floats script s f (Stays (with_thing (world_in l s) (fresh t)) (next (write (frame_of n f) c.args.to (next_object (world_in l s)))) None))) ready.same ev in
    ready_next l o floats script steps c.args.state.now f top c.readies.new.memo _ None (need_in l c.args.state.now t) t (Stays (with_thing (world_in l c.args.state.now) (fresh t)) (next (write (frame_of n f) c.args.to (next_object (world_in l c.args.state.now)))) None) need (record { event = there; kept = c.readies.ensures.kept steps run low })

pub returns-in-Started-clause-ok : goal.returns-in-Started-clause-ok
returns-in-Started-clause-ok c = λ o floats script steps f run top fine e.
    let l = c.args.tables.now.lookups in
    let n = names_in l in
    let t = type_text l.types c.args.kind in
    let low = named_class_low l c.args.class t e in
    let started = subst (IsReadied l steps script c.readies.new.memo c.args.state.now c.readies.new.state c.args.class) c.in-Started.is (c.in_ok-readies.ensures.readied steps script run low) in
    started_next l o floats script steps c.args.state.now f top c.readies.new.memo c.readies.new.state c.args.class t (Stays (with_thing (world_in l c.args.state.now) (fresh t)) (next (write (frame_of n f) c.args.to (next_object (world_in l c.args.state.now)))) None) (named_class_text l c.args.class t e) started (c.readies.ensures.kept steps run low)

pub returns-in-Failed-clause-ok : goal.returns-in-Failed-clause-ok
returns-in-Failed-clause-ok c = λ o floats script steps f run top fine e.
    let l = c.args.tables.now.lookups in
    let n = names_in l in
    let t = type_text l.types c.args.kind in
    let low = named_class_low l c.args.class t e in
    let failed = subst (IsReadied l steps script c.readies.new.memo c.args.state.now c.readies.new.state c.args.class) c.in-Failed.is (c.in_ok-readies.ensures.readied steps script run low) in
    failed_next l o floats script steps c.args.state.now f top c.readies.new.memo c.readies.new.state c.args.class t (Stays (with_thing (world_in l c.args.state.now) (fresh t)) (next (write (frame_of n f) c.args.to (next_object (world_in l c.args.state.now)))) None) c.in-Failed.event (named_class_text l c.args.class t e) failed

pub returns-in_err-makes_own-in-Ready-clause-err : goal.returns-in_err-makes_own-in-Ready-clause-err
returns-in_err-makes_own-in-Ready-clause-err c = λ steps run e.
    let l = c.args.tables.now.lookups in
    let low = named_class_low l c.args.class (type_text l.types c.args.kind) e in
    let ready = subst (IsReadied l steps [] c.readies.new.memo c.args.state.now c.readies.new.state c.args.class) c.in-Ready.is (c.in_ok-readies.ensures.readied steps [] run low) in
    let reserved = subst (λ (s : State). IsReserved s c.makes_own.new.state) ready.same c.in_err-makes_own-in-Ready.ensures.err in
    let both : IsUndoneWith l steps c.readies.new.memo c.args.state.now c.makes_own.new.state = record { undone = undone l steps c.args.state.now c.makes_own.new.state reserved run.state run.on; kept = c.readies.ensures.kept steps run low } in
    err_of _ _ both

pub returns-in_err-readies-clause-err : goal.returns-in_err-readies-clause-err
returns-in_err-readies-clause-err c = λ steps run e.
    err_of _ _ (c.in_err-readies.ensures.err steps run (named_class_low c.args.tables.now.lookups c.args.class (type_text c.args.tables.now.lookups.types c.args.kind) e))
