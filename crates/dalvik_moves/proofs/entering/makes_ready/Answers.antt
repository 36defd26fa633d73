use Rattle.std.proofs.Common.{◌≡◌, false, subst, sym}
use Rattle.std.specs.Prelude.{IfOk, OnErr, Option}
use Rattle.dalvik_defs.specs.Moves.{made}
use Rattle.dalvik_defs.specs.Names.{Text}
use Rattle.dalvik_defs.specs.declared.events.Event.{Event}
use Rattle.dalvik_state.specs.Runs.{classes_in, world_in, IsEvent, IsUndone}
use Rattle.dalvik_state.specs.States.{class_text, IsRunning}
use Rattle.dalvik_state.specs.declared.state.State.{State}
use Rattle.dalvik_state.proofs.Results.{if_ok}
use Rattle.dalvik_steps.specs.Entries.{IsReadied}
use Rattle.dalvik_steps.proofs.Born.{named_class_low, named_class_text}
use Rattle.std.proofs.lemmas.Result.{on_err_weaker}
use Rattle.dalvik_moves.specs.Moving.{freed_in, IsMoving}
use Rattle.dalvik_moves.proofs.Framed.{failed_needs, ready_needs, started_needs}
use Rattle.dalvik_moves.proofs.Moved.{on_err, undone_kept}
use Rattle.dalvik_moves.proofs.entering.makes_ready.Goals as goal

pub returns-in_err-readies-clause-err : goal.returns-in_err-readies-clause-err
returns-in_err-readies-clause-err c = λ o script steps owes first rest t h there.
    on_err _ _ (c.in_err-readies.ensures.err steps h.run (named_class_low c.args.tables.now.lookups c.args.class t there))

pub returns-in-Ready-clause-ok : goal.returns-in-Ready-clause-ok
returns-in-Ready-clause-ok c = λ o floats script steps owes first rest t h there.
    let l = c.args.tables.now.lookups in
    let old = c.args.state.now in
    let mid = c.readies.new.state in
    let class = c.args.class in
    let low = named_class_low l class t there in
    let text = named_class_text l class t there in
    let ready = subst (IsReadied l steps script c.readies.new.memo old mid class) c.in-Ready.is (c.in_ok-readies.ensures.readied steps script h.run low) in
    let moving = subst (λ (s : State). IsMoving l o c.args.memo.now script steps s owes first rest) (sym ready.same) h in
    let event = subst (λ (s : State). IfOk c.made.result (λ (e : Option Event). IsEvent l steps script c.made.new.state e (made (world_in l s) (classes_in l s) (class_text l.program.now class) (freed_in l script s) rest))) ready.same
    (c.made.ensures.ok o c.args.memo.now script steps owes first rest moving low) in
    if_ok c.made.result _ _ (subst (λ (x : Text). IfOk c.made.result (λ (e : Option Event). IsEvent l steps script c.made.new.state e (made (world_in l old) (classes_in l old) x (freed_in l script old) rest))) text event)
    (λ e x. ready_needs l o floats c.args.memo.now c.readies.new.memo script steps old mid owes first rest class t (made (world_in l old) (classes_in l old) t (freed_in l script old) rest) h text (c.readies.ensures.kept steps h.run low) c.made.new.state e ready.need x)

pub returns-in-Ready-clause-err : goal.returns-in-Ready-clause-err
returns-in-Ready-clause-err c = λ o script steps owes first rest t h there.
    let l = c.args.tables.now.lookups in
    let old = c.args.state.now in
    let mid = c.readies.new.state in
    let class = c.args.class in
    let low = named_class_low l class t there in
    let ready = subst (IsReadied l steps script c.readies.new.memo old mid class) c.in-Ready.is (c.in_ok-readies.ensures.readied steps script h.run low) in
    let run = subst (IsRunning l steps) (sym ready.same) h.run.state in
    let on = subst (λ (s : State). s.ended ≡ false) (sym ready.same) h.run.on in
    on_err_weaker c.made.result (λ u. undone_kept l steps c.readies.new.memo old c.made.new.state (c.readies.ensures.kept steps h.run low) u)
    (subst (λ (s : State). OnErr c.made.result (IsUndone l steps s c.made.new.state)) ready.same (c.made.ensures.err steps run on))

pub returns-in-Started-clause-ok : goal.returns-in-Started-clause-ok
returns-in-Started-clause-ok c = λ o floats script steps owes first rest t h there.
    let l = c.args.tables.now.lookups in
    let old = c.args.state.now in
    let mid = c.readies.new.state in
    let class = c.args.class in
    let low = named_class_low l class t there in
    let started = subst (IsReadied l steps script c.readies.new.memo old mid class) c.in-Started.is (c.in_ok-readies.ensures.readied steps script h.run low) in
    started_needs l o floats c.args.memo.now c.readies.new.memo script steps old mid owes first rest class t (made (world_in l old) (classes_in l old) t (freed_in l script old) rest) h (named_class_text l class t there) (c.readies.ensures.kept steps h.run low) started

pub returns-in-Failed-clause-ok : goal.returns-in-Failed-clause-ok
returns-in-Failed-clause-ok c = λ o floats script steps owes first rest t h there.
    let l = c.args.tables.now.lookups in
    let old = c.args.state.now in
    let mid = c.readies.new.state in
    let class = c.args.class in
    let low = named_class_low l class t there in
    let failed = subst (IsReadied l steps script c.readies.new.memo old mid class) c.in-Failed.is (c.in_ok-readies.ensures.readied steps script h.run low) in
    failed_needs l o floats c.args.memo.now c.readies.new.memo script steps old mid owes first rest class t (made (world_in l old) (classes_in l old) t (freed_in l script old) rest) h (named_class_text l class t there) (c.readies.ensures.kept steps h.run low)
    mid c.in-Failed.event failed
