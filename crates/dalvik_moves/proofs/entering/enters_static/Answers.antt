use Rattle.std.proofs.Common.{◌≡◌, false, map, subst, sym}
use Rattle.std.specs.Prelude.{None}
use Rattle.dalvik_defs.specs.Gives.{spread}
use Rattle.dalvik_defs.specs.Stack.{enters}
use Rattle.dalvik_defs.specs.State.{quiet}
use Rattle.dalvik_state.specs.Drafts.{given_world}
use Rattle.dalvik_state.specs.Runs.{bodies_in, classes_in, IsEvent, IsUndone}
use Rattle.dalvik_state.specs.States.{IsRunning}
use Rattle.dalvik_state.specs.Views.{names_in, value_of}
use Rattle.dalvik_state.specs.declared.state.State.{State}
use Rattle.dalvik_steps.specs.Entries.{IsReadied}
use Rattle.dalvik_moves.specs.Moving.{freed_in, datums_of, AreAllTaken, IsMoving}
use Rattle.dalvik_moves.proofs.Admitted.{member, member_class, member_low}
use Rattle.dalvik_moves.proofs.Framed.{failed_needs, ready_needs, started_needs}
use Rattle.dalvik_moves.proofs.Moved.{on_err, undone_kept}
use Rattle.dalvik_moves.proofs.entering.enters_static.Goals as goal

pub returns-in_err-readies-clause-err : goal.returns-in_err-readies-clause-err
returns-in_err-readies-clause-err c = λ o script steps owes first rest own f h m.
    let l = c.args.tables.now.lookups in
    on_err _ _ (c.in_err-readies.ensures.err steps h.run (member_low l h.run.right c.args.at own f (member l h.run.right c.args.at own f m)))

pub returns-in_err-enters_now-in-Ready-clause-err : goal.returns-in_err-enters_now-in-Ready-clause-err
returns-in_err-enters_now-in-Ready-clause-err c = λ o script steps owes first rest own f h m.
    let l = c.args.tables.now.lookups in
    let old = c.args.state.now in
    let low = member_low l h.run.right c.args.at own f (member l h.run.right c.args.at own f m) in
    let ready = subst (IsReadied l steps script c.readies.new.memo old c.readies.new.state c.args.at.class) c.in-Ready.is (c.in_ok-readies.ensures.readied steps script h.run low) in
    let run = subst (IsRunning l steps) (sym ready.same) h.run.state in
    let on = subst (λ (s : State). s.ended ≡ false) (sym ready.same) h.run.on in
    let undone = subst (λ (s : State). IsUndone l steps s c.enters_now.new.state) ready.same (c.in_err-enters_now-in-Ready.ensures.err steps run on) in
    on_err _ _ (undone_kept l steps c.readies.new.memo old c.enters_now.new.state (c.readies.ensures.kept steps h.run low) undone)

pub returns-in_ok-enters_now-in-Ready-clause-ok : goal.returns-in_ok-enters_now-in-Ready-clause-ok
returns-in_ok-enters_now-in-Ready-clause-ok c = λ o floats script steps owes first rest own f gs h all m.
    let l = c.args.tables.now.lookups in
    let n = names_in l in
    let old = c.args.state.now in
    let at = c.args.at in
    let v = c.args.values in
    let mid = c.readies.new.state in
    let k = member l h.run.right at own f m in
    let low = member_low l h.run.right at own f k in
    let ready = subst (IsReadied l steps script c.readies.new.memo old mid at.class) c.in-Ready.is (c.in_ok-readies.ensures.readied steps script h.run low) in
    let moving = subst (λ (s : State). IsMoving l o c.args.memo.now script steps s owes first rest) (sym ready.same) h in
    let taken = subst (λ (s : State). AreAllTaken l o s.world gs v) (sym ready.same) all in
    let vs = spread (map (value_of n) (datums_of v.taken.items)) in
    let event = subst (λ (s : State). IsEvent l steps script c.enters_now.new.state None (quiet (enters (bodies_in l) (given_world n s.world v.gifts) (classes_in l s) f.key vs (freed_in l script s) rest))) ready.same
    (c.in_ok-enters_now-in-Ready.ensures.ok o c.args.memo.now script steps owes first rest own f gs moving taken m) in
    ready_needs l o floats c.args.memo.now c.readies.new.memo script steps old mid owes first rest at.class f.key.class (quiet (enters (bodies_in l) (given_world n old.world v.gifts) (classes_in l old) f.key vs (freed_in l script old) rest)) h
    (member_class l h.run.right at own f k) (c.readies.ensures.kept steps h.run low) c.enters_now.new.state None ready.need event

pub returns-in-Started-clause-ok : goal.returns-in-Started-clause-ok
returns-in-Started-clause-ok c = λ o floats script steps owes first rest own f gs h all m.
    let l = c.args.tables.now.lookups in
    let n = names_in l in
    let old = c.args.state.now in
    let at = c.args.at in
    let v = c.args.values in
    let k = member l h.run.right at own f m in
    let low = member_low l h.run.right at own f k in
    let started = subst (IsReadied l steps script c.readies.new.memo old c.readies.new.state at.class) c.in-Started.is (c.in_ok-readies.ensures.readied steps script h.run low) in
    started_needs l o floats c.args.memo.now c.readies.new.memo script steps old c.readies.new.state owes first rest at.class f.key.class
    (quiet (enters (bodies_in l) (given_world n old.world v.gifts) (classes_in l old) f.key (spread (map (value_of n) (datums_of v.taken.items))) (freed_in l script old) rest)) h
    (member_class l h.run.right at own f k) (c.readies.ensures.kept steps h.run low) started

pub returns-in-Failed-clause-ok : goal.returns-in-Failed-clause-ok
returns-in-Failed-clause-ok c = λ o floats script steps owes first rest own f gs h all m.
    let l = c.args.tables.now.lookups in
    let n = names_in l in
    let old = c.args.state.now in
    let at = c.args.at in
    let v = c.args.values in
    let k = member l h.run.right at own f m in
    let low = member_low l h.run.right at own f k in
    let failed = subst (IsReadied l steps script c.readies.new.memo old c.readies.new.state at.class) c.in-Failed.is (c.in_ok-readies.ensures.readied steps script h.run low) in
    failed_needs l o floats c.args.memo.now c.readies.new.memo script steps old c.readies.new.state owes first rest at.class f.key.class
    (quiet (enters (bodies_in l) (given_world n old.world v.gifts) (classes_in l old) f.key (spread (map (value_of n) (datums_of v.taken.items))) (freed_in l script old) rest)) h
    (member_class l h.run.right at own f k) (c.readies.ensures.kept steps h.run low) c.readies.new.state c.in-Failed.event failed
