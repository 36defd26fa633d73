use Rattle.std.proofs.Common.{◌≡◌, ◌∙◌, true, ap, length, map, subst, sym}
use Rattle.std.specs.Prelude.{None, OnOk}
use Rattle.dalvik_defs.specs.Gives.{spread}
use Rattle.dalvik_defs.specs.Naming.{method_at}
use Rattle.dalvik_defs.specs.State.{Next, quiet}
use Rattle.dalvik_defs.specs.Stack.{enters}
use Rattle.dalvik_state.specs.Drafts.{gift_spots, given_world}
use Rattle.dalvik_state.specs.Runs.{bodies_in, classes_in, IsEvent}
use Rattle.dalvik_state.specs.Views.{frame_of, names_in, value_of, values_of, world_of, AreFine}
use Rattle.dalvik_state.specs.declared.state.State.{State}
use Rattle.dalvik_steps.specs.Entries.{IsEntry}
use Rattle.dalvik_steps.proofs.Undone.{undone_self}
use Rattle.dalvik_moves.specs.Moving.{freed_in, datums_of, spread_in}
use Rattle.dalvik_moves.proofs.Admitted.{member}
use Rattle.dalvik_moves.proofs.Entered.{spread_fine, spread_named, taken_fine}
use Rattle.dalvik_moves.proofs.Framed.{enters_named, enters_none}
use Rattle.dalvik_moves.proofs.Moved.{on_err, over_event}
use Rattle.dalvik_moves.proofs.entering.enters_now.Goals as goal

pub returns-in_err-registers-clause-err : goal.returns-in_err-registers-clause-err
returns-in_err-registers-clause-err c = λ steps run on. on_err _ _ (undone_self c.args.tables.now.lookups steps c.args.state.now run on)

pub returns-in_err-entry-clause-err : goal.returns-in_err-entry-clause-err
returns-in_err-entry-clause-err c = λ steps run on. on_err _ _ (undone_self c.args.tables.now.lookups steps c.args.state.now run on)

pub returns-in-Some-clause-ok : goal.returns-in-Some-clause-ok
returns-in-Some-clause-ok c = λ o memo script steps owes first rest own f gs h all m.
    let l = c.args.tables.now.lookups in
    let n = names_in l in
    let old = c.args.state.now in
    let v = c.args.values in
    let size = length (gift_spots old.world v.gifts) in
    let ds = datums_of v.taken.items in
    let k = member l h.run.right c.args.at own f m in
    let is : c.as_slice-2.result.now ≡ spread_in ds = c.as_slice-2.ensures.value ∙ c.in_ok-registers.ensures ∙ ap (λ ts. spread_in (datums_of ts)) c.as_slice.ensures.value in
    let fine = subst (AreFine n size) (sym is) (spread_fine n size ds (taken_fine l o old.world (world_of n old.world) v.gifts gs v.taken.items all.taken)) in
    let entry = subst (IsEntry l size own c.as_slice-2.result.now) c.in-Some.is (c.in_ok-entry.ensures size own h.run.right m.there fine) in
    let values = spread_named n ds ∙ ap (values_of n) (sym is) in
    subst (λ (to : Next). OnOk c.enters_frame.result (IsEvent l steps script c.enters_frame.new.state None to))
    (enters_named l (given_world n old.world v.gifts) (classes_in l old) f.key (method_at l.program.now own.name) (spread (map (value_of n) ds)) (values_of n c.as_slice-2.result.now) (freed_in l script old) rest k.key values (frame_of n c.in-Some.frame) entry.body entry.found entry.fits entry.frame)
    (c.enters_frame.ensures.ok l o memo script steps owes first rest h all.given entry.sound entry.start)

pub returns-in-Some-clause-err : goal.returns-in-Some-clause-err
returns-in-Some-clause-err c = λ steps run on. c.enters_frame.ensures.err c.args.tables.now.lookups steps run on

pub returns-in-None-clause-ok : goal.returns-in-None-clause-ok
returns-in-None-clause-ok c = λ o memo script steps owes first rest own f gs h all m.
    let l = c.args.tables.now.lookups in
    let n = names_in l in
    let old = c.args.state.now in
    let v = c.args.values in
    let size = length (gift_spots old.world v.gifts) in
    let ds = datums_of v.taken.items in
    let k = member l h.run.right c.args.at own f m in
    let is : c.as_slice-2.result.now ≡ spread_in ds = c.as_slice-2.ensures.value ∙ c.in_ok-registers.ensures ∙ ap (λ ts. spread_in (datums_of ts)) c.as_slice.ensures.value in
    let fine = subst (AreFine n size) (sym is) (spread_fine n size ds (taken_fine l o old.world (world_of n old.world) v.gifts gs v.taken.items all.taken)) in
    let none = subst (IsEntry l size own c.as_slice-2.result.now) c.in-None.is (c.in_ok-entry.ensures size own h.run.right m.there fine) in
    let values = spread_named n ds ∙ ap (values_of n) (sym is) in
    let to = quiet (enters (bodies_in l) (given_world n old.world v.gifts) (classes_in l old) f.key (spread (map (value_of n) ds)) (freed_in l script old) rest) in
    subst (λ (s : State). IsEvent l steps script s None to) (sym c.end.ensures)
    (subst (IsEvent l steps script (record old { ended = true }) None)
    (sym (enters_none l (given_world n old.world v.gifts) (classes_in l old) f.key (method_at l.program.now own.name) (spread (map (value_of n) ds)) (values_of n c.as_slice-2.result.now) (freed_in l script old) rest k.key values none))
    (over_event l steps script old))
