use Rattle.std.proofs.Common.{◌∷◌, ap, sym, subst}
use Rattle.std.specs.Prelude.{IfOk, None, Option}
use Rattle.std.specs.Option.{option_map}
use Rattle.dalvik_defs.specs.Find.{Found}
use Rattle.dalvik_defs.specs.Moves.{enter}
use Rattle.dalvik_defs.specs.declared.events.Event.{Event}
use Rattle.dalvik_lookups.specs.Facing.{run_face}
use Rattle.dalvik_state.specs.Runs.{bodies_in, classes_in, setting_in, stack_in, world_in, IsNext}
use Rattle.dalvik_state.specs.declared.state.State.{State}
use Rattle.dalvik_moves.specs.Moving.{freed_in}
use Rattle.dalvik_moves.proofs.Framed.{member_none, member_some}
use Rattle.dalvik_moves.proofs.Moved.{over_as}
use Rattle.dalvik_moves.proofs.entering.enter.Goals as goal

pub returns-in-Some-clause-ok : goal.returns-in-Some-clause-ok
returns-in-Some-clause-ok c = λ o floats script steps owes first rest class name proto gs h each is.
    let l = c.args.tables.now.lookups in
    let old = c.args.state.now in
    let one = c.in-Some.one in
    let x = member_some l ((run_face l).declared class name proto) (option_map (λ r. (r.0, r.1.now)) c.method_of.result) (one.0, one.1.now) (ap (option_map (λ r. (r.0, r.1.now))) c.in-Some.is) (c.method_of.ensures class name proto h.run.right is) in
    subst (λ (q : Option Found). IfOk c.enter_found.result (λ (e : Option Event). IsNext l steps script c.enter_found.new.memo c.enter_found.new.state e (enter (setting_in l o floats) (bodies_in l) (world_in l old) (classes_in l old) q gs (stack_in l script old) (freed_in l script old) rest))) (sym x.1.0)
    (c.enter_found.ensures.ok o floats script steps owes first rest x.0 gs h each x.1.1)

pub returns-in-Some-clause-err : goal.returns-in-Some-clause-err
returns-in-Some-clause-err c = λ o script steps owes first rest class name proto gs h each is.
    let l = c.args.tables.now.lookups in
    let one = c.in-Some.one in
    let x = member_some l ((run_face l).declared class name proto) (option_map (λ r. (r.0, r.1.now)) c.method_of.result) (one.0, one.1.now) (ap (option_map (λ r. (r.0, r.1.now))) c.in-Some.is) (c.method_of.ensures class name proto h.run.right is) in
    c.enter_found.ensures.err o script steps owes first rest x.0 gs h each x.1.1

pub returns-in-None-clause-ok : goal.returns-in-None-clause-ok
returns-in-None-clause-ok c = λ o floats script steps owes first rest class name proto gs h each is.
    let l = c.args.tables.now.lookups in
    let old = c.args.state.now in
    let none = member_none l ((run_face l).declared class name proto) (option_map (λ r. (r.0, r.1.now)) c.method_of.result) (ap (option_map (λ r. (r.0, r.1.now))) c.in-None.is) (c.method_of.ensures class name proto h.run.right is) in
    let to = enter (setting_in l o floats) (bodies_in l) (world_in l old) (classes_in l old) ((run_face l).declared class name proto) gs (stack_in l script old) (freed_in l script old) rest in
    subst (λ (s : State). IsNext l steps script c.args.memo.now s None to) (sym c.end.ensures)
    (over_as l steps script c.args.memo.now old to h.run.kept
    (ap (λ (q : Option Found). enter (setting_in l o floats) (bodies_in l) (world_in l old) (classes_in l old) q gs (stack_in l script old) (freed_in l script old) rest) none))
