use Rattle.std.proofs.Common.{List, inl, inr, ap, subst, sym}
use Rattle.std.specs.Option.{option_map}
use Rattle.std.proofs.lemmas.Result.{IfOk-weaker}
use Rattle.dalvik_lookups.specs.Playing.{AreEach, IsGift, IsPlay}
use Rattle.dalvik_lookups.specs.Views.{type_text}
use Rattle.dalvik_lookups.specs.declared.plays.Gift.{Gift}
use Rattle.dalvik_lookups.specs.declared.plays.Play.{Play}
use Rattle.dalvik_state.specs.Runs.{below_in, bodies_in, classes_in, setting_in, stack_in, world_in}
use Rattle.dalvik_moves.specs.Moving.{touches_array}
use Rattle.dalvik_moves.proofs.Moved.{top_owes}
use Rattle.dalvik_moves.proofs.Comes.{answers_moves, enter_moves, make_moves, reads_moves, throws_moves, writes_moves}
use Rattle.dalvik_moves.proofs.Thrown.{next_same}
use Rattle.dalvik_moves.proofs.framework.plays.Goals as goal

pub returns-in-Enter-clause-ok : goal.returns-in-Enter-clause-ok
returns-in-Enter-clause-ok c = λ o floats script steps first rest h is.
    let l = c.args.tables.now.lookups in
    let old = c.args.state.now in
    let e = subst (λ (y : Play). IsPlay l.program.now l.types l.texts first y) c.in-Enter.is is in
    let given = subst (λ (gs : List Gift). AreEach (IsGift l.types l.texts) e.values gs) (sym c.as_slice.ensures.value) e.given in
    let top = top_owes l o c.args.memo.now script steps old c.args.owes first rest h in
    IfOk-weaker c.enter.result _ _ (λ x next. next_same l steps script c.enter.new.memo c.enter.new.state x _ _
    (enter_moves (setting_in l o floats) (bodies_in l) (world_in l old) (classes_in l old) (option_map (type_text l.types) c.args.owes) (below_in l script old) (stack_in l script old) first rest top e.class e.name e.proto e.values e.is) next)
    (c.enter.ensures.ok o floats script steps c.args.owes first rest e.class e.name e.proto e.values h given e.found)

pub returns-in-Enter-clause-err : goal.returns-in-Enter-clause-err
returns-in-Enter-clause-err c = λ o script steps first rest h is.
    let l = c.args.tables.now.lookups in
    let e = subst (λ (y : Play). IsPlay l.program.now l.types l.texts first y) c.in-Enter.is is in
    let given = subst (λ (gs : List Gift). AreEach (IsGift l.types l.texts) e.values gs) (sym c.as_slice.ensures.value) e.given in
    c.enter.ensures.err o script steps c.args.owes first rest e.class e.name e.proto e.values h given e.found

pub returns-in-Make-clause-ok : goal.returns-in-Make-clause-ok
returns-in-Make-clause-ok c = λ o floats script steps first rest h is.
    let l = c.args.tables.now.lookups in
    let old = c.args.state.now in
    let e = subst (λ (y : Play). IsPlay l.program.now l.types l.texts first y) c.in-Make.is is in
    let top = top_owes l o c.args.memo.now script steps old c.args.owes first rest h in
    IfOk-weaker c.make.result _ _ (λ x next. next_same l steps script c.make.new.memo c.make.new.state x _ _
    (make_moves (setting_in l o floats) (bodies_in l) (world_in l old) (classes_in l old) (option_map (type_text l.types) c.args.owes) (below_in l script old) (stack_in l script old) first rest top e.class e.is) next)
    (c.make.ensures.ok o floats script steps c.args.owes first rest e.class h e.found)

pub returns-in-Make-clause-err : goal.returns-in-Make-clause-err
returns-in-Make-clause-err c = λ o script steps first rest h is.
    let l = c.args.tables.now.lookups in
    let e = subst (λ (y : Play). IsPlay l.program.now l.types l.texts first y) c.in-Make.is is in
    c.make.ensures.err o script steps c.args.owes first rest e.class h e.found

pub returns-in-Return-clause-ok : goal.returns-in-Return-clause-ok
returns-in-Return-clause-ok c = λ o floats script steps first rest h is.
    let l = c.args.tables.now.lookups in
    let old = c.args.state.now in
    let e = subst (λ (y : Play). IsPlay l.program.now l.types l.texts first y) c.in-Return.is is in
    let top = top_owes l o c.args.memo.now script steps old c.args.owes first rest h in
    IfOk-weaker c.answers.result _ _ (λ x next. next_same l steps script c.answers.new.memo c.answers.new.state x _ _
    (answers_moves (setting_in l o floats) (bodies_in l) (world_in l old) (classes_in l old) (option_map (type_text l.types) c.args.owes) (below_in l script old) (stack_in l script old) first rest top e.value e.is) next)
    (c.answers.ensures.ok o floats script steps first rest e.value h e.given)

pub returns-in-Return-clause-err : goal.returns-in-Return-clause-err
returns-in-Return-clause-err c = λ o script steps first rest h is.
    let l = c.args.tables.now.lookups in
    let e = subst (λ (y : Play). IsPlay l.program.now l.types l.texts first y) c.in-Return.is is in
    c.answers.ensures.err o script steps first rest e.value h e.given

pub returns-in-Throw-clause-ok : goal.returns-in-Throw-clause-ok
returns-in-Throw-clause-ok c = λ o floats script steps first rest h is.
    let l = c.args.tables.now.lookups in
    let old = c.args.state.now in
    let e = subst (λ (y : Play). IsPlay l.program.now l.types l.texts first y) c.in-Throw.is is in
    let top = top_owes l o c.args.memo.now script steps old c.args.owes first rest h in
    IfOk-weaker c.answers_by_throwing.result _ _ (λ x next. next_same l steps script c.answers_by_throwing.new.memo c.answers_by_throwing.new.state x _ _
    (throws_moves (setting_in l o floats) (bodies_in l) (world_in l old) (classes_in l old) (option_map (type_text l.types) c.args.owes) (below_in l script old) (stack_in l script old) first rest top e.value e.is) next)
    (c.answers_by_throwing.ensures.ok o floats script steps first rest e.value h e.given)

pub returns-in-Throw-clause-err : goal.returns-in-Throw-clause-err
returns-in-Throw-clause-err c = λ o script steps first rest h is.
    let l = c.args.tables.now.lookups in
    let e = subst (λ (y : Play). IsPlay l.program.now l.types l.texts first y) c.in-Throw.is is in
    c.answers_by_throwing.ensures.err o script steps first rest e.value h e.given

pub returns-in-Get-clause-ok : goal.returns-in-Get-clause-ok
returns-in-Get-clause-ok c = λ o floats script steps first rest h is.
    let l = c.args.tables.now.lookups in
    let old = c.args.state.now in
    let e = subst (λ (y : Play). IsPlay l.program.now l.types l.texts first y) c.in-Get.is is in
    let top = top_owes l o c.args.memo.now script steps old c.args.owes first rest h in
    IfOk-weaker c.reads.result _ _ (λ x next. next_same l steps script c.reads.new.memo c.reads.new.state x _ _
    (reads_moves (setting_in l o floats) (bodies_in l) (world_in l old) (classes_in l old) (option_map (type_text l.types) c.args.owes) (below_in l script old) (stack_in l script old) first rest top e.class e.name e.kind e.on e.is) next)
    (c.reads.ensures.ok o floats script steps c.args.owes first rest e.class e.name e.kind e.on h e.found e.held)

pub returns-in-Get-clause-err : goal.returns-in-Get-clause-err
returns-in-Get-clause-err c = λ o script steps first rest h is.
    let l = c.args.tables.now.lookups in
    let e = subst (λ (y : Play). IsPlay l.program.now l.types l.texts first y) c.in-Get.is is in
    c.reads.ensures.err o script steps c.args.owes first rest e.class e.name e.kind e.on h e.found e.held

pub returns-in-Put-clause-ok : goal.returns-in-Put-clause-ok
returns-in-Put-clause-ok c = λ o floats script steps first rest h is.
    let l = c.args.tables.now.lookups in
    let old = c.args.state.now in
    let e = subst (λ (y : Play). IsPlay l.program.now l.types l.texts first y) c.in-Put.is is in
    let top = top_owes l o c.args.memo.now script steps old c.args.owes first rest h in
    IfOk-weaker c.writes.result _ _ (λ x next. next_same l steps script c.writes.new.memo c.writes.new.state x _ _
    (writes_moves (setting_in l o floats) (bodies_in l) (world_in l old) (classes_in l old) (option_map (type_text l.types) c.args.owes) (below_in l script old) (stack_in l script old) first rest top e.class e.name e.kind e.on e.value e.is) next)
    (c.writes.ensures.ok o floats script steps c.args.owes first rest e.class e.name e.kind e.on e.value h e.found e.held e.given)

pub returns-in-Put-clause-err : goal.returns-in-Put-clause-err
returns-in-Put-clause-err c = λ o script steps first rest h is.
    let l = c.args.tables.now.lookups in
    let e = subst (λ (y : Play). IsPlay l.program.now l.types l.texts first y) c.in-Put.is is in
    c.writes.ensures.err o script steps c.args.owes first rest e.class e.name e.kind e.on e.value h e.found e.held e.given

pub returns-in-ArrayGet-clause-ok : goal.returns-in-ArrayGet-clause-ok
returns-in-ArrayGet-clause-ok c = λ o floats script steps first rest h is.
    c.touches_array.ensures.ok o floats script steps c.args.owes first rest h is
    (elim c.in-ArrayGet.is [ inl get ↦ ap touches_array get.2 | inr other ↦ elim other [ inl put ↦ ap touches_array put.3 | inr length ↦ ap touches_array length.1 ] ])

pub returns-in-ArrayGet-clause-err : goal.returns-in-ArrayGet-clause-err
returns-in-ArrayGet-clause-err c = λ o script steps first rest h is. c.touches_array.ensures.err o script steps c.args.owes first rest h is
