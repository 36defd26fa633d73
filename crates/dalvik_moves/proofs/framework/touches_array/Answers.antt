use Rattle.std.proofs.Common.{subst}
use Rattle.std.specs.Option.{option_map}
use Rattle.std.proofs.lemmas.Result.{IfOk-weaker, on_err_weaker}
use Rattle.dalvik_lookups.specs.Playing.{IsPlay}
use Rattle.dalvik_lookups.specs.Views.{type_text}
use Rattle.dalvik_lookups.specs.declared.plays.Play.{Play}
use Rattle.dalvik_state.specs.Runs.{below_in, bodies_in, classes_in, setting_in, stack_in, world_in}
use Rattle.dalvik_moves.proofs.Moved.{next_as, top_owes, undone_kept}
use Rattle.dalvik_moves.proofs.Comes.{gets_moves, lengths_moves, puts_moves}
use Rattle.dalvik_moves.proofs.Thrown.{next_same}
use Rattle.dalvik_moves.proofs.framework.touches_array.Goals as goal

pub returns-in-ArrayGet-clause-ok : goal.returns-in-ArrayGet-clause-ok
returns-in-ArrayGet-clause-ok c = λ o floats script steps owes first rest h is touches.
    let l = c.args.tables.now.lookups in
    let old = c.args.state.now in
    let e = subst (λ (y : Play). IsPlay l.program.now l.types l.texts first y) c.in-ArrayGet.is is in
    let top = top_owes l o c.args.memo.now script steps old owes first rest h in
    IfOk-weaker c.array_get.result _ _ (λ x event. next_as l steps script c.args.memo.now c.array_get.new.state x _ _ h.run.kept
    (gets_moves (setting_in l o floats) (bodies_in l) (world_in l old) (classes_in l old) (option_map (type_text l.types) owes) (below_in l script old) (stack_in l script old) first rest top e.on c.in-ArrayGet.place e.is) event)
    (c.array_get.ensures.ok o c.args.memo.now script steps owes first rest e.on h e.held)

pub returns-in-ArrayGet-clause-err : goal.returns-in-ArrayGet-clause-err
returns-in-ArrayGet-clause-err c = λ o script steps owes first rest h is.
    let l = c.args.tables.now.lookups in
    on_err_weaker c.array_get.result (λ u. undone_kept l steps c.args.memo.now c.args.state.now c.array_get.new.state h.run.kept u) (c.array_get.ensures.err o c.args.memo.now script steps owes first rest h)

pub returns-in-ArrayPut-clause-ok : goal.returns-in-ArrayPut-clause-ok
returns-in-ArrayPut-clause-ok c = λ o floats script steps owes first rest h is touches.
    let l = c.args.tables.now.lookups in
    let old = c.args.state.now in
    let e = subst (λ (y : Play). IsPlay l.program.now l.types l.texts first y) c.in-ArrayPut.is is in
    let top = top_owes l o c.args.memo.now script steps old owes first rest h in
    IfOk-weaker c.array_put.result _ _ (λ x next. next_same l steps script c.array_put.new.memo c.array_put.new.state x _ _
    (puts_moves (setting_in l o floats) (bodies_in l) (world_in l old) (classes_in l old) (option_map (type_text l.types) owes) (below_in l script old) (stack_in l script old) first rest top e.on e.value c.in-ArrayPut.place e.is) next)
    (c.array_put.ensures.ok o floats script steps owes first rest e.on e.value h e.held e.given)

pub returns-in-ArrayPut-clause-err : goal.returns-in-ArrayPut-clause-err
returns-in-ArrayPut-clause-err c = λ o script steps owes first rest h is.
    let l = c.args.tables.now.lookups in
    let e = subst (λ (y : Play). IsPlay l.program.now l.types l.texts first y) c.in-ArrayPut.is is in
    c.array_put.ensures.err o script steps owes first rest e.on e.value h e.held e.given

pub returns-in-ArrayLength-clause-ok : goal.returns-in-ArrayLength-clause-ok
returns-in-ArrayLength-clause-ok c = λ o floats script steps owes first rest h is touches.
    let l = c.args.tables.now.lookups in
    let old = c.args.state.now in
    let e = subst (λ (y : Play). IsPlay l.program.now l.types l.texts first y) c.in-ArrayLength.is is in
    let top = top_owes l o c.args.memo.now script steps old owes first rest h in
    IfOk-weaker c.array_length.result _ _ (λ x event. next_as l steps script c.args.memo.now c.array_length.new.state x _ _ h.run.kept
    (lengths_moves (setting_in l o floats) (bodies_in l) (world_in l old) (classes_in l old) (option_map (type_text l.types) owes) (below_in l script old) (stack_in l script old) first rest top e.on e.is) event)
    (c.array_length.ensures.ok o c.args.memo.now script steps owes first rest e.on h e.held)

pub returns-in-ArrayLength-clause-err : goal.returns-in-ArrayLength-clause-err
returns-in-ArrayLength-clause-err c = λ o script steps owes first rest h is.
    let l = c.args.tables.now.lookups in
    on_err_weaker c.array_length.result (λ u. undone_kept l steps c.args.memo.now c.args.state.now c.array_length.new.state h.run.kept u) (c.array_length.ensures.err o c.args.memo.now script steps owes first rest h)
