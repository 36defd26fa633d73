use Rattle.std.proofs.Common.{◌≡◌, ◌-◌, ◌≤◌, length, arith}
use Rattle.dalvik_moves.proofs.Moved.{on_err, undone_kept}
use Rattle.dalvik_moves.proofs.Thrown.{planned_event, planned_undone}
use Rattle.dalvik_moves.proofs.answering.throws_legally.Goals as goal

pub returns-in_err-flight-clause-err : goal.returns-in_err-flight-clause-err
returns-in_err-flight-clause-err c = λ o script steps owes first rest h given fine.
    let l = c.args.tables.now.lookups in
    let old = c.args.state.now in
    let low : c.saturating_sub-below.result ≤ length old.stack.items = omega arith in
    on_err _ _ (undone_kept l steps c.plan.new.memo old c.plan.new.state (c.plan.ensures.kept steps h.run given fine low) (planned_undone l steps old c.plan.new.state h.run.state h.run.on c.plan.ensures.same))

pub returns-clause-ok : goal.returns-clause-ok
returns-clause-ok c = λ o script steps owes first rest h given fine.
    let l = c.args.tables.now.lookups in
    let old = c.args.state.now in
    let mid = c.plan.new.state in
    let low : c.saturating_sub-below.result ≤ length old.stack.items = omega arith in
    let is : c.saturating_sub-below.result ≡ length old.stack.items - 1 = omega arith in
    planned_event l o c.args.memo.now c.plan.new.memo script steps old mid c.throws_planned.new.state owes first rest c.args.gifts c.args.datum c.in_ok-flight.flight c.throws_planned.result c.saturating_sub-below.result h given fine c.plan.ensures.same
    (c.plan.ensures.kept steps h.run given fine low) is (c.in_ok-flight.ensures.flies steps h.run given fine low) c.in_ok-flight.ensures.room
    (λ moving gifts there flight room. c.throws_planned.ensures l o c.plan.new.memo script steps owes first rest c.args.datum moving gifts there flight room)
