use Rattle.std.proofs.Common.{sym, subst}
use Rattle.std.specs.Prelude.{None, Ok, OnErr}
use Rattle.dalvik_state.specs.declared.effect.Effect.{Effect}
use Rattle.dalvik_state.specs.declared.effect.Effect.TheVariants as effect
use Rattle.dalvik_state.specs.declared.state.State.{State}
use Rattle.dalvik_model.specs.Doing.{IsAhead, IsFruitless}
use Rattle.dalvik_model.proofs.Coming.{came_event, came_new, came_value, goes_next, lost, lost_event, reading_of, run_of, step_of, stuck_next, writing_of, Came}
use Rattle.dalvik_model.proofs.happens.comes.Goals as goal

pub returns-in-Faults-clause-ok : goal.returns-in-Faults-clause-ok
returns-in-Faults-clause-ok c = λ o floats script steps f ahead.
    let l = c.args.tables.now.lookups in
    let e = effect.Faults c.in-Faults.class in
    let a = subst (IsAhead l c.args.memo.now steps c.args.state.now f) c.in-Faults.is ahead in
    subst (λ (x : Effect). Came l steps c.args.state.now f o floats script c.throws.new.memo c.throws.new.state x c.throws.result) (sym c.in-Faults.is)
    (came_new l steps c.args.state.now f o floats script c.throws.new.memo c.throws.new.state c.in-Faults.class c.throws.result a.top (c.throws.ensures.ok steps script (run_of l c.args.memo.now steps c.args.state.now f e a a.still) a.fine))

pub returns-in-Faults-clause-err : goal.returns-in-Faults-clause-err
returns-in-Faults-clause-err c = λ steps f ahead.
    let l = c.args.tables.now.lookups in
    let e = effect.Faults c.in-Faults.class in
    let a = subst (IsAhead l c.args.memo.now steps c.args.state.now f) c.in-Faults.is ahead in
    subst (λ (x : Effect). OnErr c.throws.result (IsFruitless l steps c.throws.new.memo c.args.state.now c.throws.new.state x)) (sym c.in-Faults.is)
    (lost l steps c.throws.new.memo c.args.state.now c.throws.new.state e c.throws.result tt (c.throws.ensures.err steps (run_of l c.args.memo.now steps c.args.state.now f e a a.still) a.fine))

pub returns-in-Throws-clause-ok : goal.returns-in-Throws-clause-ok
returns-in-Throws-clause-ok c = λ o floats script steps f ahead.
    let l = c.args.tables.now.lookups in
    let e = effect.Throws c.in-Throws.datum in
    let a = subst (IsAhead l c.args.memo.now steps c.args.state.now f) c.in-Throws.is ahead in
    subst (λ (x : Effect). Came l steps c.args.state.now f o floats script c.throws-in-Throws.new.memo c.throws-in-Throws.new.state x c.throws-in-Throws.result) (sym c.in-Throws.is)
    (came_value l steps c.args.state.now f o floats script c.throws-in-Throws.new.memo c.throws-in-Throws.new.state c.in-Throws.datum c.throws-in-Throws.result a.top (c.throws-in-Throws.ensures.ok steps script (run_of l c.args.memo.now steps c.args.state.now f e a a.still) a.fine.fine))

pub returns-in-Throws-clause-err : goal.returns-in-Throws-clause-err
returns-in-Throws-clause-err c = λ steps f ahead.
    let l = c.args.tables.now.lookups in
    let e = effect.Throws c.in-Throws.datum in
    let a = subst (IsAhead l c.args.memo.now steps c.args.state.now f) c.in-Throws.is ahead in
    subst (λ (x : Effect). OnErr c.throws-in-Throws.result (IsFruitless l steps c.throws-in-Throws.new.memo c.args.state.now c.throws-in-Throws.new.state x)) (sym c.in-Throws.is)
    (lost l steps c.throws-in-Throws.new.memo c.args.state.now c.throws-in-Throws.new.state e c.throws-in-Throws.result tt (c.throws-in-Throws.ensures.err steps (run_of l c.args.memo.now steps c.args.state.now f e a a.still) a.fine.fine))

pub returns-in-Gives-clause-ok : goal.returns-in-Gives-clause-ok
returns-in-Gives-clause-ok c = λ o floats script steps f ahead.
    let l = c.args.tables.now.lookups in
    let e = effect.Gives c.in-Gives.value in
    let a = subst (IsAhead l c.args.memo.now steps c.args.state.now f) c.in-Gives.is ahead in
    subst (λ (x : Effect). Came l steps c.args.state.now f o floats script c.args.memo.now c.returns.new.state x c.returns.result) (sym c.in-Gives.is)
    (came_event l steps script c.args.memo.now c.returns.new.state _ c.returns.result a.kept (c.returns.ensures.ok o floats script steps f (step_of l c.args.memo.now steps c.args.state.now f e a a.still) a.fine))

pub returns-in-Gives-clause-err : goal.returns-in-Gives-clause-err
returns-in-Gives-clause-err c = λ steps f ahead.
    let l = c.args.tables.now.lookups in
    let e = effect.Gives c.in-Gives.value in
    let a = subst (IsAhead l c.args.memo.now steps c.args.state.now f) c.in-Gives.is ahead in
    subst (λ (x : Effect). OnErr c.returns.result (IsFruitless l steps c.args.memo.now c.args.state.now c.returns.new.state x)) (sym c.in-Gives.is)
    (lost_event l steps c.args.memo.now c.args.state.now c.returns.new.state e c.returns.result tt a.kept (c.returns.ensures.err steps f (step_of l c.args.memo.now steps c.args.state.now f e a a.still)))

pub returns-in-Calls-clause-ok : goal.returns-in-Calls-clause-ok
returns-in-Calls-clause-ok c = λ o floats script steps f ahead.
    let l = c.args.tables.now.lookups in
    let e = effect.Calls c.in-Calls.kind c.in-Calls.method c.in-Calls.args in
    let a = subst (IsAhead l c.args.memo.now steps c.args.state.now f) c.in-Calls.is ahead in
    subst (λ (x : Effect). Came l steps c.args.state.now f o floats script c.calls.new.memo c.calls.new.state x c.calls.result) (sym c.in-Calls.is)
    (c.calls.ensures.ok o floats script steps f (run_of l c.args.memo.now steps c.args.state.now f e a a.still) a.top a.fine)

pub returns-in-Calls-clause-err : goal.returns-in-Calls-clause-err
returns-in-Calls-clause-err c = λ steps f ahead.
    let l = c.args.tables.now.lookups in
    let e = effect.Calls c.in-Calls.kind c.in-Calls.method c.in-Calls.args in
    let a = subst (IsAhead l c.args.memo.now steps c.args.state.now f) c.in-Calls.is ahead in
    subst (λ (x : Effect). OnErr c.calls.result (IsFruitless l steps c.calls.new.memo c.args.state.now c.calls.new.state x)) (sym c.in-Calls.is)
    (lost l steps c.calls.new.memo c.args.state.now c.calls.new.state e c.calls.result tt (c.calls.ensures.err steps f (run_of l c.args.memo.now steps c.args.state.now f e a a.still) a.top a.fine))

pub returns-in-Makes-clause-ok : goal.returns-in-Makes-clause-ok
returns-in-Makes-clause-ok c = λ o floats script steps f ahead.
    let l = c.args.tables.now.lookups in
    let e = effect.Makes c.in-Makes.to c.in-Makes.kind in
    let a = subst (IsAhead l c.args.memo.now steps c.args.state.now f) c.in-Makes.is ahead in
    subst (λ (x : Effect). Came l steps c.args.state.now f o floats script c.makes.new.memo c.makes.new.state x c.makes.result) (sym c.in-Makes.is)
    (c.makes.ensures.ok o floats script steps f (run_of l c.args.memo.now steps c.args.state.now f e a a.still) a.top a.fine)

pub returns-in-Makes-clause-err : goal.returns-in-Makes-clause-err
returns-in-Makes-clause-err c = λ steps f ahead.
    let l = c.args.tables.now.lookups in
    let e = effect.Makes c.in-Makes.to c.in-Makes.kind in
    let a = subst (IsAhead l c.args.memo.now steps c.args.state.now f) c.in-Makes.is ahead in
    subst (λ (x : Effect). OnErr c.makes.result (IsFruitless l steps c.makes.new.memo c.args.state.now c.makes.new.state x)) (sym c.in-Makes.is)
    (lost l steps c.makes.new.memo c.args.state.now c.makes.new.state e c.makes.result tt (c.makes.ensures.err steps f (run_of l c.args.memo.now steps c.args.state.now f e a a.still) a.top a.fine))

pub returns-in-Reads-clause-ok : goal.returns-in-Reads-clause-ok
returns-in-Reads-clause-ok c = λ o floats script steps f ahead.
    let l = c.args.tables.now.lookups in
    let e = effect.Reads c.in-Reads.item c.in-Reads.to c.in-Reads.field c.in-Reads.on in
    let a = subst (IsAhead l c.args.memo.now steps c.args.state.now f) c.in-Reads.is ahead in
    subst (λ (x : Effect). Came l steps c.args.state.now f o floats script c.reads.new.memo c.reads.new.state x c.reads.result) (sym c.in-Reads.is)
    (c.reads.ensures.ok o floats script steps f (run_of l c.args.memo.now steps c.args.state.now f e a a.still) a.top (reading_of l c.args.state.now (record { item = c.in-Reads.item; to = c.in-Reads.to; field = c.in-Reads.field; on = c.in-Reads.on }) a.fine))

pub returns-in-Reads-clause-err : goal.returns-in-Reads-clause-err
returns-in-Reads-clause-err c = λ steps f ahead.
    let l = c.args.tables.now.lookups in
    let e = effect.Reads c.in-Reads.item c.in-Reads.to c.in-Reads.field c.in-Reads.on in
    let a = subst (IsAhead l c.args.memo.now steps c.args.state.now f) c.in-Reads.is ahead in
    subst (λ (x : Effect). OnErr c.reads.result (IsFruitless l steps c.reads.new.memo c.args.state.now c.reads.new.state x)) (sym c.in-Reads.is)
    (lost l steps c.reads.new.memo c.args.state.now c.reads.new.state e c.reads.result tt (c.reads.ensures.err steps f (run_of l c.args.memo.now steps c.args.state.now f e a a.still) a.top (reading_of l c.args.state.now (record { item = c.in-Reads.item; to = c.in-Reads.to; field = c.in-Reads.field; on = c.in-Reads.on }) a.fine)))

pub returns-in-Writes-clause-ok : goal.returns-in-Writes-clause-ok
returns-in-Writes-clause-ok c = λ o floats script steps f ahead.
    let l = c.args.tables.now.lookups in
    let e = effect.Writes c.in-Writes.field c.in-Writes.on c.in-Writes.value in
    let a = subst (IsAhead l c.args.memo.now steps c.args.state.now f) c.in-Writes.is ahead in
    subst (λ (x : Effect). Came l steps c.args.state.now f o floats script c.writes.new.memo c.writes.new.state x c.writes.result) (sym c.in-Writes.is)
    (c.writes.ensures.ok o floats script steps f (run_of l c.args.memo.now steps c.args.state.now f e a a.still) a.top (writing_of l c.args.state.now (record { field = c.in-Writes.field; on = c.in-Writes.on; value = c.in-Writes.value }) a.fine))

pub returns-in-Writes-clause-err : goal.returns-in-Writes-clause-err
returns-in-Writes-clause-err c = λ steps f ahead.
    let l = c.args.tables.now.lookups in
    let e = effect.Writes c.in-Writes.field c.in-Writes.on c.in-Writes.value in
    let a = subst (IsAhead l c.args.memo.now steps c.args.state.now f) c.in-Writes.is ahead in
    subst (λ (x : Effect). OnErr c.writes.result (IsFruitless l steps c.writes.new.memo c.args.state.now c.writes.new.state x)) (sym c.in-Writes.is)
    (lost l steps c.writes.new.memo c.args.state.now c.writes.new.state e c.writes.result tt (c.writes.ensures.err steps f (run_of l c.args.memo.now steps c.args.state.now f e a a.still) a.top (writing_of l c.args.state.now (record { field = c.in-Writes.field; on = c.in-Writes.on; value = c.in-Writes.value }) a.fine)))

pub returns-in-Locks-clause-ok : goal.returns-in-Locks-clause-ok
returns-in-Locks-clause-ok c = λ o floats script steps f ahead.
    let l = c.args.tables.now.lookups in
    let e = effect.Locks c.in-Locks.datum in
    let a = subst (IsAhead l c.args.memo.now steps c.args.state.now f) c.in-Locks.is ahead in
    subst (λ (x : Effect). Came l steps c.args.state.now f o floats script c.args.memo.now c.locks.new.state x c.locks.result) (sym c.in-Locks.is)
    (came_event l steps script c.args.memo.now c.locks.new.state _ c.locks.result a.kept (c.locks.ensures.ok o floats script steps f (step_of l c.args.memo.now steps c.args.state.now f e a a.still) a.fine.fine a.fine.there))

pub returns-in-Locks-clause-err : goal.returns-in-Locks-clause-err
returns-in-Locks-clause-err c = λ steps f ahead.
    let l = c.args.tables.now.lookups in
    let e = effect.Locks c.in-Locks.datum in
    let a = subst (IsAhead l c.args.memo.now steps c.args.state.now f) c.in-Locks.is ahead in
    subst (λ (x : Effect). OnErr c.locks.result (IsFruitless l steps c.args.memo.now c.args.state.now c.locks.new.state x)) (sym c.in-Locks.is)
    (lost_event l steps c.args.memo.now c.args.state.now c.locks.new.state e c.locks.result tt a.kept (c.locks.ensures.err steps f (step_of l c.args.memo.now steps c.args.state.now f e a a.still)))

pub returns-in-Unlocks-clause-ok : goal.returns-in-Unlocks-clause-ok
returns-in-Unlocks-clause-ok c = λ o floats script steps f ahead.
    let l = c.args.tables.now.lookups in
    let e = effect.Unlocks c.in-Unlocks.datum in
    let a = subst (IsAhead l c.args.memo.now steps c.args.state.now f) c.in-Unlocks.is ahead in
    subst (λ (x : Effect). Came l steps c.args.state.now f o floats script c.args.memo.now c.unlocks.new.state x c.unlocks.result) (sym c.in-Unlocks.is)
    (came_event l steps script c.args.memo.now c.unlocks.new.state _ c.unlocks.result a.kept (c.unlocks.ensures.ok o floats script steps f (step_of l c.args.memo.now steps c.args.state.now f e a a.still) a.fine.fine a.fine.there))

pub returns-in-Unlocks-clause-err : goal.returns-in-Unlocks-clause-err
returns-in-Unlocks-clause-err c = λ steps f ahead.
    let l = c.args.tables.now.lookups in
    let e = effect.Unlocks c.in-Unlocks.datum in
    let a = subst (IsAhead l c.args.memo.now steps c.args.state.now f) c.in-Unlocks.is ahead in
    subst (λ (x : Effect). OnErr c.unlocks.result (IsFruitless l steps c.args.memo.now c.args.state.now c.unlocks.new.state x)) (sym c.in-Unlocks.is)
    (lost_event l steps c.args.memo.now c.args.state.now c.unlocks.new.state e c.unlocks.result tt a.kept (c.unlocks.ensures.err steps f (step_of l c.args.memo.now steps c.args.state.now f e a a.still)))

pub returns-in-Goes-clause-ok : goal.returns-in-Goes-clause-ok
returns-in-Goes-clause-ok c = λ o floats script steps f ahead.
    let l = c.args.tables.now.lookups in
    subst (λ (x : Effect). Came l steps c.args.state.now f o floats script c.args.memo.now c.args.state.now x (Ok None)) (sym c.in-Goes.is)
    (goes_next l o floats script c.args.memo.now steps c.args.state.now f (subst (IsAhead l c.args.memo.now steps c.args.state.now f) c.in-Goes.is ahead))

pub returns-in-Stuck-clause-ok : goal.returns-in-Stuck-clause-ok
returns-in-Stuck-clause-ok c = λ o floats script steps f ahead.
    let l = c.args.tables.now.lookups in
    let old = c.args.state.now in
    subst (λ (x : Effect). Came l steps old f o floats script c.args.memo.now c.end.new.self x (Ok None)) (sym c.in-Stuck.is)
    (subst (λ (s : State). Came l steps old f o floats script c.args.memo.now s effect.Stuck (Ok None)) (sym c.end.ensures)
    (stuck_next l o floats script c.args.memo.now steps old f ahead.kept))
