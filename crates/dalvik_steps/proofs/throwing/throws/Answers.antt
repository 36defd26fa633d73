use Rattle.std.proofs.Common.{ℕ, ◌≡◌, ◌∙◌, ◌≤◌, length, ap, arith, subst}
use Rattle.dalvik_state.specs.Runs.{classes_in, script_in, stack_in, world_in, IsEvent, IsUndoneWith}
use Rattle.dalvik_steps.specs.declared.throwing.Thrown.{Thrown}
use Rattle.dalvik_steps.specs.Entries.{thrown_by}
use Rattle.dalvik_steps.specs.Flights.{HasFlightRoom}
use Rattle.dalvik_steps.proofs.Begun.{flight_begins, nothing_given, still_thrown, thrown_same, thrown_with}
use Rattle.dalvik_steps.proofs.Undone.{on_err, running_same, undone}
use Rattle.dalvik_steps.proofs.throwing.throws.Goals as goal

pub returns-in_err-flight-clause-kept : goal.returns-in_err-flight-clause-kept
returns-in_err-flight-clause-kept c = λ steps run thrown.
    let l = c.args.tables.now.lookups in
    let old = c.args.state.now in
    let g = c.new-none.result in
    let e = c.new-none.ensures in
    let low : c.len-top.result ≤ length old.stack.items = omega arith in
    c.plan.ensures.kept steps run (nothing_given l old.world g e run.state.world) (thrown_with l old.world g c.args.thrown e thrown) low

pub returns-in_err-flight-clause-err : goal.returns-in_err-flight-clause-err
returns-in_err-flight-clause-err c = λ steps run thrown.
    let l = c.args.tables.now.lookups in
    let old = c.args.state.now in
    let g = c.new-none.result in
    let e = c.new-none.ensures in
    let low : c.len-top.result ≤ length old.stack.items = omega arith in
    let u : IsUndoneWith l steps c.plan.new.memo old c.plan.new.state = record {
      undone = undone l steps old c.plan.new.state run.state run.on c.plan.ensures.same;
      kept = c.plan.ensures.kept steps run (nothing_given l old.world g e run.state.world) (thrown_with l old.world g c.args.thrown e thrown) low;
    } in
    on_err _ _ u

pub returns-clause-kept : goal.returns-clause-kept
returns-clause-kept c = λ steps run thrown.
    let l = c.args.tables.now.lookups in
    let old = c.args.state.now in
    let g = c.new-none.result in
    let e = c.new-none.ensures in
    let low : c.len-top.result ≤ length old.stack.items = omega arith in
    c.plan.ensures.kept steps run (nothing_given l old.world g e run.state.world) (thrown_with l old.world g c.args.thrown e thrown) low

pub returns-clause-ok : goal.returns-clause-ok
returns-clause-ok c = λ steps script run thrown.
    let l = c.args.tables.now.lookups in
    let old = c.args.state.now in
    let mid = c.plan.new.state in
    let g = c.new-none.result in
    let e = c.new-none.ensures in
    let t = c.args.thrown in
    let f = c.in_ok-flight.flight in
    let same = c.plan.ensures.same in
    let top : c.len-top.result ≡ length old.stack.items = omega arith in
    let low : c.len-top.result ≤ length old.stack.items = omega arith in
    let given = nothing_given l old.world g e run.state.world in
    let with = thrown_with l old.world g t e thrown in
    let way = c.in_ok-flight.ensures.flies steps run given with low in
    let none : length g.things.items ≡ 0 = ap length e in
    let event = c.land.ensures l steps script run.right (running_same l steps old mid run.state same) (same.ended ∙ run.on) (still_thrown l old mid t f.thrown same way.thrown thrown)
    (flight_begins l old mid g t c.len-top.result f e same top way) (subst (λ (k : ℕ). HasFlightRoom mid.world k f) none c.in_ok-flight.ensures.room) in
    record {
      event = subst (IsEvent l steps script c.land.new.state c.land.result) (ap (λ (u : Thrown). thrown_by l u (world_in l mid) (classes_in l mid) (stack_in l script mid) (script_in script mid)) way.thrown ∙ thrown_same l script old mid t same) event;
      kept = c.plan.ensures.kept steps run given with low;
    }
