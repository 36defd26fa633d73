use Rattle.std.proofs.Common.{ℕ, List, length, arith, subst, sym}
use Rattle.dalvik_state.specs.Runs.{classes_in, script_in, stack_in, world_in}
use Rattle.dalvik_steps.specs.Entries.{thrown_by}
use Rattle.dalvik_steps.specs.Falls.{IsFalling}
use Rattle.dalvik_steps.proofs.Begun.{falling_of}
use Rattle.dalvik_steps.proofs.throwing.land.Goals as goal

pub returns : goal.returns
returns c = λ l steps script r run on fine h room.
    let old = c.args.state.now in
    let f = c.args.flight in
    let t = c.throw-datum.ensures l (length f.wraps.items) r run.world fine (record { space = (let s = room.space.space in omega (arith, s)) }) (record { room = (let s = room.room.room in omega (arith, s)) }) in
    c.descend.ensures l steps script (thrown_by l f.thrown (world_in l old) (classes_in l old) (stack_in l script old) (script_in script old)) r
    (subst (λ (ws : List ℕ). IsFalling l steps script (thrown_by l f.thrown (world_in l old) (classes_in l old) (stack_in l script old) (script_in script old)) f.landing (record old { world = c.throw-datum.new.world }) ws c.throw-datum.result) (sym c.as_slice.ensures.value)
    (falling_of l steps script old c.throw-datum.new.world f c.throw-datum.result run on t h))
