use Rattle.std.proofs.Common.{length, sym, subst}
use Rattle.dalvik_state.specs.Worlds.{spots_of}
use Rattle.dalvik_steps.specs.Entries.{IsThrown}
use Rattle.dalvik_steps.specs.Falls.{IsThrownInto}
use Rattle.dalvik_steps.specs.declared.throwing.Thrown.{Thrown}
use Rattle.dalvik_steps.specs.declared.throwing.Thrown.TheVariants as thrown
use Rattle.dalvik_steps.proofs.Begun.{room_one, space_one, throws_made, throws_value}
use Rattle.dalvik_steps.proofs.throwing.throw.Goals as goal

pub returns-in-New : goal.returns-in-New
returns-in-New c = λ l count r sound h space room.
    let old = c.args.world.now in
    let new = c.make_new.new.world in
    let low = subst (IsThrown l (length (spots_of old))) c.in-New.is h in
    subst (λ (t : Thrown). IsThrownInto l t count old new c.make_new.result) (sym c.in-New.is)
    (subst (IsThrownInto l (thrown.New c.in-New.class) count old new) (sym c.make_new.ensures.datum)
    (throws_made l r c.in-New.class count old new sound low (c.make_new.ensures.heap (space_one old count space)) (c.make_new.ensures.space count space) (c.make_new.ensures.room 1 (room_one old count room))))

pub returns-in-Value : goal.returns-in-Value
returns-in-Value c = λ l count r sound h space room.
    let old = c.args.world.now in
    let fine = subst (IsThrown l (length (spots_of old))) c.in-Value.is h in
    subst (λ (t : Thrown). IsThrownInto l t count old old c.in-Value.datum) (sym c.in-Value.is) (throws_value l c.in-Value.datum count old sound fine space room)
