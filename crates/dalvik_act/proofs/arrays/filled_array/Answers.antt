use Rattle.std.proofs.Common.{length, refl}
use Rattle.dalvik_state.specs.Views.{names_in}
use Rattle.dalvik_state.specs.Worlds.{spots_of}
use Rattle.dalvik_state.proofs.Fine.{fine_frame}
use Rattle.dalvik_act.proofs.Worlds.{fine_last, kept_read, on_result}
use Rattle.dalvik_state.specs.declared.world.Thing.TheVariants as thing
use Rattle.dalvik_act.proofs.Elements.{gathered}
use Rattle.dalvik_act.proofs.arrays.filled_array.Goals as goal

pub returns-clause-does : goal.returns-clause-does
returns-clause-does c = λ n k h.
    gathered n c.args.world.now c.add.new.self (thing.Items c.args.kind c.in_ok-items.items) c.args.kind c.in_ok-items.items.items c.args.args.now c.in_ok-frame.field-0 c.args.frame.now c.next.new.self c.in_ok-frame.ensures.heap refl c.in_ok-items.ensures c.in_ok-frame.ensures.datum (c.next.ensures h)

pub returns-clause-safe : goal.returns-clause-safe
returns-clause-safe c = λ l ready kind short.
    let old = c.args.world.now in
    let new = c.add.new.self in
    let thing = thing.Items c.args.kind c.in_ok-items.items in
    let d = c.in_ok-frame.field-0 in
    let f = c.args.frame.now in
    let world = kept_read l old new thing c.args.kind c.in_ok-items.items.items f c.args.args.now c.in_ok-frame.ensures.heap refl c.in_ok-items.ensures ready.fine kind short ready.sound in
    let size = length (spots_of new) in
    record {
      world = world;
      safe = on_result l size f c.next.new.self d (fine_last l old new thing d c.in_ok-frame.ensures.heap c.in_ok-frame.ensures.datum) ready.below (fine_frame (names_in l) (length (spots_of old)) size f world.more ready.fine) (c.next.ensures ready.below);
    }
