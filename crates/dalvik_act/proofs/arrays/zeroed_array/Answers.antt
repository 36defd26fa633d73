use Rattle.std.proofs.Common.{◌∙◌, length, rules}
use Rattle.dalvik_state.specs.Worlds.{spots_of}
use Rattle.dalvik_state.proofs.Fine.{fine_frame}
use Rattle.dalvik_act.proofs.Worlds.{fine_last, kept_zeros}
use Rattle.dalvik_state.specs.Views.{frame_of, names_in, world_of}
use Rattle.dalvik_act.proofs.Elements.{went, zeroed}
use Rattle.dalvik_act.proofs.Tabled.{knows_named}
use Rattle.dalvik_act.proofs.arrays.zeroed_array.Goals as goal

pub returns-clause-does : goal.returns-clause-does
returns-clause-does c = λ are h.
    let l = c.args.tables.now.lookups in
    let new = c.add.new.self in
    c.sets.ensures.does (names_in l) (knows_named l are) h (world_of (names_in l) new)
    ∙ zeroed l c.args.world.now new c.in_ok-thing.thing c.args.array.1 c.args.array.0 c.args.to c.in_ok-reference.reference (frame_of (names_in l) c.args.frame.now) c.in_ok-reference.ensures.heap (c.in_ok-thing.ensures are) c.in_ok-reference.ensures.datum

pub returns-clause-kept : goal.returns-clause-kept
returns-clause-kept c = went c.sets.result c.args.world.now c.add.new.self c.sets.ensures.goes

pub returns-clause-safe : goal.returns-clause-safe
returns-clause-safe c = λ are ready kind.
    let l = c.args.tables.now.lookups in
    let old = c.args.world.now in
    let new = c.add.new.self in
    let thing = c.in_ok-thing.thing in
    let shape = c.in_ok-thing.ensures are in
    let world = kept_zeros l old new thing c.args.array.1 c.args.array.0 c.in_ok-reference.ensures.heap shape kind (search rules) ready.sound in
    record {
      world = world;
      safe = c.sets.ensures.safe l (length (spots_of new)) (fine_last l old new thing c.in_ok-reference.reference c.in_ok-reference.ensures.heap c.in_ok-reference.ensures.datum) ready.below (fine_frame (names_in l) (length (spots_of old)) (length (spots_of new)) c.args.frame.now world.more ready.fine);
    }
