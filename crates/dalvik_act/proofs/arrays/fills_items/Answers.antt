use Rattle.std.proofs.Common.{◌≡◌, true, arith, ap, sym, ◌∙◌}
use Rattle.dalvik_state.specs.Worlds.{spots_of}
use Rattle.dalvik_state.specs.declared.effect.Effect.TheVariants as own
use Rattle.dalvik_state.proofs.Fine.{fine_frame}
use Rattle.dalvik_act.proofs.Safe.{stays}
use Rattle.dalvik_act.proofs.Worlds.{kept_filled, kept_same}
use Rattle.std.specs.Prelude.{length, nat_lt}
use Rattle.dalvik_defs.specs.Effect.{Faults}
use Rattle.dalvik_state.specs.Views.{frame_of, names_in, value_of, world_of}
use Rattle.dalvik_act.proofs.Elements.{fills_short, refilled, went}
use Rattle.dalvik_act.proofs.arrays.fills_items.Goals as goal

pub returns-then-lacks-clause-does : goal.returns-then-lacks-clause-does
returns-then-lacks-clause-does c = λ n k h kind items s lacks item.
    ap Faults k.bounds ∙ fills_short n (frame_of n c.args.frame.now) (value_of n c.args.array) (n.kind kind) items c.args.numbers.now (world_of n c.args.world.now) (let e : nat_lt (length items) (length c.args.numbers.now) ≡ true = sym lacks ∙ c.if-lacks.true in e)

pub returns-else-lacks-clause-does : goal.returns-else-lacks-clause-does
returns-else-lacks-clause-does c = λ n k h kind items s lacks item.
    c.goes_on.ensures.does n k h (world_of n c.fill.new.self)
    ∙ refilled n c.args.world.now c.fill.new.self c.args.array kind items c.args.item c.args.numbers.now (frame_of n c.args.frame.now) s item (sym lacks ∙ c.if-lacks.false) c.fill.ensures

pub returns-else-lacks-clause-kept : goal.returns-else-lacks-clause-kept
returns-else-lacks-clause-kept c = went c.goes_on.result c.args.world.now c.fill.new.self c.goes_on.ensures.goes

pub returns-then-lacks-clause-safe : goal.returns-then-lacks-clause-safe
returns-then-lacks-clause-safe c = λ l ready. record {
  world = kept_same l c.args.world.now ready.sound;
  safe = stays l (length (spots_of c.args.world.now)) c.args.frame.now (own.Faults 14) ready.fine (omega arith);
}

pub returns-else-lacks-clause-safe : goal.returns-else-lacks-clause-safe
returns-else-lacks-clause-safe c = λ l ready.
    let old = c.args.world.now in
    let new = c.fill.new.self in
    let world = kept_filled l old new c.args.array c.args.item c.args.numbers.now c.fill.ensures ready.sound in
    record {
      world = world;
      safe = c.goes_on.ensures.safe l (length (spots_of new)) ready.below (fine_frame (names_in l) (length (spots_of old)) (length (spots_of new)) c.args.frame.now world.more ready.fine);
    }
