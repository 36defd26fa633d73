use Rattle.std.proofs.Common.{◌≡◌, arith, length, ap, subst, sym, ◌∙◌}
use Rattle.dalvik_state.specs.Worlds.{spots_of}
use Rattle.dalvik_state.specs.declared.effect.Effect.TheVariants as own
use Rattle.dalvik_state.proofs.Fine.{fine_frame, fine_stored}
use Rattle.dalvik_act.proofs.Safe.{stays}
use Rattle.dalvik_act.proofs.Worlds.{kept_put, kept_same}
use Rattle.std.specs.Prelude.{Bool, map, slice_set}
use Rattle.dalvik_defs.specs.ActArray.{writes_item}
use Rattle.dalvik_defs.specs.State.{Items, World}
use Rattle.dalvik_defs.specs.Effect.{Faults, Goes, next}
use Rattle.dalvik_state.specs.Frames.{stored_in}
use Rattle.dalvik_state.specs.Views.{IsFine, frame_of, names_in, value_of, world_of}
use Rattle.dalvik_act.proofs.Elements.{stored_at, went}
use Rattle.dalvik_act.proofs.arrays.stores.Goals as goal

pub returns-then-fits-clause-does : goal.returns-then-fits-clause-does
returns-then-fits-clause-does c = λ n k h kind items s.
    let put = c.args.put in
    let value : value_of n c.stored.result ≡ value_of n (stored_in put.item put.datum) = ap (value_of n) c.stored.ensures.is in
    c.goes_on.ensures.does n k h (world_of n c.put_item.new.self)
    ∙ ap (λ (w : World). Goes w (next (frame_of n c.args.frame.now))) (stored_at n c.args.world.now c.put_item.new.self put.array c.stored.result kind items c.args.place s c.put_item.ensures)
    ∙ (λ i. writes_item (sym c.if-fits.true i) (world_of n c.args.world.now) (frame_of n c.args.frame.now) (value_of n put.array) (Items (n.kind kind) (slice_set (map (value_of n) items) c.args.place (value i))))

pub returns-else-fits-clause-does : goal.returns-else-fits-clause-does
returns-else-fits-clause-does c = λ n k h kind items s.
    let put = c.args.put in
    ap Faults k.store
    ∙ ap (λ (b : Bool). writes_item b (world_of n c.args.world.now) (frame_of n c.args.frame.now) (value_of n put.array) (Items (n.kind kind) (slice_set (map (value_of n) items) c.args.place (value_of n (stored_in put.item put.datum))))) (sym c.if-fits.false)

pub returns-then-fits-clause-kept : goal.returns-then-fits-clause-kept
returns-then-fits-clause-kept c = went c.goes_on.result c.args.world.now c.put_item.new.self c.goes_on.ensures.goes

pub returns-then-fits-clause-safe : goal.returns-then-fits-clause-safe
returns-then-fits-clause-safe c = λ l ready fine.
    let old = c.args.world.now in
    let new = c.put_item.new.self in
    let size = length (spots_of old) in
    let value = subst (IsFine (names_in l) size) (sym c.stored.ensures.is) (fine_stored (names_in l) size c.args.put.item c.args.put.datum fine) in
    let world = kept_put l old new c.args.put.array c.stored.result c.args.place c.put_item.ensures value ready.sound in
    record {
      world = world;
      safe = c.goes_on.ensures.safe l (length (spots_of new)) ready.below (fine_frame (names_in l) size (length (spots_of new)) c.args.frame.now world.more ready.fine);
    }

pub returns-else-fits-clause-safe : goal.returns-else-fits-clause-safe
returns-else-fits-clause-safe c = λ l ready fine. record {
  world = kept_same l c.args.world.now ready.sound;
  safe = stays l (length (spots_of c.args.world.now)) c.args.frame.now (own.Faults 11) ready.fine (omega arith);
}
