use Rattle.std.proofs.Common.{◌≡◌, ap, ◌∙◌}
use Rattle.std.specs.Prelude.{Option, Some, None, length, nat_lt, refl}
use Rattle.dalvik_defs.specs.ActArray.{fills}
use Rattle.dalvik_defs.specs.State.{Thing}
use Rattle.dalvik_state.specs.Views.{frame_of, names_in, value_of, world_of}
use Rattle.dalvik_state.specs.Worlds.{shape_at, spots_of}
use Rattle.dalvik_act.specs.Acting.{outline_of}
use Rattle.dalvik_act.proofs.Elements.{no_outline, outlined, to_array, to_other}
use Rattle.dalvik_act.proofs.Safe.{stays}
use Rattle.dalvik_act.proofs.Tabled.{knows_named}
use Rattle.dalvik_act.proofs.Worlds.{kept_same}
use Rattle.dalvik_act.proofs.arrays.fills.Goals as goal

pub returns-in-Some-clause-does : goal.returns-in-Some-clause-does
returns-in-Some-clause-does c = λ are h.
    let n = names_in c.args.tables.now.lookups in
    let w = c.args.world.now in
    let there : outline_of (shape_at (spots_of w) c.args.array) ≡ Some (c.in-Some.kind, c.in-Some.length) = cc in
    let array = outlined (shape_at (spots_of w) c.args.array) c.in-Some.kind c.in-Some.length there in
    c.fills_items.ensures.does n (knows_named c.args.tables.now.lookups are) h c.in-Some.kind array.0 array.1 (let e : nat_lt c.in-Some.length (length c.args.numbers.now) ≡ nat_lt (length array.0) (length c.args.numbers.now) = ap (λ k. nat_lt k (length c.args.numbers.now)) array.2 in e) (c.item-item.ensures are)
    ∙ to_array n w c.args.array (λ (t : Option Thing). fills t (world_of n w) (frame_of n c.args.frame.now) (value_of n c.args.array) c.args.numbers.now) c.in-Some.kind array.0 array.1

pub returns-in-None-clause-does : goal.returns-in-None-clause-does
returns-in-None-clause-does c = λ are h.
    let n = names_in c.args.tables.now.lookups in
    let w = c.args.world.now in
    let nothing : outline_of (shape_at (spots_of w) c.args.array) ≡ None = cc in
    c.unless_null.ensures.acts n (knows_named c.args.tables.now.lookups are) (world_of n w) (frame_of n c.args.frame.now)
    ∙ to_other n w c.args.array (λ (t : Option Thing). fills t (world_of n w) (frame_of n c.args.frame.now) (value_of n c.args.array) c.args.numbers.now) refl (λ k fs. refl) (no_outline (shape_at (spots_of w) c.args.array) nothing)

pub returns-in-None-clause-safe : goal.returns-in-None-clause-safe
returns-in-None-clause-safe c = λ l ready. record {
  world = kept_same l c.args.world.now ready.sound;
  safe = stays l (length (spots_of c.args.world.now)) c.args.frame.now c.unless_null.result ready.fine (c.unless_null.ensures.fine l (length (spots_of c.args.world.now)) (λ e. tt));
}
