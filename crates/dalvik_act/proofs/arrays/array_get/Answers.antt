use Rattle.std.proofs.Common.{◌≡◌, ap, sym, ◌∙◌}
use Rattle.std.specs.Prelude.{Option, Some, None, length}
use Rattle.dalvik_act.proofs.Safe.{stays}
use Rattle.dalvik_act.proofs.Worlds.{item_given}
use Rattle.std.specs.Option.{option_map}
use Rattle.std.specs.Int.{w32, cast_signed}
use Rattle.dalvik_defs.specs.ActArray.{reads_item}
use Rattle.dalvik_state.specs.declared.datum.Datum.{Datum}
use Rattle.dalvik_state.specs.Views.{frame_of, value_of, world_of}
use Rattle.dalvik_state.specs.Worlds.{shape_at, spots_of}
use Rattle.dalvik_act.specs.Acting.{contents_of}
use Rattle.dalvik_act.proofs.Elements.{got, not_got}
use Rattle.dalvik_act.proofs.arrays.array_get.Goals as goal

pub returns-in-Some-clause-does : goal.returns-in-Some-clause-does
returns-in-Some-clause-does c = λ n k h.
    let w = c.args.world.now in
    let f = frame_of n c.args.frame.now in
    let there = rw c.in-Some.is at c.items_of.ensures in
    c.gets_item.ensures.does n k h (world_of n w)
    ∙ ap (λ (o : Option Datum). reads_item c.args.item (option_map (value_of n) o) (world_of n w) f c.args.to) c.item_at.ensures
    ∙ got n w c.args.array c.args.item f c.args.to (cast_signed w32 c.args.index) c.in-Some.items.now there

pub returns-in-None-clause-does : goal.returns-in-None-clause-does
returns-in-None-clause-does c = λ n k h.
    let w = c.args.world.now in
    let f = frame_of n c.args.frame.now in
    let nothing = rw c.in-None.is at c.items_of.ensures in
    c.unless_null.ensures.acts n k (world_of n w) f
    ∙ not_got n w c.args.array c.args.item f c.args.to (cast_signed w32 c.args.index) nothing

pub returns-in-Some-clause-safe : goal.returns-in-Some-clause-safe
returns-in-Some-clause-safe c = λ l ready.
    let w = c.args.world.now in
    let there : Some c.in-Some.items.now ≡ contents_of (shape_at (spots_of w) c.args.array) = rw c.in-Some.is at c.items_of.ensures in
    c.gets_item.ensures.safe l (length (spots_of w)) (item_given l w c.args.array c.in-Some.items.now (cast_signed w32 c.args.index) c.item_at.result ready.sound there c.item_at.ensures) ready.below ready.fine

pub returns-in-None-clause-safe : goal.returns-in-None-clause-safe
returns-in-None-clause-safe c = λ l ready. stays l (length (spots_of c.args.world.now)) c.args.frame.now c.unless_null.result ready.fine (c.unless_null.ensures.fine l (length (spots_of c.args.world.now)) (λ e. tt))
