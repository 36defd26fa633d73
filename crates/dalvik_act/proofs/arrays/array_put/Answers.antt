use Rattle.std.proofs.Common.{◌≡◌, ap, sym, ◌∙◌}
use Rattle.std.specs.Prelude.{Option, Some, None, length, refl}
use Rattle.std.specs.Int.{w32, cast_signed}
use Rattle.std.proofs.lemmas.Result.{IfOk-weaker}
use Rattle.dalvik_defs.specs.ActArray.{array_put}
use Rattle.dalvik_defs.specs.State.{Thing}
use Rattle.dalvik_lookups.specs.Facing.{run_face}
use Rattle.dalvik_state.specs.Views.{frame_of, names_in, value_of, world_of}
use Rattle.dalvik_state.specs.Worlds.{shape_at, spots_of}
use Rattle.dalvik_act.specs.Acted.{IsTested}
use Rattle.dalvik_act.specs.Acting.{outline_of}
use Rattle.dalvik_act.proofs.Elements.{no_outline, outlined, to_array, to_other}
use Rattle.dalvik_act.proofs.Tabled.{knows_named}
use Rattle.dalvik_act.proofs.Safe.{stays}
use Rattle.dalvik_act.proofs.Worlds.{items_kind, kept_same}
use Rattle.dalvik_act.proofs.arrays.array_put.Goals as goal

pub returns-in-Some-clause-puts : goal.returns-in-Some-clause-puts
returns-in-Some-clause-puts c = λ a fine.
    let l = c.args.tables.now.lookups in
    let n = names_in l in
    let w = c.args.world.now in
    let put = c.args.put in
    let there : outline_of (shape_at (spots_of w) put.array) ≡ Some c.in-Some.outline = cc in
    let array = outlined (shape_at (spots_of w) put.array) c.in-Some.outline.0 c.in-Some.outline.1 there in
    let kind = items_kind l (spots_of w) put.array c.in-Some.outline.0 array.0 a.ready.sound.kinds array.1 in
    let tested : IsTested l c.args.memo.now w put.datum c.in-Some.outline.0 = record { right = a.right; kept = a.kept; sound = a.ready.sound; fine = fine; kind = kind.there } in
    IfOk-weaker c.puts_item.result _ _ (λ effect p.
    p array.0 array.1 array.2
    ∙ to_array n w put.array (λ (t : Option Thing). array_put (run_face l).under put.item t (world_of n w) (frame_of n c.args.frame.now) (value_of n put.datum) (value_of n put.array) (cast_signed w32 put.index)) c.in-Some.outline.0 array.0 array.1)
    (c.puts_item.ensures.puts tested a.ready.below)

pub returns-in-Some-clause-memo : goal.returns-in-Some-clause-memo
returns-in-Some-clause-memo c = λ a fine.
    let l = c.args.tables.now.lookups in
    let w = c.args.world.now in
    let put = c.args.put in
    let there : outline_of (shape_at (spots_of w) put.array) ≡ Some c.in-Some.outline = cc in
    let array = outlined (shape_at (spots_of w) put.array) c.in-Some.outline.0 c.in-Some.outline.1 there in
    let kind = items_kind l (spots_of w) put.array c.in-Some.outline.0 array.0 a.ready.sound.kinds array.1 in
    c.puts_item.ensures.memo (record { right = a.right; kept = a.kept; sound = a.ready.sound; fine = fine; kind = kind.there })

pub returns-in-None-clause-puts : goal.returns-in-None-clause-puts
returns-in-None-clause-puts c = λ a fine.
    let l = c.args.tables.now.lookups in
    let n = names_in l in
    let w = c.args.world.now in
    let put = c.args.put in
    let nothing : outline_of (shape_at (spots_of w) put.array) ≡ None = cc in
    c.unless_null.ensures.acts n (knows_named l a.right.tabled.named.types) (world_of n w) (frame_of n c.args.frame.now)
    ∙ to_other n w put.array (λ (t : Option Thing). array_put (run_face l).under put.item t (world_of n w) (frame_of n c.args.frame.now) (value_of n put.datum) (value_of n put.array) (cast_signed w32 put.index)) refl (λ k fs. refl)
    (no_outline (shape_at (spots_of w) put.array) nothing)

pub returns-in-None-clause-safe : goal.returns-in-None-clause-safe
returns-in-None-clause-safe c = λ l ready fine. record {
  world = kept_same l c.args.world.now ready.sound;
  safe = stays l (length (spots_of c.args.world.now)) c.args.frame.now c.unless_null.result ready.fine (c.unless_null.ensures.fine l (length (spots_of c.args.world.now)) (λ e. tt));
}
