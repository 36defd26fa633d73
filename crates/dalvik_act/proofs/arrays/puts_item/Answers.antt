use Rattle.std.proofs.Common.{◌≡◌, true, arith, ap, sym, ◌∙◌}
use Rattle.std.specs.Prelude.{Bool, Some, None, length, map, slice_set}
use Rattle.std.specs.Int.{w32, cast_signed}
use lib.ListN.{length-map}
use Rattle.dalvik_defs.specs.ActArray.{may_store, writes_item}
use Rattle.dalvik_defs.specs.State.{Items}
use Rattle.dalvik_defs.specs.Effect.{Faults}
use Rattle.dalvik_lookups.specs.Facing.{run_face}
use Rattle.dalvik_lookups.specs.Views.{type_text}
use Rattle.dalvik_state.proofs.Storing.{stored_named}
use Rattle.dalvik_state.specs.Views.{frame_of, names_in, value_of, world_of}
use Rattle.dalvik_state.specs.Worlds.{spots_of}
use Rattle.dalvik_state.specs.declared.effect.Effect.TheVariants as own
use Rattle.dalvik_act.specs.Acting.{place_below}
use Rattle.dalvik_act.proofs.Elements.{puts_past, puts_there}
use Rattle.dalvik_act.proofs.Safe.{stays}
use Rattle.dalvik_act.proofs.Tabled.{knows_named}
use Rattle.dalvik_act.proofs.Worlds.{kept_same}
use Rattle.dalvik_act.proofs.arrays.puts_item.Goals as goal

pub returns-in_ok-fits-in-Some-clause-puts : goal.returns-in_ok-fits-in-Some-clause-puts
returns-in_ok-fits-in-Some-clause-puts c = λ tested h items s size.
    let l = c.args.tables.now.lookups in
    let n = names_in l in
    let put = c.args.put in
    let w = world_of n c.args.world.now in
    let f = frame_of n c.args.frame.now in
    let kind = c.args.outline.0 in
    let stores = may_store (run_face l).under w put.item (value_of n put.datum) (type_text l.types kind) in
    let fits : c.in_ok-fits-in-Some.fits ≡ stores = c.in_ok-fits-in-Some.ensures.answer tested in
    let placed : place_below (length (map (value_of n) items)) (cast_signed w32 put.index) ≡ Some c.in-Some.place =
    ap (λ k. place_below k (cast_signed w32 put.index)) (length-map items (value_of n) ∙ sym size) ∙ (cc) in
    c.stores.ensures.does n (knows_named l tested.right.tabled.named.types) h kind items s
    ∙ (λ i. writes_item (fits i) w f (value_of n put.array) (Items (type_text l.types kind) (slice_set (map (value_of n) items) c.in-Some.place (stored_named n put.item put.datum i))))
    ∙ puts_there stores put.item (type_text l.types kind) (map (value_of n) items) w f (value_of n put.datum) (value_of n put.array) (cast_signed w32 put.index) c.in-Some.place placed

pub returns-in-None-clause-puts : goal.returns-in-None-clause-puts
returns-in-None-clause-puts c = λ tested h items s size.
    let l = c.args.tables.now.lookups in
    let n = names_in l in
    let put = c.args.put in
    let w = world_of n c.args.world.now in
    let kind = c.args.outline.0 in
    let placed : place_below (length (map (value_of n) items)) (cast_signed w32 put.index) ≡ None =
    ap (λ k. place_below k (cast_signed w32 put.index)) (length-map items (value_of n) ∙ sym size) ∙ (cc) in
    ap Faults (knows_named l tested.right.tabled.named.types).bounds
    ∙ puts_past (may_store (run_face l).under w put.item (value_of n put.datum) (type_text l.types kind)) put.item (type_text l.types kind) (map (value_of n) items) w (frame_of n c.args.frame.now) (value_of n put.datum) (value_of n put.array) (cast_signed w32 put.index) placed

pub returns-in-None-clause-safe : goal.returns-in-None-clause-safe
returns-in-None-clause-safe c = λ l ready fine. record {
  world = kept_same l c.args.world.now ready.sound;
  safe = stays l (length (spots_of c.args.world.now)) c.args.frame.now (own.Faults 14) ready.fine (omega arith);
}
