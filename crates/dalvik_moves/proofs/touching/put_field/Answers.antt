use Rattle.std.proofs.Common.{sym, subst}
use Rattle.std.specs.Prelude.{Option, true}
use Rattle.std.specs.Option.{option_map}
use Rattle.dalvik_defs.specs.Moves.{with_field}
use Rattle.dalvik_state.specs.Views.{names_in, value_of, world_of}
use Rattle.dalvik_state.specs.declared.gifts.Taken.{Taken}
use Rattle.dalvik_steps.specs.Reaching.{IsPut}
use Rattle.dalvik_moves.proofs.FieldMoves.{instance_put, static_put}
use Rattle.dalvik_moves.proofs.touching.put_field.Goals as goal

pub returns-in-None : goal.returns-in-None
returns-in-None c = λ o k field r room sound kept fine.
    let l = c.args.tables.now.lookups in
    let n = names_in l in
    let old = c.args.world.now in
    let new = c.put_static.new.world in
    subst (λ (t : Option Taken). IsPut l old new true (with_field (world_of n old) k (option_map (λ (x : Taken). value_of n x.datum) t) (value_of n c.args.datum))) (sym c.in-None.is)
    (static_put l o k c.args.at field kept old new (value_of n c.args.datum) (c.put_static.ensures k kept.place r sound kept.of fine))

pub returns-in-Some : goal.returns-in-Some
returns-in-Some c = λ o k field r room sound kept fine.
    let l = c.args.tables.now.lookups in
    let n = names_in l in
    let old = c.args.world.now in
    let new = c.put_ready.new.world in
    subst (λ (t : Option Taken). IsPut l old new c.put_ready.result (with_field (world_of n old) k (option_map (λ (x : Taken). value_of n x.datum) t) (value_of n c.args.datum))) (sym c.in-Some.is)
    (instance_put l o k c.args.at field kept old new (value_of n c.in-Some.taken.datum) (value_of n c.args.datum) c.put_ready.result (c.put_ready.ensures l k kept.place c.args.at.class c.args.at.place room r sound kept.of (c.slot-slot.ensures r) fine))
