use Rattle.std.proofs.Common.{◌∙◌, arith, length, rules, ap}
use Rattle.dalvik_state.specs.Worlds.{spots_of}
use Rattle.dalvik_state.specs.declared.effect.Effect.TheVariants as effect
use Rattle.dalvik_act.proofs.Safe.{stays}
use Rattle.dalvik_act.proofs.Worlds.{kept_same}
use Rattle.std.specs.Int.{w32, cast_signed}
use Rattle.std.proofs.lemmas.Result.{IfOk-weaker}
use Rattle.dalvik_defs.specs.Effect.{Faults}
use Rattle.dalvik_state.specs.Views.{frame_of, names_in, world_of}
use Rattle.dalvik_lookups.specs.Views.{type_text}
use Rattle.dalvik_act.proofs.Elements.{made_there, made_nowhere}
use Rattle.dalvik_act.proofs.Tabled.{knows_named}
use Rattle.dalvik_act.proofs.arrays.new_array.Goals as goal

pub returns-in-Some-clause-does : goal.returns-in-Some-clause-does
returns-in-Some-clause-does c = IfOk-weaker c.zeroed_array.result _ _ (λ effect does. λ are h.
    let l = c.args.tables.now.lookups in
    does are h ∙ made_there c.args.array.0 (search rules) c.in-Some.field-0 (cc) (type_text l.types c.args.array.1) (world_of (names_in l) c.args.world.now) (frame_of (names_in l) c.args.frame.now) c.args.to) c.zeroed_array.ensures.does

pub returns-in-None-clause-does : goal.returns-in-None-clause-does
returns-in-None-clause-does c = λ are h.
    let l = c.args.tables.now.lookups in
    ap Faults (knows_named l are).size ∙ made_nowhere (cast_signed w32 c.args.array.0) (type_text l.types c.args.array.1) (world_of (names_in l) c.args.world.now) (frame_of (names_in l) c.args.frame.now) c.args.to (cc)

pub returns-in-None-clause-safe : goal.returns-in-None-clause-safe
returns-in-None-clause-safe c = λ are ready kind. let l = c.args.tables.now.lookups in record {
  world = kept_same l c.args.world.now ready.sound;
  safe = stays l (length (spots_of c.args.world.now)) c.args.frame.now (effect.Faults 10) ready.fine (omega arith);
}
