use Rattle.std.proofs.Common.{◌≡◌, ap, sym, subst}
use Rattle.std.specs.Prelude.{Option, Some}
use Rattle.std.specs.Option.{option_map}
use Rattle.dalvik_defs.specs.Moves.{field_value}
use Rattle.dalvik_state.specs.Views.{names_in, value_of, world_of}
use Rattle.dalvik_state.specs.declared.gifts.Taken.{Taken}
use Rattle.dalvik_moves.proofs.touching.field_value.Goals as goal

pub returns-in-None-clause-named : goal.returns-in-None-clause-named
returns-in-None-clause-named c = λ o k field r kept.
    let n = names_in c.args.tables.now.lookups in
    subst (λ (t : Option Taken). option_map (value_of n) (Some c.static_value.result) ≡ field_value (world_of n c.args.world.now) k kept.place (option_map (λ (x : Taken). value_of n x.datum) t)) (sym c.in-None.is)
    (ap Some (c.static_value.ensures.named k kept.place r kept.of kept.text))

pub returns-in-None-clause-fine : goal.returns-in-None-clause-fine
returns-in-None-clause-fine c = λ o k field r sound kept. c.static_value.ensures.fine k kept.place r sound kept.of

pub returns-in-Some-clause-named : goal.returns-in-Some-clause-named
returns-in-Some-clause-named c = λ o k field r kept.
    let n = names_in c.args.tables.now.lookups in
    subst (λ (t : Option Taken). option_map (value_of n) c.instance_value.result ≡ field_value (world_of n c.args.world.now) k kept.place (option_map (λ (x : Taken). value_of n x.datum) t)) (sym c.in-Some.is)
    (c.instance_value.ensures.named k kept.place c.args.at.class c.args.at.place r kept.of (c.slot-slot.ensures r) kept.text)

pub returns-in-Some-clause-fine : goal.returns-in-Some-clause-fine
returns-in-Some-clause-fine c = λ o k field r sound kept. c.instance_value.ensures.fine r sound
