use Rattle.std.proofs.Common.{ap, ◌∙◌, length}
use Rattle.std.specs.Prelude.{ℕ, Option, slice_get}
use Rattle.std.specs.Option.{option_and_then}
use Rattle.dalvik_state.specs.Views.{names_in, value_of}
use Rattle.dalvik_state.specs.Worlds.{spots_of}
use Rattle.dalvik_state.specs.declared.datum.Datum.{Datum}
use Rattle.dalvik_steps.proofs.FieldReads.{static_none, static_some}
use Rattle.dalvik_steps.proofs.fields.static_value.Goals as goal

pub returns-in-Some-clause-named : goal.returns-in-Some-clause-named
returns-in-Some-clause-named c = λ k at r h t.
    static_some c.args.tables.now.lookups r c.args.world.now k at c.args.class c.args.place c.in-Some.datum h
    (c.in-Some.ensures ∙ ap (λ (s : ℕ). option_and_then (λ (d : Option Datum). d) (slice_get c.args.world.now.statics.items s)) (c.slot.ensures r))

pub returns-in-None-clause-named : goal.returns-in-None-clause-named
returns-in-None-clause-named c = λ k at r h t.
    let l = c.args.tables.now.lookups in
    static_none l r c.args.world.now k at c.args.class c.args.place (value_of (names_in l) c.first_of.result) h
    (c.in-None.ensures ∙ ap (λ (s : ℕ). option_and_then (λ (d : Option Datum). d) (slice_get c.args.world.now.statics.items s)) (c.slot.ensures r))
    (c.first_of.ensures.named k at r h t)

pub returns-in-None-clause-fine : goal.returns-in-None-clause-fine
returns-in-None-clause-fine c = λ k at r w h. c.first_of.ensures.fine k at (length (spots_of c.args.world.now)) r h
