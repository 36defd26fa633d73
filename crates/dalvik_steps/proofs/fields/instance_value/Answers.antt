use Rattle.std.proofs.Common.{ap, sym, ◌∙◌}
use Rattle.std.specs.Map.{lookup}
use Rattle.std.specs.Option.{option_map}
use Rattle.std.specs.Prelude.{ℕ, Option, Some, None}
use Rattle.dalvik_defs.specs.Fields.{written_or}
use Rattle.dalvik_defs.specs.State.{zero_of}
use Rattle.dalvik_lookups.specs.Slots.{slot_of}
use Rattle.dalvik_lookups.specs.Views.{type_text}
use Rattle.dalvik_state.specs.Views.{is_at, names_in, value_of}
use Rattle.dalvik_state.specs.declared.datum.Datum.{Datum}
use Rattle.dalvik_steps.proofs.FieldReads.{field_fine, instance_none, instance_there, zero_named}
use Rattle.dalvik_steps.proofs.fields.instance_value.Goals as goal

pub returns-in-Some-written_field-clause-named : goal.returns-in-Some-written_field-clause-named
returns-in-Some-written_field-clause-named c = λ k at class index r h e t.
    let l = c.args.tables.now.lookups in
    let number = c.in-Some.number in
    sym (instance_there l r c.args.world.now k at class index c.args.on number h (sym c.in-Some.ensures)
    ∙ ap (λ (o : Option Datum). Some (written_or (option_map (value_of (names_in l)) o) (zero_of k.kind))) (ap (λ (s : ℕ). lookup (is_at number s) c.args.world.now.fields.entries) (sym e) ∙ sym c.in-Some-written_field.ensures))

pub returns-in-Some-written_field-clause-fine : goal.returns-in-Some-written_field-clause-fine
returns-in-Some-written_field-clause-fine c = λ r w. field_fine c.args.tables.now.lookups c.args.world.now c.in-Some.number c.args.slot c.in-Some-written_field.datum w (sym c.in-Some-written_field.ensures)

pub returns-in-None-written_field-clause-named : goal.returns-in-None-written_field-clause-named
returns-in-None-written_field-clause-named c = λ k at class index r h e t.
    let l = c.args.tables.now.lookups in
    let n = names_in l in
    let number = c.in-Some.number in
    ap (λ (d : Datum). Some (value_of n d)) (c.zero_of.ensures r.tabled.named.types)
    ∙ ap (λ v. Some v) (zero_named n (type_text l.types c.args.kind) ∙ ap zero_of t)
    ∙ sym (instance_there l r c.args.world.now k at class index c.args.on number h (sym c.in-Some.ensures)
    ∙ ap (λ (o : Option Datum). Some (written_or (option_map (value_of n) o) (zero_of k.kind))) (ap (λ (s : ℕ). lookup (is_at number s) c.args.world.now.fields.entries) (sym e) ∙ sym c.in-None-written_field.ensures))

pub returns-in-None-clause-named : goal.returns-in-None-clause-named
returns-in-None-clause-named c = λ k at class index r h e t. sym (instance_none (names_in c.args.tables.now.lookups) c.args.world.now k at c.args.on (sym c.in-None.ensures))
