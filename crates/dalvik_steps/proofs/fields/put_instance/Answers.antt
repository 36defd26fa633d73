use Rattle.std.proofs.Common.{ap, refl, subst, sym, ◌∙◌}
use Rattle.std.specs.Prelude.{ℕ, false}
use Rattle.dalvik_defs.specs.Fields.{key_at}
use Rattle.dalvik_state.specs.Views.{names_in, value_of, world_of}
use Rattle.dalvik_state.specs.Worlds.{spots_of}
use Rattle.dalvik_steps.specs.Reaching.{IsPut, PutsField}
use Rattle.dalvik_steps.proofs.FieldReads.{has_fields, with_none}
use Rattle.dalvik_steps.proofs.Written.{instance_written}
use Rattle.dalvik_steps.proofs.fields.put_instance.Goals as goal

pub returns-in_ok-write_field-in-Some-clause-put : goal.returns-in_ok-write_field-in-Some-clause-put
returns-in_ok-write_field-in-Some-clause-put c = λ l k at class index r w h e fine.
    let old = c.args.world.now in
    let new = c.write_field.new.world in
    let number = c.in-Some.number in
    let there = has_fields (spots_of old) c.args.on number (sym c.in-Some.ensures) in
    let put = subst (λ (s : ℕ). PutsField old new number s c.args.datum) e c.in_ok-write_field-in-Some.ensures.put in
    instance_written l r old new k at class index c.args.on c.args.datum number put.before w h fine (record { kind = there.kind; is = there.is; shape = there.shape }) put.puts put.entry put.heap put.statics put.locks put.exposed

pub returns-in-None-clause-put : goal.returns-in-None-clause-put
returns-in-None-clause-put c = λ l k at class index r w h e fine.
    let old = c.args.world.now in
    subst (IsPut l old old false) (sym (with_none (names_in l) old (key_at k at) (world_of (names_in l) old) (value_of (names_in l) c.args.on) (value_of (names_in l) c.args.datum) c.args.on (sym c.in-None.ensures))) refl
