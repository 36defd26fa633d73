-- A well-formed program has few fields.
use Rattle.std.proofs.Common.{◌≡◌, ◌<◌, ◌≤◌, true, length, arith, leb-true}
use Rattle.std.specs.Prelude.{◌&&◌, ◌^◌, nat_le, nat_lt}
use Rattle.std.proofs.lemmas.Bool.{and_parts}
use Rattle.program_model.specs.declared.program.Program.{Program}
use Rattle.program_model.specs.ProgramRules.{is_well_formed}
use Rattle.program_model.specs.TableRules.{tables_are_short, texts_are_short, entries_fit, entries_differ, tables_fit}
use Rattle.program_model.proofs.Formed.{formed}

short_of : (p : Program) → is_well_formed p ≡ true → tables_are_short p ≡ true
unfolding tables_fit
short_of p h = (and_parts (tables_are_short p) (texts_are_short p) (and_parts (tables_are_short p && texts_are_short p) (entries_fit p && entries_differ p) (formed p h).tables).0).0

short_fields : (p : Program) → tables_are_short p ≡ true → length p.fields < 2 ^ 32
unfolding tables_are_short
short_fields p h =
    let names = and_parts (nat_le (length p.types) 65535 && nat_le (length p.protos) 65535) (nat_le (length p.fields) 65536 && nat_le (length p.methods) 65536)
    (and_parts (nat_lt (length p.strings) (2 ^ 32) && nat_lt (length p.classes) (2 ^ 32)) ((nat_le (length p.types) 65535 && nat_le (length p.protos) 65535) && (nat_le (length p.fields) 65536 && nat_le (length p.methods) 65536)) h).1 in
    let few : length p.fields ≤ 65536 = leb-true (length p.fields) 65536 (and_parts (nat_le (length p.fields) 65536) (nat_le (length p.methods) 65536) names.1).0 in
    omega (arith, few)

pub few_fields : (p : Program) → is_well_formed p ≡ true → length p.fields < 2 ^ 32
few_fields p h = short_fields p (short_of p h)
