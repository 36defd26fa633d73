-- What a well-formed program's tables are at first.
use Rattle.std.proofs.Common.{◌≡◌, ◌≤◌, ◌<◌, ◌^◌, true, length, arith}
use Rattle.std.specs.Prelude.{◌&&◌, nat_lt, nat_le, sum_by}
use Rattle.std.proofs.lemmas.Bool.{leb-true}
use Rattle.program_model.specs.declared.program.Program.{Program}
use Rattle.program_model.specs.Items.{items_of}
use Rattle.program_model.specs.TableRules.{tables_are_short, texts_are_short, entries_fit, entries_differ, tables_fit}
use Rattle.program_model.specs.ProgramRules.{is_well_formed}
use Rattle.program_model.proofs.Formed.{formed}
use Rattle.class_defs.proofs.WellFormed.{and_left, and_right, below}

whole_of : (p : Program) → tables_fit p ≡ true → (tables_are_short p && texts_are_short p) ≡ true
unfolding tables_fit
whole_of p h = and_left (tables_are_short p && texts_are_short p) (entries_fit p && entries_differ p) h

short_of : (p : Program) → is_well_formed p ≡ true → tables_are_short p ≡ true
short_of p h = and_left (tables_are_short p) (texts_are_short p) (whole_of p (formed p h).tables)

texts_of : (p : Program) → texts_are_short p ≡ true → sum_by length p.strings ≤ 16777216
unfolding texts_are_short
texts_of p h = leb-true (sum_by length p.strings) 16777216 h

strings_of : (p : Program) → tables_are_short p ≡ true → length p.strings < 2 ^ 32
unfolding tables_are_short
strings_of p h = below (length p.strings) (2 ^ 32) (and_left (nat_lt (length p.strings) (2 ^ 32)) (nat_lt (length p.classes) (2 ^ 32))
    (and_left (nat_lt (length p.strings) (2 ^ 32) && nat_lt (length p.classes) (2 ^ 32)) ((nat_le (length p.types) 65535 && nat_le (length p.protos) 65535) && (nat_le (length p.fields) 65536 && nat_le (length p.methods) 65536)) h))

protos_of : (p : Program) → tables_are_short p ≡ true → length p.protos ≤ 65535
unfolding tables_are_short
protos_of p h = leb-true (length p.protos) 65535 (and_right (nat_le (length p.types) 65535) (nat_le (length p.protos) 65535)
    (and_left (nat_le (length p.types) 65535 && nat_le (length p.protos) 65535) (nat_le (length p.fields) 65536 && nat_le (length p.methods) 65536)
    (and_right (nat_lt (length p.strings) (2 ^ 32) && nat_lt (length p.classes) (2 ^ 32)) ((nat_le (length p.types) 65535 && nat_le (length p.protos) 65535) && (nat_le (length p.fields) 65536 && nat_le (length p.methods) 65536)) h)))

pub few_units : (p : Program) → is_well_formed p ≡ true → sum_by length p.strings ≤ 16777216
few_units p h = texts_of p (and_right (tables_are_short p) (texts_are_short p) (whole_of p (formed p h).tables))

pub few_strings : (p : Program) → is_well_formed p ≡ true → length p.strings < 2 ^ 32
few_strings p h = strings_of p (short_of p h)

pub few_protos : (p : Program) → is_well_formed p ≡ true → length p.protos ≤ 65535
few_protos p h = protos_of p (short_of p h)

pub few_items : (p : Program) → is_well_formed p ≡ true → items_of p ≤ 16777216
few_items p h = leb-true (items_of p) 16777216 (formed p h).items
