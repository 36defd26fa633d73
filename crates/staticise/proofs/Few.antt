-- How many methods a program has at most.
use Rattle.std.proofs.Common.{◌≡◌, ◌≤◌, ◌^◌, true, length}
use Rattle.std.specs.Prelude.{◌&&◌, nat_lt, nat_le}
use Rattle.std.proofs.lemmas.Bool.{leb-true}
use Rattle.program_model.specs.declared.program.Program.{Program}
use Rattle.program_model.specs.TableRules.{tables_are_short, texts_are_short, entries_fit, entries_differ, tables_fit}
use Rattle.program_model.specs.ProgramRules.{is_well_formed}
use Rattle.program_model.proofs.Formed.{formed}
use Rattle.class_defs.proofs.WellFormed.{and_left, and_right}

whole_of : (p : Program) → tables_fit p ≡ true → tables_are_short p ≡ true
unfolding tables_fit
whole_of p h = and_left (tables_are_short p) (texts_are_short p) (and_left (tables_are_short p && texts_are_short p) (entries_fit p && entries_differ p) h)

pairs_of : (p : Program) → tables_are_short p ≡ true → ((nat_le (length p.types) 65535 && nat_le (length p.protos) 65535) && (nat_le (length p.fields) 65536 && nat_le (length p.methods) 65536)) ≡ true
unfolding tables_are_short
pairs_of p h = and_right (nat_lt (length p.strings) (2 ^ 32) && nat_lt (length p.classes) (2 ^ 32)) ((nat_le (length p.types) 65535 && nat_le (length p.protos) 65535) && (nat_le (length p.fields) 65536 && nat_le (length p.methods) 65536)) h

pub few_methods : (p : Program) → is_well_formed p ≡ true → length p.methods ≤ 65536
few_methods p h = leb-true (length p.methods) 65536 (and_right (nat_le (length p.fields) 65536) (nat_le (length p.methods) 65536)
    (and_right (nat_le (length p.types) 65535 && nat_le (length p.protos) 65535) (nat_le (length p.fields) 65536 && nat_le (length p.methods) 65536) (pairs_of p (whole_of p (formed p h).tables))))
