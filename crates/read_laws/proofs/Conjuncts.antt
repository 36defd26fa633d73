-- Each rule of the tables holds of what is read.
use Rattle.std.proofs.Common.{◌≡◌, ◌<◌, ◌^◌, ℕ, List, true, Ok, sym, subst, length}
use Rattle.std.specs.Prelude.{◌&&◌, sum_by, nat_lt, nat_le}
use Rattle.std.proofs.lemmas.Bool.{le-leb, lt-ltb}
use Rattle.program_model.specs.declared.program.Program.{Program}
use Rattle.program_model.specs.declared.program.Class.{Class}
use Rattle.program_model.specs.declared.program.Version.{Version}
use Rattle.program_model.specs.Distinct.{all_differ, text_key, type_key, proto_key, field_key, method_key}
use Rattle.std.specs.List.{list_all}
use Rattle.lemmas.proofs.Bools.{and_both}
use Rattle.program_model.specs.TableRules.{type_fits, proto_fits, field_id_fits, method_id_fits, tables_are_short, texts_are_short, entries_fit, entries_differ, tables_fit}
use Rattle.dex_pools.specs.declared.pools.Pools.{Pools}
use Rattle.dex_pools.specs.Spelled.{IsType, IsProto, IsField, IsMethod, SpellsPools}
use Rattle.dex_pools.specs.Tables.{letters_of}
use Rattle.dex_read.specs.File.{tables_with, program_at}
use Rattle.dex_read.specs.Kept.{KeepsLimits}
use Rattle.dex_read.proofs.Keeping.{keeps}
use Rattle.read_laws.proofs.Bounds.{AreBytes, word_below, few_classes}
use Rattle.read_laws.proofs.Booleans.{each_passes}
use Rattle.read_laws.proofs.Differing.{texts_differ, types_differ, protos_differ, fields_differ, methods_differ}
use Rattle.read_laws.proofs.Fitting.{Sized, type_of, proto_of, field_of, method_of}
use Rattle.read_laws.proofs.Told.{is_read}

abbrev filled : Version → Pools → List Class → Program
filled version pools classes = record (tables_with version pools) { classes = classes }

-- a rule that holds of the tables that are spelled, whatever the classes are
by_pools : (Holds : Program → Type 0) → (bytes : List ℕ) (p : Program) → ((version : Version) (pools : Pools) (classes : List Class) → SpellsPools bytes 16777216 pools → Holds (filled version pools classes))
    → program_at bytes ≡ Ok p → Holds p
by_pools Holds bytes p to h =
    let r = is_read bytes p h in
    subst Holds (sym r.is) (subst (λ (t : Program). Holds (record t { classes = r.classes })) (sym r.made) (to r.version r.pools r.classes r.spells))

differ_in : (bytes : List ℕ) (version : Version) (pools : Pools) (classes : List Class) → SpellsPools bytes 16777216 pools → entries_differ (filled version pools classes) ≡ true
unfolding entries_differ
differ_in bytes version pools classes s =
    and_both (all_differ text_key pools.strings && all_differ type_key pools.types) (all_differ proto_key pools.protos && (all_differ field_key pools.fields && all_differ method_key pools.methods))
    (and_both (all_differ text_key pools.strings) (all_differ type_key pools.types) (texts_differ pools.strings s.strings_ascend) (types_differ pools.types s.types_ascend))
    (and_both (all_differ proto_key pools.protos) (all_differ field_key pools.fields && all_differ method_key pools.methods) (protos_differ pools.protos s.protos_ascend)
    (and_both (all_differ field_key pools.fields) (all_differ method_key pools.methods) (fields_differ pools.fields s.fields_ascend) (methods_differ pools.methods s.methods_ascend)))

pub all_entries_differ : (bytes : List ℕ) (p : Program) → program_at bytes ≡ Ok p → entries_differ p ≡ true
all_entries_differ bytes p h = by_pools (λ q. entries_differ q ≡ true) bytes p (differ_in bytes) h

fit_in : (bytes : List ℕ) (version : Version) (pools : Pools) (classes : List Class) → SpellsPools bytes 16777216 pools → entries_fit (filled version pools classes) ≡ true
unfolding entries_fit
fit_in bytes version pools classes s =
    let p : Program = filled version pools classes in
    let t = s.tables in
    let letters : List ℕ = letters_of pools.strings pools.types in
    let sized : Sized t p = record { strings = s.strings.0; types = s.types.0; protos = s.protos.0 } in
    and_both (list_all (type_fits p) pools.types) (list_all (proto_fits p) pools.protos && (list_all (field_id_fits p) pools.fields && list_all (method_id_fits p) pools.methods))
    (each_passes (IsType bytes t pools.strings) (type_fits p) (type_of bytes t p sized) 0 pools.types s.types.1)
    (and_both (list_all (proto_fits p) pools.protos) (list_all (field_id_fits p) pools.fields && list_all (method_id_fits p) pools.methods)
    (each_passes (IsProto bytes t pools.strings letters) (proto_fits p) (proto_of bytes t p sized) 0 pools.protos s.protos.1)
    (and_both (list_all (field_id_fits p) pools.fields) (list_all (method_id_fits p) pools.methods)
    (each_passes (IsField bytes t letters) (field_id_fits p) (field_of bytes t p sized) 0 pools.fields s.fields.1)
    (each_passes (IsMethod bytes t) (method_id_fits p) (method_of bytes t p sized) 0 pools.methods s.methods.1)))

pub all_entries_fit : (bytes : List ℕ) (p : Program) → program_at bytes ≡ Ok p → entries_fit p ≡ true
all_entries_fit bytes p h = by_pools (λ q. entries_fit q ≡ true) bytes p (fit_in bytes) h

texts_in : (bytes : List ℕ) (version : Version) (pools : Pools) (classes : List Class) → SpellsPools bytes 16777216 pools → texts_are_short (filled version pools classes) ≡ true
unfolding texts_are_short
texts_in bytes version pools classes s = le-leb (sum_by length pools.strings) 16777216 s.units

pub all_texts_short : (bytes : List ℕ) (p : Program) → program_at bytes ≡ Ok p → texts_are_short p ≡ true
all_texts_short bytes p h = by_pools (λ q. texts_are_short q ≡ true) bytes p (texts_in bytes) h

short_if : (p : Program) → KeepsLimits p → length p.strings < 2 ^ 32 → tables_are_short p ≡ true
unfolding tables_are_short
short_if p k strings =
    and_both (nat_lt (length p.strings) (2 ^ 32) && nat_lt (length p.classes) (2 ^ 32)) ((nat_le (length p.types) 65535 && nat_le (length p.protos) 65535) && (nat_le (length p.fields) 65536 && nat_le (length p.methods) 65536))
    (and_both (nat_lt (length p.strings) (2 ^ 32)) (nat_lt (length p.classes) (2 ^ 32)) (lt-ltb (length p.strings) (2 ^ 32) strings) (lt-ltb (length p.classes) (2 ^ 32) k.classes))
    (and_both (nat_le (length p.types) 65535 && nat_le (length p.protos) 65535) (nat_le (length p.fields) 65536 && nat_le (length p.methods) 65536)
    (and_both (nat_le (length p.types) 65535) (nat_le (length p.protos) 65535) (le-leb (length p.types) 65535 k.types) (le-leb (length p.protos) 65535 k.protos))
    (and_both (nat_le (length p.fields) 65536) (nat_le (length p.methods) 65536) (le-leb (length p.fields) 65536 k.fields) (le-leb (length p.methods) 65536 k.methods)))

pub all_limits : (bytes : List ℕ) (p : Program) → AreBytes bytes → program_at bytes ≡ Ok p → KeepsLimits p
all_limits bytes p b h =
    let r = is_read bytes p h in
    subst KeepsLimits (sym r.is) (keeps bytes r.tables r.left r.classes r.head (few_classes bytes r.tables (record { items = r.left; cells = 0 }) r.classes b r.filled))

few_strings : (bytes : List ℕ) → AreBytes bytes → (version : Version) (pools : Pools) (classes : List Class) → SpellsPools bytes 16777216 pools → length pools.strings < 2 ^ 32
few_strings bytes b version pools classes s = subst (λ n. n < 2 ^ 32) (sym s.strings.0) (word_below bytes b 56 s.tables.strings.size s.stand.strings.size)

pub all_tables_short : (bytes : List ℕ) (p : Program) → AreBytes bytes → program_at bytes ≡ Ok p → tables_are_short p ≡ true
all_tables_short bytes p b h = short_if p (all_limits bytes p b h) (by_pools (λ q. length q.strings < 2 ^ 32) bytes p (few_strings bytes b) h)

pub all_tables_fit : (bytes : List ℕ) (p : Program) → AreBytes bytes → program_at bytes ≡ Ok p → tables_fit p ≡ true
unfolding tables_fit
all_tables_fit bytes p b h =
    and_both (tables_are_short p && texts_are_short p) (entries_fit p && entries_differ p)
    (and_both (tables_are_short p) (texts_are_short p) (all_tables_short bytes p b h) (all_texts_short bytes p h))
    (and_both (entries_fit p) (entries_differ p) (all_entries_fit bytes p h) (all_entries_differ bytes p h))
