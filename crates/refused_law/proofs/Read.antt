-- What stands behind tables that were read: their sizes, class_defs and sets of annotations.
use Rattle.std.proofs.Common.{Some, refl, ◌≡◌, ◌<◌, ℕ, ◌+◌, ◌*◌, eqb, List, [], length, min, Ok, sym, ap, subst, ◌∙◌, arith, zero, suc, false}
use Rattle.dex_base.specs.Decides.{Entries}
use Rattle.dex_base.specs.Word.{Is32}
use Rattle.program_model.specs.declared.program.Program.{Program}
use Rattle.dex_pools.specs.declared.header.Extent.{Extent}
use Rattle.dex_pools.specs.declared.pools.Pools.{Pools}
use Rattle.dex_pools.specs.Spelled.{IsExtent, IsString, IsType, IsField, IsMethod, SpellsPools}
use Rattle.dex_pools.specs.Tables.{letters_of}
use Rattle.program_model.specs.Texts.{string_text}
use Rattle.program_model.specs.declared.pools.FieldName.{FieldName}
use Rattle.program_model.specs.declared.pools.MethodName.{MethodName}
use Rattle.std.specs.Prelude.{slice_get}
use Rattle.lemmas.proofs.Lists.{got_short}
use Rattle.file_laws.specs.Class.{def_of}
use Rattle.dex_defs.specs.Places.{HasSet, HasRefs}
use Rattle.dex_read.specs.declared.class_defs.ClassDef.{ClassDef}
use Rattle.dex_read.specs.ClassData.{members_at}
use Rattle.dex_read.specs.Classes.{def_at, interfaces_at, root_at}
use Rattle.dex_read.specs.Directory.{set_at, sets_at}
use Rattle.dex_read.specs.Faults.{of_pool}
use Rattle.dex_read.specs.File.{head_at, classes_at}
use Rattle.dex_read.specs.Standing.{standing_at}
use Rattle.dex_read.specs.declared.members.Budget.{Budget}
use Rattle.program_model.specs.declared.program.Class.{Class}
use Rattle.spelled_law.proofs.Whole.{few_bytes, founds_classes}
use Rattle.refused_law.proofs.Standing.{fails_standing}
use Rattle.dex_read.specs.Tables.{sizes_in}
use Rattle.file_laws.proofs.Classes.{founds_def, founds_interfaces}
use Rattle.file_laws.proofs.Tables.{finds_head}
use Rattle.read_laws.proofs.Bounds.{AreBytes, word_below}
use Rattle.refused_law.specs.Just.{IsJust}
use Rattle.refused_law.proofs.Failing.{Fails, sound, fails_either, fails_lifted, fails_more, each_at}
use Rattle.refused_law.proofs.Defs.{HasTables, IsClassAt, same_length, fails_def, fails_interfaces, fails_root}
use Rattle.refused_law.proofs.Listing.{HasIds, fails_members}
use Rattle.refused_law.proofs.Tables.{entry_at, has_text, text_there}
use Rattle.refused_law.proofs.ValueFaults.{AreSizes, fails_marks, fails_parameters}
use Rattle.refused_law.proofs.Whole.{just_pool}

module _ (bytes : List ℕ) (are : AreBytes bytes) (p : Program) (left : ℕ) (head : head_at bytes ≡ Ok (p, left)) where
  -- the tables of the program, as they stand
  pub pools : (q : Pools) × SpellsPools bytes 16777216 q × (p.strings ≡ q.strings) × (p.types ≡ q.types) × (p.fields ≡ q.fields) × (p.methods ≡ q.methods)
  pools = let h = ((finds_head bytes).found (p, left) head).tables in
      (h.pools, h.spelled, ap (λ (x : Program). x.strings) h.is, ap (λ (x : Program). x.types) h.is, ap (λ (x : Program). x.fields) h.is, ap (λ (x : Program). x.methods) h.is)

  pub has_tables : HasTables bytes p
  has_tables = let s = pools.1 in record {
    t = s.tables;
    stand = s.stand;
    strings = subst (λ (xs : List (List ℕ)). Entries s.tables.strings.size (IsString bytes s.tables.strings) xs) (sym pools.2) s.strings;
    types = subst (λ (xs : List (List ℕ)). Entries s.tables.types.size (IsType bytes s.tables xs) p.types) (sym pools.2)
        (subst (λ (ns : List ℕ). Entries s.tables.types.size (IsType bytes s.tables pools.0.strings) ns) (sym pools.3) s.types);
  }

  pub sizes_are : AreSizes bytes (sizes_in p)
  sizes_are = let s = pools.1 in
      let size : (at n size : ℕ) → n ≡ size → Is32 bytes at size → Is32 bytes at (min n 4294967295) = λ at n size e is. subst (Is32 bytes at) (same_length n size e (word_below bytes are at size is)) is in
      record {
        strings = size 56 (length p.strings) s.tables.strings.size (ap (λ (x : List (List ℕ)). length x) pools.2 ∙ s.strings.0) s.stand.strings.size;
        types = size 64 (length p.types) s.tables.types.size (ap (λ (x : List ℕ). length x) pools.3 ∙ s.types.0) s.stand.types.size;
        fields = size 80 (length p.fields) s.tables.fields.size (ap length pools.4 ∙ s.fields.0) s.stand.fields.size;
        methods = size 88 (length p.methods) s.tables.methods.size (ap length pools.5 ∙ s.methods.0) s.stand.methods.size;
      }

  -- ---- sets of annotations

  positive_of : (n : ℕ) → eqb n 0 ≡ false → 0 < n
  positive_of zero e = absurd cc
  positive_of (suc n) e = omega arith

  pub fails_set : (offset behind : ℕ) → (0 < offset → HasSet bytes offset) → Fails (IsJust bytes) (set_at bytes p offset behind)
  unfolding set_at
  fails_set offset behind has = fails_either (λ _. sound ([], behind)) (λ e. fails_lifted of_pool (fails_more (just_pool bytes) (fails_marks bytes (sizes_in p) sizes_are offset behind (has (positive_of offset e)))))

  pub fails_sets : (offset behind : ℕ) → (0 < offset → HasRefs bytes offset) → Fails (IsJust bytes) (sets_at bytes p offset behind)
  unfolding sets_at
  fails_sets offset behind has = fails_either (λ _. sound ([], behind)) (λ e. fails_lifted of_pool (fails_more (just_pool bytes) (fails_parameters bytes (sizes_in p) sizes_are offset behind (has (positive_of offset e)))))

  -- ---- members

  pub ids_are : HasIds bytes p
  unfolding has_tables pools
  ids_are = let s = pools.1 in let h = has_tables in record {
    fields = λ i f there.
        let own : slice_get pools.0.fields i ≡ Some f = subst (λ (xs : List FieldName). slice_get xs i ≡ Some f) pools.4 there in
        let is = each_at (IsField bytes s.tables (letters_of pools.0.strings pools.0.types)) pools.0.fields i f s.fields.1 own in
        (s.tables.fields.offset + 8 * i, entry_at bytes 80 8 s.tables.fields s.stand.fields i (let short = got_short pools.0.fields i f own in omega (arith, short, s.fields.0)), is.class.is);
    methods = λ i m there.
        let own : slice_get pools.0.methods i ≡ Some m = subst (λ (xs : List MethodName). slice_get xs i ≡ Some m) pools.5 there in
        let is = each_at (IsMethod bytes s.tables) pools.0.methods i m s.methods.1 own in
        (s.tables.methods.offset + 8 * i, entry_at bytes 88 8 s.tables.methods s.stand.methods i (let short = got_short pools.0.methods i m own in omega (arith, short, s.methods.0)), is.class.is, is.name.is);
    texts = λ i m there.
        let own : slice_get pools.0.methods i ≡ Some m = subst (λ (xs : List MethodName). slice_get xs i ≡ Some m) pools.5 there in
        let is = each_at (IsMethod bytes s.tables) pools.0.methods i m s.methods.1 own in
        has_text bytes h.t h.stand p.strings h.strings m.name (string_text p m.name) (text_there bytes h.t h.stand p.strings h.strings m.name is.name.below);
    field_size = sizes_are.fields;
    method_size = sizes_are.methods;
  }

  -- ---- class_defs

  module _ (table : Extent) (stands : IsExtent bytes 96 32 table) (place : ℕ) (less : place < table.size) where
    pub class_there : IsClassAt bytes place (table.offset + 32 * place)
    class_there = record {
      stands = entry_at bytes 96 32 table stands place less;
      inside = let all = stands.inside (omega (arith, less)) in omega (arith, less, all);
    }

    pub fails_class_def : Fails (IsJust bytes) (def_at bytes p (table.offset + 32 * place))
    fails_class_def = fails_def bytes are p has_tables place (table.offset + 32 * place) class_there

    pub fails_its_interfaces : (d : ClassDef) (behind : ℕ) → def_at bytes p (table.offset + 32 * place) ≡ Ok d → Fails (IsJust bytes) (interfaces_at bytes p d.interfaces behind)
    fails_its_interfaces d behind h = fails_interfaces bytes are p has_tables place (table.offset + 32 * place) class_there d ((founds_def bytes p (table.offset + 32 * place)).found d h) behind

    pub fails_its_members : (d : ClassDef) → def_at bytes p (table.offset + 32 * place) ≡ Ok d → 0 < d.data_at → Fails (IsJust bytes) (members_at bytes p (record { place = place; kind = d.class }) d.data_at)
    fails_its_members d h some = let is = (founds_def bytes p (table.offset + 32 * place)).found d h in
        fails_members bytes p ids_are (record { place = place; kind = d.class }) (def_of d) (record { at = table.offset + 32 * place; stands = class_there.stands; is = is.is }) refl d.data_at (some, refl)

    pub fails_its_root : (d : ClassDef) (interfaces : List ℕ) (behind after : ℕ) → def_at bytes p (table.offset + 32 * place) ≡ Ok d → interfaces_at bytes p d.interfaces behind ≡ Ok (interfaces, after) → Fails (IsJust bytes) (root_at p d interfaces place)
    fails_its_root d interfaces behind after h g = fails_root bytes are p has_tables place (table.offset + 32 * place) class_there d ((founds_def bytes p (table.offset + 32 * place)).found d h) interfaces
        ((founds_interfaces bytes p d.interfaces behind).found (interfaces, after) g)

  -- ---- what interfaces stand on

  pub fails_stands : (classes : List Class) (budget : Budget) → classes_at bytes p budget ≡ Ok classes → Fails (IsJust bytes) (standing_at (record p { classes = classes }))
  fails_stands classes budget h =
      let found = (finds_head bytes).found (p, left) head in
      let few = few_bytes bytes found.version are found.header.header in
      let c = (founds_classes bytes few p classes budget).found classes h in
      fails_standing bytes (record p { classes = classes }) (sizes_in p) c.table c.stands c.classes
