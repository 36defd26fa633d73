-- First values behind tables and class data that were read.
use Rattle.std.proofs.Common.{◌≡◌, ◌<◌, ℕ, zero, suc, ◌+◌, ◌*◌, eqb, true, false, List, [], ◌∷◌, ◌++◌, map, length, Some, Ok, refl, sym, ap, subst, ◌∙◌, arith}
use Rattle.std.specs.Prelude.{slice_get}
use Rattle.std.specs.List.{AllByRecursion}
use Rattle.std.proofs.Math.Nat.{min-le_left}
use Rattle.std.proofs.lemmas.List.{length-map, map-append}
use Rattle.lemmas.proofs.Lists.{got_short, get_there, got_map}
use Rattle.lemmas.proofs.Options.{some_same}
use Rattle.dex_base.specs.Leb.{IsUlebAt}
use Rattle.program_model.specs.MemberRules.{field_letter}
use Rattle.program_model.specs.declared.pools.FieldName.{FieldName}
use Rattle.program_model.specs.declared.program.Field.{Field}
use Rattle.program_model.specs.declared.program.Program.{Program}
use Rattle.dex_pools.specs.declared.header.Extent.{Extent}
use Rattle.dex_pools.specs.Spelled.{IsExtent, IsField}
use Rattle.dex_pools.specs.Tables.{letters_of}
use Rattle.dex_defs.specs.ClassData.{IsClassDataOf}
use Rattle.dex_defs.specs.Faults.{HasLetter, HasFieldLetter, NoData, Counted}
use Rattle.dex_read.specs.declared.class_data.Listed.{Listed}
use Rattle.dex_read.specs.declared.class_data.Members.{Members}
use Rattle.dex_read.specs.declared.class_defs.ClassDef.{ClassDef}
use Rattle.dex_read.specs.declared.members.Owner.{Owner}
use Rattle.dex_read.specs.Classes.{def_at, begun_at}
use Rattle.dex_read.specs.Classes as classes
use Rattle.dex_read.specs.File.{head_at}
use Rattle.dex_read.specs.Tables.{sizes_in}
use Rattle.file_laws.specs.Class.{def_of, IsReadDef}
use Rattle.file_laws.specs.ClassData.{entry_of, lists_of, FieldSuits}
use Rattle.file_laws.proofs.Classes.{founds_def}
use Rattle.read_laws.proofs.Bounds.{AreBytes}
use Rattle.spelled_law.proofs.Classes.{AreListed, founds_listed}
use Rattle.refused_law.specs.Just.{IsJust}
use Rattle.refused_law.proofs.Defs.{has_def, has_letter}
use Rattle.refused_law.proofs.Failing.{Fails, sound, fails_either, each_at}
use Rattle.refused_law.proofs.FirstFaults.{HasStatic, fails_firsts}
use Rattle.refused_law.proofs.Listing.{read_entry, at_zero}
use Rattle.refused_law.proofs.Read.{pools, has_tables, sizes_are, ids_are, class_there}
use Rattle.refused_law.proofs.Tables.{entry_at}

-- the entry at a place of a list of which something is known
one_suits : (P : Listed → Type 0) (es : List Listed) (i : ℕ) (e : Listed) → AllByRecursion P es → slice_get es i ≡ Some e → P e
one_suits P [] i e h there = absurd cc
one_suits P (x ∷ xs) zero e h there = subst P (some_same x e there) h.0
one_suits P (x ∷ xs) (suc i) e h there = one_suits P xs i e h.1 there

none_there : (es : List Listed) (i : ℕ) (e : Listed) → map entry_of es ≡ [] → slice_get es i ≡ Some e → ⊥
none_there [] i e h there = absurd cc
none_there (x ∷ xs) i e h there = absurd cc

none_long : (es : List Listed) → map entry_of es ≡ [] → length es ≡ 0
none_long [] h = refl
none_long (x ∷ xs) h = absurd cc

module _ (bytes : List ℕ) (are : AreBytes bytes) (p : Program) (left : ℕ) (head : head_at bytes ≡ Ok (p, left)) (table : Extent) (stands : IsExtent bytes 96 32 table) (place : ℕ) (less : place < table.size) (d : ClassDef)
    (is : IsReadDef bytes p (table.offset + 32 * place) d) (m : Members) (listed : AreListed bytes p (record { place = place; kind = d.class }) d.data_at m) where
  abbrev owner : Owner
  owner = record { place = place; kind = d.class }

  abbrev at : ℕ
  at = table.offset + 32 * place

  letters : (i : ℕ) (e : Listed) → slice_get m.statics i ≡ Some e → HasFieldLetter bytes e.number (field_letter p (slice_get p.fields e.number))
  letters i e there =
      let below : e.number < (sizes_in p).fields = (one_suits (FieldSuits p owner true []) m.statics i e listed.statics there).0 in
      let f = get_there p.fields e.number (let low = min-le_left (length p.fields) 4294967295 in omega (arith, below, low)) in
      let q = pools bytes are p left head in
      let own : slice_get q.0.fields e.number ≡ Some f.0 = subst (λ (xs : List FieldName). slice_get xs e.number ≡ Some f.0) q.4 f.1 in
      let field = each_at (IsField bytes q.1.tables (letters_of q.0.strings q.0.types)) q.0.fields e.number f.0 q.1.fields.1 own in
      let many : length p.types ≡ q.1.tables.types.size = ap (λ (xs : List ℕ). length xs) q.3 ∙ q.1.types.0 in
      record {
        entry = q.1.tables.fields.offset + 8 * e.number;
        kind = f.0.kind;
        stands = entry_at bytes 80 8 q.1.tables.fields q.1.stand.fields e.number (let short = got_short q.0.fields e.number f.0 own in omega (arith, short, q.1.fields.0));
        is_kind = field.kind.is;
        is = subst (λ o. HasLetter bytes f.0.kind (field_letter p o)) (sym f.1)
            (has_letter bytes are p (has_tables bytes are p left head) place at (class_there bytes are p left head table stands place less) d is f.0.kind (let short = field.kind.below in omega (arith, short, many)));
      }

  by_data : (offset : ℕ) → offset ≡ d.data_at → IsClassDataOf bytes offset (lists_of m) → HasStatic bytes p place m.statics
  by_data zero same h =
      let none : map entry_of m.statics ≡ [] = ap (λ l. l.statics) h in
      record {
        count = NoData (def_of d) (has_def bytes are p (has_tables bytes are p left head) place at (class_there bytes are p left head table stands place less) d is) (sym same) (none_long m.statics none);
        entries = λ i e there. absurd (none_there m.statics i e none there);
        letters = letters;
      }
  by_data (suc k) same h =
      let data_is = h.1 in
      let c = data_is.counts in
      let def_there = has_def bytes are p (has_tables bytes are p left head) place at (class_there bytes are p left head table stands place less) d is in
      let some : 0 < d.data_at = omega (arith, same) in
      let l = at_zero bytes p (ids_are bytes are p left head) owner (def_of d) def_there refl (suc k) (some, same) (length (lists_of m).statics) (length (lists_of m).instances) (length (lists_of m).directs) (length (lists_of m).virtuals) data_is.begin
      (record { four = refl; are = (c.second, c.statics, (c.third, c.instances, (c.fourth, c.directs, (data_is.begin, c.virtuals, refl)))) }) in
      record {
        count = Counted (def_of d) (suc k) c.second def_there (some, same) (subst (λ (n : ℕ). IsUlebAt bytes (suc k) (n, c.second)) (length-map m.statics entry_of) c.statics);
        entries = λ i e there. read_entry bytes p (ids_are bytes are p left head) owner (def_of d) def_there refl (suc k) (some, same) 0 (length (lists_of m).statics) data_is.begin l m.statics data_is.instances_at i (entry_of e) refl data_is.statics
            (got_map entry_of m.statics i e there);
        letters = letters;
      }

  positive_of : (n : ℕ) → eqb n 0 ≡ false → 0 < n
  positive_of zero e = absurd cc
  positive_of (suc n) e = omega arith

  fails_begun : (fields : List Field) (behind : ℕ) → map (λ (f : Field). f.name) fields ≡ map (λ (e : Listed). e.number) (m.statics ++ m.instances) → Fails (IsJust bytes) (begun_at bytes p d.static_values (length m.statics) fields behind)
  unfolding begun_at
  fails_begun fields behind named = fails_either (λ e. sound (fields, behind)) (λ e.
      fails_firsts bytes p (sizes_are bytes are p left head) place d.static_values
      (record { def = def_of d; has = has_def bytes are p (has_tables bytes are p left head) place at (class_there bytes are p left head table stands place less) d is; leads = (positive_of d.static_values e, refl) })
      m.statics (by_data d.data_at refl listed.data_is) (map (λ (e : Listed). e.number) m.instances) fields behind (named ∙ map-append (λ (e : Listed). e.number) m.statics m.instances))

pub fails_its_firsts : (bytes : List ℕ) (are : AreBytes bytes) (p : Program) (left : ℕ) (head : head_at bytes ≡ Ok (p, left)) (table : Extent) (stands : IsExtent bytes 96 32 table) (place : ℕ) (less : place < table.size) (d : ClassDef)
    → def_at bytes p (table.offset + 32 * place) ≡ Ok d → (m : Members) → classes.listed_at bytes p (record { place = place; kind = d.class }) d.data_at ≡ Ok m
    → (fields : List Field) (behind : ℕ) → map (λ (f : Field). f.name) fields ≡ map (λ (e : Listed). e.number) (m.statics ++ m.instances) → Fails (IsJust bytes) (begun_at bytes p d.static_values (length m.statics) fields behind)
fails_its_firsts bytes are p left head table stands place less d h m g fields behind named =
    fails_begun bytes are p left head table stands place less d ((founds_def bytes p (table.offset + 32 * place)).found d h) m ((founds_listed bytes p (record { place = place; kind = d.class }) d.data_at).found m g) fields behind named
