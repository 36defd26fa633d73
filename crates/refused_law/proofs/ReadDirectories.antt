-- Directories of annotations behind tables and class data that were read.
use Rattle.std.proofs.Common.{◌≡◌, ◌<◌, ℕ, zero, suc, ◌+◌, ◌*◌, Bool, true, false, cond, eqb, List, [], ◌∷◌, ◌++◌, map, Option, Some, None, Ok, refl, sym, ap, subst, ◌∙◌, arith}
use Rattle.std.specs.Prelude.{slice_get}
use Rattle.std.specs.Option.{option_map}
use Rattle.std.proofs.lemmas.Bool.{eq-eqb}
use Rattle.std.proofs.lemmas.List.{append-nil}
use Rattle.lemmas.proofs.Options.{some_same}
use Rattle.program_model.specs.declared.program.Field.{Field}
use Rattle.program_model.specs.declared.program.Method.{Method}
use Rattle.program_model.specs.declared.program.Program.{Program}
use Rattle.dex_pools.specs.declared.header.Extent.{Extent}
use Rattle.dex_pools.specs.Spelled.{IsExtent}
use Rattle.dex_defs.specs.ClassData.{Entry, IsClassDataOf}
use Rattle.dex_defs.specs.ClassDefs.{Def}
use Rattle.dex_defs.specs.ClassFaults.{IsOfKind}
use Rattle.dex_defs.specs.Places.{HasDef, HasEntry}
use Rattle.dex_read.specs.declared.class_data.Listed.{Listed}
use Rattle.dex_read.specs.declared.class_data.Members.{Members}
use Rattle.dex_read.specs.declared.class_defs.ClassDef.{ClassDef}
use Rattle.dex_read.specs.ClassData.{place_in}
use Rattle.dex_read.specs.Classes.{def_at}
use Rattle.dex_read.specs.Classes as classes
use Rattle.dex_read.specs.Directory.{directory_at}
use Rattle.dex_read.specs.File.{head_at}
use Rattle.file_laws.specs.Class.{def_of, IsReadDef}
use Rattle.file_laws.specs.ClassData.{entry_of, lists_of}
use Rattle.file_laws.proofs.Classes.{founds_def}
use Rattle.read_laws.proofs.Bounds.{AreBytes}
use Rattle.spelled_law.proofs.Classes.{AreListed, founds_listed}
use Rattle.refused_law.specs.Just.{IsJust}
use Rattle.refused_law.proofs.Defs.{has_def}
use Rattle.refused_law.proofs.DirectoryFaults.{fails_directory}
use Rattle.refused_law.proofs.Failing.{Fails}
use Rattle.refused_law.proofs.OnceEntries.{list_of, same_def, listed_once}
use Rattle.refused_law.proofs.Read.{has_tables, sizes_are, class_there, fails_set, fails_sets}

-- ---- an entry of a list is found in it

tail_none : (n : ℕ) (a : Listed) (more : List Listed) → place_in n (a ∷ more) ≡ None → place_in n more ≡ None
tail_none n a more h = by_first (eqb a.number n) (place_in n more) h
  where
    by_first : (b : Bool) (o : Option ℕ) → cond b (Some 0) (option_map suc o) ≡ None → o ≡ None
    by_first true o h = absurd cc
    by_first false None h = refl
    by_first false (Some k) h = absurd cc

none_right : (n : ℕ) (front back : List Listed) → place_in n (front ++ back) ≡ None → place_in n back ≡ None
none_right n [] back h = h
none_right n (a ∷ front) back h = none_right n front back (tail_none n a (front ++ back) h)

found_one : (front back : List Listed) (k : ℕ) (e : Entry) → slice_get (map entry_of front) k ≡ Some e → place_in e.number (front ++ back) ≡ None → ⊥
found_one [] back k e there h = absurd cc
found_one (x ∷ xs) back zero e there h =
    let same : x.number ≡ e.number = ap (λ (y : Entry). y.number) (some_same (entry_of x) e there) in
    some_none (sym (ap (λ (b : Bool). cond b (Some 0) (option_map suc (place_in e.number (xs ++ back)))) (eq-eqb x.number e.number same)) ∙ h)
  where
    some_none : {n : ℕ} → Some n ≡ None → ⊥
    some_none e = absurd cc
found_one (x ∷ xs) back (suc k) e there h = found_one xs back k e there (tail_none e.number x (xs ++ back) h)

found_last : (front back : List Listed) (k : ℕ) (e : Entry) → slice_get (map entry_of back) k ≡ Some e → place_in e.number (front ++ back) ≡ None → ⊥
found_last front [] k e there h = absurd cc
found_last front (x ∷ xs) k e there h = found_one (x ∷ xs) [] k e there (subst (λ (l : List Listed). place_in e.number l ≡ None) (sym (append-nil (x ∷ xs))) (none_right e.number front (x ∷ xs) h))

module _ (bytes : List ℕ) (class : ℕ) (def : Def) (has : HasDef bytes class def) (m : Members) (data_is : IsClassDataOf bytes def.data_at (lists_of m)) where
  -- whatever entry stands in the class data of the class was read
  was_read : (which k : ℕ) (e : Entry) → HasEntry bytes class which k e → slice_get (list_of (lists_of m) which) k ≡ Some e
  was_read which k e x = by_offset def.data_at refl data_is
    where
      by_offset : (offset : ℕ) → offset ≡ def.data_at → IsClassDataOf bytes offset (lists_of m) → slice_get (list_of (lists_of m) which) k ≡ Some e
      by_offset zero same h = absurd (let some = x.leads.0 in let its = ap (λ (y : Def). y.data_at) (same_def bytes class which k def e has x) in omega (arith, some, its, same))
      by_offset (suc j) same h = listed_once bytes (suc j) (lists_of m) h.0 h.1 class which k def e has (sym same) x

  no_field : (number : ℕ) → place_in number (m.statics ++ m.instances) ≡ None → (which k : ℕ) (e : Entry) → IsOfKind 0 which → HasEntry bytes class which k e → e.number ≡ number → ⊥
  no_field number none zero k e kind x same = found_one m.statics m.instances k e (was_read 0 k e x) (subst (λ (n : ℕ). place_in n (m.statics ++ m.instances) ≡ None) (sym same) none)
  no_field number none (suc zero) k e kind x same = found_last m.statics m.instances k e (was_read 1 k e x) (subst (λ (n : ℕ). place_in n (m.statics ++ m.instances) ≡ None) (sym same) none)
  no_field number none (suc (suc which)) k e kind x same = absurd (omega (arith, kind))

  no_method : (number : ℕ) → place_in number (m.directs ++ m.virtuals) ≡ None → (which k : ℕ) (e : Entry) → IsOfKind 1 which → HasEntry bytes class which k e → e.number ≡ number → ⊥
  no_method number none zero k e kind x same = absurd (omega (arith, kind))
  no_method number none (suc zero) k e kind x same = absurd (omega (arith, kind))
  no_method number none (suc (suc zero)) k e kind x same = found_one m.directs m.virtuals k e (was_read 2 k e x) (subst (λ (n : ℕ). place_in n (m.directs ++ m.virtuals) ≡ None) (sym same) none)
  no_method number none (suc (suc (suc zero))) k e kind x same = found_last m.directs m.virtuals k e (was_read 3 k e x) (subst (λ (n : ℕ). place_in n (m.directs ++ m.virtuals) ≡ None) (sym same) none)
  no_method number none (suc (suc (suc (suc which)))) k e kind x same = none_some (was_read (suc (suc (suc (suc which)))) k e x)
    where
      none_some : None ≡ Some e → ⊥
      none_some e = absurd cc

pub fails_its_directory : (bytes : List ℕ) (are : AreBytes bytes) (p : Program) (left : ℕ) (head : head_at bytes ≡ Ok (p, left)) (table : Extent) (stands : IsExtent bytes 96 32 table) (place : ℕ) (less : place < table.size) (d : ClassDef)
    → def_at bytes p (table.offset + 32 * place) ≡ Ok d → (m : Members) → classes.listed_at bytes p (record { place = place; kind = d.class }) d.data_at ≡ Ok m → 0 < d.annotations
    → (fields : List Field) (methods : List Method) (behind : ℕ) → Fails (IsJust bytes) (directory_at bytes p place m d.annotations fields methods behind)
fails_its_directory bytes are p left head table stands place less d h m g some fields methods behind =
    let is : IsReadDef bytes p (table.offset + 32 * place) d = (founds_def bytes p (table.offset + 32 * place)).found d h in
    let listed : AreListed bytes p (record { place = place; kind = d.class }) d.data_at m = (founds_listed bytes p (record { place = place; kind = d.class }) d.data_at).found m g in
    let has : HasDef bytes place (def_of d) = has_def bytes are p (has_tables bytes are p left head) place (table.offset + 32 * place) (class_there bytes are p left head table stands place less) d is in
    let sizes = sizes_are bytes are p left head in
    fails_directory bytes place (def_of d) has d.annotations (some, refl) p m sizes.fields sizes.methods (fails_set bytes are p left head) (fails_sets bytes are p left head)
    (no_field bytes place (def_of d) has m listed.data_is) (no_method bytes place (def_of d) has m listed.data_is) fields methods behind
