-- The parts of classes that are read, and of their members, are good; code is another module's.
use Rattle.std.proofs.Common.{◌≡◌, ◌<◌, ◌≤◌, ◌⊎◌, inl, inr, ℕ, zero, suc, ◌+◌, ◌*◌, List, length, Option, Some, None, Ok, refl, sym, ap, subst, ◌∙◌, arith}
use Rattle.dex_base.specs.Leb.{IsUlebAt}
use Rattle.program_model.specs.declared.program.Class.{Class}
use Rattle.program_model.specs.declared.program.Program.{Program}
use Rattle.program_model.specs.declared.value.EncValue.{EncValue}
use Rattle.dex_pools.specs.declared.scalar.TableSizes.{TableSizes}
use Rattle.dex_defs.specs.ClassData.{Entry}
use Rattle.dex_defs.specs.ClassDefs.{Def, IsDef, IsSource, IsClass}
use Rattle.dex_defs.specs.Parts.{Number, IndexOf, IndexOrNone}
use Rattle.dex_defs.specs.Places.{IsEntryAt, HasDef, Leads, IsEntryOf, EntryStands, HasArray}
use Rattle.dex_defs.specs.Placed.{HasSize}
use Rattle.dex_defs.specs.Spells.{Spells, sizes_in}
use Rattle.dex_defs.specs.Values.{AreValues, AreValuesOf}
use Rattle.dex_read.specs.declared.members.Budget.{Budget}
use Rattle.dex_read.specs.File.{classes_at}
use Rattle.file_laws.specs.ClassData.{lists_of}
use Rattle.spelled_law.proofs.Once.{once_32, uleb_parts}
use Rattle.clean_files.proofs.Parts.{Good}
use Rattle.clean_files.proofs.Tables.{entry_is, listed}
use Rattle.clean_files.proofs.TableParts as parts
use Rattle.clean_files.proofs.Classes.{class_of}
use Rattle.clean_files.proofs.Data.{data_of, standing}
use Rattle.clean_files.proofs.Members.{step_read}

module _ (bytes : List ℕ) (q : Program) (left : Budget) (cs : List Class) (filled : classes_at bytes q left ≡ Ok cs) (s : Spells bytes (record q { classes = cs })) where
  abbrev p : Program
  p = record q { classes = cs }

  -- ---- the class_def

  -- the class_def of an entry of the table
  its_def : (class at : ℕ) → IsEntryAt bytes 96 32 class at → (def : Def) × HasDef bytes class def × IsDef bytes at def
  its_def class at e =
      let here = entry_is bytes 96 32 class at s.table s.stands e in
      let l = listed s.table.size (λ i. IsClass bytes p (sizes_in q) (s.table.offset + 32 * i)) cs class s.classes here.0 in
      let is = subst (λ n. IsDef bytes n l.is.def) (sym here.1) l.is.is_def in
      (l.is.def, record { at = at; stands = e; is = is }, is)

  types_long : length q.types ≡ s.pools.tables.types.size
  types_long = s.pools.types.0

  pub class_type : (class entry size : ℕ) → IsEntryAt bytes 96 32 class entry → HasSize bytes 64 size → Good bytes (IndexOf entry size)
  class_type class entry size e h =
      let d = its_def class entry e in
      let c = class_of bytes q left cs filled s class d.0 d.1 in
      let same = parts.type_size bytes p s size h in
      let name : c.is.def.name ≡ d.0.name = ap (λ (x : Def). x.name) c.same in
      (d.0.name, d.2.name, omega (arith, c.is.is_type, types_long, same, name))

  pub superclass_good : (class entry size : ℕ) → IsEntryAt bytes 96 32 class entry → HasSize bytes 64 size → Good bytes (IndexOrNone (entry + 8) size)
  superclass_good class entry size e h =
      let d = its_def class entry e in
      let c = class_of bytes q left cs filled s class d.0 d.1 in
      let same = parts.type_size bytes p s size h in
      let name : c.is.def.superclass ≡ d.0.superclass = ap (λ (x : Def). x.superclass) c.same in
      (d.0.superclass, d.2.superclass, inl (omega (arith, c.is.above, types_long, same, name)))

  by_source : (strings number size : ℕ) (o : Option ℕ) → strings ≡ size → IsSource strings number o → (number < size) ⊎ (number ≡ 4294967295)
  by_source strings number size None e h = inr h
  by_source strings number size (Some n) e h = inl (omega (arith, h.0, h.1, e))

  pub source_good : (class entry size : ℕ) → IsEntryAt bytes 96 32 class entry → HasSize bytes 56 size → Good bytes (IndexOrNone (entry + 16) size)
  source_good class entry size e h =
      let d = its_def class entry e in
      let c = class_of bytes q left cs filled s class d.0 d.1 in
      let same : length q.strings ≡ size = s.pools.strings.0 ∙ once_32 bytes 56 s.pools.tables.strings.size size s.pools.stand.strings.size h in
      let name : c.is.def.source ≡ d.0.source = ap (λ (x : Def). x.source) c.same in
      (d.0.source, d.2.source, by_source (length q.strings) d.0.source size c.c.source same (subst (λ n. IsSource (length q.strings) n c.c.source) name c.is.source))

  -- ---- counts of members

  -- the four counts, where each one begins
  record Counts (at : ℕ) : Type 0 where
    one : ℕ
    two : ℕ
    three : ℕ
    four : ℕ
    second : ℕ
    third : ℕ
    fourth : ℕ
    behind : ℕ
    is_one : IsUlebAt bytes at (one, second)
    is_two : IsUlebAt bytes second (two, third)
    is_three : IsUlebAt bytes third (three, fourth)
    is_four : IsUlebAt bytes fourth (four, behind)

  counts_of : (class : ℕ) (def : Def) (at : ℕ) → HasDef bytes class def → Leads def.data_at at → Counts at
  counts_of class def at has leads =
      let d = data_of bytes q left cs filled s class def at has leads in
      let c = d.are.data_is.counts in
      record {
        one = length (lists_of d.m).statics;
        two = length (lists_of d.m).instances;
        three = length (lists_of d.m).directs;
        four = length (lists_of d.m).virtuals;
        second = c.second;
        third = c.third;
        fourth = c.fourth;
        behind = d.are.data_is.begin;
        is_one = c.statics;
        is_two = c.instances;
        is_three = c.directs;
        is_four = c.virtuals;
      }

  behind_one : (at n mid m i : ℕ) → IsUlebAt bytes at (n, mid) → IsUlebAt bytes at (m, i) → mid ≡ i
  behind_one at n mid m i a b = (uleb_parts bytes at at n m mid i refl a b).1

  pub first_count : (class at : ℕ) (def : Def) → HasDef bytes class def → Leads def.data_at at → Good bytes (Number at)
  first_count class at def has leads = let c = counts_of class def at has leads in ((c.one, c.second), c.is_one)

  pub second_count : (class at n mid : ℕ) (def : Def) → HasDef bytes class def → Leads def.data_at at → IsUlebAt bytes at (n, mid) → Good bytes (Number mid)
  second_count class at n mid def has leads is =
      let c = counts_of class def at has leads in
      ((c.two, c.third), subst (λ k. IsUlebAt bytes k (c.two, c.third)) (behind_one at c.one c.second n mid c.is_one is) c.is_two)

  pub third_count : (class at n m mid next : ℕ) (def : Def) → HasDef bytes class def → Leads def.data_at at → IsUlebAt bytes at (n, mid) → IsUlebAt bytes mid (m, next) → Good bytes (Number next)
  third_count class at n m mid next def has leads is also =
      let c = counts_of class def at has leads in
      let two = subst (λ k. IsUlebAt bytes k (c.two, c.third)) (behind_one at c.one c.second n mid c.is_one is) c.is_two in
      ((c.three, c.fourth), subst (λ k. IsUlebAt bytes k (c.three, c.fourth)) (behind_one mid c.two c.third m next two also) c.is_three)

  pub fourth_count : (class at n m k mid next last : ℕ) (def : Def) → HasDef bytes class def → Leads def.data_at at → IsUlebAt bytes at (n, mid) → IsUlebAt bytes mid (m, next) → IsUlebAt bytes next (k, last) → Good bytes (Number last)
  fourth_count class at n m k mid next last def has leads is also more =
      let c = counts_of class def at has leads in
      let two = subst (λ i. IsUlebAt bytes i (c.two, c.third)) (behind_one at c.one c.second n mid c.is_one is) c.is_two in
      let three = subst (λ i. IsUlebAt bytes i (c.three, c.fourth)) (behind_one mid c.two c.third m next two also) c.is_three in
      ((c.four, c.behind), subst (λ i. IsUlebAt bytes i (c.four, c.behind)) (behind_one next c.three c.fourth k last three more) c.is_four)

  -- ---- entries

  entry_at : (class data_at which place before at : ℕ) (def : Def) → HasDef bytes class def → Leads def.data_at data_at → EntryStands bytes data_at which place before at → (e : Entry) × (stop : ℕ) × IsEntryOf bytes which before at e stop
  entry_at class data_at which place before at def has leads stands =
      let d = data_of bytes q left cs filled s class def data_at has leads in
      let e = standing bytes q left cs filled s class def data_at has leads d which place before at stands in
      (e.e, e.stop, e.is)

  pub entry_step : (class data_at which place before at : ℕ) (def : Def) → HasDef bytes class def → Leads def.data_at data_at → EntryStands bytes data_at which place before at → Good bytes (Number at)
  entry_step class data_at which place before at def has leads stands =
      let e = entry_at class data_at which place before at def has leads stands in
      let r = step_read bytes which before at e.0 e.1 e.2 in ((r.step, r.mid), r.is_step)

  pub entry_flags : (class data_at which place before at step mid : ℕ) (def : Def) → HasDef bytes class def → Leads def.data_at data_at → EntryStands bytes data_at which place before at → IsUlebAt bytes at (step, mid) → Good bytes (Number mid)
  entry_flags class data_at which place before at step mid def has leads stands is =
      let e = entry_at class data_at which place before at def has leads stands in
      let r = step_read bytes which before at e.0 e.1 e.2 in
      ((e.0.flags, r.stop), subst (λ k. IsUlebAt bytes k (e.0.flags, r.stop)) (behind_one at r.step r.mid step mid r.is_step is) r.flags)

  code_good : (which before at step flags mid next : ℕ) (e : Entry) (stop : ℕ) → 2 ≤ which → IsEntryOf bytes which before at e stop → IsUlebAt bytes at (step, mid) → IsUlebAt bytes mid (flags, next) → Good bytes (Number next)
  code_good zero before at step flags mid next e stop method h is also = absurd (omega (arith, method))
  code_good (suc zero) before at step flags mid next e stop method h is also = absurd (omega (arith, method))
  code_good (suc (suc k)) before at step flags mid next e stop method h is also =
      let f = subst (λ i. IsUlebAt bytes i (e.flags, h.next)) (behind_one at h.step h.mid step mid h.is_step is) h.flags in
      ((e.code, stop), subst (λ i. IsUlebAt bytes i (e.code, stop)) (behind_one mid e.flags h.next flags next f also) h.code)

  pub entry_code : (class data_at which place before at step flags mid next : ℕ) (def : Def) → HasDef bytes class def → Leads def.data_at data_at → EntryStands bytes data_at which place before at → 2 ≤ which → IsUlebAt bytes at (step, mid) → IsUlebAt bytes mid (flags, next) → Good bytes (Number next)
  entry_code class data_at which place before at step flags mid next def has leads stands method is also =
      let e = entry_at class data_at which place before at def has leads stands in
      code_good which before at step flags mid next e.0 e.1 method e.2 is also

  -- ---- first values

  pub values_there : (sizes : TableSizes) (offset at : ℕ) (vs : List EncValue) → Leads offset at → AreValuesOf bytes sizes offset vs → AreValues bytes sizes at vs
  values_there sizes zero at vs leads h = absurd (omega (arith, leads.0))
  values_there sizes (suc k) at vs leads h = subst (λ n. AreValues bytes sizes n vs) (sym leads.1) h

  pub array_count : (class at : ℕ) → HasArray bytes class at → Good bytes (Number at)
  array_count class at h =
      let c = class_of bytes q left cs filled s class h.def h.has in
      let v = values_there _ c.is.def.values at c.is.values (subst (λ (d : Def). Leads d.values at) (sym c.same) h.leads) c.is.are_values in
      ((length c.is.values, v.are.begin), v.are.count)
