-- The first values of a file that is read are those of static fields, and of their types.
use Rattle.std.proofs.Common.{◌≡◌, ◌<◌, ℕ, zero, suc, ◌+◌, ◌*◌, true, List, [], ◌∷◌, length, Some, Ok, refl, sym, ap, subst, ◌∙◌, arith}
use Rattle.std.specs.Prelude.{slice_get}
use Rattle.lemmas.proofs.Lists.{got_short}
use Rattle.lemmas.proofs.Options.{some_same}
use Rattle.dex_base.specs.Word.{Is16}
use Rattle.program_model.specs.MemberRules.{field_letter}
use Rattle.program_model.specs.Texts.{letter_of}
use Rattle.program_model.specs.declared.program.Class.{Class}
use Rattle.program_model.specs.declared.program.Field.{Field}
use Rattle.program_model.specs.declared.program.Program.{Program}
use Rattle.program_model.specs.declared.value.EncValue.{EncValue, out-EncValue}
use Rattle.dex_pools.specs.declared.scalar.TableSizes.{TableSizes}
use Rattle.dex_defs.specs.Annotations.{Directory}
use Rattle.dex_defs.specs.ClassData.{Entry, Lists, IsClassData, IsClassDataOf}
use Rattle.dex_defs.specs.ClassDefs.{Def, AreFields}
use Rattle.dex_defs.specs.Faults.{HasFieldLetter, HasStatics, NoData, Counted}
use Rattle.dex_defs.specs.Places.{HasDef, Leads, HasEntry, HasArray, IsItemOf}
use Rattle.dex_defs.specs.Spells.{Spells}
use Rattle.dex_defs.specs.Values.{tag_at, IsValue, suits, tag_of, is_of, letter_of_field, AreFirsts}
use Rattle.dex_read.specs.Tables.{sizes_in}
use Rattle.dex_read.specs.declared.members.Budget.{Budget}
use Rattle.dex_read.specs.File.{classes_at}
use Rattle.refused_law.proofs.FirstFaults.{value_type}
use Rattle.refused_law.proofs.OnceEntries.{listed_once}
use Rattle.refused_law.proofs.ValueFaults.{AreSizes}
use Rattle.spelled_law.proofs.Once.{once_16, once_uleb}
use Rattle.clean_files.proofs.Tables as tables
use Rattle.clean_files.proofs.Tables.{entry_is}
use Rattle.clean_files.proofs.Classes.{ClassRead, one_def, class_of}
use Rattle.clean_files.proofs.Values.{array_read, item_read}

-- ---- lists

-- the field that a first value is given to
record Given (p : Program) (v : EncValue) (fs : List Field) (k : ℕ) : Type 0 where
  f : Field
  there : slice_get fs k ≡ Some f
  is : is_of (letter_of_field p f.name) v ≡ true

given : (p : Program) (vs : List EncValue) (fs : List Field) (k : ℕ) (v : EncValue) → AreFirsts p vs fs → slice_get vs k ≡ Some v → Given p v fs k
given p [] fs k v h e = absurd cc
given p (w ∷ vs) [] k v h e = absurd h
given p (w ∷ vs) (f ∷ fs) zero v h e = record { f = f; there = refl; is = subst (λ x. is_of (letter_of_field p f.name) x ≡ true) (some_same w v e) h.0 }
given p (w ∷ vs) (f ∷ fs) (suc k) v h e = let r = given p vs fs k v h.2 e in record { f = r.f; there = r.there; is = r.is }

fields_long : (bytes : List ℕ) (sizes : TableSizes) (d : Directory) (es : List Entry) (fs : List Field) → AreFields bytes sizes d es fs → length fs ≡ length es
fields_long bytes sizes d [] [] h = refl
fields_long bytes sizes d [] (f ∷ fs) h = absurd h
fields_long bytes sizes d (e ∷ es) [] h = absurd h
fields_long bytes sizes d (e ∷ es) (f ∷ fs) h = ap suc (fields_long bytes sizes d es fs h.1)

field_there : (bytes : List ℕ) (sizes : TableSizes) (d : Directory) (es : List Entry) (fs : List Field) (k : ℕ) (e : Entry) (f : Field) → AreFields bytes sizes d es fs → slice_get es k ≡ Some e → slice_get fs k ≡ Some f → f.name ≡ e.number
field_there bytes sizes d [] fs k e f h there g = absurd cc
field_there bytes sizes d (x ∷ xs) [] k e f h there g = absurd h
field_there bytes sizes d (x ∷ xs) (y ∷ ys) zero e f h there g = sym (ap (λ (z : Field). z.name) (some_same y f g)) ∙ h.0.number ∙ ap (λ (z : Entry). z.number) (some_same x e there)
field_there bytes sizes d (x ∷ xs) (y ∷ ys) (suc k) e f h there g = field_there bytes sizes d xs ys k e f h.1 there g

data_led : (bytes : List ℕ) (offset at : ℕ) (l : Lists) → Leads offset at → IsClassDataOf bytes offset l → (stop : ℕ) × IsClassData bytes at l stop
data_led bytes zero at l leads h = absurd (omega (arith, leads.0))
data_led bytes (suc k) at l leads h = (h.0, subst (λ n. IsClassData bytes n l h.0) (sym leads.1) h.1)

no_data : (bytes : List ℕ) (offset : ℕ) (l : Lists) → offset ≡ 0 → IsClassDataOf bytes offset l → length l.statics ≡ 0
no_data bytes zero l e h = ap (λ (x : Lists). length x.statics) h
no_data bytes (suc k) l e h = absurd cc

module _ (bytes : List ℕ) (q : Program) (left : Budget) (cs : List Class) (filled : classes_at bytes q left ≡ Ok cs) (s : Spells bytes (record q { classes = cs })) (sizes : AreSizes bytes (sizes_in q)) where
  abbrev p : Program
  p = record q { classes = cs }

  -- a first value that is read, and its field
  record FirstRead (class place at : ℕ) (def : Def) : Type 0 where
    c : ClassRead bytes q cs class def
    v : EncValue
    stop : ℕ
    is : IsValue bytes (sizes_in q) 64 at (v, stop)
    first : Given p v c.is.statics place

  first_read : (class array place at : ℕ) → (h : HasArray bytes class array) → IsItemOf bytes array place at → FirstRead class place at h.def
  first_read class array place at h item =
      let c = class_of bytes q left cs filled s class h.def h.has in
      let a = array_read bytes q left cs filled s sizes class array h c in
      let r = item_read bytes (sizes_in q) 64 array place at c.is.values a.stop a.are item in
      record { c = c; v = r.v; stop = r.stop; is = r.is; first = given p c.is.values c.is.statics place r.v c.is.firsts r.there }

  statics_long : (class count : ℕ) (def : Def) → HasDef bytes class def → (c : ClassRead bytes q cs class def) → HasStatics bytes class count → length c.is.statics ≡ count
  statics_long class count def has c (NoData d g none e) =
      let same : c.is.def.data_at ≡ 0 = ap (λ (x : Def). x.data_at) (c.same ∙ one_def bytes class def d has g) ∙ none in
      fields_long bytes (sizes_in q) c.is.directory c.is.lists.statics c.is.statics c.is.are_statics ∙ no_data bytes c.is.def.data_at c.is.lists same c.is.parts.lists_are ∙ sym e
  statics_long class count def has c (Counted d at behind g leads is) =
      let same : c.is.def ≡ d = c.same ∙ one_def bytes class def d has g in
      let l = data_led bytes c.is.def.data_at at c.is.lists (subst (λ (x : Def). Leads x.data_at at) (sym same) leads) c.is.parts.lists_are in
      let n = ap (λ (x : ℕ × ℕ). x.0) (once_uleb bytes at (length c.is.lists.statics, l.1.counts.second) (count, behind) l.1.counts.statics is) in
      fields_long bytes (sizes_in q) c.is.directory c.is.lists.statics c.is.statics c.is.are_statics ∙ n

  pub not_past : (class array place at count : ℕ) → HasArray bytes class array → IsItemOf bytes array place at → HasStatics bytes class count → place < count
  not_past class array place at count has item statics =
      let r = first_read class array place at has item in
      let short = got_short r.c.is.statics place r.first.f r.first.there in
      let long = statics_long class count has.def has.has r.c statics in
      omega (arith, short, long)

  letter_read : (field letter : ℕ) → HasFieldLetter bytes field letter → letter_of_field p field ≡ letter
  letter_read field letter h =
      let l = tables.field_listed bytes p s field h.entry h.stands in
      let here = (entry_is bytes 80 8 field h.entry s.pools.tables.fields s.pools.stand.fields h.stands).1 in
      let same : l.x.kind ≡ h.kind = once_16 bytes (s.pools.tables.fields.offset + 8 * field + 2) l.x.kind h.kind l.is.kind.is (subst (λ n. Is16 bytes (n + 2) h.kind) here h.is_kind) in
      ap (field_letter p) l.there ∙ ap (letter_of p) same ∙ tables.first_letter bytes p s h.kind letter h.is

  pub fits_first : (class array place at letter : ℕ) (e : Entry) → HasArray bytes class array → IsItemOf bytes array place at → HasEntry bytes class 0 place e → HasFieldLetter bytes e.number letter → suits letter (tag_at bytes at) ≡ true
  fits_first class array place at letter e has item entry is =
      let r = first_read class array place at has item in
      let same : r.c.is.def ≡ entry.def = r.c.same ∙ one_def bytes class has.def entry.def has.has entry.has in
      let l = data_led bytes r.c.is.def.data_at entry.data_at r.c.is.lists (subst (λ (x : Def). Leads x.data_at entry.data_at) (sym same) entry.leads) r.c.is.parts.lists_are in
      let there = listed_once bytes entry.data_at r.c.is.lists l.0 l.1 class 0 place entry.def e entry.has (sym entry.leads.1) entry in
      let name : r.first.f.name ≡ e.number = field_there bytes (sizes_in q) r.c.is.directory r.c.is.lists.statics r.c.is.statics place e r.first.f r.c.is.are_statics there r.first.there in
      let type_of = value_type bytes (sizes_in q) (IsValue bytes (sizes_in q) 63) at (r.v, r.stop) r.is in
      ap (suits letter) (sym type_of.is) ∙ ap (λ n. suits n (tag_of (out-EncValue r.v))) (sym (ap (letter_of_field p) name ∙ letter_read e.number letter is)) ∙ r.first.is
