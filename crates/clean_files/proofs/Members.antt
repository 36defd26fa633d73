-- The members of a file that is read have no fault.
use Rattle.std.proofs.Common.{◌≡◌, ◌<◌, ◌≤◌, ℕ, zero, suc, ◌+◌, ◌*◌, Bool, true, false, cond, not, eqb, List, [], ◌∷◌, Option, Some, None, Ok, refl, sym, ap, subst, ◌∙◌, arith, true≢false}
use Rattle.std.specs.Prelude.{slice_get, is_none, ◌||◌, ◌==◌}
use Rattle.std.specs.Option.{option_map}
use Rattle.std.proofs.lemmas.Bool.{eqb-true, eq-eqb}
use Rattle.lemmas.proofs.Bools.{and_parts}
use Rattle.lemmas.proofs.Options.{some_same}
use Rattle.dex_base.specs.Leb.{IsUlebAt}
use Rattle.dex_base.specs.Word.{Is16, Is32}
use Rattle.program_model.specs.Texts.{first_unit, string_text}
use Rattle.program_model.specs.MemberRules.{is_static, is_private, class_of_field, class_of_method, is_class_number, name_of_method}
use Rattle.program_model.specs.declared.pools.MethodName.{MethodName}
use Rattle.program_model.specs.declared.program.Class.{Class}
use Rattle.program_model.specs.declared.program.Program.{Program}
use Rattle.dex_defs.specs.ClassData.{Entry}
use Rattle.dex_defs.specs.ClassDefs.{Def}
use Rattle.dex_defs.specs.Places.{IsEntryAt, HasDef, Leads, IsEntryOf, EntryStands, HasEntry}
use Rattle.dex_defs.specs.Placed.{HasSize}
use Rattle.dex_defs.specs.Faults.{HasText}
use Rattle.dex_defs.specs.ClassFaults.{lacks_code, IsIdAt, suits_list, IsPartner, IsTableOf}
use Rattle.dex_defs.specs.Spells.{Spells}
use Rattle.dex_read.specs.ClassData.{place_in, agree, is_direct_entry}
use Rattle.dex_read.specs.Tables.{sizes_in}
use Rattle.dex_read.specs.declared.class_data.Listed.{Listed}
use Rattle.dex_read.specs.declared.class_data.Members.{Members}
use Rattle.dex_read.specs.declared.members.Budget.{Budget}
use Rattle.dex_read.specs.declared.members.Owner.{Owner}
use Rattle.dex_read.specs.File.{classes_at}
use Rattle.spelled_law.proofs.Once.{once_16, once_32, once_uleb}
use Rattle.refused_law.proofs.ValueFaults.{AreSizes}
use Rattle.clean_files.proofs.Tables as tables
use Rattle.clean_files.proofs.Tables.{entry_is}
use Rattle.clean_files.proofs.Classes.{one_def}
use Rattle.clean_files.proofs.Data.{Suits, data_of, entry_read, also_read, standing}

-- ---- a step to a number

pub record StepRead (bytes : List ℕ) (before at : ℕ) (e : Entry) : Type 0 where
  pub step : ℕ
  pub mid : ℕ
  pub stop : ℕ
  pub is_step : IsUlebAt bytes at (step, mid)
  pub flags : IsUlebAt bytes mid (e.flags, stop)
  pub number : e.number ≡ before + step

pub step_read : (bytes : List ℕ) (which before at : ℕ) (e : Entry) (stop : ℕ) → IsEntryOf bytes which before at e stop → StepRead bytes before at e
step_read bytes zero before at e stop h = record { step = h.step; mid = h.mid; stop = stop; is_step = h.is_step; flags = h.flags; number = h.number }
step_read bytes (suc zero) before at e stop h = record { step = h.step; mid = h.mid; stop = stop; is_step = h.is_step; flags = h.flags; number = h.number }
step_read bytes (suc (suc k)) before at e stop h = record { step = h.step; mid = h.mid; stop = h.next; is_step = h.is_step; flags = h.flags; number = h.number }

-- ---- tests

some_place : (es : List Listed) (k n : ℕ) (x : Listed) → slice_get es k ≡ Some x → x.number ≡ n → is_none (place_in n es) ≡ true → ⊥
some_place [] k n x h e none = absurd cc
some_place (y ∷ ys) k n x h e none = by_first (eqb y.number n) refl k h none (λ i g. some_place ys i n x g e)
  where
    none_mapped : (o : Option ℕ) → is_none (option_map suc o) ≡ true → is_none o ≡ true
    none_mapped None g = refl
    none_mapped (Some i) g = absurd cc

    by_first : (b : Bool) → eqb y.number n ≡ b → (k : ℕ) → slice_get (y ∷ ys) k ≡ Some x → is_none (cond b (Some 0) (option_map suc (place_in n ys))) ≡ true
        → ((i : ℕ) → slice_get ys i ≡ Some x → is_none (place_in n ys) ≡ true → ⊥) → ⊥
    by_first true g k h none rest = absurd cc
    by_first false g zero h none rest = true≢false (sym (eq-eqb y.number n (ap (λ (z : Listed). z.number) (some_same y x h) ∙ e)) ∙ g)
    by_first false g (suc i) h none rest = rest i h (none_mapped (place_in n ys) none)

agree_true : (a : Bool) → agree a true ≡ true → a ≡ true
agree_true true h = refl
agree_true false h = absurd cc

agree_false : (a : Bool) → agree a false ≡ true → a ≡ false
agree_false true h = absurd cc
agree_false false h = refl

or_after : (a b c : Bool) → ((a || b) || c) ≡ (a || (b || c))
or_after true b c = refl
or_after false b c = refl

module _ (bytes : List ℕ) (q : Program) (left : Budget) (cs : List Class) (filled : classes_at bytes q left ≡ Ok cs) (s : Spells bytes (record q { classes = cs })) (sizes : AreSizes bytes (sizes_in q)) where
  abbrev p : Program
  p = record q { classes = cs }

  -- what fits a field, and a method, of any list
  record FitsField (owner : Owner) (m : Members) (which : ℕ) (x : Listed) : Type 0 where
    below : x.number < (sizes_in q).fields
    class : is_class_number (class_of_field (slice_get q.fields x.number)) owner.kind ≡ true
    list : suits_list which x.flags.0 0 ≡ true
    once : (k : ℕ) (y : Listed) → which ≡ 1 → slice_get m.statics k ≡ Some y → y.number ≡ x.number → ⊥

  fits_field : (owner : Owner) (m : Members) (which : ℕ) (x : Listed) → which < 2 → Suits q owner m which x → FitsField owner m which x
  fits_field owner m zero x less h =
      let a = and_parts _ _ h.1 in let b = and_parts _ _ a.1 in
      record { below = h.0; class = a.0; list = agree_true (is_static x.flags) b.0; once = λ k y e g i. absurd cc }
  fits_field owner m (suc zero) x less h =
      let a = and_parts _ _ h.1 in let b = and_parts _ _ a.1 in
      record { below = h.0; class = a.0; list = ap not (agree_false (is_static x.flags) b.0); once = λ k y e g i. some_place m.statics k x.number y g i b.1 }
  fits_field owner m (suc (suc k)) x less h = absurd (omega (arith, less))

  record FitsMethod (owner : Owner) (m : Members) (which : ℕ) (x : Listed) : Type 0 where
    below : x.number < (sizes_in q).methods
    class : is_class_number (class_of_method (slice_get q.methods x.number)) owner.kind ≡ true
    list : (name : MethodName) → slice_get q.methods x.number ≡ Some name → suits_list which x.flags.0 (first_unit (string_text q name.name)) ≡ true
    code : agree (x.code == 0) (lacks_code x.flags.0) ≡ true
    once : (k : ℕ) (y : Listed) → which ≡ 3 → slice_get m.directs k ≡ Some y → y.number ≡ x.number → ⊥

  direct_is : (x : Listed) (name : MethodName) → slice_get q.methods x.number ≡ Some name → is_direct_entry q x ≡ (is_static x.flags || (is_private x.flags || first_unit (string_text q name.name) == 60))
  direct_is x name there = ap (λ (o : Option MethodName). (is_static x.flags || is_private x.flags) || first_unit (name_of_method q o) == 60) there ∙ or_after (is_static x.flags) (is_private x.flags) (first_unit (string_text q name.name) == 60)

  fits_method : (owner : Owner) (m : Members) (which : ℕ) (x : Listed) → 2 ≤ which → Suits q owner m which x → FitsMethod owner m which x
  fits_method owner m zero x less h = absurd (omega (arith, less))
  fits_method owner m (suc zero) x less h = absurd (omega (arith, less))
  fits_method owner m (suc (suc zero)) x less h =
      let a = and_parts _ _ h.1 in let b = and_parts _ _ a.1 in let c = and_parts _ _ b.1 in
      record { below = h.0; class = a.0; list = λ name there. sym (direct_is x name there) ∙ agree_true (is_direct_entry q x) b.0; code = c.0; once = λ k y e g i. absurd cc }
  fits_method owner m (suc (suc (suc zero))) x less h =
      let a = and_parts _ _ h.1 in let b = and_parts _ _ a.1 in let c = and_parts _ _ b.1 in
      record {
        below = h.0;
        class = a.0;
        list = λ name there. ap not (sym (direct_is x name there) ∙ agree_false (is_direct_entry q x) b.0);
        code = c.0;
        once = λ k y e g i. some_place m.directs k x.number y g i c.1;
      }
  fits_method owner m (suc (suc (suc (suc k)))) x less h = absurd h

  -- ---- the faults

  -- the number of an entry is that of a table
  below_table : (owner : Owner) (m : Members) (which header size : ℕ) (x : Listed) → Suits q owner m which x → IsTableOf which header → HasSize bytes header size → x.number < size
  below_table owner m zero header size x h e is = let same = once_32 bytes 80 (sizes_in q).fields size sizes.fields (subst (λ n. Is32 bytes n size) e is) in omega (arith, same, h.0)
  below_table owner m (suc zero) header size x h e is = let same = once_32 bytes 80 (sizes_in q).fields size sizes.fields (subst (λ n. Is32 bytes n size) e is) in omega (arith, same, h.0)
  below_table owner m (suc (suc zero)) header size x h e is = let same = once_32 bytes 88 (sizes_in q).methods size sizes.methods (subst (λ n. Is32 bytes n size) e is) in omega (arith, same, h.0)
  below_table owner m (suc (suc (suc zero))) header size x h e is = let same = once_32 bytes 88 (sizes_in q).methods size sizes.methods (subst (λ n. Is32 bytes n size) e is) in omega (arith, same, h.0)
  below_table owner m (suc (suc (suc (suc k)))) header size x h e is = absurd h

  pub entry_below : (class which place header size : ℕ) (e : Entry) → HasEntry bytes class which place e → IsTableOf which header → HasSize bytes header size → e.number < size
  entry_below class which place header size e h of_table is_size =
      let r = entry_read bytes q left cs filled s class which place e h in
      let less = below_table (record { place = class; kind = r.def.name }) r.read.m which header size r.member.x r.member.suits of_table is_size in
      subst (λ (y : Entry). y.number < size) r.member.is less

  pub has_number : (class data_at which place before at step mid header size : ℕ) (def : Def) → HasDef bytes class def → Leads def.data_at data_at → EntryStands bytes data_at which place before at → IsUlebAt bytes at (step, mid)
      → IsTableOf which header → HasSize bytes header size → size ≤ before + step → ⊥
  has_number class data_at which place before at step mid header size def has leads stands is_step of_table is_size high =
      let d = data_of bytes q left cs filled s class def data_at has leads in
      let e = standing bytes q left cs filled s class def data_at has leads d which place before at stands in
      let r = step_read bytes which before at e.e e.stop e.is in
      let same = ap (λ (x : ℕ × ℕ). x.0) (once_uleb bytes at (r.step, r.mid) (step, mid) r.is_step is_step) in
      let less = below_table (record { place = class; kind = def.name }) d.m which header size e.member.x e.member.suits of_table is_size in
      let number : e.member.x.number ≡ before + r.step = ap (λ (y : Entry). y.number) e.member.is ∙ r.number in
      omega (arith, same, less, number, high)

  pub rises : (class data_at which place before at mid : ℕ) (def : Def) → HasDef bytes class def → Leads def.data_at data_at → EntryStands bytes data_at which (suc place) before at → IsUlebAt bytes at (0, mid) → ⊥
  rises class data_at which place before at mid def has leads stands is_step =
      let d = data_of bytes q left cs filled s class def data_at has leads in
      let e = standing bytes q left cs filled s class def data_at has leads d which (suc place) before at stands in
      let r = step_read bytes which before at e.e e.stop e.is in
      let same = ap (λ (x : ℕ × ℕ). x.0) (once_uleb bytes at (r.step, r.mid) (0, mid) r.is_step is_step) in
      let above = e.above place refl in
      omega (arith, same, r.number, above)

  class_number : (o : Option ℕ) (class owner : ℕ) → is_class_number o class ≡ true → o ≡ Some owner → owner ≡ class
  class_number o class owner h e = eqb-true owner class (sym (ap (λ x. is_class_number x class) e) ∙ h)

  field_class : (number at owner class : ℕ) → IsEntryAt bytes 80 8 number at → Is16 bytes at owner → is_class_number (class_of_field (slice_get q.fields number)) class ≡ true → owner ≡ class
  field_class number at owner class e is h =
      let l = tables.field_listed bytes p s number at e in
      let here = (entry_is bytes 80 8 number at s.pools.tables.fields s.pools.stand.fields e).1 in
      let same : l.x.class ≡ owner = once_16 bytes (s.pools.tables.fields.offset + 8 * number) l.x.class owner l.is.class.is (subst (λ n. Is16 bytes n owner) here is) in
      sym same ∙ class_number (class_of_field (slice_get q.fields number)) class l.x.class h (ap class_of_field l.there)

  method_class : (number at owner class : ℕ) → IsEntryAt bytes 88 8 number at → Is16 bytes at owner → is_class_number (class_of_method (slice_get q.methods number)) class ≡ true → owner ≡ class
  method_class number at owner class e is h =
      let l = tables.method_listed bytes p s number at e in
      let here = (entry_is bytes 88 8 number at s.pools.tables.methods s.pools.stand.methods e).1 in
      let same : l.x.class ≡ owner = once_16 bytes (s.pools.tables.methods.offset + 8 * number) l.x.class owner l.is.class.is (subst (λ n. Is16 bytes n owner) here is) in
      sym same ∙ class_number (class_of_method (slice_get q.methods number)) class l.x.class h (ap class_of_method l.there)

  its_class : (which number at owner class : ℕ) (m : Members) (place : ℕ) (x : Listed) → IsIdAt bytes which number at → Is16 bytes at owner → x.number ≡ number → Suits q (record { place = place; kind = class }) m which x → owner ≡ class
  its_class zero number at owner class m place x id is e h = field_class number at owner class id is (subst (λ n. is_class_number (class_of_field (slice_get q.fields n)) class ≡ true) e (and_parts _ _ h.1).0)
  its_class (suc zero) number at owner class m place x id is e h = field_class number at owner class id is (subst (λ n. is_class_number (class_of_field (slice_get q.fields n)) class ≡ true) e (and_parts _ _ h.1).0)
  its_class (suc (suc zero)) number at owner class m place x id is e h = method_class number at owner class id is (subst (λ n. is_class_number (class_of_method (slice_get q.methods n)) class ≡ true) e (and_parts _ _ h.1).0)
  its_class (suc (suc (suc zero))) number at owner class m place x id is e h = method_class number at owner class id is (subst (λ n. is_class_number (class_of_method (slice_get q.methods n)) class ≡ true) e (and_parts _ _ h.1).0)
  its_class (suc (suc (suc (suc k)))) number at owner class m place x id is e h = absurd h

  pub own_class : (class which place at owner : ℕ) (def : Def) (e : Entry) → HasDef bytes class def → HasEntry bytes class which place e → IsIdAt bytes which e.number at → Is16 bytes at owner → owner ≡ def.name
  own_class class which place at owner def e has h id is =
      let r = entry_read bytes q left cs filled s class which place e h in
      its_class which e.number at owner r.def.name r.read.m class r.member.x id is (ap (λ (y : Entry). y.number) r.member.is) r.member.suits ∙ ap (λ (d : Def). d.name) (one_def bytes class r.def def r.has has)

  pub code_fits : (class which place : ℕ) (e : Entry) → HasEntry bytes class which place e → 2 ≤ which → agree (e.code == 0) (lacks_code e.flags) ≡ true
  code_fits class which place e h method =
      let r = entry_read bytes q left cs filled s class which place e h in
      subst (λ (y : Entry). agree (y.code == 0) (lacks_code y.flags) ≡ true) r.member.is (fits_method (record { place = class; kind = r.def.name }) r.read.m which r.member.x method r.member.suits).code

  pub not_no_code : (class which place : ℕ) (e : Entry) → HasEntry bytes class which place e → 2 ≤ which → lacks_code e.flags ≡ false → e.code ≡ 0 → ⊥
  not_no_code class which place e h method lacks none =
      let a : agree (e.code == 0) false ≡ true = subst (λ b. agree (e.code == 0) b ≡ true) lacks (code_fits class which place e h method) in
      true≢false (sym (eq-eqb e.code 0 none) ∙ agree_false (e.code == 0) a)

  pub not_some_code : (class which place : ℕ) (e : Entry) → HasEntry bytes class which place e → 2 ≤ which → lacks_code e.flags ≡ true → 0 < e.code → ⊥
  not_some_code class which place e h method lacks some =
      let a : agree (e.code == 0) true ≡ true = subst (λ b. agree (e.code == 0) b ≡ true) lacks (code_fits class which place e h method) in
      let none = eqb-true e.code 0 (agree_true (e.code == 0) a) in omega (arith, none, some)

  pub in_one : (class which other place at : ℕ) (e d : Entry) → IsPartner which other → HasEntry bytes class which place e → HasEntry bytes class other at d → e.number ≡ d.number → ⊥
  in_one class which zero place at e d partner h g same =
      let r = entry_read bytes q left cs filled s class which place e h in
      let o = also_read bytes q left cs filled s class which place 0 at e d r g in
      let low : which < 2 = omega (arith, partner.0) in
      (fits_field (record { place = class; kind = r.def.name }) r.read.m which r.member.x low r.member.suits).once at o.x partner.0 o.there
      (ap (λ (y : Entry). y.number) o.is ∙ sym same ∙ sym (ap (λ (y : Entry). y.number) r.member.is))
  in_one class which (suc k) place at e d partner h g same =
      let two : suc k ≡ 2 = partner.1 (λ e. omega (arith, e)) in
      let r = entry_read bytes q left cs filled s class which place e h in
      let o = also_read bytes q left cs filled s class which place 2 at e d r (subst (λ n. HasEntry bytes class n at d) two g) in
      let three : which ≡ 3 = omega (arith, partner.0, two) in
      (fits_method (record { place = class; kind = r.def.name }) r.read.m which r.member.x (omega (arith, three)) r.member.suits).once at o.x three o.there
      (ap (λ (y : Entry). y.number) o.is ∙ sym same ∙ sym (ap (λ (y : Entry). y.number) r.member.is))

  pub field_list : (class which place : ℕ) (e : Entry) → HasEntry bytes class which place e → which < 2 → suits_list which e.flags 0 ≡ true
  field_list class which place e h field =
      let r = entry_read bytes q left cs filled s class which place e h in
      subst (λ (y : Entry). suits_list which y.flags 0 ≡ true) r.member.is (fits_field (record { place = class; kind = r.def.name }) r.read.m which r.member.x field r.member.suits).list

  method_id : (which number at : ℕ) → 2 ≤ which → IsIdAt bytes which number at → IsEntryAt bytes 88 8 number at
  method_id zero number at method h = absurd (omega (arith, method))
  method_id (suc zero) number at method h = absurd (omega (arith, method))
  method_id (suc (suc k)) number at method h = h

  pub method_list : (class which place at string begin : ℕ) (name : List ℕ) (e : Entry) → HasEntry bytes class which place e → 2 ≤ which → IsIdAt bytes which e.number at → Is32 bytes (at + 4) string → HasText bytes string name begin
      → suits_list which e.flags (first_unit name) ≡ true
  method_list class which place at string begin name e h method id is text =
      let r = entry_read bytes q left cs filled s class which place e h in
      let l = tables.method_listed bytes p s e.number at (method_id which e.number at method id) in
      let here = (entry_is bytes 88 8 e.number at s.pools.tables.methods s.pools.stand.methods (method_id which e.number at method id)).1 in
      let same : l.x.name ≡ string = once_32 bytes (s.pools.tables.methods.offset + 8 * e.number + 4) l.x.name string l.is.name.is (subst (λ n. Is32 bytes (n + 4) string) here is) in
      let number : r.member.x.number ≡ e.number = ap (λ (y : Entry). y.number) r.member.is in
      let fits = (fits_method (record { place = class; kind = r.def.name }) r.read.m which r.member.x method r.member.suits).list l.x (ap (slice_get q.methods) number ∙ l.there) in
      let read : string_text q l.x.name ≡ name = ap (string_text q) same ∙ (tables.text_read bytes p s string begin name text).text_is in
      subst (λ u. suits_list which e.flags (first_unit u) ≡ true) read
      (subst (λ (y : Entry). suits_list which y.flags (first_unit (string_text q l.x.name)) ≡ true) r.member.is fits)
