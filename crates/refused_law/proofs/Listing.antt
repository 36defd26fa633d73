-- A fault of the members of a class that is answered stands there.
use Rattle.std.proofs.Common.{◌≡◌, ◌≤◌, ◌<◌, inl, inr, ℕ, zero, suc, ◌+◌, Bool, true, false, cond, not, eqb, List, [], ◌∷◌, ◌++◌, map, length, Option, Some, None, is_none, Ok, refl, sym, ap, subst, ◌∙◌, arith, true≢false}
use Rattle.std.specs.Prelude.{◌||◌, ◌&&◌, ◌==◌, slice_get}
use Rattle.std.specs.Option.{option_map}
use Rattle.std.proofs.Math.Nat.{min-le_left}
use Rattle.std.proofs.lemmas.Bool.{eqb-true, eq-eqb}
use Rattle.lemmas.proofs.Lists.{got_short, get_there}
use Rattle.lemmas.proofs.Options.{some_same}
use Rattle.dex_base.specs.Leb.{IsUlebAt}
use Rattle.dex_base.specs.Word.{Is16, Is32}
use Rattle.program_model.specs.Texts.{first_unit, string_text}
use Rattle.program_model.specs.MemberRules.{is_static, is_private, lacks_code, class_of_field, class_of_method, is_class_number, name_of_method}
use Rattle.program_model.specs.declared.flags.Flags.{Flags}
use Rattle.program_model.specs.declared.pools.FieldName.{FieldName}
use Rattle.program_model.specs.declared.pools.MethodName.{MethodName}
use Rattle.program_model.specs.declared.program.Program.{Program}
use Rattle.dex_defs.specs.ClassData.{Entry, IsFieldEntry, IsMethodEntry, EntriesTo}
use Rattle.dex_defs.specs.ClassDefs.{Def}
use Rattle.dex_defs.specs.Parts as parts
use Rattle.dex_defs.specs.Places.{IsEntryAt, HasDef, Leads, IsEntryOf, last_number, HasEntry, HasCounts}
use Rattle.dex_defs.specs.Placed.{HasSize, FirstCount, SecondCount, ThirdCount, FourthCount}
use Rattle.dex_defs.specs.Placed as placed
use Rattle.dex_defs.specs.Faults.{HasText}
use Rattle.dex_defs.specs.ClassFaults.{HasFault, BadMember, suits_list, has_bit}
use Rattle.dex_defs.specs.ClassFaults as faults
use Rattle.dex_read.specs.declared.class_data.Listed.{Listed}
use Rattle.dex_read.specs.declared.fault.DexFault.TheVariants as dex
use Rattle.dex_read.specs.declared.members.Owner.{Owner}
use Rattle.dex_read.specs.ClassData.{agree, place_in, field_suits, method_suits, is_direct_entry, field_at, method_at, fields_at, methods_at, members_at}
use Rattle.dex_read.specs.Tables.{sizes_in}
use Rattle.dex_read.specs.Word.{number_at}
use Rattle.file_laws.specs.ClassData.{entry_of}
use Rattle.file_laws.proofs.ClassData.{founds_field_entry, founds_method_entry, founds_field, founds_method, founds_fields, founds_methods}
use Rattle.file_laws.proofs.Words.{finds_number}
use Rattle.refused_law.specs.Just.{IsJust}
use Rattle.refused_law.proofs.Defs.{and_none}
use Rattle.refused_law.proofs.Entries.{entries_more, last_more, longer, AtList, IsFront, stands_at, front_more, fails_front, fails_dex_number, fails_field_entry, fails_method_entry, has_entry}
use Rattle.refused_law.proofs.Failing.{Fails, sound, unless, fails_next}

-- ---- an entry of a list that is read

pub record EntryIn (Is : ℕ → ℕ → Entry → ℕ → Type 0) (mid k : ℕ) (e : Entry) : Type 0 where
  pub front : List Entry
  pub s : ℕ × ℕ
  pub stop : ℕ
  pub long : length front ≡ k
  pub stand : EntriesTo Is 0 mid front s.0
  pub last : s.1 ≡ last_number 0 front
  pub is : Is s.1 s.0 e stop

-- the entry at this place, behind some that stand before
entry_from : (Is : ℕ → ℕ → Entry → ℕ → Type 0) (begin : ℕ) (front : List Entry) (at : ℕ) (es : List Entry) (stop k : ℕ) (e : Entry) → EntriesTo Is 0 begin front at → EntriesTo Is (last_number 0 front) at es stop → slice_get es k ≡ Some e
    → EntryIn Is begin (length front + k) e
entry_from Is begin front at [] stop k e h g there = absurd cc
entry_from Is begin front at (x ∷ xs) stop zero e h g there = record {
  front = front;
  s = (at, last_number 0 front);
  stop = g.0;
  long = omega arith;
  stand = h;
  last = refl;
  is = subst (λ (y : Entry). Is (last_number 0 front) at y g.0) (some_same x e there) g.1;
}
entry_from Is begin front at (x ∷ xs) stop (suc k) e h g there =
    let more = entry_from Is begin (front ++ x ∷ []) g.0 xs stop k e (entries_more Is 0 begin front at x g.0 h g.1) (subst (λ (n : ℕ). EntriesTo Is n g.0 xs stop) (sym (last_more 0 front x)) g.2) there in
    let same : length (front ++ x ∷ []) + k ≡ length front + suc k = omega (arith, longer front x) in
    subst (λ (n : ℕ). EntryIn Is begin n e) same more

entry_in : (Is : ℕ → ℕ → Entry → ℕ → Type 0) (begin : ℕ) (es : List Entry) (stop k : ℕ) (e : Entry) → EntriesTo Is 0 begin es stop → slice_get es k ≡ Some e → EntryIn Is begin k e
entry_in Is begin es stop k e h there = let at : 0 + k ≡ k = omega arith in subst (λ (n : ℕ). EntryIn Is begin n e) at (entry_from Is begin [] begin es stop k e refl h there)

-- where an entry of the same number stands in the list before
record IsBefore (earlier : List Listed) (number : ℕ) : Type 0 where
  place : ℕ
  d : Entry
  there : slice_get (map entry_of earlier) place ≡ Some d
  same : number ≡ d.number

before_is : (earlier : List Listed) (number : ℕ) → is_none (place_in number earlier) ≡ false → IsBefore earlier number
before_is [] number h = absurd cc
before_is (e ∷ es) number h = by_first (eqb e.number number) refl (before_is es number) h
  where
    none_too : (o : Option ℕ) → is_none (option_map suc o) ≡ false → is_none o ≡ false
    none_too None h = h
    none_too (Some n) h = refl

    by_first : (b : Bool) → eqb e.number number ≡ b → (is_none (place_in number es) ≡ false → IsBefore es number) → is_none (cond b (Some 0) (option_map suc (place_in number es))) ≡ false → IsBefore (e ∷ es) number
    by_first true b rest h = record { place = 0; d = entry_of e; there = refl; same = sym (eqb-true e.number number b) }
    by_first false b rest h = let r = rest (none_too (place_in number es) h) in record { place = suc r.place; d = r.d; there = r.there; same = r.same }

not_agreed : (a b : Bool) → agree a b ≡ false → a ≡ not b
not_agreed true true h = absurd cc
not_agreed true false h = refl
not_agreed false true h = refl
not_agreed false false h = absurd cc

-- ---- what stands in the tables of members

pub record HasIds (bytes : List ℕ) (p : Program) : Type 0 where
  pub fields : (i : ℕ) (f : FieldName) → slice_get p.fields i ≡ Some f → (at : ℕ) × IsEntryAt bytes 80 8 i at × Is16 bytes at f.class
  pub methods : (i : ℕ) (m : MethodName) → slice_get p.methods i ≡ Some m → (at : ℕ) × IsEntryAt bytes 88 8 i at × Is16 bytes at m.class × Is32 bytes (at + 4) m.name
  pub texts : (i : ℕ) (m : MethodName) → slice_get p.methods i ≡ Some m → (begin : ℕ) × HasText bytes m.name (string_text p m.name) begin
  pub field_size : HasSize bytes 80 (sizes_in p).fields
  pub method_size : HasSize bytes 88 (sizes_in p).methods

module _ (bytes : List ℕ) (p : Program) (ids : HasIds bytes p) (owner : Owner) (def : Def) (has_def : HasDef bytes owner.place def) (name : def.name ≡ owner.kind) (at : ℕ) (leads : Leads def.data_at at) where
  -- ---- fields

  module _ (which place : ℕ) (static : Bool) (earlier : List Listed) (e : Listed) (is : HasEntry bytes owner.place which place (entry_of e)) (below : e.number < (sizes_in p).fields)
      (field : which < 2) (id : (at : ℕ) → IsEntryAt bytes 80 8 e.number at → faults.IsIdAt bytes which e.number at) (suits : suits_list which e.flags.0 0 ≡ cond static (is_static e.flags) (not (is_static e.flags)))
      (partner : (k : ℕ) (d : Entry) → slice_get (map entry_of earlier) k ≡ Some d → (other : ℕ) × faults.IsPartner which other × HasEntry bytes owner.place other k d) where
    other_class : is_class_number (class_of_field (slice_get p.fields e.number)) owner.kind ≡ false → HasFault bytes (parts.Member owner.place place)
    other_class h =
        let f = get_there p.fields e.number (let low = min-le_left (length p.fields) 4294967295 in omega (arith, below, low)) in
        let there = ids.fields e.number f.0 f.1 in
        BadMember (faults.OtherClass owner.place which place there.0 f.0.class def (entry_of e) has_def is (id there.0 there.1) there.2
        (λ same. true≢false (sym (eq-eqb f.0.class owner.kind (same ∙ name)) ∙ sym (ap (λ (o : Option FieldName). is_class_number (class_of_field o) owner.kind) f.1) ∙ h)) refl)

    wrong_list : agree (is_static e.flags) static ≡ false → HasFault bytes (parts.Member owner.place place)
    wrong_list h = BadMember (faults.WrongField owner.place which place (entry_of e) is field (suits ∙ by_static static (is_static e.flags) (not_agreed (is_static e.flags) static h)) refl)
      where
        by_static : (b a : Bool) → a ≡ not b → cond b a (not a) ≡ false
        by_static true a e = e
        by_static false a e = ap not e

    twice : is_none (place_in e.number earlier) ≡ false → HasFault bytes (parts.Member owner.place place)
    twice h = let b = before_is earlier e.number h in let o = partner b.place b.d b.there in
        BadMember (faults.InBoth owner.place which o.0 place b.place (entry_of e) b.d o.1 is o.2 b.same refl)

    pub field_bad : field_suits p owner.kind static earlier e ≡ false → HasFault bytes (parts.Member owner.place place)
    field_bad h = elim (and_none (is_class_number (class_of_field (slice_get p.fields e.number)) owner.kind) (agree (is_static e.flags) static && is_none (place_in e.number earlier)) h) [
      | inl a ↦ other_class a
      | inr a ↦ elim (and_none (agree (is_static e.flags) static) (is_none (place_in e.number earlier)) a) [
        | inl b ↦ wrong_list b
        | inr b ↦ twice b
      ]
    ]

  -- ---- methods

  module _ (which place : ℕ) (direct : Bool) (earlier : List Listed) (e : Listed) (is : HasEntry bytes owner.place which place (entry_of e)) (below : e.number < (sizes_in p).methods)
      (method : 2 ≤ which) (id : (at : ℕ) → IsEntryAt bytes 88 8 e.number at → faults.IsIdAt bytes which e.number at)
      (suits : (first : ℕ) → suits_list which e.flags.0 first ≡ cond direct (is_static e.flags || (is_private e.flags || first == 60)) (not (is_static e.flags || (is_private e.flags || first == 60))))
      (partner : (k : ℕ) (d : Entry) → slice_get (map entry_of earlier) k ≡ Some d → (other : ℕ) × faults.IsPartner which other × HasEntry bytes owner.place other k d) where
    its_id : (m : MethodName) × (slice_get p.methods e.number ≡ Some m)
    its_id = get_there p.methods e.number (let low = min-le_left (length p.methods) 4294967295 in omega (arith, below, low))

    other_owner : is_class_number (class_of_method (slice_get p.methods e.number)) owner.kind ≡ false → HasFault bytes (parts.Member owner.place place)
    other_owner h = let m = its_id in let there = ids.methods e.number m.0 m.1 in
        BadMember (faults.OtherClass owner.place which place there.0 m.0.class def (entry_of e) has_def is (id there.0 there.1) there.2
        (λ same. true≢false (sym (eq-eqb m.0.class owner.kind (same ∙ name)) ∙ sym (ap (λ (o : Option MethodName). is_class_number (class_of_method o) owner.kind) m.1) ∙ h)) refl)

    or_after : (a b c : Bool) → ((a || b) || c) ≡ (a || (b || c))
    or_after true b c = refl
    or_after false b c = refl

    wrong_method : agree (is_direct_entry p e) direct ≡ false → HasFault bytes (parts.Member owner.place place)
    wrong_method h = let m = its_id in let there = ids.methods e.number m.0 m.1 in let text = ids.texts e.number m.0 m.1 in
        let first = first_unit (string_text p m.0.name) in
        let same : is_direct_entry p e ≡ (is_static e.flags || (is_private e.flags || first == 60))
        = ap (λ (o : Option MethodName). (is_static e.flags || is_private e.flags) || first_unit (name_of_method p o) == 60) m.1 ∙ or_after (is_static e.flags) (is_private e.flags) (first == 60) in
        BadMember (faults.WrongMethod owner.place which place there.0 m.0.name text.0 (string_text p m.0.name) (entry_of e) is method (id there.0 there.1) there.3 text.1
        (suits first ∙ by_direct direct (is_static e.flags || (is_private e.flags || first == 60)) (sym same ∙ not_agreed (is_direct_entry p e) direct h)) refl)
      where
        by_direct : (b a : Bool) → a ≡ not b → cond b a (not a) ≡ false
        by_direct true a e = e
        by_direct false a e = ap not e

    wrong_code : agree (e.code == 0) (lacks_code e.flags) ≡ false → HasFault bytes (parts.Member owner.place place)
    wrong_code h = by_lack (lacks_code e.flags) refl (not_agreed (e.code == 0) (lacks_code e.flags) h)
      where
        positive : (n : ℕ) → (n == 0) ≡ false → 0 < n
        positive zero g = absurd cc
        positive (suc n) g = omega arith

        by_lack : (b : Bool) → lacks_code e.flags ≡ b → (e.code == 0) ≡ not b → HasFault bytes (parts.Member owner.place place)
        by_lack true l g = BadMember (faults.SomeCode owner.place which place (entry_of e) is method l (positive e.code g) refl)
        by_lack false l g = BadMember (faults.NoCode owner.place which place (entry_of e) is method l (eqb-true e.code 0 g) refl)

    in_both : is_none (place_in e.number earlier) ≡ false → HasFault bytes (parts.Member owner.place place)
    in_both h = let b = before_is earlier e.number h in let o = partner b.place b.d b.there in
        BadMember (faults.InBoth owner.place which o.0 place b.place (entry_of e) b.d o.1 is o.2 b.same refl)

    pub method_bad : method_suits p owner.kind direct earlier e ≡ false → HasFault bytes (parts.Member owner.place place)
    method_bad h = elim (and_none (is_class_number (class_of_method (slice_get p.methods e.number)) owner.kind) (agree (is_direct_entry p e) direct && (agree (e.code == 0) (lacks_code e.flags) && is_none (place_in e.number earlier))) h) [
      | inl a ↦ other_owner a
      | inr a ↦ elim (and_none (agree (is_direct_entry p e) direct) (agree (e.code == 0) (lacks_code e.flags) && is_none (place_in e.number earlier)) a) [
        | inl b ↦ wrong_method b
        | inr b ↦ elim (and_none (agree (e.code == 0) (lacks_code e.flags)) (is_none (place_in e.number earlier)) b) [
          | inl c ↦ wrong_code c
          | inr c ↦ in_both c
        ]
      ]
    ]

  -- ---- lists of members

  -- an entry of a list that was read
  pub read_entry : (which count mid : ℕ) (l : AtList bytes owner.place at which count mid) (es : List Listed) (stop k : ℕ) (d : Entry) → length (map entry_of es) ≡ count → EntriesTo (IsEntryOf bytes which) 0 mid (map entry_of es) stop
      → slice_get (map entry_of es) k ≡ Some d → HasEntry bytes owner.place which k d
  read_entry which count mid l es stop k d many entries there =
      let x = entry_in (IsEntryOf bytes which) mid (map entry_of es) stop k d entries there in
      let short = got_short (map entry_of es) k d there in
      record {
        def = l.def;
        has = l.has;
        data_at = at;
        leads = l.leads;
        before = x.s.1;
        at = x.s.0;
        stop = x.stop;
        stands = stands_at bytes owner.place at which count mid l k x.front x.s (omega (arith, short, many)) (record { long = x.long; stand = x.stand; last = x.last });
        is = x.is;
      }

  abbrev Before : ℕ → List Listed → Type 0
  Before which earlier = (k : ℕ) (d : Entry) → slice_get (map entry_of earlier) k ≡ Some d → (other : ℕ) × faults.IsPartner which other × HasEntry bytes owner.place other k d

  none_before : (which : ℕ) → Before which []
  none_before which k d there = absurd cc

  no_front : (which mid : ℕ) → IsFront bytes which mid 0 [] (mid, 0)
  no_front which mid = record { long = refl; stand = refl; last = refl }

  module _ (which count mid : ℕ) (l : AtList bytes owner.place at which count mid) (static : Bool) (earlier : List Listed) (of_table : faults.IsTableOf which 80) (field : which < 2)
      (entry : (before at : ℕ) (e : Entry) (stop : ℕ) → IsFieldEntry bytes before at e stop → IsEntryOf bytes which before at e stop) (id : (number at : ℕ) → IsEntryAt bytes 80 8 number at → faults.IsIdAt bytes which number at)
      (list : (flags : Flags) → suits_list which flags.0 0 ≡ cond static (is_static flags) (not (is_static flags))) (partner : Before which earlier) where
    one_field : (i : ℕ) (front : List Entry) (s : ℕ × ℕ) → i < count → IsFront bytes which mid i front s → Fails (IsJust bytes) (field_at bytes p owner static earlier i s)
    unfolding field_at
    one_field i front s less good = fails_next (fails_field_entry bytes owner.place at which count mid l i front s less good (sizes_in p).fields of_table ids.field_size) (λ e h.
        let r = (founds_field_entry bytes (sizes_in p).fields i s).found e h in
        unless (dex.Member owner.place i) (λ none. (field_bad which i static earlier e.0 (has_entry bytes owner.place at which count mid l i front s less good (entry_of e.0) e.1.0 (entry s.1 s.0 (entry_of e.0) e.1.0 r.is)) r.below field
        (id e.0.number) (list e.0.flags) partner none)) (λ _. sound e))

    field_more : (i : ℕ) (front : List Entry) (s : ℕ × ℕ) (x : Listed × (ℕ × ℕ)) → IsFront bytes which mid i front s → field_at bytes p owner static earlier i s ≡ Ok x → IsFront bytes which mid (suc i) (front ++ entry_of x.0 ∷ []) x.1
    field_more i front s x good h = let r = ((founds_field bytes p owner static earlier i s).found x h).0 in
        front_more bytes owner.place at which count mid l i front s (entry_of x.0) x.1 good (entry s.1 s.0 (entry_of x.0) x.1.0 r.is) r.number

    field_list : Fails (IsJust bytes) (fields_at bytes p owner static earlier count mid)
    field_list = fails_front (field_at bytes p owner static earlier) entry_of (IsFront bytes which mid) field_more count one_field 0 count [] (mid, 0) (omega arith) (no_front which mid)

  module _ (which count mid : ℕ) (l : AtList bytes owner.place at which count mid) (direct : Bool) (earlier : List Listed) (of_table : faults.IsTableOf which 88) (method : 2 ≤ which)
      (entry : (before at : ℕ) (e : Entry) (stop : ℕ) → IsMethodEntry bytes before at e stop → IsEntryOf bytes which before at e stop) (id : (number at : ℕ) → IsEntryAt bytes 88 8 number at → faults.IsIdAt bytes which number at)
      (list : (flags : Flags) (first : ℕ) → suits_list which flags.0 first ≡ cond direct (is_static flags || (is_private flags || first == 60)) (not (is_static flags || (is_private flags || first == 60)))) (partner : Before which earlier) where
    one_method : (i : ℕ) (front : List Entry) (s : ℕ × ℕ) → i < count → IsFront bytes which mid i front s → Fails (IsJust bytes) (method_at bytes p owner direct earlier i s)
    unfolding method_at
    one_method i front s less good = fails_next (fails_method_entry bytes owner.place at which count mid l i front s less good (sizes_in p).methods method of_table ids.method_size) (λ e h.
        let r = (founds_method_entry bytes (sizes_in p).methods i s).found e h in
        unless (dex.Member owner.place i) (λ none. (method_bad which i direct earlier e.0 (has_entry bytes owner.place at which count mid l i front s less good (entry_of e.0) e.1.0 (entry s.1 s.0 (entry_of e.0) e.1.0 r.is)) r.below method
        (id e.0.number) (list e.0.flags) partner none)) (λ _. sound e))

    method_more : (i : ℕ) (front : List Entry) (s : ℕ × ℕ) (x : Listed × (ℕ × ℕ)) → IsFront bytes which mid i front s → method_at bytes p owner direct earlier i s ≡ Ok x → IsFront bytes which mid (suc i) (front ++ entry_of x.0 ∷ []) x.1
    method_more i front s x good h = let r = ((founds_method bytes p owner direct earlier i s).found x h).0 in
        front_more bytes owner.place at which count mid l i front s (entry_of x.0) x.1 good (entry s.1 s.0 (entry_of x.0) x.1.0 r.is) r.number

    method_list : Fails (IsJust bytes) (methods_at bytes p owner direct earlier count mid)
    method_list = fails_front (method_at bytes p owner direct earlier) entry_of (IsFront bytes which mid) method_more count one_method 0 count [] (mid, 0) (omega arith) (no_front which mid)

  -- ---- class data

  leb : (m : ℕ) → placed.IsPlaced bytes (parts.Number m) → Fails (IsJust bytes) (number_at bytes m)
  leb m is = fails_dex_number bytes m is

  abbrev uleb : (m : ℕ) (r : ℕ × ℕ) → number_at bytes m ≡ Ok r → IsUlebAt bytes m r
  uleb m r h = (finds_number bytes m).found r h

  abbrev four_of : ℕ → ℕ → ℕ → ℕ → List ℕ
  four_of a b c d = a ∷ b ∷ c ∷ d ∷ []

  -- the lists of these counts, whose first begins there
  module _ (n0 n1 n2 n3 begin : ℕ) (counted : HasCounts bytes at (four_of n0 n1 n2 n3) begin) where
    pub at_zero : AtList bytes owner.place at 0 n0 begin
    at_zero = record { def = def; has = has_def; leads = leads; counts = four_of n0 n1 n2 n3; begin = begin; counted = counted; lists = []; many = refl; full = refl; is_count = refl }

    module _ (statics : List Entry) (m1 : ℕ) (many0 : length statics ≡ n0) (are0 : EntriesTo (IsEntryOf bytes 0) 0 begin statics m1) where
      at_one : AtList bytes owner.place at 1 n1 m1
      at_one = record { def = def; has = has_def; leads = leads; counts = four_of n0 n1 n2 n3; begin = begin; counted = counted; lists = statics ∷ []; many = refl; full = (many0, (m1, are0, refl)); is_count = refl }

      module _ (instances : List Entry) (m2 : ℕ) (many1 : length instances ≡ n1) (are1 : EntriesTo (IsEntryOf bytes 1) 0 m1 instances m2) where
        at_two : AtList bytes owner.place at 2 n2 m2
        at_two = record {
          def = def;
          has = has_def;
          leads = leads;
          counts = four_of n0 n1 n2 n3;
          begin = begin;
          counted = counted;
          lists = statics ∷ instances ∷ [];
          many = refl;
          full = (many0, (m1, are0, (many1, (m2, are1, refl))));
          is_count = refl;
        }

        at_three : (directs : List Entry) (m3 : ℕ) → length directs ≡ n2 → EntriesTo (IsEntryOf bytes 2) 0 m2 directs m3 → AtList bytes owner.place at 3 n3 m3
        at_three directs m3 many2 are2 = record {
          def = def;
          has = has_def;
          leads = leads;
          counts = four_of n0 n1 n2 n3;
          begin = begin;
          counted = counted;
          lists = statics ∷ instances ∷ directs ∷ [];
          many = refl;
          full = (many0, (m1, are0, (many1, (m2, are1, (many2, (m3, are2, refl))))));
          is_count = refl;
        }

  pub fails_members : Fails (IsJust bytes) (members_at bytes p owner at)
  unfolding members_at
  fails_members =
      fails_next (leb at (placed.Classes (FirstCount owner.place at def has_def leads))) (λ c0 h0. let i0 = uleb at c0 h0 in
      fails_next (leb c0.1 (placed.Classes (SecondCount owner.place at c0.0 c0.1 def has_def leads i0))) (λ c1 h1. let i1 = uleb c0.1 c1 h1 in
      fails_next (leb c1.1 (placed.Classes (ThirdCount owner.place at c0.0 c1.0 c0.1 c1.1 def has_def leads i0 i1))) (λ c2 h2. let i2 = uleb c1.1 c2 h2 in
      fails_next (leb c2.1 (placed.Classes (FourthCount owner.place at c0.0 c1.0 c2.0 c0.1 c1.1 c2.1 def has_def leads i0 i1 i2))) (λ c3 h3. let i3 = uleb c2.1 c3 h3 in
      let counted : HasCounts bytes at (four_of c0.0 c1.0 c2.0 c3.0) c3.1 = record { four = refl; are = (c0.1, i0, (c1.1, i1, (c2.1, i2, (c3.1, i3, refl)))) } in
      let l0 = at_zero c0.0 c1.0 c2.0 c3.0 c3.1 counted in
      fails_next (field_list 0 c0.0 c3.1 l0 true [] refl (omega arith) (λ before m e stop h. h) (λ number m h. h) (λ flags. refl) (none_before 0)) (λ statics h4.
      let r0 = (founds_fields bytes p owner true [] c0.0 c3.1).found statics h4 in
      let l1 = at_one c0.0 c1.0 c2.0 c3.0 c3.1 counted (map entry_of statics.0) statics.1.0 r0.many r0.are.entries in
      fails_next (field_list 1 c1.0 statics.1.0 l1 false statics.0 refl (omega arith) (λ before m e stop h. h) (λ number m h. h) (λ flags. refl)
      (λ k d there. (0, (refl, λ other. absurd (other refl)), read_entry 0 c0.0 c3.1 l0 statics.0 statics.1.0 k d r0.many r0.are.entries there))) (λ instances h5.
      let r1 = (founds_fields bytes p owner false statics.0 c1.0 statics.1.0).found instances h5 in
      let l2 = at_two c0.0 c1.0 c2.0 c3.0 c3.1 counted (map entry_of statics.0) statics.1.0 r0.many r0.are.entries (map entry_of instances.0) instances.1.0 r1.many r1.are.entries in
      fails_next (method_list 2 c2.0 instances.1.0 l2 true [] refl (omega arith) (λ before m e stop h. h) (λ number m h. h) (λ flags first. refl) (none_before 2)) (λ directs h6.
      let r2 = (founds_methods bytes p owner true [] c2.0 instances.1.0).found directs h6 in
      let l3 = at_three c0.0 c1.0 c2.0 c3.0 c3.1 counted (map entry_of statics.0) statics.1.0 r0.many r0.are.entries (map entry_of instances.0) instances.1.0 r1.many r1.are.entries (map entry_of directs.0) directs.1.0 r2.many r2.are.entries in
      fails_next (method_list 3 c3.0 directs.1.0 l3 false directs.0 refl (omega arith) (λ before m e stop h. h) (λ number m h. h) (λ flags first. refl)
      (λ k d there. (2, (refl, λ other. refl), read_entry 2 c2.0 instances.1.0 l2 directs.0 directs.1.0 k d r2.many r2.are.entries there))) (λ virtuals _.
      sound (record { statics = statics.0; instances = instances.0; directs = directs.0; virtuals = virtuals.0 })))))))))
