-- A fault of class data that is answered stands there.
use Rattle.std.proofs.Common.{◌≡◌, ◌≤◌, ◌<◌, ℕ, zero, suc, ◌+◌, false, ltb, eqb, List, [], ◌∷◌, ◌++◌, length, min, Result, Ok, refl, sym, ap, subst, ◌∙◌, arith, true≢false}
use Rattle.std.specs.Prelude.{slice_index}
use Rattle.std.proofs.lemmas.Bool.{ltb-false, eq-eqb}
use Rattle.lemmas.proofs.Bools.{neither_of}
use Rattle.dex_base.specs.declared.fault.BaseFault.{BaseFault}
use Rattle.dex_base.specs.declared.fault.BaseFault.TheVariants as base
use Rattle.dex_base.specs.Leb.{IsUlebAt, BadLeb, Ends, Long, uleb_at}
use Rattle.dex_base.proofs.LebReading.{is_uleb}
use Rattle.dex_pools.specs.declared.fault.PoolFault.TheVariants as pool
use Rattle.dex_pools.specs.declared.fault.Table.TheVariants as table
use Rattle.dex_pools.specs.Run.{run}
use Rattle.dex_defs.specs.ClassData.{Entry, EntriesTo}
use Rattle.dex_defs.specs.ClassDefs.{Def}
use Rattle.dex_defs.specs.Parts.{Number}
use Rattle.dex_defs.specs.Parts as parts
use Rattle.dex_defs.specs.Places.{HasDef, Leads, IsEntryOf, HasCounts, ListsTo, last_number, EntryStands, HasEntry}
use Rattle.dex_defs.specs.Placed.{IsPlaced, HasSize, EntryStep, EntryFlags, EntryCode}
use Rattle.dex_defs.specs.Placed as placed
use Rattle.dex_defs.specs.Faults as orders
use Rattle.dex_defs.specs.ClassFaults.{HasFault, IsTableOf, BadPart, BadOrder, BadMember}
use Rattle.dex_defs.specs.ClassFaults as faults
use Rattle.dex_read.specs.declared.fault.DexFault.TheVariants as dex
use Rattle.dex_read.specs.ClassData.{stepped_at, ascends_at, field_entry_at, method_entry_at}
use Rattle.dex_read.specs.Word.{number_at}
use Rattle.dex_read.specs.Faults.{of_base}
use Rattle.file_laws.proofs.ClassData.{IsStep, founds_step}
use Rattle.file_laws.proofs.Words.{finds_number}
use Rattle.refused_law.specs.Just.{IsJust}
use Rattle.refused_law.proofs.Failing.{Fails, sound, unless, fails_next, fails_lifted, fails_by}

-- ---- entries one behind another

pub entries_more : (Is : ℕ → ℕ → Entry → ℕ → Type 0) (before at : ℕ) (es : List Entry) (mid : ℕ) (e : Entry) (stop : ℕ) → EntriesTo Is before at es mid → Is (last_number before es) mid e stop → EntriesTo Is before at (es ++ e ∷ []) stop
entries_more Is before at [] mid e stop h i = (stop, subst (λ (k : ℕ). Is before k e stop) h i, refl)
entries_more Is before at (x ∷ xs) mid e stop h i = (h.0, h.1, entries_more Is x.number h.0 xs mid e stop h.2 i)

pub last_more : (before : ℕ) (es : List Entry) (e : Entry) → last_number before (es ++ e ∷ []) ≡ e.number
last_more before [] e = refl
last_more before (x ∷ xs) e = last_more x.number xs e

pub longer : (es : List Entry) (e : Entry) → length (es ++ e ∷ []) ≡ suc (length es)
longer [] e = refl
longer (x ∷ xs) e = ap suc (longer xs e)

-- entries that are read, with those before each
pub fails_front : {X S F : Type 0} {Has : F → Type 0} (f : ℕ → S → Result (X × S) F) (entry : X → Entry) (Good : ℕ → List Entry → S → Type 0)
    → ((i : ℕ) (front : List Entry) (s : S) (x : X × S) → Good i front s → f i s ≡ Ok x → Good (suc i) (front ++ entry x.0 ∷ []) x.1) → (total : ℕ)
    → ((i : ℕ) (front : List Entry) (s : S) → i < total → Good i front s → Fails Has (f i s)) → (from n : ℕ) (front : List Entry) (s : S) → from + n ≡ total → Good from front s → Fails Has (run f from n s)
fails_front f entry Good more total each from zero front s all good = sound ([], s)
fails_front f entry Good more total each from (suc n) front s all good = fails_next (each from front s (omega (arith, all)) good) (λ x h.
    fails_next (fails_front f entry Good more total each (suc from) n (front ++ entry x.0 ∷ []) x.1 (omega (arith, all)) (more from front s x good h)) (λ xs _. sound (x.0 ∷ xs.0, xs.1)))

-- ---- where a list stands in class data

-- a list of the class data of a class begins at this place, and has so many entries
pub record AtList (bytes : List ℕ) (class data_at which count mid : ℕ) : Type 0 where
  pub def : Def
  pub has : HasDef bytes class def
  pub leads : Leads def.data_at data_at
  pub counts : List ℕ
  pub begin : ℕ
  pub counted : HasCounts bytes data_at counts begin
  pub lists : List (List Entry)
  pub many : length lists ≡ which
  pub full : ListsTo bytes counts 0 begin lists mid
  pub is_count : slice_index counts which ≡ count

-- the entries before a place of it, where the next one begins, and the number of the last
pub record IsFront (bytes : List ℕ) (which mid place : ℕ) (front : List Entry) (s : ℕ × ℕ) : Type 0 where
  pub long : length front ≡ place
  pub stand : EntriesTo (IsEntryOf bytes which) 0 mid front s.0
  pub last : s.1 ≡ last_number 0 front

dex_number_just : (bytes : List ℕ) (at : ℕ) → IsPlaced bytes (Number at) → (e : BaseFault) → BadLeb bytes at e → IsJust bytes (of_base e)
dex_number_just bytes at placed e (Ends few on is) = subst (λ (x : BaseFault). IsJust bytes (of_base x)) (sym is) (BadPart (Number at) placed (base.Short at, Ends few on refl, refl))
dex_number_just bytes at placed e (Long few on is) = subst (λ (x : BaseFault). IsJust bytes (of_base x)) (sym is) (BadPart (Number at) placed (base.LongLeb (at + 4), Long few on refl, refl))

pub fails_dex_number : (bytes : List ℕ) (at : ℕ) → IsPlaced bytes (Number at) → Fails (IsJust bytes) (number_at bytes at)
fails_dex_number bytes at placed = fails_lifted of_base (fails_by (uleb_at bytes at) (is_uleb bytes at) (dex_number_just bytes at placed))

not_zero : (n : ℕ) → eqb n 0 ≡ false → n ≡ 0 → ⊥
not_zero n e is = true≢false (sym (eq-eqb n 0 is) ∙ e)

-- an entry whose number isn't above the one before it
order_bad : (bytes : List ℕ) (class data_at which count mid : ℕ) (l : AtList bytes class data_at which count mid) (place : ℕ) (s : ℕ × ℕ) (stop : ℕ) → (place ≡ 0 → ⊥) → EntryStands bytes data_at which place s.1 s.0
    → IsUlebAt bytes s.0 (0, stop) → HasFault bytes (parts.Order table.Members place)
order_bad bytes class data_at which count mid l zero s stop other stands is = absurd (other refl)
order_bad bytes class data_at which count mid l (suc k) s stop other stands is = BadOrder (orders.Members class data_at which k s.1 s.0 stop l.def l.has l.leads stands is refl)

module _ (bytes : List ℕ) (class data_at which count mid : ℕ) (l : AtList bytes class data_at which count mid) where
  pub stands_at : (place : ℕ) (front : List Entry) (s : ℕ × ℕ) → place < count → IsFront bytes which mid place front s → EntryStands bytes data_at which place s.1 s.0
  stands_at place front s less h = record {
    counts = l.counts;
    begin = l.begin;
    has = l.counted;
    lists = l.lists;
    many = l.many;
    mid = mid;
    full = l.full;
    front = front;
    place_is = h.long;
    inside = omega (arith, less, l.is_count);
    stands = h.stand;
    before_is = h.last;
  }

  pub front_more : (place : ℕ) (front : List Entry) (s : ℕ × ℕ) (e : Entry) (stop : ℕ × ℕ) → IsFront bytes which mid place front s → IsEntryOf bytes which s.1 s.0 e stop.0 → stop.1 ≡ e.number → IsFront bytes which mid (suc place) (front ++ e ∷ []) stop
  front_more place front s e stop h is number = record {
    long = longer front e ∙ ap suc h.long;
    stand = entries_more (IsEntryOf bytes which) 0 mid front s.0 e stop.0 h.stand (subst (λ (k : ℕ). IsEntryOf bytes which k s.0 e stop.0) h.last is);
    last = number ∙ sym (last_more 0 front e);
  }

  module _ (place : ℕ) (front : List Entry) (s : ℕ × ℕ) (less : place < count) (good : IsFront bytes which mid place front s) where
    stands : EntryStands bytes data_at which place s.1 s.0
    stands = stands_at place front s less good

    fails_leb : (at : ℕ) → IsPlaced bytes (Number at) → Fails (IsJust bytes) (number_at bytes at)
    fails_leb at placed = fails_dex_number bytes at placed

    -- the number of an entry
    fails_step : (header size : ℕ) → IsTableOf which header → HasSize bytes header size → Fails (IsJust bytes) (stepped_at bytes size s.1 s.0)
    unfolding stepped_at
    fails_step header size of_table is_size = fails_next (fails_leb s.0 (placed.Classes (EntryStep class data_at which place s.1 s.0 l.def l.has l.leads stands))) (λ step h.
        unless (dex.Pool (pool.Index s.0 (min (s.1 + step.0) 4294967295) size))
        (λ none. BadMember (faults.NoMember class data_at which place s.1 s.0 step.0 step.1 header size l.def l.has l.leads stands ((finds_number bytes s.0).found step h) of_table is_size (ltb-false (s.1 + step.0) size none) refl)) (λ _. sound (s.1 + step.0, step.1)))

    fails_order : (number : ℕ × ℕ) (size : ℕ) → IsStep bytes size s.1 s.0 number → Fails (IsJust bytes) (ascends_at place s.1 number.0)
    unfolding ascends_at
    fails_order number size is = unless (dex.Pool (pool.Order table.Members place)) (λ none. let e = neither_of (eqb place 0) (ltb s.1 number.0) none in
        (order_bad bytes class data_at which count mid l place s number.1 (not_zero place e.0) stands
        (subst (λ (k : ℕ). IsUlebAt bytes s.0 (k, number.1)) (let low = ltb-false s.1 number.0 e.1 in omega (arith, low, is.number)) is.is_step))) (λ _. sound tt)

    pub fails_field_entry : (size : ℕ) → IsTableOf which 80 → HasSize bytes 80 size → Fails (IsJust bytes) (field_entry_at bytes size place s)
    unfolding field_entry_at
    fails_field_entry size of_table is_size = fails_next (fails_step 80 size of_table is_size) (λ number h. let is = (founds_step bytes size s.1 s.0).found number h in
        fails_next (fails_leb number.1 (placed.Classes (EntryFlags class data_at which place s.1 s.0 is.step number.1 l.def l.has l.leads stands is.is_step))) (λ flags _.
        fails_next (fails_order number size is) (λ order _. sound (record { number = number.0; flags = record { 0 = flags.0 }; code = 0 }, (flags.1, number.0)))))

    pub fails_method_entry : (size : ℕ) → 2 ≤ which → IsTableOf which 88 → HasSize bytes 88 size → Fails (IsJust bytes) (method_entry_at bytes size place s)
    unfolding method_entry_at
    fails_method_entry size method of_table is_size = fails_next (fails_step 88 size of_table is_size) (λ number h. let is = (founds_step bytes size s.1 s.0).found number h in
        fails_next (fails_leb number.1 (placed.Classes (EntryFlags class data_at which place s.1 s.0 is.step number.1 l.def l.has l.leads stands is.is_step))) (λ flags g.
        fails_next (fails_leb flags.1 (placed.Classes (EntryCode class data_at which place s.1 s.0 is.step flags.0 number.1 flags.1 l.def l.has l.leads stands method is.is_step ((finds_number bytes number.1).found flags g)))) (λ code _.
        fails_next (fails_order number size is) (λ order _. sound (record { number = number.0; flags = record { 0 = flags.0 }; code = code.0 }, (code.1, number.0))))))

    -- the entry that is read there
    pub has_entry : (e : Entry) (stop : ℕ) → IsEntryOf bytes which s.1 s.0 e stop → HasEntry bytes class which place e
    has_entry e stop is = record { def = l.def; has = l.has; data_at = data_at; leads = l.leads; before = s.1; at = s.0; stop = stop; stands = stands; is = is }
