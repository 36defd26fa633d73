-- An entry that stands in the class data of a class is one that was read of it.
use Rattle.std.proofs.Common.{◌≡◌, ◌<◌, ℕ, zero, suc, ◌+◌, ◌*◌, List, [], ◌∷◌, length, Some, refl, sym, ap, subst, ◌∙◌, arith}
use Rattle.std.specs.Prelude.{slice_get, slice_index}
use Rattle.dex_base.specs.Leb.{IsUlebAt}
use Rattle.dex_defs.specs.ClassData.{Entry, Lists, IsClassData, EntriesTo}
use Rattle.dex_defs.specs.ClassDefs.{Def, IsDef}
use Rattle.dex_defs.specs.Places.{HasDef, IsEntryOf, last_number, ListsTo, HasEntry}
use Rattle.spelled_law.proofs.Once.{once_32, once_uleb, chain_once}
use Rattle.spelled_law.proofs.OnceFile.{Once, field_once, method_once, entries_once, def_once}

pub entry_once : (bytes : List ℕ) (which : ℕ) → Once (IsEntryOf bytes which)
entry_once bytes zero before at at' e f m n same a b = field_once bytes before at at' e f m n same a b
entry_once bytes (suc zero) before at at' e f m n same a b = field_once bytes before at at' e f m n same a b
entry_once bytes (suc (suc which)) before at at' e f m n same a b = method_once bytes before at at' e f m n same a b

-- the entry behind a front of a list that stands there is one of the list
behind_front : (Is : ℕ → ℕ → Entry → ℕ → Type 0) → Once Is → (before before' at at' : ℕ) → before ≡ before' → at ≡ at' → (es front : List Entry) (stop mid : ℕ) (e : Entry) (end : ℕ) → EntriesTo Is before at es stop → EntriesTo Is before' at' front mid
    → Is (last_number before' front) mid e end → length front < length es → slice_get es (length front) ≡ Some e
behind_front Is once before before' at at' behind same [] front stop mid e end a b i less = absurd (omega (arith, less))
behind_front Is once before before' at at' behind same (x ∷ xs) [] stop mid e end a b i less =
    let s = once before at mid x e a.0 end (same ∙ sym b) a.1 (subst (λ (k : ℕ). Is k mid e end) (sym behind) i) in ap (λ (y : Entry). Some y) s.entry
behind_front Is once before before' at at' behind same (x ∷ xs) (f ∷ fs) stop mid e end a b i less =
    let s = once before at at' x f a.0 b.0 same a.1 (subst (λ (k : ℕ). Is k at' f b.0) (sym behind) b.1) in
    behind_front Is once x.number f.number a.0 b.0 (ap (λ (y : Entry). y.number) s.entry) s.place xs fs stop mid e end a.2 b.2 i (omega (arith, less))

-- lists of the same counts
pub same_lists : (bytes counts : List ℕ) (which at at' : ℕ) → at ≡ at' → (xs ys : List (List Entry)) (stop end : ℕ) → length xs ≡ length ys → ListsTo bytes counts which at xs stop → ListsTo bytes counts which at' ys end → stop ≡ end
same_lists bytes counts which at at' same [] [] stop end l a b = a ∙ same ∙ sym b
same_lists bytes counts which at at' same [] (y ∷ ys) stop end l a b = absurd cc
same_lists bytes counts which at at' same (x ∷ xs) [] stop end l a b = absurd cc
same_lists bytes counts which at at' same (x ∷ xs) (y ∷ ys) stop end l a b =
    let e = entries_once (IsEntryOf bytes which) (entry_once bytes which) 0 0 at at' refl same x y a.1.0 b.1.0 (a.0 ∙ sym b.0) a.1.1 b.1.1 in
    same_lists bytes counts (suc which) a.1.0 b.1.0 e.1 xs ys stop end (omega (arith, l)) a.1.2 b.1.2

-- a class has one class_def
pub same_def : (bytes : List ℕ) (class which place : ℕ) (def : Def) (e : Entry) → HasDef bytes class def → (x : HasEntry bytes class which place e) → x.def ≡ def
same_def bytes class which place def e has x =
    let offset = once_32 bytes 100 x.has.stands.table.offset has.stands.table.offset x.has.stands.is.offset has.stands.is.offset in
    let here : x.has.at ≡ has.at = x.has.stands.place ∙ ap (λ (n : ℕ). n + 32 * class) offset ∙ sym has.stands.place in
    def_once bytes has.at x.def def (subst (λ (n : ℕ). IsDef bytes n x.def) here x.has.is) has.is

-- a list of class data, behind those before it
pub record ListAt (bytes counts : List ℕ) (begin which : ℕ) (es : List Entry) : Type 0 where
  pub lists : List (List Entry)
  pub many : length lists ≡ which
  pub mid : ℕ
  pub full : ListsTo bytes counts 0 begin lists mid
  pub stop : ℕ
  pub entries : EntriesTo (IsEntryOf bytes which) 0 mid es stop
  pub long : length es ≡ slice_index counts which

abbrev pub list_of : Lists → ℕ → List Entry
list_of l zero = l.statics
list_of l (suc zero) = l.instances
list_of l (suc (suc zero)) = l.directs
list_of l (suc (suc (suc zero))) = l.virtuals
list_of l (suc (suc (suc (suc k)))) = []

abbrev pub counts_of : Lists → List ℕ
counts_of l = length l.statics ∷ length l.instances ∷ length l.directs ∷ length l.virtuals ∷ []

module _ (bytes : List ℕ) (at : ℕ) (l : Lists) (stop : ℕ) (h : IsClassData bytes at l stop) where
  pub list_at : (which place : ℕ) → place < slice_index (counts_of l) which → ListAt bytes (counts_of l) h.begin which (list_of l which)
  list_at zero place less = record { lists = []; many = refl; mid = h.begin; full = refl; stop = h.instances_at; entries = h.statics; long = refl }
  list_at (suc zero) place less = record { lists = l.statics ∷ []; many = refl; mid = h.instances_at; full = (refl, (h.instances_at, h.statics, refl)); stop = h.directs_at; entries = h.instances; long = refl }
  list_at (suc (suc zero)) place less = record {
    lists = l.statics ∷ l.instances ∷ [];
    many = refl;
    mid = h.directs_at;
    full = (refl, (h.instances_at, h.statics, (refl, (h.directs_at, h.instances, refl))));
    stop = h.virtuals_at;
    entries = h.directs;
    long = refl;
  }
  list_at (suc (suc (suc zero))) place less = record {
    lists = l.statics ∷ l.instances ∷ l.directs ∷ [];
    many = refl;
    mid = h.virtuals_at;
    full = (refl, (h.instances_at, h.statics, (refl, (h.directs_at, h.instances, (refl, (h.virtuals_at, h.directs, refl))))));
    stop = stop;
    entries = h.virtuals;
    long = refl;
  }
  list_at (suc (suc (suc (suc k)))) place less = absurd (omega (arith, less))

  -- the entry of a class with this class_def
  pub listed_once : (class which place : ℕ) (def : Def) (e : Entry) → HasDef bytes class def → def.data_at ≡ at → HasEntry bytes class which place e → slice_get (list_of l which) place ≡ Some e
  listed_once class which place def e has same x =
      let its : x.def ≡ def = same_def bytes class which place def e has x in
      let there : x.data_at ≡ at = x.leads.1 ∙ ap (λ (y : Def). y.data_at) its ∙ same in
      let s = x.stands in
      let c = chain_once (IsUlebAt bytes) (once_uleb bytes) x.data_at at there s.counts (counts_of l) s.begin h.begin s.has.four s.has.are
      (h.counts.second, h.counts.statics, (h.counts.third, h.counts.instances, (h.counts.fourth, h.counts.directs, (h.begin, h.counts.virtuals, refl)))) in
      let inside : place < slice_index (counts_of l) which = subst (λ (ns : List ℕ). place < slice_index ns which) c.0 s.inside in
      let mine = list_at which place inside in
      let mid : s.mid ≡ mine.mid = same_lists bytes (counts_of l) 0 s.begin h.begin c.1 s.lists mine.lists s.mid mine.mid (s.many ∙ sym mine.many)
      (subst (λ (ns : List ℕ). ListsTo bytes ns 0 s.begin s.lists s.mid) c.0 s.full) mine.full in
      subst (λ (n : ℕ). slice_get (list_of l which) n ≡ Some e) s.place_is
      (behind_front (IsEntryOf bytes which) (entry_once bytes which) 0 0 mine.mid s.mid refl (sym mid) (list_of l which) s.front mine.stop x.at e x.stop mine.entries s.stands
      (subst (λ (n : ℕ). IsEntryOf bytes which n x.at e x.stop) s.before_is x.is) (omega (arith, s.place_is, inside, mine.long)))
