-- The class data that is read where a class_def leads, and its entries.
use Rattle.std.proofs.Common.{◌≡◌, ◌<◌, ◌≤◌, inl, inr, ℕ, zero, suc, Bool, true, false, cond, List, [], ◌∷◌, length, Some, Ok, refl, sym, ap, subst, ◌∙◌, arith}
use Rattle.std.specs.Prelude.{slice_get, slice_index}
use Rattle.std.proofs.lemmas.Bool.{ne_eqb}
use Rattle.lemmas.proofs.Lists.{got_short, get_map}
use Rattle.lemmas.proofs.Options.{some_same, before_map}
use Rattle.std.specs.List.{AllByRecursion}
use Rattle.dex_base.specs.Leb.{IsUlebAt}
use Rattle.program_model.specs.declared.program.Class.{Class}
use Rattle.program_model.specs.declared.program.Program.{Program}
use Rattle.dex_defs.specs.ClassData.{Entry, Lists, EntriesTo, IsClassData}
use Rattle.dex_defs.specs.ClassDefs.{Def}
use Rattle.dex_defs.specs.Places.{HasDef, Leads, IsEntryOf, ListsTo, last_number, HasCounts, EntryStands, HasEntry}
use Rattle.dex_read.specs.Ascending.{Rises}
use Rattle.dex_read.specs.declared.class_data.Listed.{Listed}
use Rattle.dex_read.specs.declared.class_data.Members.{Members}
use Rattle.dex_read.specs.declared.members.Budget.{Budget}
use Rattle.dex_read.specs.declared.members.Owner.{Owner}
use Rattle.dex_read.specs.ClassData.{members_at}
use Rattle.dex_read.specs.Classes as classes
use Rattle.dex_read.specs.File.{classes_at}
use Rattle.dex_defs.specs.Spells.{Spells}
use Rattle.file_laws.specs.ClassData.{entry_of, lists_of, FieldSuits, MethodSuits, AreMembers}
use Rattle.file_laws.proofs.ClassData.{founds_members}
use Rattle.spelled_law.proofs.Once.{once_uleb, chain_once}
use Rattle.spelled_law.proofs.OnceFile.{Once}
use Rattle.refused_law.proofs.OnceEntries.{entry_once, same_lists, list_at, counts_of, listed_once, list_of}
use Rattle.clean_files.proofs.Classes.{class_of, list_in, same_list}

-- ---- entries one behind another

-- an entry behind these of its list
record Behind (Is : ℕ → ℕ → Entry → ℕ → Type 0) (before at : ℕ) : Type 0 where
  e : Entry
  stop : ℕ
  is : Is before at e stop

front_there : (Is : ℕ → ℕ → Entry → ℕ → Type 0) → Once Is → (before before' at at' : ℕ) → before ≡ before' → at ≡ at' → (es front : List Entry) (stop mid : ℕ) → EntriesTo Is before at es stop → EntriesTo Is before' at' front mid
    → length front < length es → Behind Is (last_number before' front) mid
front_there Is once before before' at at' behind same [] front stop mid a b less = absurd (omega (arith, less))
front_there Is once before before' at at' behind same (x ∷ xs) [] stop mid a b less =
    record { e = x; stop = a.0; is = subst (λ n. Is n mid x a.0) behind (subst (λ n. Is before n x a.0) (same ∙ sym b) a.1) }
front_there Is once before before' at at' behind same (x ∷ xs) (f ∷ fs) stop mid a b less =
    let s = once before at at' x f a.0 b.0 same a.1 (subst (λ (k : ℕ). Is k at' f b.0) (sym behind) b.1) in
    front_there Is once x.number f.number a.0 b.0 (ap (λ (y : Entry). y.number) s.entry) s.place xs fs stop mid a.2 b.2 (omega (arith, less))

-- the last of a front is one of the list
record LastOf (es : List Entry) (place number : ℕ) : Type 0 where
  e : Entry
  there : slice_get es place ≡ Some e
  is : e.number ≡ number

front_last : (Is : ℕ → ℕ → Entry → ℕ → Type 0) → Once Is → (before before' at at' : ℕ) → before ≡ before' → at ≡ at' → (es front : List Entry) (stop mid place : ℕ) → EntriesTo Is before at es stop → EntriesTo Is before' at' front mid
    → length front ≡ suc place → length front ≤ length es → LastOf es place (last_number before' front)
front_last Is once before before' at at' behind same es [] stop mid place a b long less = absurd (omega (arith, long))
front_last Is once before before' at at' behind same [] (f ∷ fs) stop mid place a b long less = absurd (omega (arith, less))
front_last Is once before before' at at' behind same (x ∷ xs) (f ∷ []) stop mid zero a b long less =
    let s = once before at at' x f a.0 b.0 same a.1 (subst (λ (k : ℕ). Is k at' f b.0) (sym behind) b.1) in
    record { e = x; there = refl; is = ap (λ (y : Entry). y.number) s.entry }
front_last Is once before before' at at' behind same (x ∷ xs) (f ∷ []) stop mid (suc place) a b long less = absurd (omega (arith, long))
front_last Is once before before' at at' behind same (x ∷ xs) (f ∷ g ∷ gs) stop mid zero a b long less = absurd (omega (arith, long))
front_last Is once before before' at at' behind same (x ∷ xs) (f ∷ g ∷ gs) stop mid (suc place) a b long less =
    let s = once before at at' x f a.0 b.0 same a.1 (subst (λ (k : ℕ). Is k at' f b.0) (sym behind) b.1) in
    let r = front_last Is once x.number f.number a.0 b.0 (ap (λ (y : Entry). y.number) s.entry) s.place xs (g ∷ gs) stop mid place a.2 b.2 (omega (arith, long)) (omega (arith, less)) in
    record { e = r.e; there = r.there; is = r.is }

-- the front of entries before one of them
record Split (Is : ℕ → ℕ → Entry → ℕ → Type 0) (before at k : ℕ) (e : Entry) : Type 0 where
  front : List Entry
  long : length front ≡ k
  mid : ℕ
  entries : EntriesTo Is before at front mid
  stop : ℕ
  is : Is (last_number before front) mid e stop

split_at : (Is : ℕ → ℕ → Entry → ℕ → Type 0) (before at : ℕ) (es : List Entry) (stop k : ℕ) (e : Entry) → EntriesTo Is before at es stop → slice_get es k ≡ Some e → Split Is before at k e
split_at Is before at [] stop k e h g = absurd cc
split_at Is before at (x ∷ xs) stop zero e h g = record { front = []; long = refl; mid = at; entries = refl; stop = h.0; is = subst (λ y. Is before at y h.0) (some_same x e g) h.1 }
split_at Is before at (x ∷ xs) stop (suc k) e h g =
    let r = split_at Is x.number h.0 xs stop k e h.2 g in
    record { front = x ∷ r.front; long = ap suc r.long; mid = r.mid; entries = (h.0, h.1, r.entries); stop = r.stop; is = r.is }

module _ (bytes : List ℕ) (at : ℕ) (l : Lists) (stop : ℕ) (h : IsClassData bytes at l stop) where
  has_counts : HasCounts bytes at (counts_of l) h.begin
  has_counts = record { four = refl; are = (h.counts.second, h.counts.statics, (h.counts.third, h.counts.instances, (h.counts.fourth, h.counts.directs, (h.begin, h.counts.virtuals, refl)))) }

  list_short : (which k : ℕ) (e : Entry) → slice_get (list_of l which) k ≡ Some e → k < slice_index (counts_of l) which
  list_short zero k e g = got_short l.statics k e g
  list_short (suc zero) k e g = got_short l.instances k e g
  list_short (suc (suc zero)) k e g = got_short l.directs k e g
  list_short (suc (suc (suc zero))) k e g = got_short l.virtuals k e g
  list_short (suc (suc (suc (suc j)))) k e g = absurd cc

  -- an entry of a list stands there
  pub has_listed : (class which k : ℕ) (def : Def) (e : Entry) → HasDef bytes class def → Leads def.data_at at → slice_get (list_of l which) k ≡ Some e → HasEntry bytes class which k e
  has_listed class which k def e has leads g =
      let inside = list_short which k e g in
      let mine = list_at bytes at l stop h which k inside in
      let s = split_at (IsEntryOf bytes which) 0 mine.mid (list_of l which) mine.stop k e mine.entries g in
      record {
        def = def;
        has = has;
        data_at = at;
        leads = leads;
        before = last_number 0 s.front;
        at = s.mid;
        stop = s.stop;
        stands = record {
          counts = counts_of l;
          begin = h.begin;
          has = has_counts;
          lists = mine.lists;
          many = mine.many;
          mid = mine.mid;
          full = mine.full;
          front = s.front;
          place_is = s.long;
          inside = inside;
          stands = s.entries;
          before_is = refl;
        };
        is = s.is;
      }

  -- what stands behind entries of a list
  record Found (which place before here : ℕ) : Type 0 where
    e : Entry
    end : ℕ
    is : IsEntryOf bytes which before here e end
    back : (k : ℕ) → place ≡ suc k → LastOf (list_of l which) k before

  found : (which place before here : ℕ) → EntryStands bytes at which place before here → Found which place before here
  found which place before here s =
      let c = chain_once (IsUlebAt bytes) (once_uleb bytes) at at refl s.counts (counts_of l) s.begin h.begin s.has.four s.has.are has_counts.are in
      let inside : place < slice_index (counts_of l) which = subst (λ (ns : List ℕ). place < slice_index ns which) c.0 s.inside in
      let mine = list_at bytes at l stop h which place inside in
      let mid : s.mid ≡ mine.mid = same_lists bytes (counts_of l) 0 s.begin h.begin c.1 s.lists mine.lists s.mid mine.mid (s.many ∙ sym mine.many)
      (subst (λ (ns : List ℕ). ListsTo bytes ns 0 s.begin s.lists s.mid) c.0 s.full) mine.full in
      let less : length s.front < length (list_of l which) = omega (arith, s.place_is, inside, mine.long) in
      let b = front_there (IsEntryOf bytes which) (entry_once bytes which) 0 0 mine.mid s.mid refl (sym mid) (list_of l which) s.front mine.stop here mine.entries s.stands less in
      record {
        e = b.e;
        end = b.stop;
        is = subst (λ n. IsEntryOf bytes which n here b.e b.stop) (sym s.before_is) b.is;
        back = λ k e. subst (LastOf (list_of l which) k) (sym s.before_is) (front_last (IsEntryOf bytes which) (entry_once bytes which) 0 0 mine.mid s.mid refl (sym mid) (list_of l which) s.front mine.stop here k mine.entries s.stands
            (s.place_is ∙ e) (omega (arith, less)));
      }

-- ---- the members that are read

-- a member of this list fits it
abbrev pub Suits : Program → Owner → Members → ℕ → Listed → Type 0
Suits q owner m zero x = FieldSuits q owner true [] x
Suits q owner m (suc zero) x = FieldSuits q owner false m.statics x
Suits q owner m (suc (suc zero)) x = MethodSuits q owner true [] x
Suits q owner m (suc (suc (suc zero))) x = MethodSuits q owner false m.directs x
Suits q owner m (suc (suc (suc (suc k)))) x = ⊥

all_at : {X : Type 0} (P : X → Type 0) (xs : List X) (k : ℕ) (x : X) → AllByRecursion P xs → slice_get xs k ≡ Some x → P x
all_at P [] k x h e = absurd cc
all_at P (y ∷ ys) zero x h e = subst P (some_same y x e) h.0
all_at P (y ∷ ys) (suc k) x h e = all_at P ys k x h.1 e

rises_at : (place before : ℕ) (es : List Listed) (k : ℕ) (x y : Listed) → Rises place before es → slice_get es k ≡ Some x → slice_get es (suc k) ≡ Some y → x.number < y.number
rises_at place before [] k x y h e g = absurd cc
rises_at place before (a ∷ []) zero x y h e g = absurd cc
rises_at place before (a ∷ []) (suc k) x y h e g = absurd cc
rises_at place before (a ∷ b ∷ es) zero x y h e g = elim h.1.0 [
  | inl none ↦ absurd (omega (arith, none))
  | inr less ↦ subst (λ (z : Listed). z.number < y.number) (some_same a x e) (subst (λ (z : Listed). a.number < z.number) (some_same b y g) less)
]
rises_at place before (a ∷ b ∷ es) (suc k) x y h e g = rises_at (suc place) a.number (b ∷ es) k x y h.1 e g

pub record DataRead (bytes : List ℕ) (q : Program) (class : ℕ) (def : Def) (data_at : ℕ) : Type 0 where
  pub m : Members
  pub are : AreMembers bytes q (record { place = class; kind = def.name }) data_at m

-- a member by its entry
pub record MemberRead (bytes : List ℕ) (q : Program) (m : Members) (owner : Owner) (which place : ℕ) (e : Entry) : Type 0 where
  pub x : Listed
  pub there : slice_get (list_in m which) place ≡ Some x
  pub is : entry_of x ≡ e
  pub suits : Suits q owner m which x

module _ (bytes : List ℕ) (q : Program) (left : Budget) (cs : List Class) (filled : classes_at bytes q left ≡ Ok cs) (s : Spells bytes (record q { classes = cs })) where
  members_of : (owner : Owner) (offset : ℕ) (m : Members) → 0 < offset → classes.listed_at bytes q owner offset ≡ Ok m → members_at bytes q owner offset ≡ Ok m
  members_of owner zero m some h = absurd (omega (arith, some))
  members_of owner (suc k) m some h = ap (λ (b : Bool). cond b (Ok classes.no_members) (members_at bytes q owner (suc k))) (sym (ne_eqb (suc k) 0 (λ e. omega (arith, e)))) ∙ h

  pub data_of : (class : ℕ) (def : Def) (data_at : ℕ) → HasDef bytes class def → Leads def.data_at data_at → DataRead bytes q class def data_at
  data_of class def data_at has leads =
      let c = class_of bytes q left cs filled s class def has in
      let m = c.read.listed in
      let owner : Owner = record { place = class; kind = c.read.def.class } in
      let here : c.read.def.data_at ≡ data_at = ap (λ (d : Def). d.data_at) c.own ∙ sym leads.1 in
      let listed = members_of owner c.read.def.data_at m (omega (arith, leads.0, leads.1, here)) c.read.listed_are in
      let are = (founds_members bytes q owner c.read.def.data_at).found m listed in
      record { m = m; are = subst (λ n. AreMembers bytes q (record { place = class; kind = n }) data_at m) (ap (λ (d : Def). d.name) c.own) (subst (λ n. AreMembers bytes q owner n m) here are) }

  member_suits : (owner : Owner) (at : ℕ) (m : Members) → AreMembers bytes q owner at m → (which place : ℕ) (x : Listed) → slice_get (list_in m which) place ≡ Some x → Suits q owner m which x
  member_suits owner at m are zero place x h = all_at (FieldSuits q owner true []) m.statics place x are.statics h
  member_suits owner at m are (suc zero) place x h = all_at (FieldSuits q owner false m.statics) m.instances place x are.instances h
  member_suits owner at m are (suc (suc zero)) place x h = all_at (MethodSuits q owner true []) m.directs place x are.directs h
  member_suits owner at m are (suc (suc (suc zero))) place x h = all_at (MethodSuits q owner false m.directs) m.virtuals place x are.virtuals h
  member_suits owner at m are (suc (suc (suc (suc k)))) place x h = absurd cc

  member_rises : (owner : Owner) (at : ℕ) (m : Members) → AreMembers bytes q owner at m → (which k : ℕ) (x y : Listed) → slice_get (list_in m which) k ≡ Some x → slice_get (list_in m which) (suc k) ≡ Some y → x.number < y.number
  member_rises owner at m are zero k x y h g = rises_at 0 0 m.statics k x y are.ascend.statics.rises h g
  member_rises owner at m are (suc zero) k x y h g = rises_at 0 0 m.instances k x y are.ascend.instances.rises h g
  member_rises owner at m are (suc (suc zero)) k x y h g = rises_at 0 0 m.directs k x y are.ascend.directs.rises h g
  member_rises owner at m are (suc (suc (suc zero))) k x y h g = rises_at 0 0 m.virtuals k x y are.ascend.virtuals.rises h g
  member_rises owner at m are (suc (suc (suc (suc j)))) k x y h g = absurd cc

  listed_entry : (m : Members) (which k : ℕ) (e : Entry) → slice_get (list_of (lists_of m) which) k ≡ Some e → (x : Listed) × (slice_get (list_in m which) k ≡ Some x) × (entry_of x ≡ e)
  listed_entry m which k e h =
      let r = before_map entry_of (slice_get (list_in m which) k) e (sym (get_map entry_of (list_in m which) k) ∙ ap (λ es. slice_get es k) (sym (same_list m which)) ∙ h) in
      (r.0, r.1.0, r.1.1)

  module _ (class : ℕ) (def : Def) (data_at : ℕ) (has : HasDef bytes class def) (leads : Leads def.data_at data_at) (d : DataRead bytes q class def data_at) where
    abbrev owner : Owner
    owner = record { place = class; kind = def.name }

    member_of : (which place : ℕ) (e : Entry) → HasEntry bytes class which place e → MemberRead bytes q d.m owner which place e
    member_of which place e h =
        let there = listed_once bytes data_at (lists_of d.m) d.are.stop d.are.data_is class which place def e has (sym leads.1) h in
        let r = listed_entry d.m which place e there in
        record { x = r.0; there = r.1; is = r.2; suits = member_suits owner data_at d.m d.are which place r.0 r.1 }

    -- the member whose entry stands behind others
    pub record Standing (which place before at : ℕ) : Type 0 where
      pub e : Entry
      pub stop : ℕ
      pub is : IsEntryOf bytes which before at e stop
      pub here : HasEntry bytes class which place e
      pub member : MemberRead bytes q d.m owner which place e
      pub above : (k : ℕ) → place ≡ suc k → before < e.number

    pub standing : (which place before at : ℕ) → EntryStands bytes data_at which place before at → Standing which place before at
    standing which place before at stands =
        let f = found bytes data_at (lists_of d.m) d.are.stop d.are.data_is which place before at stands in
        let here : HasEntry bytes class which place f.e = record { def = def; has = has; data_at = data_at; leads = leads; before = before; at = at; stop = f.end; stands = stands; is = f.is } in
        let member = member_of which place f.e here in
        record {
          e = f.e;
          stop = f.end;
          is = f.is;
          here = here;
          member = member;
          above = λ k e.
              let back = f.back k e in
              let r = listed_entry d.m which k back.e back.there in
              let less = member_rises owner data_at d.m d.are which k r.0 member.x r.1 (subst (λ n. slice_get (list_in d.m which) n ≡ Some member.x) e member.there) in
              let low : r.0.number ≡ before = ap (λ (x : Entry). x.number) r.2 ∙ back.is in
              let high : member.x.number ≡ f.e.number = ap (λ (x : Entry). x.number) member.is in
              omega (arith, less, low, high);
        }

  -- a member with the class that it is read of
  pub record EntryRead (class which place : ℕ) (e : Entry) : Type 0 where
    pub def : Def
    pub data_at : ℕ
    pub has : HasDef bytes class def
    pub leads : Leads def.data_at data_at
    pub read : DataRead bytes q class def data_at
    pub member : MemberRead bytes q read.m (record { place = class; kind = def.name }) which place e

  pub entry_read : (class which place : ℕ) (e : Entry) → HasEntry bytes class which place e → EntryRead class which place e
  entry_read class which place e h =
      let d = data_of class h.def h.data_at h.has h.leads in
      record { def = h.def; data_at = h.data_at; has = h.has; leads = h.leads; read = d; member = member_of class h.def h.data_at h.has h.leads d which place e h }

  -- another member of the same class, in its lists
  pub also_read : (class which place other at : ℕ) (e d : Entry) (r : EntryRead class which place e) → HasEntry bytes class other at d → MemberRead bytes q r.read.m (record { place = class; kind = r.def.name }) other at d
  also_read class which place other at e d r h = member_of class r.def r.data_at r.has r.leads r.read other at d h
