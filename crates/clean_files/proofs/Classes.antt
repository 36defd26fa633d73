-- The class that is read where a class_def stands.
use Rattle.std.proofs.Common.{◌≡◌, ℕ, zero, suc, ◌+◌, ◌*◌, List, [], ◌∷◌, map, length, Some, Ok, refl, sym, ap, subst, ◌∙◌, arith}
use Rattle.std.specs.Prelude.{slice_get}
use Rattle.std.proofs.lemmas.Bool.{eqb-true}
use Rattle.lemmas.proofs.Options.{some_same}
use Rattle.dex_base.specs.Word.{Is32}
use Rattle.program_model.specs.declared.program.Class.{Class}
use Rattle.program_model.specs.declared.program.Program.{Program}
use Rattle.dex_pools.specs.Finds.{RunOf}
use Rattle.dex_defs.specs.ClassDefs.{Def, IsDef, IsClass}
use Rattle.dex_defs.specs.Places.{HasDef}
use Rattle.dex_defs.specs.Spells.{Spells, sizes_in}
use Rattle.dex_read.specs.declared.class_data.Listed.{Listed}
use Rattle.dex_read.specs.declared.class_data.Members.{Members}
use Rattle.dex_read.specs.declared.members.Budget.{Budget}
use Rattle.dex_read.specs.Classes as classes
use Rattle.dex_read.specs.File.{class_in, table_at, classes_at}
use Rattle.file_laws.specs.Founds.{Founds}
use Rattle.file_laws.proofs.Founding.{known, weaker, done, either, next, founds_run}
use Rattle.file_laws.specs.Class.{def_of}
use Rattle.file_laws.specs.ClassData.{entry_of, lists_of}
use Rattle.file_laws.proofs.Classes.{founds_def}
use Rattle.file_laws.proofs.Words.{finds_word, finds_need}
use Rattle.read_laws.proofs.ClassReading.{IsRead, class_read}
use Rattle.spelled_law.proofs.Once.{once_32}
use Rattle.spelled_law.proofs.OnceFile.{def_once}
use Rattle.refused_law.proofs.OnceEntries.{list_of}
use Rattle.clean_files.proofs.Tables.{entry_is, listed}

-- ---- one of a run

record Ran {X S : Type 0} (Is : ℕ → S → X × S → Type 0) (i : ℕ) (x : X) : Type 0 where
  before : S
  behind : S
  is : Is i before (x, behind)

ran_at : {X S : Type 0} (Is : ℕ → S → X × S → Type 0) (from : ℕ) (s : S) (xs : List X) (stop : S) (k : ℕ) (x : X) → RunOf Is from s xs stop → slice_get xs k ≡ Some x → Ran Is (from + k) x
ran_at Is from s [] stop k x h e = absurd cc
ran_at {S = S} Is from s (y ∷ ys) stop zero x h e = some_of y e h.0 h.1
  where
    some_of : (z : _) → Some z ≡ Some x → (mid : S) → Is from s (z, mid) → Ran Is (from + 0) x
    some_of z e mid is = let at : from ≡ from + 0 = omega arith in subst (λ n. Ran Is n x) at (record { before = s; behind = mid; is = subst (λ w. Is from s (w, mid)) (some_same z x e) is })
ran_at Is from s (y ∷ ys) stop (suc k) x h e = let at : suc from + k ≡ from + suc k = omega arith in subst (λ n. Ran Is n x) at (ran_at Is (suc from) h.0 ys stop k x h.2 e)

-- ---- classes

module _ (bytes : List ℕ) (q : Program) where
  abbrev IsIn : ℕ → ℕ → Budget → Class × Budget → Type 0
  IsIn offset i left y = class_in bytes q offset i left ≡ Ok y

  record AreRun (count offset : ℕ) (left : Budget) (r : List Class × Budget) : Type 0 where
    long : length r.0 ≡ count
    ran : RunOf (IsIn offset) 0 left r.0 r.1

  founds_table : (count offset : ℕ) (left : Budget) → Founds (AreRun count offset left) (table_at bytes q count offset left)
  unfolding table_at
  founds_table count offset left = either
      (λ e. weaker (Ok ([], left)) (done ([], left)) (λ y h. subst (AreRun count offset left) (sym h) (record { long = sym (eqb-true count 0 e); ran = refl })))
      (λ e. weaker _ (next (known (finds_need bytes offset (32 * count))) (λ whole _. founds_run (IsIn offset) (class_in bytes q offset) (λ i s. record { found = λ y h. h }) 0 count left))
      (λ y h. record { long = h.2.0; ran = h.2.1 }))

  record AreRead (left : Budget) (cs : List Class) : Type 0 where
    count : ℕ
    offset : ℕ
    is_count : Is32 bytes 96 count
    is_offset : Is32 bytes 100 offset
    stop : Budget
    run : AreRun count offset left (cs, stop)

  founds_all : (left : Budget) → Founds (AreRead left) (classes_at bytes q left)
  unfolding classes_at
  founds_all left = weaker (classes_at bytes q left)
      (next (known (finds_word bytes 96)) (λ count _. next (known (finds_word bytes 100)) (λ offset _. next (founds_table count offset left) (λ classes _. done classes.0))))
      (λ y h. let offset = h.2 in let table = offset.2 in subst (AreRead left) (sym table.2) (record { count = h.0; offset = offset.0; is_count = h.1; is_offset = offset.1; stop = table.0.1; run = table.1 }))

-- the lists of class data by their numbers
abbrev pub list_in : Members → ℕ → List Listed
list_in m zero = m.statics
list_in m (suc zero) = m.instances
list_in m (suc (suc zero)) = m.directs
list_in m (suc (suc (suc zero))) = m.virtuals
list_in m (suc (suc (suc (suc k)))) = []

pub same_list : (m : Members) (which : ℕ) → list_of (lists_of m) which ≡ map entry_of (list_in m which)
same_list m zero = refl
same_list m (suc zero) = refl
same_list m (suc (suc zero)) = refl
same_list m (suc (suc (suc zero))) = refl
same_list m (suc (suc (suc (suc k)))) = refl

-- the class that is read of a class_def
pub record ClassRead (bytes : List ℕ) (q : Program) (cs : List Class) (class : ℕ) (def : Def) : Type 0 where
  pub at : ℕ
  pub left : Budget
  pub r : Class × Budget
  pub read : IsRead bytes q at class left r
  pub own : def_of read.def ≡ def
  pub c : Class
  pub there : slice_get cs class ≡ Some c
  pub is : IsClass bytes (record q { classes = cs }) (sizes_in q) at c
  pub same : is.def ≡ def

-- a class has one class_def
pub one_def : (bytes : List ℕ) (class : ℕ) (d e : Def) → HasDef bytes class d → HasDef bytes class e → d ≡ e
one_def bytes class d e h g =
    let offset = once_32 bytes 100 h.stands.table.offset g.stands.table.offset h.stands.is.offset g.stands.is.offset in
    let here : h.at ≡ g.at = h.stands.place ∙ ap (λ n. n + 32 * class) offset ∙ sym g.stands.place in
    def_once bytes g.at d e (subst (λ n. IsDef bytes n d) here h.is) g.is

module _ (bytes : List ℕ) (q : Program) (left : Budget) (cs : List Class) (filled : classes_at bytes q left ≡ Ok cs) (s : Spells bytes (record q { classes = cs })) where
  pub class_of : (class : ℕ) (def : Def) → HasDef bytes class def → ClassRead bytes q cs class def
  class_of class def has =
      let entry = entry_is bytes 96 32 class has.at s.table s.stands has.stands in
      let l = listed s.table.size (λ i. IsClass bytes (record q { classes = cs }) (sizes_in q) (s.table.offset + 32 * i)) cs class s.classes entry.0 in
      let a = (founds_all bytes q left).found cs filled in
      let offset : a.offset ≡ s.table.offset = once_32 bytes 100 a.offset s.table.offset a.is_offset s.stands.offset in
      let ran = ran_at (IsIn bytes q a.offset) 0 left cs a.stop class l.x a.run.ran l.there in
      let here : a.offset + 32 * (0 + class) ≡ has.at = (let zero_on : 0 + class ≡ class = omega arith in ap (λ n. a.offset + 32 * n) zero_on ∙ ap (λ n. n + 32 * class) offset ∙ sym entry.1) in
      let zero_on : 0 + class ≡ class = omega arith in
      let read : classes.class_at bytes q has.at class ran.before ≡ Ok (l.x, ran.behind) = subst (λ n. classes.class_at bytes q n class ran.before ≡ Ok (l.x, ran.behind)) here
      (subst (λ n. classes.class_at bytes q (a.offset + 32 * (0 + class)) n ran.before ≡ Ok (l.x, ran.behind)) zero_on ran.is) in
      let is_read = (class_read bytes q has.at class ran.before).found (l.x, ran.behind) read in
      let is : IsClass bytes (record q { classes = cs }) (sizes_in q) has.at l.x = subst (λ n. IsClass bytes (record q { classes = cs }) (sizes_in q) n l.x) (sym entry.1) l.is in
      record {
        at = has.at;
        left = ran.before;
        r = (l.x, ran.behind);
        read = is_read;
        own = def_once bytes has.at (def_of is_read.def) def ((founds_def bytes q has.at).found is_read.def is_read.def_is).is has.is;
        c = l.x;
        there = l.there;
        is = is;
        same = def_once bytes has.at is.def def is.is_def has.is;
      }
