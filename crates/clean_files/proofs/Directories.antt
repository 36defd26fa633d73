-- The directories of annotations of a file that is read, and their sets, are good.
use Rattle.std.proofs.Common.{◌≡◌, ◌<◌, ◌≤◌, ◌⊎◌, inl, inr, ℕ, zero, suc, ◌+◌, ◌-◌, ◌*◌, Bool, true, false, cond, eqb, List, [], ◌∷◌, ◌++◌, length, Some, Ok, refl, sym, ap, subst, ◌∙◌, arith}
use Rattle.std.specs.Prelude.{slice_get, ◌||◌}
use Rattle.std.specs.List.{All, list_any}
use Rattle.std.proofs.lemmas.Bool.{eqb-true, eq-eqb, ltb-true}
use Rattle.std.proofs.lemmas.List.Elements.{All-head, All-tail}
use Rattle.lemmas.proofs.Bools.{untrue}
use Rattle.lemmas.proofs.Lists.{get_there}
use Rattle.lemmas.proofs.Options.{some_same}
use Rattle.dex_base.specs.Decides.{Each}
use Rattle.dex_base.specs.Word.{Is32}
use Rattle.program_model.specs.declared.program.Class.{Class}
use Rattle.program_model.specs.declared.program.Field.{Field}
use Rattle.program_model.specs.declared.program.Method.{Method}
use Rattle.program_model.specs.declared.program.Program.{Program}
use Rattle.program_model.specs.declared.value.Mark.{Mark}
use Rattle.dex_pools.specs.declared.scalar.TableSizes.{TableSizes}
use Rattle.dex_pools.specs.Finds.{Ascends}
use Rattle.dex_defs.specs.Annotations.{IsMark, IsMarkOf, AreMarks, AreMarksOf, IsSetOf, AreParameterMarks, AreParameterMarksOf, Directory, ArePairs, pair_below, IsDirectory, IsDirectoryOf, offset_for}
use Rattle.dex_defs.specs.ClassData.{Entry, Lists, IsClassData, IsClassDataOf, no_lists}
use Rattle.dex_defs.specs.ClassDefs.{Def, IsDefined, IsField, AreFields, IsMethod, AreMethods}
use Rattle.dex_defs.specs.Parts.{Bytes, IndexOf}
use Rattle.dex_defs.specs.Places.{HasDef, Leads, HasEntry, HasDirectory, DirectoryCounts, InList, PairStands, ListedAt, HasRefs, HasSet, OfClass, OfField, OfMethod, OfParameter, HasMark}
use Rattle.dex_defs.specs.Placed.{HasSize}
use Rattle.dex_defs.specs.ClassFaults.{IsOfKind, IsTableOf}
use Rattle.dex_defs.specs.Spells.{Spells}
use Rattle.dex_read.specs.declared.members.Budget.{Budget}
use Rattle.dex_read.specs.Tables.{sizes_in}
use Rattle.dex_read.specs.File.{classes_at}
use Rattle.refused_law.proofs.Failing.{each_at}
use Rattle.refused_law.proofs.OnceEntries.{list_of}
use Rattle.refused_law.proofs.ValueFaults.{AreSizes}
use Rattle.spelled_law.proofs.Once.{once_32}
use Rattle.clean_files.proofs.Parts.{Good}
use Rattle.clean_files.proofs.Tables.{ascends_pair}
use Rattle.clean_files.proofs.Classes.{ClassRead, one_def, class_of}
use Rattle.clean_files.proofs.Data.{has_listed}
use Rattle.clean_files.proofs.Members.{entry_below}

-- ---- what an offset leads to

directory_there : (bytes : List ℕ) (offset at : ℕ) (d : Directory) → Leads offset at → IsDirectoryOf bytes offset d → IsDirectory bytes at d
directory_there bytes zero at d leads h = absurd (omega (arith, leads.0))
directory_there bytes (suc k) at d leads h = subst (λ n. IsDirectory bytes n d) (sym leads.1) h

marks_there : (bytes : List ℕ) (sizes : TableSizes) (offset at : ℕ) (ms : List Mark) → Leads offset at → AreMarksOf bytes sizes offset ms → AreMarks bytes sizes at ms
marks_there bytes sizes zero at ms leads h = absurd (omega (arith, leads.0))
marks_there bytes sizes (suc k) at ms leads h = subst (λ n. AreMarks bytes sizes n ms) (sym leads.1) h

sets_there : (bytes : List ℕ) (sizes : TableSizes) (offset at : ℕ) (ms : List (List Mark)) → Leads offset at → AreParameterMarksOf bytes sizes offset ms → AreParameterMarks bytes sizes at ms
sets_there bytes sizes zero at ms leads h = absurd (omega (arith, leads.0))
sets_there bytes sizes (suc k) at ms leads h = subst (λ n. AreParameterMarks bytes sizes n ms) (sym leads.1) h

-- ---- lists

all_get : {X : Type 0} (P : X → Type 0) (xs : List X) (k : ℕ) (x : X) → All P xs → slice_get xs k ≡ Some x → P x
all_get P [] k x h e = absurd cc
all_get P (y ∷ ys) zero x h e = subst P (some_same y x e) (All-head P y ys h)
all_get P (y ∷ ys) (suc k) x h e = all_get P ys k x (All-tail P y ys h) e

-- the room of entries of so many bytes
room : {X : Type 0} (Is : ℕ → X → Type 0) (long at width : ℕ) → ((i : ℕ) (x : X) → Is i x → at + width * i + width ≤ long) → (from : ℕ) (xs : List X) → at + width * from ≤ long → Each Is from xs → at + width * (from + length xs) ≤ long
room Is long at width to from [] low h = let e : from + 0 ≡ from = omega arith in subst (λ n. at + width * n ≤ long) (sym e) low
room Is long at width to from (x ∷ xs) low h =
    let e : suc from + length xs ≡ from + suc (length xs) = omega arith in
    let more : width * suc from ≡ width * from + width = times_suc width from in
    subst (λ n. at + width * n ≤ long) e (room Is long at width to (suc from) xs (let less = to from x h.0 in omega (arith, less, more)) h.1)
  where
    times_suc : (m n : ℕ) → m * suc n ≡ m * n + m
    times_suc m n = omega arith

first_below : (p : ℕ × ℕ) (ps : List (ℕ × ℕ)) (k : ℕ) (x : ℕ × ℕ) → Ascends pair_below (p ∷ ps) → slice_get ps k ≡ Some x → p.0 < x.0
first_below p [] k x h e = absurd cc
first_below p (r ∷ rs) zero x h e = subst (λ (z : ℕ × ℕ). p.0 < z.0) (some_same r x e) (ltb-true p.0 r.0 h.0)
first_below p (r ∷ rs) (suc k) x h e = let low = ltb-true p.0 r.0 h.0 in let rest = first_below r rs k x h.1 e in omega (arith, low, rest)

rest_ascends : (p : ℕ × ℕ) (ps : List (ℕ × ℕ)) → Ascends pair_below (p ∷ ps) → Ascends pair_below ps
rest_ascends p [] h = tt
rest_ascends p (r ∷ rs) h = h.1

-- the offset of a pair is the one for its member
own_offset : (ps : List (ℕ × ℕ)) (k : ℕ) (x : ℕ × ℕ) → Ascends pair_below ps → slice_get ps k ≡ Some x → offset_for x.0 ps ≡ x.1
own_offset [] k x h e = absurd cc
own_offset (p ∷ ps) zero x h e =
    let same : p ≡ x = some_same p x e in
    ap (λ (b : Bool). cond b p.1 (offset_for x.0 ps)) (eq-eqb p.0 x.0 (ap (λ (z : ℕ × ℕ). z.0) same)) ∙ ap (λ (z : ℕ × ℕ). z.1) same
own_offset (p ∷ ps) (suc k) x h e =
    let less = first_below p ps k x h e in
    ap (λ (b : Bool). cond b p.1 (offset_for x.0 ps)) (untrue (eqb p.0 x.0) (λ g. let same = eqb-true p.0 x.0 g in omega (arith, less, same))) ∙ own_offset ps k x (rest_ascends p ps h) e

-- one of two lists has an entry of this number
record Numbered (es : List Entry) (number : ℕ) : Type 0 where
  k : ℕ
  e : Entry
  there : slice_get es k ≡ Some e
  is : e.number ≡ number

in_either : (xs ys : List Entry) (number : ℕ) → list_any (λ (e : Entry). eqb e.number number) (xs ++ ys) ≡ true → Numbered xs number ⊎ Numbered ys number
in_either [] [] number h = absurd cc
in_either [] (y ∷ ys) number h = by_first (eqb y.number number) refl h (in_either [] ys number)
  where
    later : Numbered [] number ⊎ Numbered ys number → Numbered [] number ⊎ Numbered (y ∷ ys) number
    later (inl n) = inl n
    later (inr n) = inr (record { k = suc n.k; e = n.e; there = n.there; is = n.is })

    by_first : (b : Bool) → eqb y.number number ≡ b → (b || list_any (λ (e : Entry). eqb e.number number) ys) ≡ true → (list_any (λ (e : Entry). eqb e.number number) ys ≡ true → Numbered [] number ⊎ Numbered ys number)
        → Numbered [] number ⊎ Numbered (y ∷ ys) number
    by_first true b h rest = inr (record { k = 0; e = y; there = refl; is = eqb-true y.number number b })
    by_first false b h rest = later (rest h)
in_either (x ∷ xs) ys number h = by_first (eqb x.number number) refl h (in_either xs ys number)
  where
    later : Numbered xs number ⊎ Numbered ys number → Numbered (x ∷ xs) number ⊎ Numbered ys number
    later (inl n) = inl (record { k = suc n.k; e = n.e; there = n.there; is = n.is })
    later (inr n) = inr n

    by_first : (b : Bool) → eqb x.number number ≡ b → (b || list_any (λ (e : Entry). eqb e.number number) (xs ++ ys)) ≡ true
        → (list_any (λ (e : Entry). eqb e.number number) (xs ++ ys) ≡ true → Numbered xs number ⊎ Numbered ys number) → Numbered (x ∷ xs) number ⊎ Numbered ys number
    by_first true b h rest = inl (record { k = 0; e = x; there = refl; is = eqb-true x.number number b })
    by_first false b h rest = later (rest h)

field_at : (bytes : List ℕ) (sizes : TableSizes) (d : Directory) (es : List Entry) (fs : List Field) (k : ℕ) (e : Entry) → AreFields bytes sizes d es fs → slice_get es k ≡ Some e → (f : Field) × IsField bytes sizes d e f
field_at bytes sizes d [] [] k e h g = absurd cc
field_at bytes sizes d [] (f ∷ fs) k e h g = absurd h
field_at bytes sizes d (x ∷ xs) [] k e h g = absurd h
field_at bytes sizes d (x ∷ xs) (f ∷ fs) zero e h g = (f, subst (λ y. IsField bytes sizes d y f) (some_same x e g) h.0)
field_at bytes sizes d (x ∷ xs) (f ∷ fs) (suc k) e h g = field_at bytes sizes d xs fs k e h.1 g

method_at : (bytes : List ℕ) (sizes : TableSizes) (types : ℕ) (d : Directory) (es : List Entry) (ms : List Method) (k : ℕ) (e : Entry) → AreMethods bytes sizes types d es ms → slice_get es k ≡ Some e → (m : Method) × IsMethod bytes sizes types d e m
method_at bytes sizes types d [] [] k e h g = absurd cc
method_at bytes sizes types d [] (f ∷ fs) k e h g = absurd h
method_at bytes sizes types d (x ∷ xs) [] k e h g = absurd h
method_at bytes sizes types d (x ∷ xs) (f ∷ fs) zero e h g = (f, subst (λ y. IsMethod bytes sizes types d y f) (some_same x e g) h.0)
method_at bytes sizes types d (x ∷ xs) (f ∷ fs) (suc k) e h g = method_at bytes sizes types d xs fs k e h.1 g

-- ---- directories

abbrev pairs_of : Directory → ℕ → List (ℕ × ℕ)
pairs_of d zero = d.fields
pairs_of d (suc zero) = d.methods
pairs_of d (suc (suc k)) = d.parameters

abbrev before_of : Directory → ℕ → ℕ
before_of d zero = 0
before_of d (suc zero) = length d.fields
before_of d (suc (suc k)) = length d.fields + length d.methods

-- a pair that is read
record PairRead (bytes : List ℕ) (at : ℕ) (d : Directory) (which pair : ℕ) : Type 0 where
  k : ℕ
  on : pair ≡ at + 16 + 8 * (before_of d which + k)
  x : ℕ × ℕ
  there : slice_get (pairs_of d which) k ≡ Some x
  number : Is32 bytes pair x.0
  offset : Is32 bytes (pair + 4) x.1

one_pair : (bytes : List ℕ) (base at before : ℕ) (pairs : List (ℕ × ℕ)) (k pair : ℕ) → ArePairs bytes base pairs → k < length pairs → pair ≡ base + 8 * k → (x : ℕ × ℕ) × (slice_get pairs k ≡ Some x) × Is32 bytes pair x.0 × Is32 bytes (pair + 4) x.1
one_pair bytes base at before pairs k pair h less e =
    let x = get_there pairs k less in
    let is = each_at (λ i (y : ℕ × ℕ). Is32 bytes (base + 8 * i) y.0 × Is32 bytes (base + 8 * i + 4) y.1) pairs k x.0 h x.1 in
    (x.0, x.1, subst (λ n. Is32 bytes n x.0.0) (sym e) is.0, subst (λ n. Is32 bytes (n + 4) x.0.1) (sym e) is.1)

pair_read : (bytes : List ℕ) (at : ℕ) (d : Directory) → IsDirectory bytes at d → (which i pair fields methods parameters : ℕ) → length d.fields ≡ fields → length d.methods ≡ methods → length d.parameters ≡ parameters
    → InList fields methods parameters which i → pair ≡ at + 16 + 8 * i → PairRead bytes at d which pair
pair_read bytes at d h zero i pair fields methods parameters ef em ep inside e =
    let r = one_pair bytes (at + 16) at 0 d.fields i pair h.fields (omega (arith, ef, inside)) e in
    record { k = i; on = omega (arith, e); x = r.0; there = r.1; number = r.2; offset = r.3 }
pair_read bytes at d h (suc zero) i pair fields methods parameters ef em ep inside e =
    let k = i - length d.fields in
    let on : pair ≡ at + 16 + 8 * (length d.fields + k) = omega (arith, e, ef, inside.0) in
    let r = one_pair bytes (at + 16 + 8 * length d.fields) at 0 d.methods k pair h.methods (omega (arith, ef, em, inside.0, inside.1)) (omega (arith, on)) in
    record { k = k; on = on; x = r.0; there = r.1; number = r.2; offset = r.3 }
pair_read bytes at d h (suc (suc j)) i pair fields methods parameters ef em ep inside e =
    let k = i - (length d.fields + length d.methods) in
    let on : pair ≡ at + 16 + 8 * (length d.fields + length d.methods + k) = omega (arith, e, ef, em, inside.0) in
    let r = one_pair bytes (at + 16 + 8 * length d.fields + 8 * length d.methods) at 0 d.parameters k pair h.parameters (omega (arith, ef, em, ep, inside.0, inside.1)) (omega (arith, on)) in
    record { k = k; on = on; x = r.0; there = r.1; number = r.2; offset = r.3 }

module _ (bytes : List ℕ) (q : Program) (left : Budget) (cs : List Class) (filled : classes_at bytes q left ≡ Ok cs) (s : Spells bytes (record q { classes = cs })) (sizes : AreSizes bytes (sizes_in q)) where
  abbrev p : Program
  p = record q { classes = cs }

  record DirectoryRead (class at : ℕ) : Type 0 where
    def : Def
    has : HasDef bytes class def
    c : ClassRead bytes q cs class def
    is : IsDirectory bytes at c.is.directory

  directory_read : (class at : ℕ) → HasDirectory bytes class at → DirectoryRead class at
  directory_read class at h =
      let c = class_of bytes q left cs filled s class h.def h.has in
      record { def = h.def; has = h.has; c = c; is = directory_there bytes h.def.annotations at c.is.directory h.leads (subst (λ (x : Def). IsDirectoryOf bytes x.annotations c.is.directory) c.same c.is.parts.directory_is) }

  pub directory_head : (class at : ℕ) → HasDirectory bytes class at → Good bytes (Bytes at 16)
  directory_head class at h = let r = directory_read class at h in omega (arith, r.is.parameter_count.inside)

  pub directory_whole : (class at fields methods parameters : ℕ) → HasDirectory bytes class at → DirectoryCounts bytes at fields methods parameters → Good bytes (Bytes at (16 + 8 * (fields + methods + parameters)))
  directory_whole class at fields methods parameters h counts =
      let r = directory_read class at h in
      let d = r.c.is.directory in
      let ef = once_32 bytes (at + 4) (length d.fields) fields r.is.field_count counts.is_fields in
      let em = once_32 bytes (at + 8) (length d.methods) methods r.is.method_count counts.is_methods in
      let ep = once_32 bytes (at + 12) (length d.parameters) parameters r.is.parameter_count counts.is_parameters in
      let head : at + 16 + 8 * 0 ≤ length bytes = omega (arith, r.is.parameter_count.inside) in
      let one : at + 16 + 8 * (0 + length d.fields) ≤ length bytes = pairs_room (at + 16) d.fields head r.is.fields in
      let two : at + 16 + 8 * length d.fields + 8 * (0 + length d.methods) ≤ length bytes = pairs_room (at + 16 + 8 * length d.fields) d.methods (omega (arith, one)) r.is.methods in
      let three : at + 16 + 8 * length d.fields + 8 * length d.methods + 8 * (0 + length d.parameters) ≤ length bytes
      = pairs_room (at + 16 + 8 * length d.fields + 8 * length d.methods) d.parameters (omega (arith, two)) r.is.parameters in
      omega (arith, three, ef, em, ep)
    where
      pairs_room : (base : ℕ) (pairs : List (ℕ × ℕ)) → base + 8 * 0 ≤ length bytes → ArePairs bytes base pairs → base + 8 * (0 + length pairs) ≤ length bytes
      pairs_room base pairs low h = room (λ i (y : ℕ × ℕ). Is32 bytes (base + 8 * i) y.0 × Is32 bytes (base + 8 * i + 4) y.1) (length bytes) base 8 (λ i y g. let inside = g.1.inside in omega (arith, inside)) 0 pairs low h

  same_directory : (class at other : ℕ) → HasDirectory bytes class at → HasDirectory bytes class other → at ≡ other
  same_directory class at other h g = h.leads.1 ∙ ap (λ (x : Def). x.annotations) (one_def bytes class h.def g.def h.has g.has) ∙ sym g.leads.1

  -- a pair of the directory that is read
  its_pair : (class at : ℕ) (r : DirectoryRead class at) → HasDirectory bytes class at → (which pair : ℕ) → PairStands bytes class which pair → PairRead bytes at r.c.is.directory which pair
  its_pair class at r has which pair st =
      let d = r.c.is.directory in
      let same = same_directory class st.directory at st.has has in
      let c = subst (λ n. DirectoryCounts bytes n st.fields st.methods st.parameters) same st.counts in
      pair_read bytes at d r.is which st.i pair st.fields st.methods st.parameters (once_32 bytes (at + 4) (length d.fields) st.fields r.is.field_count c.is_fields)
      (once_32 bytes (at + 8) (length d.methods) st.methods r.is.method_count c.is_methods) (once_32 bytes (at + 12) (length d.parameters) st.parameters r.is.parameter_count c.is_parameters)
      st.inside (st.place ∙ ap (λ n. n + 16 + 8 * st.i) same)

  in_order : (class at : ℕ) (r : DirectoryRead class at) (which : ℕ) → Ascends pair_below (pairs_of r.c.is.directory which)
  in_order class at r zero = r.c.is.parts.in_order.fields
  in_order class at r (suc zero) = r.c.is.parts.in_order.methods
  in_order class at r (suc (suc k)) = r.c.is.parts.in_order.parameters

  pub pairs_ascend : (class which a x y : ℕ) → PairStands bytes class which a → PairStands bytes class which (a + 8) → Is32 bytes a x → Is32 bytes (a + 8) y → x < y
  pairs_ascend class which a x y h g is also =
      let r = directory_read class h.directory h.has in
      let m = its_pair class h.directory r h.has which a h in
      let n = its_pair class h.directory r h.has which (a + 8) g in
      let next : n.k ≡ suc m.k = omega (arith, m.on, n.on) in
      let low = ltb-true m.x.0 n.x.0 (ascends_pair pair_below (pairs_of r.c.is.directory which) m.k m.x n.x (in_order class h.directory r which) m.there (subst (λ k. slice_get (pairs_of r.c.is.directory which) k ≡ Some n.x) next n.there)) in
      let one = once_32 bytes a m.x.0 x m.number is in
      let two = once_32 bytes (a + 8) n.x.0 y n.number also in
      omega (arith, low, one, two)

  -- ---- the members that pairs name

  abbrev entries_of : Lists → ℕ → List Entry
  entries_of l zero = l.statics ++ l.instances
  entries_of l (suc k) = l.directs ++ l.virtuals

  defined : (class at : ℕ) (r : DirectoryRead class at) (which k : ℕ) (x : ℕ × ℕ) → slice_get (pairs_of r.c.is.directory which) k ≡ Some x → IsDefined (entries_of r.c.is.lists which) x
  defined class at r zero k x e = all_get (IsDefined (r.c.is.lists.statics ++ r.c.is.lists.instances)) r.c.is.directory.fields k x r.c.is.parts.fields e
  defined class at r (suc zero) k x e = all_get (IsDefined (r.c.is.lists.directs ++ r.c.is.lists.virtuals)) r.c.is.directory.methods k x r.c.is.parts.methods e
  defined class at r (suc (suc j)) k x e = all_get (IsDefined (r.c.is.lists.directs ++ r.c.is.lists.virtuals)) r.c.is.directory.parameters k x r.c.is.parts.parameters e

  -- the list of that number has an entry, so there is class data
  data_there : (offset : ℕ) (l : Lists) (which k : ℕ) (e : Entry) → IsClassDataOf bytes offset l → slice_get (list_of l which) k ≡ Some e → (0 < offset) × ((stop : ℕ) × IsClassData bytes offset l stop)
  data_there zero l which k e h g = absurd (no_entry which (subst (λ y. slice_get (list_of y which) k ≡ Some e) h g))
    where
      no_entry : (which : ℕ) → slice_get (list_of no_lists which) k ≡ Some e → ⊥
      no_entry zero h = absurd cc
      no_entry (suc zero) h = absurd cc
      no_entry (suc (suc zero)) h = absurd cc
      no_entry (suc (suc (suc zero))) h = absurd cc
      no_entry (suc (suc (suc (suc j)))) h = absurd cc
  data_there (suc i) l which k e h g = (omega arith, h)

  -- an entry of a list of a class stands there
  stands_there : (class : ℕ) (def : Def) → HasDef bytes class def → (c : ClassRead bytes q cs class def) → (which k : ℕ) (e : Entry) → slice_get (list_of c.is.lists which) k ≡ Some e → HasEntry bytes class which k e
  stands_there class def has c which k e g =
      let there = data_there c.is.def.data_at c.is.lists which k e c.is.parts.lists_are g in
      let offset : c.is.def.data_at ≡ def.data_at = ap (λ (x : Def). x.data_at) c.same in
      has_listed bytes c.is.def.data_at c.is.lists there.1.0 there.1.1 class which k def e has (omega (arith, there.0, offset), offset) g

  -- the member that a pair names
  record Named (class : ℕ) (def : Def) (c : ClassRead bytes q cs class def) (kind number : ℕ) : Type 0 where
    which : ℕ
    k : ℕ
    e : Entry
    of_kind : IsOfKind kind which
    there : slice_get (list_of c.is.lists which) k ≡ Some e
    has : HasEntry bytes class which k e
    is : e.number ≡ number

  named : (class at : ℕ) (r : DirectoryRead class at) (which k : ℕ) (x : ℕ × ℕ) → slice_get (pairs_of r.c.is.directory which) k ≡ Some x → Named class r.def r.c which x.0
  named class at r zero k x e = elim (in_either r.c.is.lists.statics r.c.is.lists.instances x.0 (defined class at r 0 k x e)) [
    | inl n ↦ record { which = 0; k = n.k; e = n.e; of_kind = omega arith; there = n.there; has = stands_there class r.def r.has r.c 0 n.k n.e n.there; is = n.is }
    | inr n ↦ record { which = 1; k = n.k; e = n.e; of_kind = omega arith; there = n.there; has = stands_there class r.def r.has r.c 1 n.k n.e n.there; is = n.is }
  ]
  named class at r (suc j) k x e = elim (in_either r.c.is.lists.directs r.c.is.lists.virtuals x.0 (defined class at r (suc j) k x e)) [
    | inl n ↦ record { which = 2; k = n.k; e = n.e; of_kind = omega arith; there = n.there; has = stands_there class r.def r.has r.c 2 n.k n.e n.there; is = n.is }
    | inr n ↦ record { which = 3; k = n.k; e = n.e; of_kind = omega arith; there = n.there; has = stands_there class r.def r.has r.c 3 n.k n.e n.there; is = n.is }
  ]

  pub is_defined : (class pairs pair number : ℕ) → PairStands bytes class pairs pair → Is32 bytes pair number → ((which at : ℕ) (e : Entry) → IsOfKind pairs which → HasEntry bytes class which at e → e.number ≡ number → ⊥) → ⊥
  is_defined class pairs pair number st is none =
      let r = directory_read class st.directory st.has in
      let m = its_pair class st.directory r st.has pairs pair st in
      let n = named class st.directory r pairs m.k m.x m.there in
      none n.which n.k n.e n.of_kind n.has (n.is ∙ once_32 bytes pair m.x.0 number m.number is)

  of_fields : (which : ℕ) → IsOfKind 0 which → IsTableOf which 80
  of_fields zero h = refl
  of_fields (suc zero) h = refl
  of_fields (suc (suc k)) h = absurd (omega (arith, h))

  of_methods : (which j : ℕ) → IsOfKind (suc j) which → IsTableOf which 88
  of_methods zero j h = absurd (omega (arith, h))
  of_methods (suc zero) j h = absurd (omega (arith, h))
  of_methods (suc (suc k)) j h = refl

  pub pair_field : (class pair size : ℕ) → PairStands bytes class 0 pair → HasSize bytes 80 size → Good bytes (IndexOf pair size)
  pair_field class pair size st h =
      let r = directory_read class st.directory st.has in
      let m = its_pair class st.directory r st.has 0 pair st in
      let n = named class st.directory r 0 m.k m.x m.there in
      let less = entry_below bytes q left cs filled s sizes class n.which n.k 80 size n.e n.has (of_fields n.which n.of_kind) h in
      (m.x.0, m.number, omega (arith, less, n.is))

  pub pair_method : (class j pair size : ℕ) → PairStands bytes class (suc j) pair → HasSize bytes 88 size → Good bytes (IndexOf pair size)
  pair_method class j pair size st h =
      let r = directory_read class st.directory st.has in
      let m = its_pair class st.directory r st.has (suc j) pair st in
      let n = named class st.directory r (suc j) m.k m.x m.there in
      let less = entry_below bytes q left cs filled s sizes class n.which n.k 88 size n.e n.has (of_methods n.which j n.of_kind) h in
      (m.x.0, m.number, omega (arith, less, n.is))

  -- ---- sets

  field_of : (class : ℕ) (def : Def) (c : ClassRead bytes q cs class def) (which k : ℕ) (e : Entry) → IsOfKind 0 which → slice_get (list_of c.is.lists which) k ≡ Some e → (f : Field) × IsField bytes (sizes_in q) c.is.directory e f
  field_of class def c zero k e h g = field_at bytes (sizes_in q) c.is.directory c.is.lists.statics c.is.statics k e c.is.are_statics g
  field_of class def c (suc zero) k e h g = field_at bytes (sizes_in q) c.is.directory c.is.lists.instances c.is.instances k e c.is.are_instances g
  field_of class def c (suc (suc j)) k e h g = absurd (omega (arith, h))

  method_of : (class : ℕ) (def : Def) (c : ClassRead bytes q cs class def) (which k : ℕ) (e : Entry) → slice_get (list_of c.is.lists which) k ≡ Some e → 2 ≤ which → (f : Method) × IsMethod bytes (sizes_in q) (length q.types) c.is.directory e f
  method_of class def c zero k e g h = absurd (omega (arith, h))
  method_of class def c (suc zero) k e g h = absurd (omega (arith, h))
  method_of class def c (suc (suc zero)) k e g h = method_at bytes (sizes_in q) (length q.types) c.is.directory c.is.lists.directs c.is.directs k e c.is.are_directs g
  method_of class def c (suc (suc (suc zero))) k e g h = method_at bytes (sizes_in q) (length q.types) c.is.directory c.is.lists.virtuals c.is.virtuals k e c.is.are_virtuals g
  method_of class def c (suc (suc (suc (suc j)))) k e g h = absurd cc

  abbrev pub SetRead : ℕ → Type 0
  SetRead at = (marks : List Mark) × AreMarks bytes (sizes_in q) at marks

  pub refs_read : (at : ℕ) → HasRefs bytes at → (sets : List (List Mark)) × AreParameterMarks bytes (sizes_in q) at sets
  refs_read at h =
      let st = h.stands in
      let r = directory_read h.class st.directory st.has in
      let m = its_pair h.class st.directory r st.has 2 h.pair st in
      let n = named h.class st.directory r 2 m.k m.x m.there in
      let f = method_of h.class r.def r.c n.which n.k n.e n.there n.of_kind in
      let own : offset_for n.e.number r.c.is.directory.parameters ≡ h.offset = ap (λ i. offset_for i r.c.is.directory.parameters) n.is ∙ own_offset r.c.is.directory.parameters m.k m.x (in_order h.class st.directory r 2) m.there
      ∙ once_32 bytes (h.pair + 4) m.x.1 h.offset m.offset h.is in
      (f.0.parameter_marks, sets_there bytes (sizes_in q) h.offset at f.0.parameter_marks h.leads (subst (λ i. AreParameterMarksOf bytes (sizes_in q) i f.0.parameter_marks) own f.1.parameter_marks))

  -- the offset at a place of a list of offsets
  set_in : (at i offset : ℕ) (sets : List (List Mark)) → AreParameterMarks bytes (sizes_in q) at sets → ListedAt bytes at i offset → (marks : List Mark) × AreMarksOf bytes (sizes_in q) offset marks
  set_in at i offset sets h listed =
      let same : length sets ≡ listed.count = once_32 bytes at (length sets) listed.count h.count listed.is_count in
      let x = get_there sets i (omega (arith, listed.inside, same)) in
      let is = each_at (IsSetOf bytes (sizes_in q) at) sets i x.0 h.are x.1 in
      (x.0, subst (λ k. AreMarksOf bytes (sizes_in q) k x.0) (once_32 bytes (at + 4 + 4 * i) is.offset offset is.is listed.is) is.are)

  pub set_read : (at : ℕ) → HasSet bytes at → SetRead at
  set_read at (OfClass class directory offset has is leads) =
      let r = directory_read class directory has in
      let same : r.c.is.directory.class ≡ offset = once_32 bytes directory r.c.is.directory.class offset r.is.class is in
      (r.c.c.marks, marks_there bytes (sizes_in q) offset at r.c.c.marks leads (subst (λ k. AreMarksOf bytes (sizes_in q) k r.c.c.marks) same r.c.is.marks))
  set_read at (OfField h) =
      let st = h.stands in
      let r = directory_read h.class st.directory st.has in
      let m = its_pair h.class st.directory r st.has 0 h.pair st in
      let n = named h.class st.directory r 0 m.k m.x m.there in
      let f = field_of h.class r.def r.c n.which n.k n.e n.of_kind n.there in
      let own : offset_for n.e.number r.c.is.directory.fields ≡ h.offset = ap (λ i. offset_for i r.c.is.directory.fields) n.is ∙ own_offset r.c.is.directory.fields m.k m.x (in_order h.class st.directory r 0) m.there
      ∙ once_32 bytes (h.pair + 4) m.x.1 h.offset m.offset h.is in
      (f.0.marks, marks_there bytes (sizes_in q) h.offset at f.0.marks h.leads (subst (λ i. AreMarksOf bytes (sizes_in q) i f.0.marks) own f.1.marks))
  set_read at (OfMethod h) =
      let st = h.stands in
      let r = directory_read h.class st.directory st.has in
      let m = its_pair h.class st.directory r st.has 1 h.pair st in
      let n = named h.class st.directory r 1 m.k m.x m.there in
      let f = method_of h.class r.def r.c n.which n.k n.e n.there n.of_kind in
      let own : offset_for n.e.number r.c.is.directory.methods ≡ h.offset = ap (λ i. offset_for i r.c.is.directory.methods) n.is ∙ own_offset r.c.is.directory.methods m.k m.x (in_order h.class st.directory r 1) m.there
      ∙ once_32 bytes (h.pair + 4) m.x.1 h.offset m.offset h.is in
      (f.0.marks, marks_there bytes (sizes_in q) h.offset at f.0.marks h.leads (subst (λ i. AreMarksOf bytes (sizes_in q) i f.0.marks) own f.1.marks))
  set_read at (OfParameter refs i offset has listed leads) =
      let r = refs_read refs has in
      let m = set_in refs i offset r.0 r.1 listed in
      (m.0, marks_there bytes (sizes_in q) offset at m.0 leads m.1)

  -- ---- their parts

  pub refs_count : (at : ℕ) → HasRefs bytes at → Good bytes (Bytes at 4)
  refs_count at h = (refs_read at h).1.count.inside

  pub refs_whole : (at count : ℕ) → HasRefs bytes at → Is32 bytes at count → Good bytes (Bytes at (4 + 4 * count))
  refs_whole at count h is =
      let r = refs_read at h in
      let same = once_32 bytes at (length r.0) count r.1.count is in
      let all : at + 4 + 4 * (0 + length r.0) ≤ length bytes = room (IsSetOf bytes (sizes_in q) at) (length bytes) (at + 4) 4 (λ i x g. let inside = g.is.inside in omega (arith, inside)) 0 r.0 (omega (arith, r.1.count.inside)) r.1.are in
      omega (arith, all, same)

  pub set_count : (at : ℕ) → HasSet bytes at → Good bytes (Bytes at 4)
  set_count at h = (set_read at h).1.count.inside

  pub set_whole : (at count : ℕ) → HasSet bytes at → Is32 bytes at count → Good bytes (Bytes at (4 + 4 * count))
  set_whole at count h is =
      let r = set_read at h in
      let same = once_32 bytes at (length r.0) count r.1.count is in
      let all : at + 4 + 4 * (0 + length r.0) ≤ length bytes = room (IsMarkOf bytes (sizes_in q) at) (length bytes) (at + 4) 4 (λ i x g. let inside = g.is.inside in omega (arith, inside)) 0 r.0 (omega (arith, r.1.count.inside)) r.1.are in
      omega (arith, all, same)

  -- one annotation of a set
  pub record MarkRead (set i at : ℕ) (marks : List Mark) : Type 0 where
    pub mark : Mark
    pub there : slice_get marks i ≡ Some mark
    pub is : IsMark bytes (sizes_in q) at mark

  pub mark_in : (set i at : ℕ) (marks : List Mark) → AreMarks bytes (sizes_in q) set marks → ListedAt bytes set i at → MarkRead set i at marks
  mark_in set i at marks h listed =
      let same : length marks ≡ listed.count = once_32 bytes set (length marks) listed.count h.count listed.is_count in
      let x = get_there marks i (omega (arith, listed.inside, same)) in
      let is = each_at (IsMarkOf bytes (sizes_in q) set) marks i x.0 h.are x.1 in
      record { mark = x.0; there = x.1; is = subst (λ k. IsMark bytes (sizes_in q) k x.0) (once_32 bytes (set + 4 + 4 * i) is.offset at is.is listed.is) is.is_mark }

  pub mark_read : (at : ℕ) → HasMark bytes at → (mark : Mark) × IsMark bytes (sizes_in q) at mark
  mark_read at h = let r = set_read h.set h.has in let m = mark_in h.set h.i at r.0 r.1 h.listed in (m.mark, m.is)

  pub mark_head : (at : ℕ) → HasMark bytes at → Good bytes (Bytes at 1)
  mark_head at h = let m = mark_read at h in omega (arith, m.1.inside)
