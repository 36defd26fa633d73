-- The directory of annotations that is read stands there, and its members get what stands at their offsets.
use Rattle.std.proofs.Common.{◌≡◌, ◌<◌, ◌⊎◌, inl, inr, ℕ, zero, suc, ◌+◌, ◌*◌, Bool, true, false, ltb, eqb, List, [], ◌∷◌, ◌++◌, map, length, Option, Some, None, Ok, refl, sym, ap, subst, ◌∙◌, true≢false}
use Rattle.std.specs.Prelude.{◌||◌, if◌then◌else◌}
use Rattle.std.specs.List.{All, AllByRecursion, list_any}
use Rattle.std.specs.Option.{option_map}
use Rattle.std.proofs.lemmas.Bool.{eqb-true, eq-eqb, ltb-true}
use Rattle.std.proofs.lemmas.List.{map-append}
use Rattle.std.proofs.lemmas.List.Elements.{All-nil, All-cons}
use Rattle.lemmas.proofs.Bools.{or_cases, or_left, or_right}
use Rattle.dex_base.specs.Decides.{Each}
use Rattle.dex_base.specs.Word.{Is32}
use Rattle.program_model.specs.declared.program.Field.{Field}
use Rattle.program_model.specs.declared.program.Method.{Method}
use Rattle.program_model.specs.declared.program.Program.{Program}
use Rattle.dex_defs.specs.Annotations.{AreMarksOf, AreParameterMarksOf, Directory, no_directory, IsDirectory, IsDirectoryOf, InOrder}
use Rattle.dex_defs.specs.ClassData.{Entry}
use Rattle.dex_defs.specs.ClassDefs.{IsDefined}
use Rattle.dex_read.specs.declared.class_data.Listed.{Listed}
use Rattle.dex_read.specs.declared.class_data.Members.{Members}
use Rattle.dex_read.specs.ClassData.{ascends_at, place_in}
use Rattle.dex_read.specs.Classes.{marked_at}
use Rattle.dex_read.specs.Directory.{pair_at, found_at, named_at, with_marks, with_own_marks, with_parameter_marks, mark_field, mark_method, mark_parameters, Marked, marked, directory_at}
use Rattle.dex_read.specs.Header.{need_at}
use Rattle.dex_read.specs.Steps.{change_at}
use Rattle.dex_read.specs.Tables.{sizes_in}
use Rattle.file_laws.specs.Founds.{Founds}
use Rattle.file_laws.proofs.Founding.{known, weaker, done, failed, when, either, next}
use Rattle.file_laws.proofs.Bodies.{whatever}
use Rattle.file_laws.specs.ClassData.{entry_of}
use Rattle.file_laws.proofs.Words.{finds_word}
use Rattle.spelled_law.proofs.Values.{founds_set, founds_sets}
use Rattle.spelled_law.proofs.Turning.{Over, over_same, over_beside, Beside, Distinct, Turned, IsStep, founds_turned, pairs_ascend}

-- ---- one pair

pub record IsPair (bytes : List ℕ) (at : ℕ) (r : ℕ × ℕ) : Type 0 where
  pub number : Is32 bytes at r.0
  pub offset : Is32 bytes (at + 4) r.1

pub founds_pair : (bytes : List ℕ) (size at : ℕ) → Founds (IsPair bytes at) (pair_at bytes size at)
unfolding pair_at
founds_pair bytes size at = weaker (pair_at bytes size at)
    (next (known (finds_word bytes at)) (λ number _. next (known (finds_word bytes (at + 4))) (λ offset _. when _ (done (number, offset)))))
    (λ y q. let offset = q.2 in subst (IsPair bytes at) (sym offset.2.1) (record { number = q.1; offset = offset.1 }))

founds_order : (place before number : ℕ) → Founds (λ u. (place ≡ 0) ⊎ (before < number)) (ascends_at place before number)
unfolding ascends_at
founds_order place before number = weaker (ascends_at place before number) (when _ (done tt)) (λ y q. elim (or_cases (eqb place 0) (ltb before number) q.0) [
  | inl e ↦ inl (eqb-true place 0 e)
  | inr e ↦ inr (ltb-true before number e)
])

founds_place : (class place : ℕ) (o : Option ℕ) → Founds (λ k. o ≡ Some k) (found_at class place o)
founds_place class place None = failed _
founds_place class place (Some k) = weaker (found_at class place (Some k)) (done k) (λ y e. ap (λ (n : ℕ). Some n) (sym e))

pub record IsNamed (bytes : List ℕ) (listed : List Listed) (at i before : ℕ) (r : ℕ × (ℕ × ℕ)) : Type 0 where
  pub number : Is32 bytes (at + 8 * i) r.1.0
  pub offset : Is32 bytes (at + 8 * i + 4) r.1.1
  pub order : (i ≡ 0) ⊎ (before < r.1.0)
  pub found : place_in r.1.0 listed ≡ Some r.0

pub founds_named : (bytes : List ℕ) (class size : ℕ) (listed : List Listed) (at i before : ℕ) → Founds (IsNamed bytes listed at i before) (named_at bytes class size listed at i before)
unfolding named_at
founds_named bytes class size listed at i before = weaker (named_at bytes class size listed at i before)
    (next (founds_pair bytes size (at + 8 * i)) (λ pair _. next (founds_order i before pair.0) (λ order _. next (founds_place class i (place_in pair.0 listed)) (λ found _. done (found, pair)))))
    (λ y q. let order = q.2 in let found = order.2 in
    subst (IsNamed bytes listed at i before) (sym found.2) (record { number = q.1.number; offset = q.1.offset; order = order.1; found = found.1 }))

-- ---- what a pair changes

abbrev pub FieldStep : List ℕ → Program → List Listed → ℕ → ℕ → List Field × (ℕ × ℕ) → List Field × (ℕ × ℕ) → Type 0
FieldStep bytes p listed at = IsStep with_marks (AreMarksOf bytes (sizes_in p)) bytes listed at

pub founds_mark_field : (bytes : List ℕ) (p : Program) (class : ℕ) (listed : List Listed) (at i : ℕ) (s : List Field × (ℕ × ℕ)) → Founds (FieldStep bytes p listed at i s) (mark_field bytes p class listed at i s)
unfolding mark_field
founds_mark_field bytes p class listed at i s = weaker (mark_field bytes p class listed at i s)
    (next (founds_named bytes class (sizes_in p).fields listed at i s.1.0) (λ named _. next (founds_set bytes p named.1.1 s.1.1) (λ marks _.
    done (change_at (with_marks marks.0) named.0 s.0, (named.1.0, marks.1)))))
    (λ y q. let marks = q.2 in record {
      pair = q.0.1;
      number = q.1.number;
      offset = q.1.offset;
      order = q.1.order;
      place = q.0.0;
      found = q.1.found;
      marks = marks.0.0;
      are = marks.1;
      is = ap (λ (r : List Field × (ℕ × ℕ)). r.0) marks.2;
      on = ap (λ (r : List Field × (ℕ × ℕ)). r.1.0) marks.2;
    })

abbrev pub MethodStep : List ℕ → Program → List Listed → ℕ → ℕ → List Method × (ℕ × ℕ) → List Method × (ℕ × ℕ) → Type 0
MethodStep bytes p listed at = IsStep with_own_marks (AreMarksOf bytes (sizes_in p)) bytes listed at

pub founds_mark_method : (bytes : List ℕ) (p : Program) (class : ℕ) (listed : List Listed) (at i : ℕ) (s : List Method × (ℕ × ℕ)) → Founds (MethodStep bytes p listed at i s) (mark_method bytes p class listed at i s)
unfolding mark_method
founds_mark_method bytes p class listed at i s = weaker (mark_method bytes p class listed at i s)
    (next (founds_named bytes class (sizes_in p).methods listed at i s.1.0) (λ named _. next (founds_set bytes p named.1.1 s.1.1) (λ marks _.
    done (change_at (with_own_marks marks.0) named.0 s.0, (named.1.0, marks.1)))))
    (λ y q. let marks = q.2 in record {
      pair = q.0.1;
      number = q.1.number;
      offset = q.1.offset;
      order = q.1.order;
      place = q.0.0;
      found = q.1.found;
      marks = marks.0.0;
      are = marks.1;
      is = ap (λ (r : List Method × (ℕ × ℕ)). r.0) marks.2;
      on = ap (λ (r : List Method × (ℕ × ℕ)). r.1.0) marks.2;
    })

abbrev pub SetsStep : List ℕ → Program → List Listed → ℕ → ℕ → List Method × (ℕ × ℕ) → List Method × (ℕ × ℕ) → Type 0
SetsStep bytes p listed at = IsStep with_parameter_marks (AreParameterMarksOf bytes (sizes_in p)) bytes listed at

pub founds_mark_parameters : (bytes : List ℕ) (p : Program) (class : ℕ) (listed : List Listed) (at i : ℕ) (s : List Method × (ℕ × ℕ)) → Founds (SetsStep bytes p listed at i s) (mark_parameters bytes p class listed at i s)
unfolding mark_parameters
founds_mark_parameters bytes p class listed at i s = weaker (mark_parameters bytes p class listed at i s)
    (next (founds_named bytes class (sizes_in p).methods listed at i s.1.0) (λ named _. next (founds_sets bytes p named.1.1 s.1.1) (λ marks _.
    done (change_at (with_parameter_marks marks.0) named.0 s.0, (named.1.0, marks.1)))))
    (λ y q. let marks = q.2 in record {
      pair = q.0.1;
      number = q.1.number;
      offset = q.1.offset;
      order = q.1.order;
      place = q.0.0;
      found = q.1.found;
      marks = marks.0.0;
      are = marks.1;
      is = ap (λ (r : List Method × (ℕ × ℕ)). r.0) marks.2;
      on = ap (λ (r : List Method × (ℕ × ℕ)). r.1.0) marks.2;
    })

-- ---- members that are defined

any_mapped : (number : ℕ) (es : List Listed) (place : ℕ) → place_in number es ≡ Some place → list_any (λ (e : Entry). eqb e.number number) (map entry_of es) ≡ true
any_mapped number [] place h = absurd cc
any_mapped number (e ∷ es) place h = by_first (eqb e.number number) (any_mapped number es) refl h
  where
    later : (o : Option ℕ) (k : ℕ) → option_map suc o ≡ Some k → (j : ℕ) × (o ≡ Some j)
    later None k h = absurd cc
    later (Some j) k h = (j, refl)

    by_first : (b : Bool) → ((k : ℕ) → place_in number es ≡ Some k → list_any (λ (e : Entry). eqb e.number number) (map entry_of es) ≡ true) → eqb e.number number ≡ b → (if b then Some 0 else option_map suc (place_in number es)) ≡ Some place
        → (eqb e.number number || list_any (λ (e : Entry). eqb e.number number) (map entry_of es)) ≡ true
    by_first true rest b h = or_left _ _ b
    by_first false rest b h = let k = later (place_in number es) place h in or_right _ _ (rest k.0 k.1)

pub all_defined : (xs ys : List Listed) (pairs : List (ℕ × ℕ)) → AllByRecursion (λ pair. (place : ℕ) × (place_in pair.0 (xs ++ ys) ≡ Some place)) pairs
    → All (IsDefined (map entry_of xs ++ map entry_of ys)) pairs
all_defined xs ys [] h = All-nil (IsDefined (map entry_of xs ++ map entry_of ys))
all_defined xs ys (p ∷ ps) h = All-cons (IsDefined (map entry_of xs ++ map entry_of ys)) p ps
    (subst (λ (es : List Entry). list_any (λ (e : Entry). eqb e.number p.0) es ≡ true) (map-append entry_of xs ys) (any_mapped p.0 (xs ++ ys) h.0.0 h.0.1))
    (all_defined xs ys ps h.1)

-- ---- the directory

-- what stands in the directory at an offset, and what it makes of the members; the offset 0 stands for none
pub record IsMarked (bytes : List ℕ) (p : Program) (listed : Members) (offset : ℕ) (fields : List Field) (methods : List Method) (m : Marked) : Type 0 where
  pub directory : Directory
  pub is : IsDirectoryOf bytes offset directory
  pub order : InOrder directory
  pub defined_fields : AllByRecursion (λ pair. (place : ℕ) × (place_in pair.0 (listed.statics ++ listed.instances) ≡ Some place)) directory.fields
  pub defined_methods : AllByRecursion (λ pair. (place : ℕ) × (place_in pair.0 (listed.directs ++ listed.virtuals) ≡ Some place)) directory.methods
  pub defined_parameters : AllByRecursion (λ pair. (place : ℕ) × (place_in pair.0 (listed.directs ++ listed.virtuals) ≡ Some place)) directory.parameters
  pub marks : AreMarksOf bytes (sizes_in p) directory.class m.marks
  pub fields_are : Over (Turned with_marks (AreMarksOf bytes (sizes_in p)) directory.fields) (listed.statics ++ listed.instances) fields m.fields
  pub between : List Method
  pub methods_are : Over (Turned with_own_marks (AreMarksOf bytes (sizes_in p)) directory.methods) (listed.directs ++ listed.virtuals) methods between
  pub parameters_are : Over (Turned with_parameter_marks (AreParameterMarksOf bytes (sizes_in p)) directory.parameters) (listed.directs ++ listed.virtuals) between m.methods

module _ (bytes : List ℕ) (p : Program) (class : ℕ) (listed : Members) (fields : List Field) (methods : List Method)
    (as_fields : Beside (listed.statics ++ listed.instances) fields) (as_methods : Beside (listed.directs ++ listed.virtuals) methods)
    (apart_fields : Distinct (listed.statics ++ listed.instances)) (apart_methods : Distinct (listed.directs ++ listed.virtuals)) where
  by_place : (at : ℕ) (m : Marked) → (at ≡ 0 → ⊥) → (d : Directory) → IsDirectory bytes at d → IsDirectoryOf bytes at d
  by_place zero m other d h = absurd (other refl)
  by_place (suc k) m other d h = h

  founds_directory : (at left : ℕ) → (at ≡ 0 → ⊥) → Founds (IsMarked bytes p listed at fields methods) (directory_at bytes p class listed at fields methods left)
  unfolding directory_at
  founds_directory at left other =
      let of_fields = listed.statics ++ listed.instances in
      let of_methods = listed.directs ++ listed.virtuals in
      weaker (directory_at bytes p class listed at fields methods left)
      (next (whatever (need_at bytes at 16)) (λ begins _.
      next (known (finds_word bytes at)) (λ set _.
      next (known (finds_word bytes (at + 4))) (λ field_count _.
      next (known (finds_word bytes (at + 8))) (λ method_count _.
      next (known (finds_word bytes (at + 12))) (λ parameter_count _.
      next (whatever (need_at bytes at (16 + 8 * field_count + 8 * method_count + 8 * parameter_count))) (λ whole _.
      next (founds_set bytes p set left) (λ marks _.
      next (founds_turned with_marks (AreMarksOf bytes (sizes_in p)) bytes of_fields (at + 16) (mark_field bytes p class of_fields (at + 16))
      (founds_mark_field bytes p class of_fields (at + 16)) apart_fields 0 field_count (fields, (0, marks.1)) as_fields) (λ own_fields _.
      next (founds_turned with_own_marks (AreMarksOf bytes (sizes_in p)) bytes of_methods (at + 16 + 8 * field_count) (mark_method bytes p class of_methods (at + 16 + 8 * field_count))
      (founds_mark_method bytes p class of_methods (at + 16 + 8 * field_count)) apart_methods 0 method_count (methods, (0, own_fields.1.1)) as_methods) (λ own h.
      next (founds_turned with_parameter_marks (AreParameterMarksOf bytes (sizes_in p)) bytes of_methods (at + 16 + 8 * field_count + 8 * method_count)
      (mark_parameters bytes p class of_methods (at + 16 + 8 * field_count + 8 * method_count)) (founds_mark_parameters bytes p class of_methods (at + 16 + 8 * field_count + 8 * method_count)) apart_methods
      0 parameter_count (own.0, (0, own.1.1)) (over_beside (Turned with_own_marks (AreMarksOf bytes (sizes_in p)) h.pairs) of_methods methods own.0 h.turned)) (λ all _.
      done (marked marks.0 own_fields.0 all.0 all.1.1))))))))))))
      (λ y q.
      let set = q.2 in let field_count = set.2 in let method_count = field_count.2 in let parameter_count = method_count.2 in
      let marks = parameter_count.2.2 in let own_fields = marks.2 in let own = own_fields.2 in let all = own.2 in
      let directory : Directory = record { class = set.0; fields = own_fields.1.pairs; methods = own.1.pairs; parameters = all.1.pairs } in
      let begin_fields : 16 + 8 * field_count.0 ≡ 16 + 8 * length own_fields.1.pairs = ap (λ n. 16 + 8 * n) (sym own_fields.1.many) in
      let many_fields = sym own_fields.1.many in
      let many_methods = sym own.1.many in
      subst (IsMarked bytes p listed at fields methods) (sym all.2) (record {
        directory = directory;
        is = by_place at y other directory (record {
          class = set.1;
          field_count = subst (Is32 bytes (at + 4)) many_fields field_count.1;
          method_count = subst (Is32 bytes (at + 8)) many_methods method_count.1;
          parameter_count = subst (Is32 bytes (at + 12)) (sym all.1.many) parameter_count.1;
          fields = own_fields.1.stand;
          methods = subst (λ n. Each (λ i pair. Is32 bytes (at + 16 + 8 * n + 8 * i) pair.0 × Is32 bytes (at + 16 + 8 * n + 8 * i + 4) pair.1) 0 own.1.pairs) many_fields own.1.stand;
          parameters = subst (λ n. Each (λ i pair. Is32 bytes (at + 16 + 8 * length own_fields.1.pairs + 8 * n + 8 * i) pair.0 × Is32 bytes (at + 16 + 8 * length own_fields.1.pairs + 8 * n + 8 * i + 4) pair.1) 0 all.1.pairs) many_methods
              (subst (λ n. Each (λ i pair. Is32 bytes (at + 16 + 8 * n + 8 * method_count.0 + 8 * i) pair.0 × Is32 bytes (at + 16 + 8 * n + 8 * method_count.0 + 8 * i + 4) pair.1) 0 all.1.pairs) many_fields all.1.stand);
        });
        order = record { fields = pairs_ascend 0 0 own_fields.1.pairs own_fields.1.rise; methods = pairs_ascend 0 0 own.1.pairs own.1.rise; parameters = pairs_ascend 0 0 all.1.pairs all.1.rise };
        defined_fields = own_fields.1.defined;
        defined_methods = own.1.defined;
        defined_parameters = all.1.defined;
        marks = marks.1;
        fields_are = own_fields.1.turned;
        between = own.0.0;
        methods_are = own.1.turned;
        parameters_are = all.1.turned;
      }))

  no_marks : (left : ℕ) (offset : ℕ) → offset ≡ 0 → IsMarked bytes p listed offset fields methods (marked [] fields methods left)
  no_marks left offset e = subst (λ n. IsMarked bytes p listed n fields methods (marked [] fields methods left)) (sym e) (record {
    directory = no_directory;
    is = refl;
    order = record { fields = tt; methods = tt; parameters = tt };
    defined_fields = tt;
    defined_methods = tt;
    defined_parameters = tt;
    marks = refl;
    fields_are = over_same (Turned with_marks (AreMarksOf bytes (sizes_in p)) []) (λ e x. inl (refl, tt)) (listed.statics ++ listed.instances) fields as_fields;
    between = methods;
    methods_are = over_same (Turned with_own_marks (AreMarksOf bytes (sizes_in p)) []) (λ e x. inl (refl, tt)) (listed.directs ++ listed.virtuals) methods as_methods;
    parameters_are = over_same (Turned with_parameter_marks (AreParameterMarksOf bytes (sizes_in p)) []) (λ e x. inl (refl, tt)) (listed.directs ++ listed.virtuals) methods as_methods;
  })

  pub founds_marked : (offset left : ℕ) → Founds (IsMarked bytes p listed offset fields methods) (marked_at bytes p class listed offset fields methods left)
  unfolding marked_at
  founds_marked offset left = either
      (λ e. weaker (Ok (marked [] fields methods left)) (done (marked [] fields methods left)) (λ y q. subst (IsMarked bytes p listed offset fields methods) (sym q) (no_marks left offset (eqb-true offset 0 e))))
      (λ e. founds_directory offset left (λ is. true≢false (sym (eq-eqb offset 0 is) ∙ e)))
