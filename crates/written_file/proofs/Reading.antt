-- The annotations of the written file are spelled wherever their texts stand.
use Rattle.std.proofs.Common.{◌≡◌, ◌<◌, ◌≤◌, ◌^◌, inl, inr, ℕ, Bool, true, false, List, [], ◌∷◌, ◌++◌, length, map, drop, refl, sym, ap, subst, arith, Option, Some, None, ltb-true}
use Rattle.std.specs.Prelude.{slice_get, min, if◌then◌else◌}
use Rattle.std.specs.List.{flat_map, list_all, AllByRecursion}
use Rattle.std.proofs.lemmas.Bool.{and_parts}
use Rattle.lemmas.proofs.Lists.{all_at}
use Rattle.dex_pools.specs.declared.scalar.TableSizes.{TableSizes}
use Rattle.dex_pools.specs.declared.interner.Interner.{Interner}
use Rattle.dex_pools.specs.declared.used.Named.{Named}
use Rattle.dex_pools.specs.declared.used.Named.TheVariants as named
use Rattle.dex_pools.specs.Interned.{IsInterned}
use Rattle.dex_pools.specs.Finds.{Ascends}
use Rattle.dex_pools.specs.Order.{list_below}
use Rattle.dex_pools.specs.Marks.{mark_below}
use Rattle.dex_pools.specs.Used.{mark_names, marks_names}
use Rattle.dex_pools.specs.Numbering.{used_in}
use Rattle.program_model.specs.declared.value.Mark.{Mark}
use Rattle.program_model.specs.declared.program.Field.{Field}
use Rattle.program_model.specs.declared.program.Method.{Method}
use Rattle.program_model.specs.declared.program.Class.{Class}
use Rattle.program_model.specs.declared.program.Program.{Program}
use Rattle.program_model.specs.Neighbours.{neighbours}
use Rattle.program_model.specs.ValueRules.{mark_fits, typed_in_order, marks_fit}
use Rattle.program_model.specs.MemberRules.{field_fits, method_fits}
use Rattle.dex_write.specs.declared.ordered.MethodPart.{MethodPart}
use Rattle.dex_write.specs.Plans.{Plan, Numbered, marks_in, method_marks_in, parameters_in, field_marks, method_marks, parameter_marks}
use Rattle.dex_write.specs.Sets.{sets_of}
use Rattle.dex_defs.specs.Written.{insert, in_order, new_mark, new_marks, written_by}
use Rattle.dex_defs.specs.Spells.{sizes_in}
use Rattle.write_laws.specs.Used.{IsUsed, IsShort}
use Rattle.write_laws.specs.Owning.{IsNoLonger}
use Rattle.write_laws.proofs.Owning.{no_longer}
use Rattle.write_laws.proofs.Ranges.{ranges_kept}
use Rattle.written_file.proofs.Fit.{FitsClass}
use Rattle.written_file.proofs.In.{In, in_left, in_right, in_got, all_in}
use Rattle.written_file.specs.Fitting.{SizesFit, MarkFits}
use Rattle.written_file.specs.Wide.{AreWide, WideField, WideMethod, WideClass, HasWideValues}
use Rattle.written_file.proofs.Values.{mark_stands}
use Rattle.written_file.specs.Parts.{found_sets, sets_of_file}
use Rattle.written_file.specs.Reads.{Reads}
use Rattle.written_file.specs.Rises.{IsLow, MarksLow, ClassLow, NamesRise}
use Rattle.written_file.proofs.Plans.{class_used}
use Rattle.written_file.proofs.Rising.{strings_rise}
use Rattle.written_file.proofs.KindFields.{HasPlan}
use Rattle.written_file.proofs.FineSets.{Names, own_names, field_in, method_in, parameter_in, fields_in, methods_in, fields_marks, methods_marks, all_both}
use Rattle.written_file.proofs.News.{Lands, mark_new_fits}

-- order keeps what is true of each
inserted : {X : Type 0} (P : X → Type 0) (below : X → X → Bool) (x : X) (ys : List X) → P x → AllByRecursion P ys → AllByRecursion P (insert below x ys)
inserted P below x [] a all = (a, tt)
inserted P below x (y ∷ ys) a all = by_test (below x y) (inserted P below x ys a all.1)
  where
    by_test : (t : Bool) → AllByRecursion P (insert below x ys) → AllByRecursion P (if t then x ∷ y ∷ ys else y ∷ insert below x ys)
    by_test true b = (a, all)
    by_test false b = (all.0, b)

ordered : {X : Type 0} (P : X → Type 0) (below : X → X → Bool) (xs : List X) → AllByRecursion P xs → AllByRecursion P (in_order below xs)
ordered P below [] all = tt
ordered P below (x ∷ xs) all = inserted P below x (in_order below xs) all.0 (ordered P below xs all.1)

-- a number below the size of a short table
within : (n size most : ℕ) → n < size → size ≤ most → most < 2 ^ 32 → n < min size 4294967295
within n size most lt le few = omega (arith, lt, le, few)

module _ (p : Program) (i : Interner) (few : IsShort p) (h : IsInterned p i) (fits : (k : ℕ) (c : Class) → slice_get p.classes k ≡ Some c → FitsClass p c)
    (wide : HasWideValues p) (old : NamesRise p) (new : Ascends list_below (written_by i p).strings) where
  abbrev sizes : TableSizes
  sizes = sizes_in (written_by i p)

  abbrev pub UsedName : Named → Type 0
  UsedName n = IsUsed (used_in p) n

  pub sizes_fit : SizesFit sizes
  sizes_fit = let no : IsNoLonger (written_by i p) p = no_longer p i h in record { strings = omega (arith, no.strings, few.strings); types = omega (arith, no.types, few.types); fields = omega (arith, no.fields, few.fields); methods = omega (arith, no.methods, few.methods) }

  pub lands : Lands p i.numbers sizes UsedName
  lands =
      let no : IsNoLonger (written_by i p) p = no_longer p i h in
      record {
        strings = λ n u f. within _ (length (written_by i p).strings) (length p.strings) (ranges_kept p i few h (named.Text n) u (ltb-true n (length p.strings) f)) no.strings few.strings;
        types = λ n u f. within _ (length (written_by i p).types) (length p.types) (ranges_kept p i few h (named.Kind n) u (ltb-true n (length p.types) f)) no.types few.types;
        fields = λ n u f. within _ (length (written_by i p).fields) (length p.fields) (ranges_kept p i few h (named.Field n) u (ltb-true n (length p.fields) f)) no.fields few.fields;
        methods = λ n u f. within _ (length (written_by i p).methods) (length p.methods) (ranges_kept p i few h (named.Method n) u (ltb-true n (length p.methods) f)) no.methods few.methods;
      }

  -- what is used, and no string but those that ascend
  abbrev LowName : Named → Type 0
  LowName n = IsUsed (used_in p) n × IsLow old.strings n

  low_lands : Lands p i.numbers sizes LowName
  low_lands = record { strings = λ n u f. lands.strings n u.0 f; types = λ n u f. lands.types n u.0 f; fields = λ n u f. lands.fields n u.0 f; methods = λ n u f. lands.methods n u.0 f }

  low_at : (k : ℕ) (c : Class) → slice_get p.classes k ≡ Some c → ClassLow old.strings c
  low_at k c e = all_in (ClassLow old.strings) c p.classes old.classes (in_got p.classes k c e)

  method_low : (k : ℕ) (c : Class) → slice_get p.classes k ≡ Some c → (m : Method) → In m c.methods → MarksLow old.strings m.marks × AllByRecursion (MarksLow old.strings) m.parameter_marks
  method_low k c e m j = all_in (λ x. MarksLow old.strings x.marks × AllByRecursion (MarksLow old.strings) x.parameter_marks) m c.methods (low_at k c e).methods j

  -- a set whose annotations fit by their new numbers
  abbrev Fit : List Mark → Type 0
  Fit ms = AllByRecursion (λ m. MarkFits sizes (new_mark i.numbers m)) ms

  each_fits : (ms : List Mark) → list_all (mark_fits p) ms ≡ true → AreWide ms → ((n : Named) → In n (marks_names ms) → LowName n) → Fit ms
  each_fits [] f w u = tt
  each_fits (m ∷ ms) f w u =
      let both = and_parts (mark_fits p m) (list_all (mark_fits p) ms) f in (
        mark_new_fits p i.numbers sizes LowName (strings_rise p i few h old new) low_lands m both.0 w.0 (λ n j. u n (in_left n (mark_names m) (marks_names ms) j)),
        each_fits ms both.1 w.1 (λ n j. u n (in_right n (mark_names m) (marks_names ms) j)),
      )

  set_fits : (k : ℕ) (c : Class) → slice_get p.classes k ≡ Some c → (ms : List Mark) → marks_fit p ms ≡ true → AreWide ms → Names c ms → MarksLow old.strings ms → Fit ms
  unfolding marks_fit
  set_fits k c e ms f w on low = each_fits ms (and_parts (list_all (mark_fits p) ms) (list_all typed_in_order (neighbours ms)) f).0 w (λ n j. (class_used p k c e n (on n j), all_in (IsLow old.strings) n (marks_names ms) low j))

  wide_at : (k : ℕ) (c : Class) → slice_get p.classes k ≡ Some c → WideClass c
  wide_at k c e = all_in WideClass c p.classes wide (in_got p.classes k c e)

  field_fit : (k : ℕ) (c : Class) → slice_get p.classes k ≡ Some c → (place : ℕ) → Fit (field_marks c place)
  field_fit k c e place = by_field (slice_get c.fields place) refl
    where
      by_field : (o : Option Field) → slice_get c.fields place ≡ o → Fit (field_marks c place)
      by_field None g = subst Fit (sym (ap marks_in g)) tt
      by_field (Some f) g =
          let j : In f c.fields = in_got c.fields place f g in
          let w : WideField f = all_in WideField f c.fields (wide_at k c e).fields j in
          subst Fit (sym (ap marks_in g)) (set_fits k c e f.marks (fields_marks p c.name f (all_at (field_fits p c.name) c.fields place f (fits k c e).fields g)) w.marks (λ n x. fields_in c f n j (field_in f n x)) (all_in (λ x. MarksLow old.strings x.marks) f c.fields (low_at k c e).fields j))

  method_fit : (k : ℕ) (c : Class) → slice_get p.classes k ≡ Some c → (place : ℕ) → Fit (method_marks c place)
  method_fit k c e place = by_method (slice_get c.methods place) refl
    where
      by_method : (o : Option Method) → slice_get c.methods place ≡ o → Fit (method_marks c place)
      by_method None g = subst Fit (sym (ap method_marks_in g)) tt
      by_method (Some m) g =
          let j : In m c.methods = in_got c.methods place m g in
          let w : WideMethod m = all_in WideMethod m c.methods (wide_at k c e).methods j in
          subst Fit (sym (ap method_marks_in g)) (set_fits k c e m.marks (methods_marks p c.name m (all_at (method_fits p c.name) c.methods place m (fits k c e).methods g)).0 w.marks (λ n x. methods_in c m n j (method_in m n x)) (method_low k c e m j).0)

  parameters_fit : (k : ℕ) (c : Class) → slice_get p.classes k ≡ Some c → (place : ℕ) → AllByRecursion Fit (parameter_marks c place)
  parameters_fit k c e place = by_method (slice_get c.methods place) refl
    where
      each : (m : Method) → In m c.methods → (mss : List (List Mark)) → ((ms : List Mark) → In ms mss → In ms m.parameter_marks) → list_all (marks_fit p) mss ≡ true → AllByRecursion AreWide mss → AllByRecursion (MarksLow old.strings) mss → AllByRecursion Fit mss
      each m j [] on f w low = tt
      each m j (ms ∷ mss) on f w low =
          let both = and_parts (marks_fit p ms) (list_all (marks_fit p) mss) f in
          (set_fits k c e ms both.0 w.0 (λ n x. methods_in c m n j (parameter_in m ms n (on ms (inl refl)) x)) low.0, each m j mss (λ ns x. on ns (inr x)) both.1 w.1 low.1)

      by_method : (o : Option Method) → slice_get c.methods place ≡ o → AllByRecursion Fit (parameter_marks c place)
      by_method None g = subst (AllByRecursion Fit) (sym (ap parameters_in g)) tt
      by_method (Some m) g =
          let j : In m c.methods = in_got c.methods place m g in
          let w : WideMethod m = all_in WideMethod m c.methods (wide_at k c e).methods j in
          subst (AllByRecursion Fit) (sym (ap parameters_in g)) (each m j m.parameter_marks (λ ms x. x) (methods_marks p c.name m (all_at (method_fits p c.name) c.methods place m (fits k c e).methods g)).1 w.parameter_marks (method_low k c e m j).1)

  class_fit : (k : ℕ) (c : Class) → slice_get p.classes k ≡ Some c → (plan : Plan) → plan.class ≡ c → AllByRecursion Fit (sets_of plan)
  class_fit k c e plan same = subst (λ (x : Class). AllByRecursion Fit (x.marks ∷ (map (λ f. field_marks x f.1) plan.fields ++ (map (λ m. method_marks x m.place) plan.methods ++ flat_map (λ m. parameter_marks x m.place) plan.methods)))) (sym same)
      (set_fits k c e c.marks (fits k c e).marks (wide_at k c e).marks (own_names c) (low_at k c e).own, all_both Fit (map (λ f. field_marks c f.1) plan.fields) _ (fields plan.fields) (all_both Fit (map (λ m. method_marks c m.place) plan.methods) _ (methods plan.methods) (parameters plan.methods)))
    where
      fields : (fs : List Numbered) → AllByRecursion Fit (map (λ f. field_marks c f.1) fs)
      fields [] = tt
      fields (f ∷ fs) = (field_fit k c e f.1, fields fs)

      methods : (ms : List MethodPart) → AllByRecursion Fit (map (λ m. method_marks c m.place) ms)
      methods [] = tt
      methods (m ∷ ms) = (method_fit k c e m.place, methods ms)

      parameters : (ms : List MethodPart) → AllByRecursion Fit (flat_map (λ m. parameter_marks c m.place) ms)
      parameters [] = tt
      parameters (m ∷ ms) = all_both Fit (parameter_marks c m.place) _ (parameters_fit k c e m.place) (parameters ms)

  plans_fit : (plans : List Plan) → AllByRecursion (HasPlan p i few h fits) plans → AllByRecursion Fit (flat_map sets_of plans)
  plans_fit [] a = tt
  plans_fit (plan ∷ plans) a = all_both Fit (sets_of plan) (flat_map sets_of plans) (class_fit a.0.k a.0.c a.0.is_class plan a.0.planned.class) (plans_fit plans a.1)

  mapped : (bytes : List ℕ) (ms : List Mark) → Fit ms → AllByRecursion (Reads bytes sizes) (map (new_mark i.numbers) ms)
  mapped bytes [] a = tt
  mapped bytes (m ∷ ms) a = ((λ at here. mark_stands bytes sizes sizes_fit (new_mark i.numbers m) at a.0 here), mapped bytes ms a.1)

  reads_found : (bytes : List ℕ) (base : ℕ) (mss : List (List Mark)) (starts : List ℕ) → AllByRecursion Fit mss → AllByRecursion (Reads bytes sizes) (flat_map (λ s. s.marks) (found_sets i.numbers base mss starts))
  reads_found bytes base [] starts a = tt
  reads_found bytes base (ms ∷ mss) starts a =
      all_both (Reads bytes sizes) (new_marks i.numbers ms) (flat_map (λ s. s.marks) (found_sets i.numbers base mss (drop (length ms) starts)))
      (ordered (Reads bytes sizes) mark_below (map (new_mark i.numbers) ms) (mapped bytes ms a.0)) (reads_found bytes base mss (drop (length ms) starts) a.1)

  -- the annotations of the sets of the file
  pub all_read : (bytes : List ℕ) (plans : List Plan) → AllByRecursion (HasPlan p i few h fits) plans → AllByRecursion (Reads bytes sizes) (flat_map (λ s. s.marks) (sets_of_file p i plans))
  all_read bytes plans a = reads_found bytes _ (flat_map sets_of plans) _ (plans_fit plans a)
