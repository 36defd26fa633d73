-- The sets of annotations of classes that are written are used ones of a well-formed program.
use Rattle.std.proofs.Common.{◌≡◌, ◌≤◌, ◌+◌, inl, inr, ℕ, true, List, [], ◌∷◌, ◌++◌, length, map, take, drop, refl, sym, ap, subst, ◌∙◌, arith, Option, Some, None, ltb-true}
use Rattle.std.specs.Prelude.{slice_get, ◌&&◌}
use Rattle.std.specs.List.{flat_map, list_all, AllByRecursion}
use Rattle.std.proofs.lemmas.Bool.{and_parts}
use Rattle.lemmas.proofs.Lists.{all_at}
use Rattle.dex_pools.specs.declared.interner.Interner.{Interner}
use Rattle.dex_pools.specs.declared.used.Named.{Named}
use Rattle.dex_pools.specs.declared.used.Named.TheVariants as named
use Rattle.dex_pools.specs.Interned.{IsInterned}
use Rattle.dex_pools.specs.Finds.{Ascends}
use Rattle.dex_pools.specs.Order.{list_below}
use Rattle.dex_pools.specs.Used.{mark_names, marks_names, kind_names, source_names, first_names, code_names, field_names, method_names, class_names}
use Rattle.dex_pools.specs.Numbering.{used_in, type_key}
use Rattle.dex_pools.specs.Written.{mark_text}
use Rattle.program_model.specs.declared.value.Note.{out-Note}
use Rattle.program_model.specs.declared.value.Mark.{Mark}
use Rattle.program_model.specs.declared.program.Field.{Field}
use Rattle.program_model.specs.declared.program.Method.{Method}
use Rattle.program_model.specs.declared.program.Class.{Class}
use Rattle.program_model.specs.declared.program.Program.{Program}
use Rattle.program_model.specs.Neighbours.{neighbours}
use Rattle.program_model.specs.Texts.{has_type}
use Rattle.program_model.specs.ValueRules.{element_fits, named_in_order, value_fits, mark_fits, typed_in_order, marks_fit}
use Rattle.program_model.specs.MemberRules.{class_of_field, class_of_method, is_class_number, first_value_fits, field_fits, code_fits, method_fits}
use Rattle.dex_write.specs.Plans.{Plan, Numbered, marks_in, method_marks_in, parameters_in, field_marks, method_marks, parameter_marks}
use Rattle.dex_write.specs.declared.ordered.MethodPart.{MethodPart}
use Rattle.dex_write.specs.Sets.{sets_of, marks_of, mark_starts}
use Rattle.dex_defs.specs.Written.{new_type, new_mark, new_marks, written_by}
use Rattle.dex_defs.specs.ValueTexts as texts
use Rattle.write_laws.specs.Used.{IsUsed, IsShort}
use Rattle.write_laws.proofs.NamesOrdering.{AsMany, used_marked}
use Rattle.write_laws.proofs.Ascending.{one_number}
use Rattle.written_file.proofs.Fit.{FitsClass}
use Rattle.written_file.proofs.In.{In, in_left, in_right, in_flat, in_got, all_in}
use Rattle.written_file.specs.Parts.{found_sets, sets_of_file}
use Rattle.written_file.specs.Rises.{IsLow, MarksLow, ClassLow, NamesRise}
use Rattle.written_file.proofs.Plans.{class_used}
use Rattle.written_file.proofs.Rising.{UsedLow, strings_rise}
use Rattle.written_file.proofs.Marks.{class_of, class_named, IsFine, sets_same, set_ascends}
use Rattle.written_file.specs.Reads.{Reads}
use Rattle.written_file.proofs.Standing.{IsGood}
use Rattle.written_file.proofs.SetTexts.{marks_are, counts_are}
use Rattle.write_laws.proofs.Lying.{total}
use Rattle.write_laws.proofs.Fitting.{sets_fit}
use Rattle.dex_pools.specs.declared.scalar.TableSizes.{TableSizes}
use Rattle.dex_pools.specs.Marks.{mark_below}
use Rattle.std.proofs.lemmas.List.{length-map, length-take-le, length-drop}
use Rattle.written_file.proofs.Small.{order_long}
use Rattle.written_file.proofs.KindFields.{HasPlan}

-- ---- what a class names

-- the class names what a set does
abbrev pub Names : Class → List Mark → Type 0
Names c ms = (n : Named) → In n (marks_names ms) → In n (class_names c)

pub own_names : (c : Class) → Names c c.marks
unfolding class_names
own_names c n i = inr (inr (in_right n (flat_map kind_names c.interfaces) _ (in_right n (source_names c.source) _ (in_left n (marks_names c.marks) _ i))))

pub field_in : (f : Field) (n : Named) → In n (marks_names f.marks) → In n (field_names f)
unfolding field_names
field_in f n i = inr (in_right n (first_names f.first) (marks_names f.marks) i)

pub method_in : (m : Method) (n : Named) → In n (marks_names m.marks) → In n (method_names m)
unfolding method_names
method_in m n i = inr (in_left n (marks_names m.marks) _ i)

pub parameter_in : (m : Method) (ms : List Mark) (n : Named) → In ms m.parameter_marks → In n (marks_names ms) → In n (method_names m)
unfolding method_names
parameter_in m ms n i j = inr (in_right n (marks_names m.marks) _ (in_left n (flat_map marks_names m.parameter_marks) (code_names m.body) (in_flat marks_names n ms m.parameter_marks i j)))

pub fields_in : (c : Class) (f : Field) (n : Named) → In f c.fields → In n (field_names f) → In n (class_names c)
unfolding class_names
fields_in c f n i j = inr (inr (in_right n (flat_map kind_names c.interfaces) _ (in_right n (source_names c.source) _ (in_right n (marks_names c.marks) _ (in_left n (flat_map field_names c.fields) (flat_map method_names c.methods) (in_flat field_names n f c.fields i j))))))

pub methods_in : (c : Class) (m : Method) (n : Named) → In m c.methods → In n (method_names m) → In n (class_names c)
unfolding class_names
methods_in c m n i j = inr (inr (in_right n (flat_map kind_names c.interfaces) _ (in_right n (source_names c.source) _ (in_right n (marks_names c.marks) _ (in_right n (flat_map field_names c.fields) (flat_map method_names c.methods) (in_flat method_names n m c.methods i j))))))

no_marks : (p : Program) → marks_fit p [] ≡ true
unfolding marks_fit
no_marks p = refl

mark_type : (p : Program) (m : Mark) → mark_fits p m ≡ true → has_type p (class_of m) ≡ true
unfolding mark_fits
mark_type p m f = (and_parts (has_type p (class_of m)) (list_all (element_fits (value_fits 64 p) p) (out-Note m.note).elements && list_all named_in_order (neighbours (out-Note m.note).elements)) f).0

each_fits : (p : Program) (ms : List Mark) → list_all (mark_fits p) ms ≡ true → (m : Mark) → In m ms → mark_fits p m ≡ true
each_fits p [] f m i = absurd i
each_fits p (x ∷ ms) f m (inl e) = subst (λ y. mark_fits p y ≡ true) e (and_parts (mark_fits p x) (list_all (mark_fits p) ms) f).0
each_fits p (x ∷ ms) f m (inr i) = each_fits p ms (and_parts (mark_fits p x) (list_all (mark_fits p) ms) f).1 m i

pub fields_marks : (p : Program) (class : ℕ) (f : Field) → field_fits p class f ≡ true → marks_fit p f.marks ≡ true
unfolding field_fits
fields_marks p class f h = (and_parts (first_value_fits p f.flags f.name f.first) (marks_fit p f.marks) (and_parts (is_class_number (class_of_field (slice_get p.fields f.name)) class) (first_value_fits p f.flags f.name f.first && marks_fit p f.marks) h).1).1

pub methods_marks : (p : Program) (class : ℕ) (m : Method) → method_fits p class m ≡ true → (marks_fit p m.marks ≡ true) × (list_all (marks_fit p) m.parameter_marks ≡ true)
unfolding method_fits
methods_marks p class m h = and_parts (marks_fit p m.marks) (list_all (marks_fit p) m.parameter_marks) (and_parts (is_class_number (class_of_method (slice_get p.methods m.name)) class && code_fits p m m.body) (marks_fit p m.marks && list_all (marks_fit p) m.parameter_marks) h).1

pub all_both : {X : Type 0} (P : X → Type 0) (xs ys : List X) → AllByRecursion P xs → AllByRecursion P ys → AllByRecursion P (xs ++ ys)
all_both P [] ys a b = b
all_both P (x ∷ xs) ys a b = (a.0, all_both P xs ys a.1 b)

module _ (p : Program) (i : Interner) (few : IsShort p) (h : IsInterned p i) (fits : (k : ℕ) (c : Class) → slice_get p.classes k ≡ Some c → FitsClass p c) where
  abbrev pub UsedKind : ℕ → Type 0
  UsedKind n = (has_type p n ≡ true) × IsUsed (used_in p) (named.Kind n)

  many : AsMany p (used_in p)
  many = used_marked p

  pub one_kind : (a b : ℕ) → UsedKind a → UsedKind b → new_type i.numbers a ≡ new_type i.numbers b → a ≡ b
  one_kind a b x y e = one_number (used_in p).types (type_key i.numbers.strings.items p.types) (length p.types) i.order.types.items i.numbers.types.items h.types many.types few.types a b (ltb-true a (length p.types) x.0, x.1) (ltb-true b (length p.types) y.0, y.1) e

  module _ (old : NamesRise p) where
    abbrev Fine : List Mark → Type 0
    Fine ms = IsFine p (UsedLow p old) UsedKind ms

    -- a set that a class names
    set_fine : (k : ℕ) (c : Class) → slice_get p.classes k ≡ Some c → (ms : List Mark) → marks_fit p ms ≡ true → Names c ms → MarksLow old.strings ms → Fine ms
    unfolding marks_fit
    set_fine k c e ms f on low =
        let both = and_parts (list_all (mark_fits p) ms) (list_all typed_in_order (neighbours ms)) f in
        record {
          fits = f;
          texts = λ m j n t. let there : In (named.Text n) (marks_names ms) = in_flat mark_names (named.Text n) m ms j t in (class_used p k c e (named.Text n) (on (named.Text n) there), all_in (IsLow old.strings) (named.Text n) (marks_names ms) low there);
          kinds = λ m j. (mark_type p m (each_fits p ms both.0 m j), class_used p k c e (named.Kind (class_of m)) (on (named.Kind (class_of m)) (in_flat mark_names (named.Kind (class_of m)) m ms j (class_named m))));
        }

    none_fine : (k : ℕ) (c : Class) → slice_get p.classes k ≡ Some c → Fine []
    none_fine k c e = set_fine k c e [] (no_marks p) (λ n j. absurd j) tt

    low_at : (k : ℕ) (c : Class) → slice_get p.classes k ≡ Some c → ClassLow old.strings c
    low_at k c e = all_in (ClassLow old.strings) c p.classes old.classes (in_got p.classes k c e)

    field_fine : (k : ℕ) (c : Class) → slice_get p.classes k ≡ Some c → (place : ℕ) → Fine (field_marks c place)
    field_fine k c e place = by_field (slice_get c.fields place) refl
      where
        by_field : (o : Option Field) → slice_get c.fields place ≡ o → Fine (field_marks c place)
        by_field None g = subst Fine (sym (ap marks_in g)) (none_fine k c e)
        by_field (Some f) g = subst Fine (sym (ap marks_in g)) (set_fine k c e f.marks (fields_marks p c.name f (all_at (field_fits p c.name) c.fields place f (fits k c e).fields g)) (λ n j. fields_in c f n (in_got c.fields place f g) (field_in f n j)) (all_in (λ x. MarksLow old.strings x.marks) f c.fields (low_at k c e).fields (in_got c.fields place f g)))

    method_low : (k : ℕ) (c : Class) → slice_get p.classes k ≡ Some c → (m : Method) → In m c.methods → MarksLow old.strings m.marks × AllByRecursion (MarksLow old.strings) m.parameter_marks
    method_low k c e m j = all_in (λ x. MarksLow old.strings x.marks × AllByRecursion (MarksLow old.strings) x.parameter_marks) m c.methods (low_at k c e).methods j

    method_fine : (k : ℕ) (c : Class) → slice_get p.classes k ≡ Some c → (place : ℕ) → Fine (method_marks c place)
    method_fine k c e place = by_method (slice_get c.methods place) refl
      where
        by_method : (o : Option Method) → slice_get c.methods place ≡ o → Fine (method_marks c place)
        by_method None g = subst Fine (sym (ap method_marks_in g)) (none_fine k c e)
        by_method (Some m) g = subst Fine (sym (ap method_marks_in g)) (set_fine k c e m.marks (methods_marks p c.name m (all_at (method_fits p c.name) c.methods place m (fits k c e).methods g)).0 (λ n j. methods_in c m n (in_got c.methods place m g) (method_in m n j)) (method_low k c e m (in_got c.methods place m g)).0)

    parameters_fine : (k : ℕ) (c : Class) → slice_get p.classes k ≡ Some c → (place : ℕ) → AllByRecursion Fine (parameter_marks c place)
    parameters_fine k c e place = by_method (slice_get c.methods place) refl
      where
        each : (m : Method) → In m c.methods → (mss : List (List Mark)) → ((ms : List Mark) → In ms mss → In ms m.parameter_marks) → list_all (marks_fit p) mss ≡ true → AllByRecursion (MarksLow old.strings) mss → AllByRecursion Fine mss
        each m j [] on f low = tt
        each m j (ms ∷ mss) on f low =
            let both = and_parts (marks_fit p ms) (list_all (marks_fit p) mss) f in
            (set_fine k c e ms both.0 (λ n x. methods_in c m n j (parameter_in m ms n (on ms (inl refl)) x)) low.0, each m j mss (λ ns x. on ns (inr x)) both.1 low.1)

        by_method : (o : Option Method) → slice_get c.methods place ≡ o → AllByRecursion Fine (parameter_marks c place)
        by_method None g = subst (AllByRecursion Fine) (sym (ap parameters_in g)) tt
        by_method (Some m) g = subst (AllByRecursion Fine) (sym (ap parameters_in g)) (each m (in_got c.methods place m g) m.parameter_marks (λ ms x. x) (methods_marks p c.name m (all_at (method_fits p c.name) c.methods place m (fits k c e).methods g)).1 (method_low k c e m (in_got c.methods place m g)).1)

    class_fine : (k : ℕ) (c : Class) → slice_get p.classes k ≡ Some c → (plan : Plan) → plan.class ≡ c → AllByRecursion Fine (sets_of plan)
    class_fine k c e plan same = subst (λ (x : Class). AllByRecursion Fine (x.marks ∷ (map (λ f. field_marks x f.1) plan.fields ++ (map (λ m. method_marks x m.place) plan.methods ++ flat_map (λ m. parameter_marks x m.place) plan.methods)))) (sym same)
        (set_fine k c e c.marks (fits k c e).marks (own_names c) (low_at k c e).own, all_both Fine (map (λ f. field_marks c f.1) plan.fields) _ (fields plan.fields) (all_both Fine (map (λ m. method_marks c m.place) plan.methods) _ (methods plan.methods) (parameters plan.methods)))
      where
        fields : (fs : List Numbered) → AllByRecursion Fine (map (λ f. field_marks c f.1) fs)
        fields [] = tt
        fields (f ∷ fs) = (field_fine k c e f.1, fields fs)

        methods : (ms : List MethodPart) → AllByRecursion Fine (map (λ m. method_marks c m.place) ms)
        methods [] = tt
        methods (m ∷ ms) = (method_fine k c e m.place, methods ms)

        parameters : (ms : List MethodPart) → AllByRecursion Fine (flat_map (λ m. parameter_marks c m.place) ms)
        parameters [] = tt
        parameters (m ∷ ms) = all_both Fine (parameter_marks c m.place) _ (parameters_fine k c e m.place) (parameters ms)

    pub all_fine : (plans : List Plan) → AllByRecursion (HasPlan p i few h fits) plans → AllByRecursion (IsFine p (UsedLow p old) UsedKind) (flat_map sets_of plans)
    all_fine [] a = tt
    all_fine (plan ∷ plans) a = all_both Fine (sets_of plan) (flat_map sets_of plans) (class_fine a.0.k a.0.c a.0.is_class plan a.0.planned.class) (all_fine plans a.1)

  found_texts : (base : ℕ) (mss : List (List Mark)) (starts : List ℕ) → flat_map (λ s. map texts.mark_text s.marks) (found_sets i.numbers base mss starts) ≡ flat_map (λ ms. map texts.mark_text (new_marks i.numbers ms)) mss
  found_texts base [] starts = refl
  found_texts base (ms ∷ mss) starts = ap (λ (l : List (List ℕ)). map texts.mark_text (new_marks i.numbers ms) ++ l) (found_texts base mss _)

  -- the annotations of the written file are those that the sets have
  pub marks_texts : (plans : List Plan) → AllByRecursion (HasPlan p i few h fits) plans → NamesRise p → Ascends list_below (written_by i p).strings
      → flat_map (λ s. map texts.mark_text s.marks) (sets_of_file p i plans) ≡ map (mark_text i.numbers) (flat_map (marks_of i.numbers) plans)
  marks_texts plans a old new =
      found_texts _ (flat_map sets_of plans) _
      ∙ (sets_same p i.numbers (UsedLow p old) UsedKind (strings_rise p i few h old new) one_kind (flat_map sets_of plans) (all_fine old plans a)
      ∙ ap (λ (l : List Mark). map (mark_text i.numbers) l) (sym (marks_are i.numbers plans)))

  -- each set that is found is one that ascends, with as many offsets as annotations
  found_good : (bytes : List ℕ) (sizes : TableSizes) (base : ℕ) (old : NamesRise p) (new : Ascends list_below (written_by i p).strings) (mss : List (List Mark)) (starts : List ℕ) → AllByRecursion (IsFine p (UsedLow p old) UsedKind) mss → total (map length mss) ≤ length starts
      → AllByRecursion (Reads bytes sizes) (flat_map (λ s. s.marks) (found_sets i.numbers base mss starts)) → AllByRecursion (IsGood bytes sizes) (found_sets i.numbers base mss starts)
  found_good bytes sizes base old new [] starts fine le reads = tt
  found_good bytes sizes base old new (ms ∷ mss) starts fine le reads =
      let many : length (map (λ s. base + s) (take (length ms) starts)) ≡ length (new_marks i.numbers ms) = length-map (take (length ms) starts) (λ s. base + s) ∙ (length-take-le (length ms) starts (omega (arith, le)) ∙ sym (marks_long ms)) in
      let apart = all_split (Reads bytes sizes) (new_marks i.numbers ms) (flat_map (λ s. s.marks) (found_sets i.numbers base mss (drop (length ms) starts))) reads in
      ((many, set_ascends p i.numbers (UsedLow p old) UsedKind (strings_rise p i few h old new) one_kind ms fine.0, apart.0), found_good bytes sizes base old new mss (drop (length ms) starts) fine.1 (omega (arith, le, length-drop (length ms) starts)) apart.1)
    where
      marks_long : (ms : List Mark) → length (new_marks i.numbers ms) ≡ length ms
      marks_long ms = order_long mark_below (map (new_mark i.numbers) ms) ∙ length-map ms (new_mark i.numbers)

      all_split : {X : Type 0} (P : X → Type 0) (xs ys : List X) → AllByRecursion P (xs ++ ys) → AllByRecursion P xs × AllByRecursion P ys
      all_split P [] ys a = (tt, a)
      all_split P (x ∷ xs) ys a = let more = all_split P xs ys a.1 in ((a.0, more.0), more.1)

  -- the sets that are found stand where they are named, where their annotations can be read
  pub sets_found : (bytes : List ℕ) (sizes : TableSizes) (plans : List Plan) → AllByRecursion (HasPlan p i few h fits) plans → NamesRise p → Ascends list_below (written_by i p).strings
      → AllByRecursion (Reads bytes sizes) (flat_map (λ s. s.marks) (sets_of_file p i plans)) → AllByRecursion (IsGood bytes sizes) (sets_of_file p i plans)
  sets_found bytes sizes plans a old new reads =
      let starts : List ℕ = mark_starts i.numbers 0 (flat_map (marks_of i.numbers) plans) in
      let enough : total (map length (flat_map sets_of plans)) ≤ length starts = subst (λ (l : List ℕ). total l ≤ length starts) (counts_are plans) (sets_fit i.numbers plans) in
      found_good bytes sizes _ old new (flat_map sets_of plans) starts (all_fine old plans a) enough reads
