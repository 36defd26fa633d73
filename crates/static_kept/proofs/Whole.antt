-- What staticise leaves of a well-formed program is well-formed.
use Rattle.std.proofs.Common.{◌≡◌, ◌⊎◌, inl, inr, ℕ, zero, suc, ◌+◌, ◌<◌, ◌≤◌, Bool, true, false, true≢false, List, [], ◌∷◌, length, map, Option, Some, None, refl, sym, ap, ◌∙◌, subst, arith, lt-ltb}
use Rattle.std.specs.Prelude.{◌&&◌, not, cond, is_some, nat_eq, nat_le, slice_get, sum_by}
use Rattle.std.specs.List.{list_all}
use Rattle.std.proofs.lemmas.Bool.{le-leb}
use Rattle.std.proofs.lemmas.List.Sorted.{sum_by-IsPermutation}
use Rattle.lemmas.proofs.Bools.{and_both, and_left, and_right, not_true}
use Rattle.lemmas.proofs.Lists.{all_at, get_there, got_short}
use Rattle.lemmas.proofs.Options.{none_some, some_same}
use Rattle.program_model.specs.Distinct.{all_differ, own_method_key}
use Rattle.program_model.specs.Items.{class_items, items_of, proto_items}
use Rattle.program_model.specs.Lookups.{method_at}
use Rattle.program_model.specs.MemberRules.{class_fits, fields_fit, is_class_type, is_object, is_static, methods_fit, source_fits, types_of_class_fit}
use Rattle.program_model.specs.ProgramRules.{is_well_formed}
use Rattle.program_model.specs.TableRules.{method_id_fits}
use Rattle.program_model.specs.Texts.{has_proto, has_string, has_type, type_text}
use Rattle.program_model.specs.ValueRules.{marks_fit}
use Rattle.program_model.specs.declared.pass.Changed.{Changed}
use Rattle.program_model.specs.declared.pass.Outside.{Outside}
use Rattle.program_model.specs.declared.pools.MethodName.{MethodName}
use Rattle.program_model.specs.declared.program.Class.{Class}
use Rattle.program_model.specs.declared.program.Method.{Method}
use Rattle.program_model.specs.declared.program.MethodAt.{MethodAt}
use Rattle.program_model.specs.declared.program.Program.{Program}
use Rattle.program_model.proofs.Formed.{Drawn, Ended, Kept, SameHead, formed, stand_kept, well_formed}
use Rattle.class_defs.specs.ClassGraph.{IsTwice}
use Rattle.class_defs.specs.Finding.{resolves_method}
use Rattle.class_defs.proofs.WellFormed.{below, class_parts, sound}
use Rattle.facts.specs.declared.facts.Facts.{Facts}
use Rattle.static_protos.proofs.Behind.{stays}
use Rattle.static_protos.specs.Tables.{Tables, wanted}
use Rattle.loose_methods.proofs.Once.{Owns, number_once}
use Rattle.staticise.specs.Judging.{judged}
use Rattle.staticise.specs.Loosened.{AreEach, IsLoosenedBy, IsLoosenedClass, IsStaticisedBy, given_at, is_given, method_loosened, names_with, target_at, target_method, target_of}
use Rattle.staticise.specs.Made.{AreMade, IsMade}
use Rattle.staticise.proofs.Falls.{receives_so}
use Rattle.staticise.proofs.Fresh.{fresh}
use Rattle.staticise.proofs.Limits.{all_sound}
use Rattle.staticise.proofs.Made.{all_made}
use Rattle.staticise.proofs.Ordered.{own_mapped, own_methods}
use Rattle.staticise.proofs.Targeted.{same_name}
use Rattle.static_kept.proofs.Counts.{AreCounted, all_extra, cells_now, classes_more, each_first, each_rest, first_counted, more_counted}
use Rattle.static_kept.proofs.Extended.{Extends}
use Rattle.static_kept.proofs.Lists.{once_differ}
use Rattle.static_kept.proofs.Methods.{class_kept}
use Rattle.static_kept.proofs.Plans.{IsNew, IsPlan, names_at}
use Rattle.static_kept.proofs.Protos.{AreOfTypes, class_passed, first_typed, more_typed}
use Rattle.static_kept.proofs.Tables.{tables_now}
use Rattle.static_kept.proofs.Turns.{all_turns}

-- a class's type is a class type
own_kind : (p : Program) (k : Class) → types_of_class_fit p k ≡ true → is_class_type p k.name ≡ true
unfolding types_of_class_fit
own_kind p k h = and_left (is_class_type p k.name) (not (is_object (type_text p k.name))) (and_left (is_class_type p k.name && not (is_object (type_text p k.name))) (is_class_type p k.superclass && list_all (is_class_type p) k.interfaces) h)

class_kind : (p : Program) (k : Class) → class_fits p k ≡ true → is_class_type p k.name ≡ true
unfolding class_fits
class_kind p k h = own_kind p k (and_left (types_of_class_fit p k) (source_fits p k.source && marks_fit p k.marks)
    (and_left (types_of_class_fit p k && (source_fits p k.source && marks_fit p k.marks)) (fields_fit p k.name k.fields && methods_fit p k.name k.methods) h))

long_names : (os : List (Option ℕ)) (xs : List MethodName) → length (names_with os xs) ≡ length xs
long_names [] xs = refl
long_names (o ∷ os) [] = refl
long_names (o ∷ os) (x ∷ xs) = ap suc (long_names os xs)

-- the number of a method made static that a number resolves to has a new proto
target_given : (p : Program) (given : List (Option ℕ)) (called n : ℕ) → target_of p given called ≡ Some n → (v : ℕ) × (given_at given n ≡ Some v)
target_given p given called n e = by_found (resolves_method p called) e
  where
    some_of : (o : Option ℕ) → is_some o ≡ true → (v : ℕ) × (o ≡ Some v)
    some_of None f = absurd (true≢false (sym f))
    some_of (Some v) f = (v, refl)

    by_method : (x : Option Method) → target_method given x ≡ Some n → (v : ℕ) × (given_at given n ≡ Some v)
    by_method None f = none_some n f
    by_method (Some m) f = test (is_given given m.name) refl f
      where
        test : (b : Bool) → is_given given m.name ≡ b → cond b (Some m.name) None ≡ Some n → (v : ℕ) × (given_at given n ≡ Some v)
        test true g h = some_of (given_at given n) (ap (is_given given) (sym (some_same m.name n h)) ∙ g)
        test false g h = none_some n h

    by_found : (x : Option MethodAt) → target_at p given x ≡ Some n → (v : ℕ) × (given_at given n ≡ Some v)
    by_found None f = none_some n f
    by_found (Some at) f = by_method (method_at p at) f

module _ (p : Program) (facts : Facts) (o : Outside) (admitted : List Bool) (wf : is_well_formed p ≡ true) (once : (class : ℕ) → IsTwice p class → ⊥) where
  abbrev t : Tables
  t = judged p facts o admitted

  made : AreMade p facts o admitted t
  made = all_made p facts o admitted

  counted : AreCounted p t
  counted = all_turns p facts o admitted (AreCounted p) (first_counted p) (λ u place i k m q proto owns f g a. more_counted p wf once u (wanted p k m q proto) place i k m owns refl refl a)

  kind_of : (place : ℕ) (k : Class) → slice_get p.classes place ≡ Some k → is_class_type p k.name ≡ true
  kind_of place k e = class_kind p k (all_at (class_fits p) p.classes place k (sound p wf).classes_fit e)

  typed : AreOfTypes p t.protos
  typed = all_turns p facts o admitted (λ u. AreOfTypes p u.protos) (first_typed p wf) (λ u place i k m q proto owns f g a.
      let first = first_typed p wf q.proto proto g in
      more_typed p u (wanted p k m q proto) a first.result (class_passed p k.name proto.parameters (kind_of place k owns.is_class) first.parameters))

  module _ (q : Program) (made_so : IsLoosenedBy p t q) where
    strings : q.strings ≡ t.strings
    strings = ap (λ (x : Program). x.strings) made_so.rest

    protos : q.protos ≡ t.protos
    protos = ap (λ (x : Program). x.protos) made_so.rest

    methods : q.methods ≡ names_with t.given p.methods
    methods = ap (λ (x : Program). x.methods) made_so.rest

    extends : Extends p q
    extends = record {
      texts = made.behind.texts;
      strings = strings ∙ made.behind.strings;
      new = made.behind.new;
      protos = protos ∙ made.behind.protos;
      types = ap (λ (x : Program). x.types) made_so.rest;
      fields = ap (λ (x : Program). x.fields) made_so.rest;
      methods = ap length methods ∙ long_names t.given p.methods;
    }

    new_of : (n v : ℕ) → given_at t.given n ≡ Some v → IsNew p q n v
    new_of n v f = by (made.each n v f)
      where
        by : IsMade p facts o admitted t n v → IsNew p q n v
        by m = record {
          entry = m.was.name;
          is_entry = m.was.is_name;
          proto = m.was.proto;
          is_proto = m.was.is_proto;
          new = m.new;
          is_new = there;
          result = m.result;
          parameters = m.parameters ∙ ap (λ c. c ∷ m.was.proto.parameters) owner;
          free = λ r other g name proto.
              let z : slice_get p.protos other.proto ≡ Some m.new = old r other g proto in
              fresh p facts o admitted wf n m.was r other m.new g name z m.result m.parameters;
          receives = λ c i k x g h s.
              let same = number_once p wf once m.was.place c m.was.at i m.was.class k m.was.method x was_there (record { is_class = g; is_method = h }) (m.was.is_number ∙ sym s) in
              ap (λ (y : Method). is_static y.flags) (sym same.method) ∙ not_true (is_static m.was.method.flags)
              (and_right (is_some m.was.method.body) (not (is_static m.was.method.flags)) (receives_so p facts o admitted m.was.tables m.was.place m.was.class m.was.method m.was.name m.was.proto m.was.holds));
        }
          where
            there : slice_get q.protos v ≡ Some m.new
            there = ap (λ xs. slice_get xs v) protos ∙ m.there

            was_there : Owns p m.was.place m.was.class m.was.at m.was.method
            was_there = record { is_class = m.was.is_class; is_method = m.was.is_method }

            owner : m.was.class.name ≡ m.was.name.class
            owner =
                let fits = (class_parts p (sound p wf) m.was.place m.was.class m.was.is_class).methods m.was.at m.was.method m.was.is_method in
                sym fits.owner ∙ ap (λ (x : MethodName). x.class) (some_same fits.entry m.was.name (sym fits.is ∙ ap (slice_get p.methods) m.was.is_number ∙ m.was.is_name))

            old : (r : ℕ) (other : MethodName) → slice_get p.methods r ≡ Some other → other.proto ≡ v → slice_get p.protos other.proto ≡ Some m.new
            old r other g s =
                let fits = all_at (method_id_fits p) p.methods r other (sound p wf).methods_fit g in
                let short = below other.proto (length p.protos) (and_left (has_proto p other.proto) (has_string p other.name) (and_right (has_type p other.class) (has_proto p other.proto && has_string p other.name) fits)) in
                let y = get_there p.protos other.proto short in
                let z : slice_get t.protos v ≡ Some y.0 = ap (λ xs. slice_get xs v) made.behind.protos ∙ stays p.protos made.behind.new v y.0 (ap (slice_get p.protos) (sym s) ∙ y.1) in
                y.1 ∙ ap Some (some_same y.0 m.new (sym z ∙ m.there))

    plan : IsPlan p q t.given
    plan = record {
      extends = extends;
      names = λ n. ap (λ xs. slice_get xs n) methods ∙ names_at t.given p.methods n;
      new = new_of;
      inside = λ n x f. let g = target_given p t.given n x f in let m = new_of x g.0 g.1 in lt-ltb x (length q.methods) (let l = got_short p.methods x m.entry m.is_entry in let e = extends.methods in omega (arith, l, e));
    }

    -- ---- classes

    head_same : (c d : Class) → IsLoosenedClass p t.given c d → SameHead c d
    head_same c d r = subst (SameHead c) (sym r.rest) (record { name = refl; flags = refl; superclass = refl; interfaces = refl })

    drawn : (xs ys : List Class) → AreEach (IsLoosenedClass p t.given) xs ys → Drawn xs ys
    drawn [] [] a = Ended
    drawn [] (y ∷ ys) a = let l = a.long in absurd (omega (arith, l))
    drawn (x ∷ xs) [] a = let l = a.long in absurd (omega (arith, l))
    drawn (x ∷ xs) (y ∷ ys) a = Kept x y xs ys (head_same x y (each_first (IsLoosenedClass p t.given) x y xs ys a)) (drawn xs ys (each_rest (IsLoosenedClass p t.given) x y xs ys a))

    -- the numbers of a class's methods stand once in any order
    differ : (c : ℕ) (k d : Class) → slice_get p.classes c ≡ Some k → IsLoosenedClass p t.given k d → all_differ own_method_key d.methods ≡ true
    differ c k d e r = once_differ (λ (m : Method). m.name) d.methods (λ n.
        let own = own_mapped (method_loosened p t.given) (same_name p t.given) k.methods (own_methods p wf c k e) in
        let l = own.once n in
        let z = sum_by-IsPermutation (λ (m : Method). cond (nat_eq m.name n) 1 0) (map (method_loosened p t.given) k.methods) d.methods r.methods in
        omega (arith, l, z))

    classes_fit : (start : ℕ) (xs ys : List Class) → ((c : ℕ) (x : Class) → slice_get xs c ≡ Some x → slice_get p.classes (c + start) ≡ Some x) → AreEach (IsLoosenedClass p t.given) xs ys → list_all (class_fits p) xs ≡ true → list_all (class_fits q) ys ≡ true
    classes_fit start [] [] there a h = refl
    classes_fit start [] (y ∷ ys) there a h = let l = a.long in absurd (omega (arith, l))
    classes_fit start (x ∷ xs) [] there a h = let l = a.long in absurd (omega (arith, l))
    classes_fit start (x ∷ xs) (y ∷ ys) there a h =
        let here : slice_get p.classes start ≡ Some x = ap (slice_get p.classes) (let z : start ≡ 0 + start = omega arith in z) ∙ there 0 x refl in
        let r = each_first (IsLoosenedClass p t.given) x y xs ys a in
        and_both (class_fits q y) (list_all (class_fits q) ys) (class_kept p q wf t.given plan start x y here r (differ start x y here r) (and_left (class_fits p x) (list_all (class_fits p) xs) h))
        (classes_fit (suc start) xs ys (λ c z f. ap (slice_get p.classes) (let w : c + suc start ≡ suc c + start = omega arith in w) ∙ there (suc c) z f) (each_rest (IsLoosenedClass p t.given) x y xs ys a) (and_right (class_fits p x) (list_all (class_fits p) xs) h))

    -- ---- limits

    few_items : items_of q ≤ 16777216
    unfolding items_of
    few_items =
        let a = counted.are in
        let b = classes_more p t.given p.classes q.classes made_so.classes in
        let c : sum_by proto_items q.protos ≡ sum_by proto_items t.protos = ap (sum_by proto_items) protos in
        let d = (all_sound p facts o admitted wf).items in
        within (sum_by proto_items q.protos) (sum_by proto_items t.protos) (sum_by class_items q.classes) (sum_by class_items p.classes) (all_extra t.given p.classes) t.items a b c d
      where
        within : (x x0 y y0 g n : ℕ) → x0 + (y0 + g) ≤ n → y ≡ y0 + g → x ≡ x0 → n ≤ 16777216 → x + y ≤ 16777216
        within x x0 y y0 g n a b c d = omega (arith, a, b, c, d)

    pub loosened_formed : is_well_formed q ≡ true
    loosened_formed =
        let f = formed p wf in
        well_formed q (record {
          tables = tables_now p q wf t.given plan t strings protos made_so.classes.long (all_sound p facts o admitted wf) typed;
          cells = ap (λ n. nat_le n 67108864) (cells_now p q wf t.given plan made_so.classes) ∙ f.cells;
          items = le-leb (items_of q) 16777216 few_items;
          stands = stand_kept p q (drawn p.classes q.classes made_so.classes) f.stands;
          classes = classes_fit 0 p.classes q.classes (λ c x g. ap (slice_get p.classes) (let z : c + 0 ≡ c = omega arith in z) ∙ g) made_so.classes f.classes;
        })

-- what the pass answers
pub staticised_formed : (p : Program) (facts : Facts) (o : Outside) (admitted : List Bool) (c : Changed) → is_well_formed p ≡ true → ((class : ℕ) → IsTwice p class → ⊥) → IsStaticisedBy p facts o admitted c → is_well_formed c.program ≡ true
staticised_formed p facts o admitted c wf once h = elim (zero_or c.count) [
  | inl z ↦ ap is_well_formed (h.same z) ∙ wf
  | inr l ↦ loosened_formed p facts o admitted wf once c.program (h.loosened l)
]
  where
    zero_or : (n : ℕ) → (n ≡ 0) ⊎ (0 < n)
    zero_or zero = inl refl
    zero_or (suc n) = inr (omega arith)
