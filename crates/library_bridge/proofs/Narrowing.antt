-- A narrowed table by number is one by names.
use Rattle.std.proofs.Common.{◌≡◌, ℕ, zero, suc, ◌<◌, inl, inr, Bool, true, false, true≢false, nat_eq, List, [], ◌∷◌, map, length, Option, Some, None, refl, sym, ap, subst, ◌∙◌, arith}
use Rattle.std.specs.Prelude.{◌⊎◌, ◌&&◌, ◌||◌, not, slice_get, option_and_then, if◌then◌else◌}
use Rattle.std.specs.Option.{option_map}
use Rattle.std.specs.List.{list_all}
use Rattle.std.proofs.Math.Path.{fun_ext}
use Rattle.std.proofs.lemmas.Option.{slice_get-map, slice_get_within}
use Rattle.program_model.specs.Lookups.{method_place}
use Rattle.program_model.specs.ProgramRules.{is_well_formed}
use Rattle.program_model.specs.declared.pass.Outside.{Outside}
use Rattle.program_model.specs.declared.program.Method.{Method}
use Rattle.program_model.specs.declared.program.MethodAt.{MethodAt}
use Rattle.program_model.specs.declared.program.Class.{Class}
use Rattle.program_model.specs.declared.program.Program.{Program}
use Rattle.class_defs.specs.ClassGraph.{IsTwice}
use Rattle.class_defs.specs.Places.{is_under}
use Rattle.class_defs.proofs.Positions.{number_test}
use Rattle.dalvik_defs.specs.Names.{method_eq}
use Rattle.dalvik_defs.specs.Naming.{method_at, named_class, named_method, named}
use Rattle.dalvik_defs.specs.Outer.{outer_of, methods_in}
use Rattle.dalvik_defs.specs.Under.{class_named}
use Rattle.dalvik_defs.specs.Shut as shut
use Rattle.dalvik_defs.specs.Shut.{key_of}
use Rattle.dalvik_defs.specs.declared.names.MethodKey.{MethodKey}
use Rattle.dalvik_defs.specs.declared.program.NamedClass.{NamedClass}
use Rattle.dalvik_defs.specs.declared.program.NamedMethod.{NamedMethod}
use Rattle.name_bridge.specs.Named.{class_at}
use Rattle.name_bridge.proofs.Tables.{Sound, sound}
use Rattle.name_bridge.proofs.Classes.{MethodFits, class_parts, class_by_number}
use Rattle.name_bridge.proofs.Above.{length_map, own_place}
use Rattle.removal_law.specs.Left as left
use Rattle.removal_law.specs.Reach.{IsNarrowed, ShutsHold}
use Rattle.removal_law.proofs.ShutTables.{narrowed}
use Rattle.stub_library.specs.Shut as number
use Rattle.stub_library.specs.Shut.{each_class, if_entry, finds_it, is_kept, is_other, is_loose, is_clear_at, is_shut, shut_at, shut_number, passing_below}
use Rattle.stub_library.specs.Lists.{In}
use Rattle.stub_library.specs.declared.library.Library.{Library}
use Rattle.stub_library.proofs.Lists.{in_either, in_left, in_right, any_in, any_from}
use Rattle.stub_library.proofs.Unique.{Owns, from_some, shut_here}
use Rattle.library_bridge.specs.Libraries.{library_of}
use Rattle.library_bridge.proofs.Same.{among, own_key, sound_key, shut_is}

-- ---- numbers that pass

pub record Passing (test : ℕ → Bool) (size n : ℕ) : Type 0 where
  pub short : n < size
  pub passes : test n ≡ true

passing_from : (test : ℕ → Bool) (size n : ℕ) → In n (passing_below test size) → Passing test size n
passing_from test zero n i = absurd i
passing_from test (suc size) n i = elim (in_either (passing_below test size) (if test size then size ∷ [] else []) n i) [
  | inl j ↦ (let r = passing_from test size n j in record { short = (let l = r.short in omega (arith, l)); passes = r.passes })
  | inr j ↦ by (test size) refl j
]
  where
    by : (b : Bool) → test size ≡ b → In n (if b then size ∷ [] else []) → Passing test (suc size) n
    by true e (inl s) = record { short = omega (arith, s); passes = ap test (sym s) ∙ e }
    by true e (inr j) = absurd j
    by false e j = absurd j

before_or_at : (i n : ℕ) → i < suc n → (i < n) ⊎ (i ≡ n)
before_or_at zero zero lt = inr refl
before_or_at zero (suc n) lt = inl (omega arith)
before_or_at (suc i) zero lt = absurd (omega (arith, lt))
before_or_at (suc i) (suc n) lt = elim (before_or_at i n (omega (arith, lt))) [ inl l ↦ inl (omega (arith, l)) | inr e ↦ inr (ap suc e) ]

passing_to : (test : ℕ → Bool) (size n : ℕ) → n < size → test n ≡ true → In n (passing_below test size)
passing_to test zero n lt e = absurd (omega (arith, lt))
passing_to test (suc size) n lt e = elim (before_or_at n size lt) [
  | inl l ↦ in_left (passing_below test size) (if test size then size ∷ [] else []) n (passing_to test size n l e)
  | inr s ↦ in_right (passing_below test size) (if test size then size ∷ [] else []) n (subst (λ b. In n (if b then size ∷ [] else [])) (sym (sym (ap test s) ∙ e)) (inl (sym s)))
]

-- ---- which methods are shut doesn't hang on the list of shut methods

shut_same : (p : Program) (o : Outside) (l : Library) (xs : List ℕ) (n c : ℕ) (k : Class) (m : Method) → is_shut n p (record o { shut = xs }) l c k m ≡ is_shut n p o l c k m
shut_same p o l xs zero c k m = refl
shut_same p o l xs (suc n) c k m =
    ap (λ (f : ℕ → Class → Method → Bool). if_entry (λ q. is_loose p o q k m
    && each_class (λ d v. not (finds_it p c q d) || (is_clear_at p o l q d
    && each_class (λ e u. not (is_under p d e) || list_all (λ x. not (is_other p c q e x) || is_kept o x.name || f e u x) u.methods) 0 p.classes)) 0 p.classes) (slice_get p.methods m.name))
    (fun_ext (λ e. fun_ext (λ u. fun_ext (λ x. shut_same p o l xs n e u x))))

-- ---- named classes and methods

before : {A B : Type 0} (f : A → B) (o : Option A) (y : B) → option_map f o ≡ Some y → (x : A) × ((o ≡ Some x) × (f x ≡ y))
before f None y e = absurd (cc)
before f (Some x) y e = (x, (refl, cc))

got_named : {A B : Type 0} (f : A → B) (xs : List A) (i : ℕ) (y : B) → slice_get (map f xs) i ≡ Some y → (x : A) × ((slice_get xs i ≡ Some x) × (f x ≡ y))
got_named f xs i y e = before f (slice_get xs i) y (sym (slice_get-map f xs i) ∙ e)

stands : {A : Type 0} (xs : List A) (x : A) → left.In x xs → (i : ℕ) × (slice_get xs i ≡ Some x)
stands [] x i = elim i [ ]
stands (y ∷ ys) x (left.here zs) = (0, refl)
stands (y ∷ ys) x (left.there z zs i) = let r = stands ys x i in (suc r.0, r.1)

module _ (p : Program) (wf : is_well_formed p ≡ true) (once : (class : ℕ) → IsTwice p class → ⊥) (o new : Outside) (l : Library) (is : number.IsNarrowed p o l new) where
  s : Sound p
  s = sound p wf

  -- the definition by names is that by number, for the new table
  named_is : (n c i : ℕ) (k : Class) (m : Method) → slice_get p.classes c ≡ Some k → slice_get k.methods i ≡ Some m
      → shut.is_shut n (named p) (outer_of p new) (library_of l) (named_class p k) (named_method p m) ≡ is_shut n p o l c k m
  named_is n c i k m e f = shut_is p s once new l n c i k m e f ∙ ap (λ z. is_shut n p z l c k m) is.rest ∙ shut_same p o l new.shut n c k m

  at_length : (c : NamedClass) (m : NamedMethod) → shut.shut (named p) (outer_of p new) (library_of l) c m ≡ shut.is_shut (suc (length p.classes)) (named p) (outer_of p new) (library_of l) c m
  at_length c m = ap (λ n. shut.is_shut (suc n) (named p) (outer_of p new) (library_of l) c m) (length_map (named_class p) p.classes)

  class_once : (c : ℕ) (k : Class) → slice_get p.classes c ≡ Some k → class_named (named p) (named_class p k).name ≡ Some (named_class p k)
  class_once c k e = class_by_number p s k.name (class_parts p s c k e).name ∙ ap (option_and_then (class_at p)) (own_place p once c k e) ∙ ap (option_map (named_class p)) e

  only : (key : MethodKey) → (outer_of p new).shut key ≡ true → (c : NamedClass) × ((m : NamedMethod) × ((class_named (named p) c.name ≡ Some c) × ((key_of c m ≡ key) × (shut.shut (named p) (outer_of p new) (library_of l) c m ≡ true))))
  only key e =
      let one = any_from (λ n. method_eq (method_at p n) key) new.shut e in
      let passing = passing_from (shut_number p o l) (length p.methods) one.one (subst (λ xs. In one.one xs) is.shut one.is_in) in
      by one.one (sound_key (method_at p one.one) key one.passes) passing.passes (method_place p one.one) refl
    where
      by : (n : ℕ) → method_at p n ≡ key → shut_number p o l n ≡ true → (x : Option MethodAt) → method_place p n ≡ x
          → (c : NamedClass) × ((m : NamedMethod) × ((class_named (named p) c.name ≡ Some c) × ((key_of c m ≡ key) × (shut.shut (named p) (outer_of p new) (library_of l) c m ≡ true))))
      by n k t None f = absurd (true≢false (sym t ∙ ap (shut_at (suc (length p.classes)) p o l) f))
      by n k t (Some at) f =
          let w = from_some p.classes 0 n at f in
          let owns : Owns p w.place w.class at.place w.method = record { is_class = w.is_class; is_method = w.is_method } in (
            named_class p w.class,
            (
              named_method p w.method,
              (
                class_once w.place w.class w.is_class,
                (
                  sym (own_key p s once new l w.place at.place w.class w.method w.is_class w.is_method) ∙ ap (method_at p) w.named ∙ k,
                  at_length (named_class p w.class) (named_method p w.method) ∙ named_is (suc (length p.classes)) w.place at.place w.class w.method w.is_class w.is_method
                      ∙ sym (shut_here p wf once (suc (length p.classes)) o l w.place at.place w.class w.method owns) ∙ ap (shut_number p o l) w.named ∙ t,
                ),
              ),
            ),
          )

  all : (c : NamedClass) (m : NamedMethod) → left.In c (named p).classes → left.In m c.methods → shut.shut (named p) (outer_of p new) (library_of l) c m ≡ true → (outer_of p new).shut (key_of c m) ≡ true
  all c m i j e =
      let place = stands (named p).classes c i in
      let class = got_named (named_class p) p.classes place.0 c place.1 in
      let there = stands c.methods m j in
      let method = got_named (named_method p) class.0.methods there.0 m (ap (λ (x : NamedClass). slice_get x.methods there.0) class.1.1 ∙ there.1) in
      let owns : Owns p place.0 class.0 there.0 method.0 = record { is_class = class.1.0; is_method = method.1.0 } in
      let fits : MethodFits p class.0.name method.0 = (class_parts p s place.0 class.0 class.1.0).methods there.0 method.0 method.1.0 in
      let shut_too : shut_number p o l method.0.name ≡ true = shut_here p wf once (suc (length p.classes)) o l place.0 there.0 class.0 method.0 owns
      ∙ sym (named_is (suc (length p.classes)) place.0 there.0 class.0 method.0 class.1.0 method.1.0)
      ∙ ap (λ x. shut.is_shut (suc (length p.classes)) (named p) (outer_of p new) (library_of l) x (named_method p method.0)) class.1.1
      ∙ ap (shut.is_shut (suc (length p.classes)) (named p) (outer_of p new) (library_of l) c) method.1.1 ∙ sym (at_length c m) ∙ e in
      let listed : In method.0.name new.shut = subst (λ xs. In method.0.name xs) (sym is.shut) (passing_to (shut_number p o l) (length p.methods) method.0.name (slice_get_within p.methods method.0.name fits.entry fits.is) shut_too) in
      ap (λ x. methods_in p new.shut (key_of x m)) (sym class.1.1) ∙ ap (λ x. methods_in p new.shut (key_of (named_class p class.0) x)) (sym method.1.1)
      ∙ among p s once new l place.0 there.0 class.0 method.0 class.1.0 method.1.0 new.shut
      ∙ any_in (nat_eq method.0.name) new.shut method.0.name listed (number_test method.0.name method.0.name refl)

  pub narrowed_named : IsNarrowed (named p) (outer_of p new) (library_of l)
  narrowed_named = record { only = only; all = all }

  pub narrowed_holds : ShutsHold (named p) (outer_of p new)
  narrowed_holds = narrowed (named p) (outer_of p new) (library_of l) narrowed_named
