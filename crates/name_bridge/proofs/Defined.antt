-- The method and the field that a class itself defines, and the code of a method, by number are those by name.
use Rattle.std.proofs.Common.{◌≡◌, ℕ, suc, ◌+◌, ◌<◌, Bool, true, false, true≢false, nat_eq, List, [], ◌∷◌, length, Option, Some, None, refl, sym, ap, ◌∙◌, arith}
use Rattle.std.specs.Prelude.{◌&&◌, cond, slice_get, find, position, option_and_then}
use Rattle.std.specs.Option.{option_map}
use Rattle.program_model.specs.declared.pools.MethodName.{MethodName}
use Rattle.program_model.specs.declared.program.Method.{Method}
use Rattle.program_model.specs.declared.program.MethodAt.{MethodAt}
use Rattle.program_model.specs.declared.program.Class.{Class}
use Rattle.program_model.specs.declared.program.Program.{Program}
use Rattle.program_model.specs.Lookups as look
use Rattle.program_model.specs.Lookups.{class_place, method_or, method_from, method_place}
use Rattle.program_model.specs.Distinct.{method_key}
use Rattle.class_defs.specs.ClassGraph.{IsTwice}
use Rattle.class_defs.specs.Members.{names_method, is_method, is_field}
use Rattle.dalvik_defs.specs.Under.{class_named}
use Rattle.dalvik_defs.specs.Naming.{text_at, type_at, signature_at, method_at, named_class, named_method, named, field_at, named_field}
use Rattle.dalvik_defs.specs.Find.{method_in, defined_method, field_in, defined_field}
use Rattle.dalvik_defs.specs.declared.program.NamedClass.{NamedClass}
use Rattle.dalvik_defs.specs.declared.program.NamedMethod.{NamedMethod}
use Rattle.name_bridge.specs.Named.{class_at}
use Rattle.name_bridge.proofs.Tables.{and_left, and_right, entry_at, same_number, Sound, method_is, method_class, method_name, method_proto, field_is, field_class, field_name, field_kind}
use Rattle.name_bridge.proofs.Lists.{same_test, both, number_test, number_of, find_place, position_none, position_step}
use Rattle.name_bridge.proofs.Classes.{MethodFits, ClassFits, class_parts, class_by_number, method_by_number, field_by_number}
use Rattle.name_bridge.proofs.Above.{defined}
use Rattle.program_model.specs.declared.pools.FieldName.{FieldName}
use Rattle.dalvik_defs.specs.declared.program.NamedField.{NamedField}

find_same : {X : Type 0} (t u : X → Bool) (xs : List X) → ((i : ℕ) (x : X) → slice_get xs i ≡ Some x → t x ≡ u x) → find t xs ≡ find u xs
find_same t u [] h = refl
find_same t u (x ∷ xs) h = ap (λ b. cond b (Some x) (find t xs)) (h 0 x refl) ∙ ap (cond (u x) (Some x)) (find_same t u xs (λ i y e. h (suc i) y e))

find_nowhere : {X : Type 0} (t : X → Bool) (xs : List X) → ((i : ℕ) (x : X) → slice_get xs i ≡ Some x → t x ≡ false) → find t xs ≡ None
find_nowhere t [] h = refl
find_nowhere t (x ∷ xs) h = ap (λ b. cond b (Some x) (find t xs)) (h 0 x refl) ∙ find_nowhere t xs (λ i y e. h (suc i) y e)

-- the method of a number among those of a class
abbrev pub numbered : ℕ → Class → Option ℕ
numbered m c = position (λ x. nat_eq x.name m) c.methods

-- classes of which no two have one type
pub record Apart (p : Program) (cs : List Class) : Type 0 where
  pub fit : (i : ℕ) (c : Class) → slice_get cs i ≡ Some c → ClassFits p c
  pub once : (i j : ℕ) (c d : Class) → i < j → slice_get cs i ≡ Some c → slice_get cs j ≡ Some d → c.name ≡ d.name → ⊥

module _ (p : Program) (s : Sound p) (m : ℕ) (e : MethodName) (is : slice_get p.methods m ≡ Some e) where
  not_there : (c : Class) → ClassFits p c → nat_eq c.name e.class ≡ false → numbered m c ≡ None
  not_there c f h = position_none (λ x. nat_eq x.name m) c.methods (find_nowhere (λ x. nat_eq x.name m) c.methods (λ i x g. none_of (f.methods i x g) (nat_eq x.name m) refl))
    where
      none_of : {x : Method} → MethodFits p c.name x → (b : Bool) → nat_eq x.name m ≡ b → b ≡ false
      none_of fit false k = refl
      none_of {x} fit true k =
          let same : Some fit.entry ≡ Some e = sym fit.is ∙ ap (slice_get p.methods) (number_of x.name m k) ∙ is in
          let w : fit.entry ≡ e = cc in
          absurd (true≢false (sym (number_test c.name e.class (sym fit.owner ∙ ap (λ q. q.class) w)) ∙ h))

  abbrev in_place : ℕ → List Class → Option ℕ → Option MethodAt
  in_place start cs None = None
  in_place start cs (Some j) = option_and_then (λ c. option_map (λ i. record { class = start + j; place = i }) (numbered m c)) (slice_get cs j)

  from_places : (start : ℕ) (cs : List Class) → Apart p cs → method_from start cs m ≡ in_place start cs (position (λ c. nat_eq c.name e.class) cs)
  from_places start [] a = refl
  from_places start (c ∷ cs) a =
      step (nat_eq c.name e.class) refl (numbered m c) refl (from_places (start + 1) cs rest)
    where
      rest : Apart p cs
      rest = record { fit = λ i d h. a.fit (suc i) d h; once = λ i j x y l h k. a.once (suc i) (suc j) x y (omega arith) h k }

      moved : (o : Option ℕ) → in_place (start + 1) cs o ≡ in_place start (c ∷ cs) (option_map suc o)
      moved None = refl
      moved (Some j) = ap (λ n. option_and_then (λ c. option_map (λ i. record { class = n; place = i }) (numbered m c)) (slice_get cs j)) (let h : (start + 1) + j ≡ start + suc j = omega arith in h)

      no_more : nat_eq c.name e.class ≡ true → position (λ d. nat_eq d.name e.class) cs ≡ None
      no_more h = position_none (λ d. nat_eq d.name e.class) cs (find_nowhere (λ d. nat_eq d.name e.class) cs (λ i d g. none_of i d g (nat_eq d.name e.class) refl))
        where
          none_of : (i : ℕ) (d : Class) → slice_get cs i ≡ Some d → (b : Bool) → nat_eq d.name e.class ≡ b → b ≡ false
          none_of i d g false k = refl
          none_of i d g true k = absurd (a.once 0 (suc i) c d (omega arith) refl g (number_of c.name e.class h ∙ sym (number_of d.name e.class k)))

      step : (b : Bool) → nat_eq c.name e.class ≡ b → (o : Option ℕ) → numbered m c ≡ o → method_from (start + 1) cs m ≡ in_place (start + 1) cs (position (λ d. nat_eq d.name e.class) cs)
          → method_or start (numbered m c) (method_from (start + 1) cs m) ≡ in_place start (c ∷ cs) (position (λ d. nat_eq d.name e.class) (c ∷ cs))
      step true h (Some i) g r =
          ap (λ o. method_or start o (method_from (start + 1) cs m)) g
          ∙ ap (λ n. Some (record { class = n; place = i })) (let z : start ≡ start + 0 = omega arith in z)
          ∙ sym (ap (in_place start (c ∷ cs)) (position_step (λ d. nat_eq d.name e.class) c cs ∙ ap (λ b. cond b (Some 0) (option_map suc (position (λ d. nat_eq d.name e.class) cs))) h)
          ∙ ap (option_map (λ i. record { class = start + 0; place = i })) g)
      step true h None g r =
          ap (λ o. method_or start o (method_from (start + 1) cs m)) g
          ∙ r ∙ ap (in_place (start + 1) cs) (no_more h)
          ∙ sym (ap (in_place start (c ∷ cs)) (position_step (λ d. nat_eq d.name e.class) c cs ∙ ap (λ b. cond b (Some 0) (option_map suc (position (λ d. nat_eq d.name e.class) cs))) h)
          ∙ ap (option_map (λ i. record { class = start + 0; place = i })) g)
      step false h o g r =
          ap (λ o. method_or start o (method_from (start + 1) cs m)) (not_there c (a.fit 0 c refl) h)
          ∙ r ∙ moved (position (λ d. nat_eq d.name e.class) cs)
          ∙ sym (ap (in_place start (c ∷ cs)) (position_step (λ d. nat_eq d.name e.class) c cs ∙ ap (λ b. cond b (Some 0) (option_map suc (position (λ d. nat_eq d.name e.class) cs))) h))

  -- in the class of a method its name and proto say its number
  number_same : (c : Class) → c.name ≡ e.class → (x : Method) → MethodFits p c.name x → is_method p e.name e.proto x ≡ nat_eq x.name m
  number_same c h x fit = ap (names_method e.name e.proto) fit.is ∙ same_test (nat_eq fit.entry.name e.name && nat_eq fit.entry.proto e.proto) (nat_eq x.name m)
      (λ k.
      let n = number_of fit.entry.name e.name (and_left (nat_eq fit.entry.name e.name) (nat_eq fit.entry.proto e.proto) k) in
      let q = number_of fit.entry.proto e.proto (and_right (nat_eq fit.entry.name e.name) (nat_eq fit.entry.proto e.proto) k) in
      let t : fit.entry.class ≡ e.class = fit.owner ∙ h in
      number_test x.name m (same_number method_key p.methods x.name m fit.entry e s.methods fit.is is (cc (t, n, q))))
      (λ k.
      let same : Some fit.entry ≡ Some e = sym fit.is ∙ ap (slice_get p.methods) (number_of x.name m k) ∙ is in
      let w : fit.entry ≡ e = cc in
      both (nat_eq fit.entry.name e.name) (nat_eq fit.entry.proto e.proto) (number_test _ _ (ap (λ q. q.name) w)) (number_test _ _ (ap (λ q. q.proto) w)))

  module _ (once : (class : ℕ) → IsTwice p class → ⊥) where
    all_apart : Apart p p.classes
    all_apart = record {
      fit = λ i c h. class_parts p s i c h;
      once = λ i j c d l h k same. once j (record { earlier = i; before = l; one = c; other = d; is_one = h; is_other = k; same = same });
    }

    abbrev of_class : Option NamedClass → Option NamedMethod
    of_class None = None
    of_class (Some c) = method_in c (text_at p e.name) (signature_at p e.proto)

    class_is : (o : Option NamedClass) → elim o as (λ o. Option NamedMethod) [ Some c ↦ method_in c (text_at p e.name) (signature_at p e.proto) | None ↦ None ] ≡ of_class o
    class_is None = refl
    class_is (Some c) = refl

    by_class : (c : ℕ) → class_place p e.class ≡ Some c → (o : Option Class) → slice_get p.classes c ≡ o
        → of_class (option_map (named_class p) o) ≡ option_map (named_method p) (option_and_then (look.method_at p) (option_and_then (λ c'. option_map (λ i. record { class = 0 + c; place = i }) (numbered m c')) o))
    by_class c h None g = refl
    by_class c h (Some k) g =
        let d = defined p e.class c h in
        let same : Some d.class ≡ Some k = sym d.is ∙ g in
        let w : d.class ≡ k = cc in
        let name = ap (λ x. x.name) (sym w) ∙ d.named in
        method_by_number p s c k e.name e.proto g (method_name p s m e is) (method_proto p s m e is)
        ∙ ap (option_map (named_method p)) (find_same (is_method p e.name e.proto) (λ x. nat_eq x.name m) k.methods (λ i x f. number_same k name x ((class_parts p s c k g).methods i x f)) ∙ find_place (λ x. nat_eq x.name m) k.methods)
        ∙ by_place (numbered m k)
      where
        by_place : (o : Option ℕ) → option_map (named_method p) (option_and_then (slice_get k.methods) o)
            ≡ option_map (named_method p) (option_and_then (look.method_at p) (option_map (λ i. record { class = 0 + c; place = i }) o))
        by_place None = refl
        by_place (Some i) = sym (ap (λ n. option_map (named_method p) (option_and_then (λ x. slice_get x.methods i) (slice_get p.classes n))) (let z : 0 + c ≡ c = omega arith in z)
            ∙ ap (λ o. option_map (named_method p) (option_and_then (λ x. slice_get x.methods i) o)) g)

    by_type : (o : Option ℕ) → class_place p e.class ≡ o → of_class (option_and_then (class_at p) o) ≡ option_map (named_method p) (option_and_then (look.method_at p) (in_place 0 p.classes o))
    by_type None h = refl
    by_type (Some c) h = by_class c h (slice_get p.classes c) refl

    -- the method of a number
    pub defined_known : defined_method (named p) (method_at p m) ≡ option_map (named_method p) (option_and_then (look.method_at p) (method_place p m))
    defined_known =
        ap (defined_method (named p)) (method_is p s m e is)
        ∙ class_is (class_named (named p) (type_at p e.class))
        ∙ ap of_class (class_by_number p s e.class (method_class p s m e is))
        ∙ by_type (class_place p e.class) refl
        ∙ sym (ap (λ o. option_map (named_method p) (option_and_then (look.method_at p) o)) (from_places 0 p.classes all_apart))

-- the method that a class itself defines under a number
pub method_defined_by_number : (p : Program) (s : Sound p) → ((class : ℕ) → IsTwice p class → ⊥) → (m : ℕ) → m < length p.methods
    → defined_method (named p) (method_at p m) ≡ option_map (named_method p) (option_and_then (look.method_at p) (method_place p m))
method_defined_by_number p s once m h = let e = entry_at p.methods m h in defined_known p s m e.0 e.1 once

-- ---- fields

-- the field that the class of a type defines under a name and a type
abbrev pub fields_of : Program → ℕ → ℕ → Option Class → Option NamedField
fields_of p name kind None = None
fields_of p name kind (Some k) = option_map (named_field p) (find (is_field p name kind) k.fields)

module _ (p : Program) (s : Sound p) (f : ℕ) (e : FieldName) (is : slice_get p.fields f ≡ Some e) where
  abbrev field_in_class : Option NamedClass → Option NamedField
  field_in_class None = None
  field_in_class (Some c) = field_in c (text_at p e.name) (type_at p e.kind)

  field_class_is : (o : Option NamedClass) → elim o as (λ o. Option NamedField) [ Some c ↦ field_in c (text_at p e.name) (type_at p e.kind) | None ↦ None ] ≡ field_in_class o
  field_class_is None = refl
  field_class_is (Some c) = refl

  field_by_class : (c : ℕ) (o : Option Class) → slice_get p.classes c ≡ o → field_in_class (option_map (named_class p) o) ≡ fields_of p e.name e.kind o
  field_by_class c None g = refl
  field_by_class c (Some k) g = field_by_number p s c k e.name e.kind g (field_name p s f e is) (field_kind p s f e is)

  field_by_place : (o : Option ℕ) → field_in_class (option_and_then (class_at p) o) ≡ option_and_then (λ c. fields_of p e.name e.kind (slice_get p.classes c)) o
  field_by_place None = refl
  field_by_place (Some c) = field_by_class c (slice_get p.classes c) refl

  -- the field that the class of a field number itself defines
  pub field_defined_known : defined_field (named p) (field_at p f) ≡ option_and_then (λ c. fields_of p e.name e.kind (slice_get p.classes c)) (class_place p e.class)
  field_defined_known =
      ap (defined_field (named p)) (field_is p s f e is)
      ∙ field_class_is (class_named (named p) (type_at p e.class))
      ∙ ap field_in_class (class_by_number p s e.class (field_class p s f e is))
      ∙ field_by_place (class_place p e.class)
