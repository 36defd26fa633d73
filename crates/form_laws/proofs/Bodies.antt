-- The bodies of a program with other bodies: each replaced in place of one of the program.
use Rattle.std.proofs.Common.{◌≡◌, suc, Bool, true, false, List, [], ◌∷◌, Option, Some, None, refl, sym, ap, ◌∙◌, arith}
use Rattle.std.specs.Prelude.{cond, find, is_some, Contains}
use Rattle.std.specs.Option.{option_map, option_and_then}
use Rattle.dalvik_defs.specs.Names.{text_eq, same_name}
use Rattle.dalvik_defs.specs.Under.{class_named}
use Rattle.dalvik_defs.specs.Find.{method_in}
use Rattle.dalvik_defs.specs.Face.{bodies_of}
use Rattle.dalvik_defs.specs.declared.names.MethodKey.{MethodKey}
use Rattle.dalvik_defs.specs.declared.program.NamedBody.{NamedBody}
use Rattle.dalvik_defs.specs.declared.program.NamedMethod.{NamedMethod}
use Rattle.dalvik_defs.specs.declared.program.NamedClass.{NamedClass}
use Rattle.dalvik_defs.specs.declared.program.NamedProgram.{NamedProgram}
use Rattle.program_laws.specs.Bodies.{Change, method_changed, class_changed, changed, KeepsCode}
use Rattle.program_laws.proofs.Heads.{class_same, method_same}
use Rattle.form_laws.specs.Replaced.{Replaced}
use Rattle.form_laws.proofs.Onward.{clash}

-- what is found in a list is in it
found_in : {A : Type 0} (test : A → Bool) (xs : List A) (x : A) → find test xs ≡ Some x → Contains xs x
found_in test [] x e = clash true refl (ap (λ o. elim o as (λ o. Bool) [ Some y ↦ false | None ↦ true ]) e)
found_in test (y ∷ xs) x e = by (test y) (found_in test xs x) e
  where
    by : (b : Bool) → (find test xs ≡ Some x → Contains xs x) → cond b (Some y) (find test xs) ≡ Some x → Contains (y ∷ xs) x
    by true h e = (0, omega arith, ap (λ o. elim o [ Some z ↦ z | None ↦ x ]) e)
    by false h e = let i = h e in let lt = i.1 in (suc i.0, omega (arith, lt), i.2)

module _ (new : Change) (p : NamedProgram) where
  abbrev body_in : MethodKey → Option NamedClass → Option NamedBody
  body_in k o = option_and_then (λ (m : NamedMethod). m.body) (elim o as (λ o. Option NamedMethod) [ Some c ↦ method_in c k.name k.signature | None ↦ None ])

  others : (k : MethodKey) → bodies_of (changed new p) k ≡ body_in k (option_map (class_changed new) (class_named p k.class))
  others k = ap (body_in k) (class_same new p k.class)

  other_in : (c : NamedClass) (k : MethodKey) → body_in k (Some (class_changed new c)) ≡ option_and_then (λ (m : NamedMethod). m.body) (option_map (method_changed new c) (method_in c k.name k.signature))
  other_in c k = ap (option_and_then (λ (m : NamedMethod). m.body)) (method_same new p c k.name k.signature)

  pub replaced : (k : MethodKey) (b : NamedBody) → bodies_of p k ≡ Some b → Replaced new p k b
  replaced k b e = in_class (class_named p k.class) refl e
    where
      none : {A : Type 0} → None ≡ Some b → A
      none i = clash true refl (ap (λ o. elim o as (λ o. Bool) [ Some y ↦ false | None ↦ true ]) i)

      in_method : (c : NamedClass) → class_named p k.class ≡ Some c → (o : Option NamedMethod) → method_in c k.name k.signature ≡ o → option_and_then (λ (m : NamedMethod). m.body) o ≡ Some b → Replaced new p k b
      in_method c i None j e = none e
      in_method c i (Some m) j e = record {
        class = c;
        method = m;
        in_program = found_in (λ c. text_eq c.name k.class) p.classes c i;
        in_class = found_in (λ m. same_name m.name m.signature k.name k.signature) c.methods m j;
        body = e;
        other = others k ∙ ap (λ o. body_in k (option_map (class_changed new) o)) i ∙ other_in c k ∙ ap (λ o. option_and_then (λ (m : NamedMethod). m.body) (option_map (method_changed new c) o)) j;
      }

      in_class : (o : Option NamedClass) → class_named p k.class ≡ o → body_in k o ≡ Some b → Replaced new p k b
      in_class None i e = none e
      in_class (Some c) i e = in_method c i (method_in c k.name k.signature) refl e

  module _ (keeps : KeepsCode new) where
    -- code replaced in place of code
    pub some_replaced : (k : MethodKey) (b : NamedBody) → bodies_of p k ≡ Some b → (d : NamedBody) × (bodies_of (changed new p) k ≡ Some d)
    some_replaced k b e = let s = replaced k b e in by s (new s.class s.method).body refl
      where
        by : (s : Replaced new p k b) (o : Option NamedBody) → (new s.class s.method).body ≡ o → (d : NamedBody) × (bodies_of (changed new p) k ≡ Some d)
        by s (Some d) i = (d, s.other ∙ i)
        by s None i = clash true refl (sym (ap is_some s.body) ∙ sym (keeps s.class s.method) ∙ ap is_some i)

    -- and none in place of none
    pub none_replaced : (k : MethodKey) → bodies_of p k ≡ None → bodies_of (changed new p) k ≡ None
    none_replaced k e = in_class (class_named p k.class) refl e
      where
        empty : (o : Option NamedBody) → is_some o ≡ false → o ≡ None
        empty None i = refl
        empty (Some d) i = clash true refl i

        in_method : (c : NamedClass) → class_named p k.class ≡ Some c → (o : Option NamedMethod) → method_in c k.name k.signature ≡ o → option_and_then (λ (m : NamedMethod). m.body) o ≡ None
            → option_and_then (λ (m : NamedMethod). m.body) (option_map (method_changed new c) o) ≡ None
        in_method c i None j e = refl
        in_method c i (Some m) j e = empty (new c m).body (keeps c m ∙ ap is_some e)

        in_class : (o : Option NamedClass) → class_named p k.class ≡ o → body_in k o ≡ None → bodies_of (changed new p) k ≡ None
        in_class None i e = others k ∙ ap (λ o. body_in k (option_map (class_changed new) o)) i
        in_class (Some c) i e = others k ∙ ap (λ o. body_in k (option_map (class_changed new) o)) i ∙ other_in c k ∙ in_method c i (method_in c k.name k.signature) refl e
