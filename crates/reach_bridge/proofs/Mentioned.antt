-- What a marked thing names by number: its types, and the fields and methods to which its names resolve, are live by name.
use Rattle.std.proofs.Common.{◌≡◌, ℕ, zero, suc, ◌<◌, ◌≤◌, ◌⊎◌, inl, inr, true, List, [], ◌∷◌, ◌++◌, length, map, Option, Some, None, refl, sym, ap, ◌∙◌, subst}
use Rattle.std.specs.Prelude.{◌&&◌, slice_get, flat_map, option_and_then}
use Rattle.std.specs.Option.{option_map, option_or}
use Rattle.std.proofs.lemmas.Bool.{cases_lt}
use Rattle.std.proofs.lemmas.Option.{slice_get_past}
use Rattle.lemmas.proofs.Lists.{got_short}
use Rattle.lemmas.proofs.Options.{none_some, some_same}
use Rattle.program_model.specs.declared.pools.Proto.{Proto}
use Rattle.program_model.specs.declared.pools.FieldName.{FieldName}
use Rattle.program_model.specs.declared.pools.MethodName.{MethodName}
use Rattle.program_model.specs.declared.program.Field.{Field}
use Rattle.program_model.specs.declared.program.MethodAt.{MethodAt}
use Rattle.program_model.specs.declared.program.Class.{Class}
use Rattle.program_model.specs.declared.program.Program.{Program}
use Rattle.program_model.specs.declared.pass.Outside.{Outside}
use Rattle.class_defs.specs.Finding.{resolves_field, resolves_method}
use Rattle.class_defs.proofs.WellFormed.{class_parts}
use Rattle.call_graph.specs.Bases.{bases_of}
use Rattle.call_graph.specs.declared.facts.Fact.{Fact}
use Rattle.call_graph.specs.declared.facts.Fact.TheVariants as fact
use Rattle.call_graph.specs.declared.named.Named.{Named}
use Rattle.call_graph.specs.declared.named.Named.TheVariants as item
use Rattle.call_graph.specs.declared.live_set.LiveSet.{LiveSet}
use Rattle.call_graph.specs.Follows as follow
use Rattle.call_graph.specs.Follows.{resolved_field, made_facts, kind_facts, proto_of, proto_facts, method_types_of, method_types, field_types_of, field_types, field_fact, method_fact, found_facts, call_facts, method_facts, named_facts, all_named}
use Rattle.dalvik_defs.specs.Names.{Text, text_eq}
use Rattle.dalvik_defs.specs.Naming.{text_at, type_at, signature_at, field_at, method_at, named_field, named}
use Rattle.dalvik_defs.specs.Under.{class_named}
use Rattle.dalvik_defs.specs.Find.{Found, field_in, first_field, field_from, finds_field, first_method, chain_from, chain_of, interfaces_from, resolves_method as resolves_named}
use Rattle.dalvik_defs.specs.declared.names.Signature.{Signature}
use Rattle.dalvik_defs.specs.declared.names.MethodKey.{MethodKey}
use Rattle.dalvik_defs.specs.declared.names.FieldKey.{FieldKey}
use Rattle.dalvik_defs.specs.declared.program.NamedField.{NamedField}
use Rattle.dalvik_defs.specs.declared.program.NamedClass.{NamedClass}
use Rattle.dalvik_defs.specs.declared.program.NamedProgram.{NamedProgram}
use Rattle.dalvik_defs.proofs.Calm.{text_sound}
use Rattle.pass_defs.specs.Mentions.{Mentions, a_type, a_field, a_method, types_of, types_of_field, types_of_method}
use Rattle.name_bridge.specs.Named.{found_at, field_there, field_of, field_at_place}
use Rattle.name_bridge.proofs.Fields.{field_resolves_by_number}
use Rattle.name_bridge.proofs.Resolved.{resolves_by_number}
use Rattle.name_bridge.proofs.Found.{looked_up, found_parts}
use Rattle.removal_law.proofs.Lists as list
use Rattle.removal_law.proofs.Lists.{In, here, there, clash, and_left, and_behind, in_front, in_back, in_either}
use Rattle.removal_law.proofs.Finds.{in_flat}
use Rattle.removal_law.proofs.Trees.{defined}
use Rattle.removal_bridge.proofs.Formed.{method_of, key_of, entry_below}
use Rattle.reach_bridge.specs.Names.{family_of}
use Rattle.reach.specs.Marked.{IsMarked}
use Rattle.reach_bridge.proofs.Kept.{field_name}
use Rattle.reach_bridge.proofs.Held.{of_image, field_met, method_met}
use Rattle.reach_bridge.proofs.Based.{Met, Held, S, empty_undefined, empty_held, kind_held}

-- ---- a field that is found has the name that was sought

module _ (p : NamedProgram) (k : FieldKey) where
  abbrev IsNamed : Text × NamedField → Type 0
  IsNamed x = (x.1.name ≡ k.name) × (x.1.kind ≡ k.kind)

  abbrev with_class : Text → NamedField → Text × NamedField
  with_class t f = (t, f)

  abbrev step_of : ℕ → Option NamedClass → Option (Text × NamedField)
  step_of n o = elim o as (λ o. Option (Text × NamedField)) [
    | Some c ↦ option_or (option_map (with_class c.name) (field_in c k.name k.kind)) (first_field (map (field_from n p k) (c.interfaces ++ c.superclass ∷ [])))
    | None ↦ None
  ]

  in_list : (f : Text → Option (Text × NamedField)) (ts : List Text) (x : Text × NamedField) → ((t : Text) → f t ≡ Some x → IsNamed x) → first_field (map f ts) ≡ Some x → IsNamed x
  in_list f [] x h e = none_some x e
  in_list f (t ∷ ts) x h e = by (f t) refl e (in_list f ts x h)
    where
      by : (o : Option (Text × NamedField)) → f t ≡ o → option_or o (first_field (map f ts)) ≡ Some x → (first_field (map f ts) ≡ Some x → IsNamed x) → IsNamed x
      by None i j ih = ih j
      by (Some y) i j ih = h t (i ∙ j)

  from_named : (n : ℕ) (t : Text) (x : Text × NamedField) → field_from n p k t ≡ Some x → IsNamed x
  from_named zero t x e = none_some x e
  from_named (suc n) t x e = by (class_named p t) e (λ u i. from_named n u x i)
    where
      own : (c : NamedClass) (o : Option NamedField) → field_in c k.name k.kind ≡ o → ((u : Text) → field_from n p k u ≡ Some x → IsNamed x)
          → option_or (option_map (with_class c.name) o) (first_field (map (field_from n p k) (c.interfaces ++ c.superclass ∷ []))) ≡ Some x → IsNamed x
      own c None i ih j = in_list (field_from n p k) (c.interfaces ++ c.superclass ∷ []) x ih j
      own c (Some f) i ih j =
          let r = (list.found_in (λ f. text_eq f.name k.name && text_eq f.kind k.kind) c.fields f i).passes in
          let same : with_class c.name f ≡ x = some_same (c.name, f) x j in (
            ap (λ y. y.1.name) (sym same) ∙ text_sound f.name k.name (and_left (text_eq f.name k.name) (text_eq f.kind k.kind) r),
            ap (λ y. y.1.kind) (sym same) ∙ text_sound f.kind k.kind (and_behind (text_eq f.name k.name) (text_eq f.kind k.kind) r),
          )

      by : (o : Option NamedClass) → step_of n o ≡ Some x → ((u : Text) → field_from n p k u ≡ Some x → IsNamed x) → IsNamed x
      by None j ih = none_some x j
      by (Some c) j ih = own c (field_in c k.name k.kind) refl ih j

  pub found_named : (x : Text × NamedField) → finds_field p k ≡ Some x → IsNamed x
  found_named x e = from_named (length p.classes) k.class x e

  -- a class that isn't there has no field
  from_nowhere : (n : ℕ) (x : Text × NamedField) → class_named p k.class ≡ None → field_from n p k k.class ≡ Some x → ⊥
  from_nowhere zero x i e = none_some x e
  from_nowhere (suc n) x i e = none_some x (sym (ap (step_of n) i) ∙ e)

  pub found_nowhere : (x : Text × NamedField) → class_named p k.class ≡ None → finds_field p k ≡ Some x → ⊥
  found_nowhere x i e = from_nowhere (length p.classes) x i e

-- ---- what is held

-- a name of a field, and of a method, whose field or method is live
abbrev pub FieldHeld : Program → LiveSet → FieldKey → Type 0
FieldHeld p s k = (f : Text × NamedField) → finds_field (named p) k ≡ Some f → (family_of p s).fields (record k { class = f.0 }) ≡ true

abbrev pub MethodHeld : Program → LiveSet → MethodKey → Type 0
MethodHeld p s k = (f : Found) → resolves_named (named p) k ≡ Some f → (family_of p s).methods f.key ≡ true

pub record Holds (p : Program) (s : LiveSet) (m : Mentions) : Type 0 where
  pub types : (t : Text) → In t m.types → Held p s t
  pub fields : (k : FieldKey) → In k m.fields → FieldHeld p s k
  pub methods : (k : MethodKey) → In k m.methods → MethodHeld p s k

-- what a named thing is by name
abbrev pub mention_of : Program → Named → Mentions
mention_of p (item.Kind kind) = a_type (type_at p kind)
mention_of p (item.Made kind) = a_type (type_at p kind)
mention_of p (item.Field number) = a_field (field_at p number)
mention_of p (item.Method number) = a_method (method_at p number)
mention_of p (item.Call kind number) = a_method (method_at p number)

pub only : {A : Type 0} (x y : A) → In x (y ∷ []) → y ≡ x
only x y (here ys) = refl
only x y (there z ys i) = elim i [ ]

pub nothing_in : {A : Type 0} {B : Type 0} (x : A) → In x [] → B
nothing_in x i = elim i [ ]

module _ (p : Program) (o : Outside) (s : LiveSet) (g : IsMarked p o s) where
  pub met_front : (xs ys : List Fact) → Met s (xs ++ ys) → Met s xs
  met_front xs ys met y i = met y (in_front y xs ys i)

  pub met_back : (xs ys : List Fact) → Met s (xs ++ ys) → Met s ys
  met_back xs ys met y i = met y (in_back y xs ys i)

  pub met_one : {A : Type 0} (f : A → List Fact) (xs : List A) (x : A) → Met s (flat_map f xs) → In x xs → Met s (f x)
  met_one f xs x met i y j = met y (in_flat f x y xs i j)

  -- ---- types

  proto_held : (x : Option Proto) (t : Text) → Met s (proto_of (bases_of p) x)
      → In t (types_of (elim x as (λ x. Signature) [ Some q ↦ record { parameters = map (type_at p) q.parameters; result = type_at p q.result } | None ↦ record { parameters = []; result = [] } ])) → Held p s t
  proto_held (Some q) t met (here us) = kind_held p o s g q.result (met_front (kind_facts (bases_of p) q.result) (flat_map (kind_facts (bases_of p)) q.parameters) met)
  proto_held (Some q) t met (there u us i) =
      let r = of_image (type_at p) t q.parameters i in
      subst (Held p s) r.1.1 (kind_held p o s g r.0 (met_one (kind_facts (bases_of p)) q.parameters r.0 (met_back (kind_facts (bases_of p) q.result) (flat_map (kind_facts (bases_of p)) q.parameters) met) r.1.0))
  proto_held None t met (here us) = empty_held p o s g
  proto_held None t met (there u us i) = elim i [ ]

  pub signature_held : (n : ℕ) (t : Text) → Met s (proto_facts p (bases_of p) n) → In t (types_of (signature_at p n)) → Held p s t
  signature_held n t met i = proto_held (slice_get p.protos n) t met i

  method_types_in : (x : Option MethodName) (t : Text) → Met s (method_types_of p (bases_of p) x)
      → In t (types_of_method (elim x as (λ x. MethodKey) [ Some m ↦ record { class = type_at p m.class; name = text_at p m.name; signature = signature_at p m.proto } | None ↦ record { class = []; name = []; signature = record { parameters = []; result = [] } } ])) → Held p s t
  method_types_in (Some q) t met (here us) = kind_held p o s g q.class (met_front (kind_facts (bases_of p) q.class) (proto_facts p (bases_of p) q.proto) met)
  method_types_in (Some q) t met (there u us i) = signature_held q.proto t (met_back (kind_facts (bases_of p) q.class) (proto_facts p (bases_of p) q.proto) met) i
  method_types_in None t met (here us) = empty_held p o s g
  method_types_in None t met (there u us i) = by i
    where
      by : In t ([] ∷ []) → Held p s t
      by i = subst (Held p s) (only t [] i) (empty_held p o s g)

  pub method_types_held : (n : ℕ) (t : Text) → Met s (method_types p (bases_of p) n) → In t (types_of_method (method_at p n)) → Held p s t
  method_types_held n t met i = method_types_in (slice_get p.methods n) t met i

  field_types_in : (x : Option FieldName) (t : Text) → Met s (field_types_of (bases_of p) x)
      → In t (types_of_field (elim x as (λ x. FieldKey) [ Some f ↦ record { class = type_at p f.class; name = text_at p f.name; kind = type_at p f.kind } | None ↦ record { class = []; name = []; kind = [] } ])) → Held p s t
  field_types_in (Some q) t met (here us) = kind_held p o s g q.class (met_front (kind_facts (bases_of p) q.class) (kind_facts (bases_of p) q.kind) met)
  field_types_in (Some q) t met (there u us i) = subst (Held p s) (only t (type_at p q.kind) i) (kind_held p o s g q.kind (met_back (kind_facts (bases_of p) q.class) (kind_facts (bases_of p) q.kind) met))
  field_types_in None t met (here us) = empty_held p o s g
  field_types_in None t met (there u us i) = subst (Held p s) (only t [] i) (empty_held p o s g)

  pub field_types_held : (n : ℕ) (t : Text) → Met s (field_types p (bases_of p) n) → In t (types_of_field (field_at p n)) → Held p s t
  field_types_held n t met i = field_types_in (slice_get p.fields n) t met i

  -- ---- methods that are found

  -- a method at a place that is met is live by its name
  pub place_held : (at : MethodAt) (f : Found) → found_at p at ≡ Some f → Met s (found_facts p (Some at)) → (family_of p s).methods f.key ≡ true
  place_held at f e met =
      let r = found_parts p at f e in
      let t = r.there in
      let w = method_of p g.formed t.class at.class at.place t.method t.is_class t.is_method in
      let key : method_at p t.method.name ≡ f.key = key_of p g.formed t.class at.class at.place t.method t.is_class t.is_method ∙ sym (ap (λ x. x.key) r.found) in
      ap (family_of p s).methods (sym key)
      ∙ method_met p s g.sized t.method.name (entry_below p g.formed t.method.name w.entry w.is)
      (met (fact.Method t.method.name) (subst (In (fact.Method t.method.name)) (sym (ap method_fact (looked_up p at t))) (here [])))

  pub found_held : (x : Option MethodAt) (f : Found) → option_and_then (found_at p) x ≡ Some f → Met s (found_facts p x) → (family_of p s).methods f.key ≡ true
  found_held None f e met = none_some f e
  found_held (Some at) f e met = place_held at f e met

  -- the empty name finds nothing
  past_method : (n : ℕ) → length p.methods ≤ n → method_at p n ≡ record { class = []; name = []; signature = record { parameters = []; result = [] } }
  past_method n le = ap (λ x. elim x as (λ x. MethodKey) [ Some m ↦ record { class = type_at p m.class; name = text_at p m.name; signature = signature_at p m.proto } | None ↦ record { class = []; name = []; signature = record { parameters = []; result = [] } } ]) (slice_get_past p.methods n le)

  chain_nothing : (n : ℕ) (t : Text) → class_named (named p) t ≡ None → chain_from n (named p) t ≡ []
  chain_nothing zero t e = refl
  chain_nothing (suc n) t e = ap (λ x. elim x as (λ x. List NamedClass) [ Some c ↦ c ∷ chain_from n (named p) c.superclass | None ↦ [] ]) e

  interfaces_nothing : (n : ℕ) → interfaces_from n (named p) [] ≡ []
  interfaces_nothing zero = refl
  interfaces_nothing (suc n) = refl

  pub empty_class : class_named (named p) [] ≡ None
  empty_class = by (class_named (named p) []) refl
    where
      by : (x : Option NamedClass) → class_named (named p) [] ≡ x → class_named (named p) [] ≡ None
      by None e = e
      by (Some c) e = empty_undefined p o s g (defined (named p) [] c e)

  pub empty_chain : (n : ℕ) → chain_from n (named p) [] ≡ []
  empty_chain n = chain_nothing n [] empty_class

  resolves_nothing : (k : MethodKey) → k.class ≡ [] → resolves_named (named p) k ≡ None
  resolves_nothing k e =
      ap (λ cs. first_method (λ m. true) k.name k.signature (cs ++ interfaces_from (length (named p).classes) (named p) (flat_map (λ c. c.interfaces) cs)))
      (ap (chain_of (named p)) e ∙ empty_chain (length (named p).classes))
      ∙ ap (first_method (λ m. true) k.name k.signature) (interfaces_nothing (length (named p).classes))

  -- what the name of a method resolves to is live where it is met
  pub method_held : (n : ℕ) → Met s (found_facts p (resolves_method p n)) → MethodHeld p s (method_at p n)
  method_held n met f e = by (cases_lt n (length p.methods))
    where
      by : (n < length p.methods) ⊎ (length p.methods ≤ n) → (family_of p s).methods f.key ≡ true
      by (inl lt) = found_held (resolves_method p n) f (sym (resolves_by_number p (S p o s g) n lt) ∙ e) met
      by (inr le) = none_some f (sym (resolves_nothing (method_at p n) (ap (λ k. k.class) (past_method n le))) ∙ e)

  -- ---- fields that are found

  record FieldParts (at : ℕ × ℕ) (f : Text × NamedField) : Type 0 where
    class : Class
    is_class : slice_get p.classes at.0 ≡ Some class
    field : Field
    is_field : slice_get class.fields at.1 ≡ Some field
    is : (type_at p class.name, named_field p field) ≡ f

  field_parts : (at : ℕ × ℕ) (f : Text × NamedField) → field_at_place p at ≡ Some f → FieldParts at f
  field_parts at f e = by_class (slice_get p.classes at.0) refl e
    where
      by_field : (k : Class) (x : Option Field) → slice_get p.classes at.0 ≡ Some k → slice_get k.fields at.1 ≡ x → field_there p k x ≡ Some f → FieldParts at f
      by_field k None i h e = none_some f e
      by_field k (Some y) i h e = record { class = k; is_class = i; field = y; is_field = h; is = some_same (type_at p k.name, named_field p y) f e }

      by_class : (x : Option Class) → slice_get p.classes at.0 ≡ x → field_of p at.1 x ≡ Some f → FieldParts at f
      by_class None i e = none_some f e
      by_class (Some k) i e = by_field k (slice_get k.fields at.1) i refl e

  place_field : (n : ℕ) (at : ℕ × ℕ) (f : Text × NamedField) → (f.1.name ≡ (field_at p n).name) × (f.1.kind ≡ (field_at p n).kind) → field_at_place p at ≡ Some f
      → Met s (field_fact (follow.field_at p at)) → (family_of p s).fields (record (field_at p n) { class = f.0 }) ≡ true
  place_field n at f names e met =
      let r = field_parts at f e in
      let w = (class_parts p (S p o s g) at.0 r.class r.is_class).fields at.1 r.field r.is_field in
      let own : field_at p r.field.name ≡ record { class = type_at p r.class.name; name = (named_field p r.field).name; kind = (named_field p r.field).kind } = field_name p s g.formed r.class at.0 r.is_class at.1 r.field r.is_field in
      let same : field_at p r.field.name ≡ record (field_at p n) { class = f.0 } =
      own
      ∙ ap (λ (y : Text × NamedField). record { class = y.0; name = y.1.name; kind = y.1.kind }) r.is
      ∙ ap (λ z. record { class = f.0; name = z; kind = f.1.kind }) names.0
      ∙ ap (λ z. record { class = f.0; name = (field_at p n).name; kind = z }) names.1 in
      let there : follow.field_at p at ≡ Some r.field = ap (option_and_then (λ c. slice_get c.fields at.1)) r.is_class ∙ r.is_field in
      ap (family_of p s).fields (sym same)
      ∙ field_met p s g.sized r.field.name (got_short p.fields r.field.name w.entry w.is) (met (fact.Field r.field.name) (subst (In (fact.Field r.field.name)) (sym (ap field_fact there)) (here [])))

  field_nothing : (k : FieldKey) (f : Text × NamedField) → k.class ≡ [] → finds_field (named p) k ≡ Some f → ⊥
  field_nothing k f e h = found_nowhere (named p) k f (ap (class_named (named p)) e ∙ empty_class) h

  past_field : (n : ℕ) → length p.fields ≤ n → (field_at p n).class ≡ []
  past_field n le = ap (λ x. (elim x as (λ x. FieldKey) [ Some f ↦ record { class = type_at p f.class; name = text_at p f.name; kind = type_at p f.kind } | None ↦ record { class = []; name = []; kind = [] } ]).class) (slice_get_past p.fields n le)

  -- what the name of a field resolves to is live where it is met
  pub field_held : (n : ℕ) → Met s (field_fact (resolved_field p n)) → FieldHeld p s (field_at p n)
  field_held n met f e = by (cases_lt n (length p.fields))
    where
      at_place : (x : Option (ℕ × ℕ)) → option_and_then (field_at_place p) x ≡ Some f → Met s (field_fact (option_and_then (follow.field_at p) x)) → (family_of p s).fields (record (field_at p n) { class = f.0 }) ≡ true
      at_place None h met = none_some f h
      at_place (Some at) h met = place_field n at f (found_named (named p) (field_at p n) f e) h met

      by : (n < length p.fields) ⊎ (length p.fields ≤ n) → (family_of p s).fields (record (field_at p n) { class = f.0 }) ≡ true
      by (inl lt) = at_place (resolves_field p n) (sym (field_resolves_by_number p (S p o s g) n lt) ∙ e) met
      by (inr le) = absurd (field_nothing (field_at p n) f (past_field n le) e)

  -- ---- what a named thing names

  kind_holds : (kind : ℕ) → Met s (kind_facts (bases_of p) kind) → Holds p s (a_type (type_at p kind))
  kind_holds kind met = record {
    types = λ t i. subst (Held p s) (only t (type_at p kind) i) (kind_held p o s g kind met);
    fields = λ k i. nothing_in k i;
    methods = λ k i. nothing_in k i;
  }

  method_holds : (n : ℕ) → Met s (method_facts p (bases_of p) n) → Holds p s (a_method (method_at p n))
  method_holds n met = record {
    types = λ t i. method_types_held n t (met_front (method_types p (bases_of p) n) (found_facts p (resolves_method p n)) met) i;
    fields = λ k i. nothing_in k i;
    methods = λ k i. subst (MethodHeld p s) (only k (method_at p n) i) (method_held n (met_back (method_types p (bases_of p) n) (found_facts p (resolves_method p n)) met));
  }

  pub named_holds : (x : Named) → Met s (named_facts p (bases_of p) x) → Holds p s (mention_of p x)
  named_holds (item.Kind kind) met = kind_holds kind met
  named_holds (item.Made kind) met = kind_holds kind (met_front (kind_facts (bases_of p) kind) (made_facts p kind) met)
  named_holds (item.Field n) met = record {
    types = λ t i. field_types_held n t (met_front (field_types p (bases_of p) n) (field_fact (resolved_field p n)) met) i;
    fields = λ k i. subst (FieldHeld p s) (only k (field_at p n) i) (field_held n (met_back (field_types p (bases_of p) n) (field_fact (resolved_field p n)) met));
    methods = λ k i. nothing_in k i;
  }
  named_holds (item.Method n) met = method_holds n met
  named_holds (item.Call kind n) met = method_holds n (met_front (method_facts p (bases_of p) n) (call_facts p kind n) met)

  -- what each of some named things names is held
  pub all_held : (names : List Named) → Met s (all_named p (bases_of p) names) → (x : Named) → In x names → Holds p s (mention_of p x)
  all_held names met x i = named_holds x (met_one (named_facts p (bases_of p)) names x met i)
