-- What the outside keeps, and what is kept because a class is live, is live by name.
use Rattle.std.proofs.Common.{◌≡◌, ℕ, ◌<◌, ◌≤◌, ◌⊎◌, inl, inr, Bool, true, false, List, [], ◌∷◌, ◌++◌, length, Option, Some, None, refl, sym, ap, ◌∙◌, subst}
use Rattle.std.specs.Prelude.{◌&&◌, ◌||◌, not, cond, flat_map, is_some, slice_get, option_and_then}
use Rattle.std.specs.List.{list_any}
use Rattle.std.specs.Option.{option_map}
use Rattle.std.proofs.lemmas.Bool.{cases_lt}
use Rattle.std.proofs.lemmas.Option.{slice_get_past}
use Rattle.lemmas.proofs.Bools.{or_cases}
use Rattle.lemmas.proofs.Options.{none_some}
use Rattle.program_model.specs.declared.pools.FieldName.{FieldName}
use Rattle.program_model.specs.declared.pools.MethodName.{MethodName}
use Rattle.program_model.specs.declared.pass.ClassIf.{ClassIf}
use Rattle.program_model.specs.declared.program.Class.{Class}
use Rattle.program_model.specs.declared.program.Program.{Program}
use Rattle.program_model.specs.declared.pass.Outside.{Outside}
use Rattle.program_model.specs.Lookups.{class_place}
use Rattle.program_model.specs.MemberRules.{has_flag}
use Rattle.class_defs.proofs.Positions.{entry_at, number_test}
use Rattle.call_graph.specs.Bases.{bases_of}
use Rattle.call_graph.specs.declared.facts.Fact.{Fact}
use Rattle.call_graph.specs.declared.facts.Fact.TheVariants as fact
use Rattle.call_graph.specs.declared.live_set.LiveSet.{LiveSet}
use Rattle.call_graph.specs.Lists.{row_of}
use Rattle.call_graph.specs.Tables.{field_in, method_in, field_if, method_if, class_if}
use Rattle.call_graph.specs.Follows as follow
use Rattle.call_graph.specs.Follows.{class_of, can_be_made, made_of, made_facts, kind_facts, kept_class, kept_field, kept_method, own_kept_of, constructed_of, entered_of, class_facts, field_types, method_types, field_names, names_of_method, named_facts, all_named}
use Rattle.call_graph.specs.Closed.{kept_facts, conditional, forced, is_live, is_met}
use Rattle.class_defs.specs.Members.{string_is}
use Rattle.dalvik_defs.specs.Names.{Text, text_eq, method_eq, field_eq, constructor_name}
use Rattle.dalvik_defs.specs.Naming.{text_at, type_at, signature_at, field_at, method_at, named_class, named}
use Rattle.dalvik_defs.specs.Flags.{is_interface, is_abstract}
use Rattle.dalvik_defs.specs.Under.{class_named, defines}
use Rattle.dalvik_defs.specs.Find as find
use Rattle.dalvik_defs.specs.Find.{defined_method, defined_field}
use Rattle.dalvik_defs.specs.Outer.{methods_in, outer_of}
use Rattle.dalvik_defs.specs.declared.names.MethodKey.{MethodKey}
use Rattle.dalvik_defs.specs.declared.names.FieldKey.{FieldKey}
use Rattle.dalvik_defs.specs.declared.program.NamedField.{NamedField}
use Rattle.dalvik_defs.specs.declared.program.NamedMethod.{NamedMethod}
use Rattle.dalvik_defs.specs.declared.program.NamedClass.{NamedClass}
use Rattle.dalvik_defs.proofs.Calm.{text_sound}
use Rattle.pass_defs.specs.Live.{conditions_of, is_kept, is_kept_method, is_constructor, is_concrete, KeepsKept}
use Rattle.pass_defs.specs.Mentions.{types_of}
use Rattle.name_bridge.specs.Named.{class_at}
use Rattle.name_bridge.proofs.Flags.{interface_flag, abstract_flag}
use Rattle.name_bridge.proofs.Found.{text_same}
use Rattle.name_bridge.proofs.Tables.{type_once, field_is, field_class, method_is, method_class}
use Rattle.name_bridge.proofs.Classes.{class_by_number}
use Rattle.removal_law.proofs.Lists.{In, here, there, clash, contained, in_front, in_back, and_left, and_behind}
use Rattle.removal_law.proofs.Finds.{in_flat}
use Rattle.removal_law.proofs.Walks as walk
use Rattle.removal_law.proofs.Outward.{any_where}
use Rattle.removal_law.proofs.Declared.{none_there, method_sound}
use Rattle.removal_law.proofs.Trees.{defined, defines_class}
use Rattle.reach_bridge.specs.Names.{family_of}
use Rattle.reach.specs.Marked.{IsMarked}
use Rattle.reach_bridge.specs.Reached.{AreDefined, KeepsOwners}
use Rattle.reach_bridge.proofs.Kept.{field_sound}
use Rattle.reach_bridge.proofs.Held.{ByNumber, class_number, field_number, method_number, class_met, made_met, field_met, method_met}
use Rattle.reach_bridge.proofs.Based.{Met, S, empty_undefined}
use Rattle.reach_bridge.proofs.Mentioned.{empty_class, met_front, met_back, met_one, field_types_held, method_types_held}
use Rattle.reach_bridge.proofs.Owned.{OwnMethod, own_method, own_field}
use Rattle.reach_bridge.proofs.Coded.{field_facts_met, body_facts_met, conditional_met}
use Rattle.reach_bridge.proofs.Upward.{OwnClass, own_class, class_held}

swap : (a b : Bool) → (a && b) ≡ true → (b && a) ≡ true
swap true true e = refl
swap true false e = e
swap false b e = clash false e refl

-- a class that is neither abstract nor an interface by name can be made
pub concrete_can : (p : Program) (d : Class) (c : NamedClass) → named_class p d ≡ c → (not (is_interface c.flags) && not (is_abstract c.flags)) ≡ true → can_be_made d ≡ true
concrete_can p d c is e = swap (not (has_flag d.flags 512)) (not (has_flag d.flags 1024))
    (ap (λ b. not b && not (has_flag d.flags 1024)) (interface_flag d.flags) ∙ ap (λ b. not (is_interface d.flags.0) && not b) (abstract_flag d.flags)
    ∙ ap (λ z. not (is_interface z.flags) && not (is_abstract z.flags)) is ∙ e)

module _ (p : Program) (o : Outside) (s : LiveSet) (g : IsMarked p o s) where
  begins_met : Met s (kept_facts p o)
  begins_met y i = g.closed.begins y (contained y (kept_facts p o) i)

  abbrev kept_classes : List Fact
  kept_classes = flat_map (kept_class p) o.classes

  abbrev kept_fields : List Fact
  kept_fields = flat_map (kept_field p) o.fields

  abbrev kept_methods : List Fact
  kept_methods = flat_map (kept_method p) o.methods

  -- ---- numbers of defined names

  pub named_short : (n : ℕ) → defines (named p) (type_at p n) ≡ true → n < length p.types
  named_short n d = by (cases_lt n (length p.types))
    where
      by : (n < length p.types) ⊎ (length p.types ≤ n) → n < length p.types
      by (inl lt) = lt
      by (inr le) = empty_undefined p o s g (ap (defines (named p)) (sym (ap (λ x. elim x as (λ x. Text) [ Some t ↦ text_at p t | None ↦ [] ]) (slice_get_past p.types n le))) ∙ d)

  class_there : (c : NamedClass) → In c (named p).classes → defines (named p) c.name ≡ true
  class_there c i = by (class_named (named p) c.name) refl
    where
      by : (x : Option NamedClass) → class_named (named p) c.name ≡ x → defines (named p) c.name ≡ true
      by (Some d) e = defined (named p) c.name d e
      by None e = clash (text_eq c.name c.name) (walk.text_same c.name) (none_there (λ d. text_eq d.name c.name) (named p).classes e c i)

  -- ---- classes

  -- a number of a kept class
  record KeptNumber (t : Text) : Type 0 where
    number : ℕ
    is : type_at p number ≡ t
    met : Met s (kept_class p number)

  kept_outside : (t : Text) → list_any (λ n. text_eq (type_at p n) t) o.classes ≡ true → KeptNumber t
  kept_outside t e =
      let r = any_where (λ n. text_eq (type_at p n) t) o.classes e in
      record { number = r.0; is = text_sound (type_at p r.0) t r.1.1; met = met_one p o s g (kept_class p) o.classes r.0 (met_front p o s g kept_classes (kept_fields ++ kept_methods) begins_met) r.1.0 }

  class_row : (k : ℕ) (one : ClassIf) → k < length p.types → In one o.classes_if → one.owner ≡ k → In one.class (row_of g.closed.tables.classes_if k)
  class_row k one lt i same = subst (In one.class) (sym (g.closed.are.classes k lt))
      (in_flat (class_if k) one one.class o.classes_if i (subst (In one.class) (sym (ap (λ b. cond b (one.class ∷ []) []) (number_test k one.owner (sym same)))) (here [])))

  kept_by_owner : (t : Text) → list_any (λ c. (conditions_of p o).classes t c.name && (family_of p s).classes c.name) (named p).classes ≡ true → KeptNumber t
  kept_by_owner t e =
      let r = any_where (λ c. (conditions_of p o).classes t c.name && (family_of p s).classes c.name) (named p).classes e in
      let name = r.0.name in
      let live = class_number p s name (and_behind ((conditions_of p o).classes t name) ((family_of p s).classes name) r.1.1) in
      let one = any_where (λ c. text_eq (type_at p c.class) t && text_eq (type_at p c.owner) name) o.classes_if (and_left ((conditions_of p o).classes t name) ((family_of p s).classes name) r.1.1) in
      let owner = text_sound (type_at p one.0.owner) name (and_behind (text_eq (type_at p one.0.class) t) (text_eq (type_at p one.0.owner) name) one.1.1) in
      let short = named_short one.0.owner (ap (defines (named p)) owner ∙ class_there r.0 r.1.0) in
      let same = type_once p (S p o s g) one.0.owner live.number short live.short (owner ∙ sym live.is) in
      record {
        number = one.0.class;
        is = text_sound (type_at p one.0.class) t (and_left (text_eq (type_at p one.0.class) t) (text_eq (type_at p one.0.owner) name) one.1.1);
        met = met_one p o s g (kept_class p) (row_of g.closed.tables.classes_if live.number) one.0.class
            (met_back p o s g (flat_map (kept_method p) (row_of g.closed.tables.methods_if live.number)) (flat_map (kept_class p) (row_of g.closed.tables.classes_if live.number))
            (met_back p o s g (flat_map (kept_field p) (row_of g.closed.tables.fields_if live.number)) (flat_map (kept_method p) (row_of g.closed.tables.methods_if live.number) ++ flat_map (kept_class p) (row_of g.closed.tables.classes_if live.number))
            (conditional_met p o s g live.number live.marked)))
            (class_row live.number one.0 live.short one.1.0 same);
      }

  kept_number : (t : Text) → is_kept (named p) (outer_of p o) (conditions_of p o) (family_of p s) t ≡ true → KeptNumber t
  kept_number t e = by (or_cases (list_any (λ n. text_eq (type_at p n) t) o.classes) (list_any (λ c. (conditions_of p o).classes t c.name && (family_of p s).classes c.name) (named p).classes) e)
    where
      by : (list_any (λ n. text_eq (type_at p n) t) o.classes ≡ true) ⊎ (list_any (λ c. (conditions_of p o).classes t c.name && (family_of p s).classes c.name) (named p).classes ≡ true) → KeptNumber t
      by (inl h) = kept_outside t h
      by (inr h) = kept_by_owner t h

  module _ (t : Text) (c : NamedClass) (is : class_named (named p) t ≡ Some c) (k : KeptNumber t) where
    number_short : k.number < length p.types
    number_short = named_short k.number (ap (defines (named p)) k.is ∙ defined (named p) t c is)

    own : OwnClass p k.number c
    own = own_class p o s g k.number number_short c (ap (class_named (named p)) k.is ∙ is)

    class_is : class_of p k.number ≡ Some own.class
    class_is = ap (option_and_then (slice_get p.classes)) own.is_place ∙ own.is_class

    kept_met : Met s (follow.kept_of k.number (Some own.class))
    kept_met = subst (λ z. Met s (follow.kept_of k.number z)) class_is k.met

    kept_live : (family_of p s).classes t ≡ true
    kept_live = ap (family_of p s).classes (sym k.is) ∙ class_met p s g.sized k.number number_short (kept_met (fact.Class k.number) (here (made_of k.number (Some own.class))))

    concrete_made : (not (is_interface c.flags) && not (is_abstract c.flags)) ≡ true → can_be_made own.class ≡ true
    concrete_made e = concrete_can p own.class c own.is e

    kept_made : (not (is_interface c.flags) && not (is_abstract c.flags)) ≡ true → (family_of p s).made t ≡ true
    kept_made e = ap (family_of p s).made (sym k.is) ∙ made_met p s g.sized k.number number_short
        (kept_met (fact.Made k.number) (there (fact.Class k.number) (made_of k.number (Some own.class)) (subst (In (fact.Made k.number)) (sym (ap (λ b. cond b (fact.Made k.number ∷ []) []) (concrete_made e))) (here []))))

  pub class_kept : (t : Text) → defines (named p) t ≡ true → is_kept (named p) (outer_of p o) (conditions_of p o) (family_of p s) t ≡ true → (family_of p s).classes t ≡ true
  class_kept t d e = let c = defines_class (named p) t d in kept_live t c.0 c.1 (kept_number t e)

  pub made_kept : (t : Text) → is_concrete (named p) t ≡ true → is_kept (named p) (outer_of p o) (conditions_of p o) (family_of p s) t ≡ true → (family_of p s).made t ≡ true
  made_kept t d e = by (class_named (named p) t) refl d
    where
      by : (x : Option NamedClass) → class_named (named p) t ≡ x → elim x as (λ x. Bool) [ Some c ↦ not (is_interface c.flags) && not (is_abstract c.flags) | None ↦ false ] ≡ true → (family_of p s).made t ≡ true
      by None is h = clash false h refl
      by (Some c) is h = kept_made t c is (kept_number t e) h

  -- ---- fields

  some_defined : {A : Type 0} (x : Option A) → is_some x ≡ true → (y : A) × (x ≡ Some y)
  some_defined None e = clash false e refl
  some_defined (Some y) e = (y, refl)

  record FieldNumber (f : FieldKey) (ns : List ℕ) : Type 0 where
    number : ℕ
    is_in : In number ns
    short : number < length p.fields
    entry : FieldName
    is_entry : slice_get p.fields number ≡ Some entry
    is : field_at p number ≡ f
    kept : kept_field p number ≡ fact.Field number ∷ []

  field_listed : (f : FieldKey) (ns : List ℕ) → is_some (defined_field (named p) f) ≡ true → list_any (λ n. field_eq (field_at p n) f) ns ≡ true → FieldNumber f ns
  field_listed f ns d e = by (cases_lt r.0 (length p.fields))
    where
      r : (n : ℕ) × (In n ns × (field_eq (field_at p n) f ≡ true))
      r = any_where (λ n. field_eq (field_at p n) f) ns e

      is : field_at p r.0 ≡ f
      is = field_sound (field_at p r.0) f r.1.1

      nowhere : (x : Option NamedClass) → x ≡ None → is_some (elim x as (λ x. Option NamedField) [ Some c ↦ find.field_in c f.name f.kind | None ↦ None ]) ≡ true → ⊥
      nowhere None e h = clash false h refl
      nowhere (Some c) e h = none_some c (sym e)

      by : (r.0 < length p.fields) ⊎ (length p.fields ≤ r.0) → FieldNumber f ns
      by (inl lt) =
          let nf = some_defined (defined_field (named p) f) d in
          let w = own_field p o s g r.0 lt nf.0 (ap (defined_field (named p)) is ∙ nf.1) in
          record { number = r.0; is_in = r.1.0; short = lt; entry = w.entry; is_entry = w.is_entry; is = is; kept = ap (λ x. cond (is_some x) (fact.Field r.0 ∷ []) []) w.own }
      by (inr le) =
          let empty : f.class ≡ [] = ap (λ k. k.class) (sym is) ∙ ap (λ x. (elim x as (λ x. FieldKey) [ Some f ↦ record { class = type_at p f.class; name = text_at p f.name; kind = type_at p f.kind } | None ↦ record { class = []; name = []; kind = [] } ]).class) (slice_get_past p.fields r.0 le) in
          absurd (nowhere (class_named (named p) f.class) (ap (class_named (named p)) empty ∙ empty_class p o s g) d)

  field_row : (k n : ℕ) (q : FieldName) → k < length p.types → In n o.fields_if → slice_get p.fields n ≡ Some q → q.class ≡ k → In n (row_of g.closed.tables.fields_if k)
  field_row k n q lt i is same = subst (In n) (sym (g.closed.are.fields k lt))
      (in_flat (field_if p k) n n o.fields_if i (subst (In n) (sym (ap (field_in k n) is ∙ ap (λ b. cond b (n ∷ []) []) (number_test k q.class (sym same)))) (here [])))

  field_live : (f : FieldKey) (ns : List ℕ) (w : FieldNumber f ns) → Met s (kept_field p w.number) → (family_of p s).fields f ≡ true
  field_live f ns w met = ap (family_of p s).fields (sym w.is) ∙ field_met p s g.sized w.number w.short (met (fact.Field w.number) (subst (In (fact.Field w.number)) (sym w.kept) (here [])))

  pub field_kept : (f : FieldKey) → is_some (defined_field (named p) f) ≡ true → ((outer_of p o).fields f || ((conditions_of p o).fields f && (family_of p s).classes f.class)) ≡ true → (family_of p s).fields f ≡ true
  field_kept f d e = by (or_cases ((outer_of p o).fields f) ((conditions_of p o).fields f && (family_of p s).classes f.class) e)
    where
      by_class : FieldNumber f o.fields_if → ByNumber s.classes.items (length p.types) (type_at p) f.class → (family_of p s).fields f ≡ true
      by_class w live =
          let name : type_at p w.entry.class ≡ f.class = ap (λ k. k.class) (sym (field_is p (S p o s g) w.number w.entry w.is_entry) ∙ w.is) in
          let same = type_once p (S p o s g) w.entry.class live.number (field_class p (S p o s g) w.number w.entry w.is_entry) live.short (name ∙ sym live.is) in
          field_live f o.fields_if w (met_one p o s g (kept_field p) (row_of g.closed.tables.fields_if live.number) w.number
          (met_front p o s g (flat_map (kept_field p) (row_of g.closed.tables.fields_if live.number)) (flat_map (kept_method p) (row_of g.closed.tables.methods_if live.number) ++ flat_map (kept_class p) (row_of g.closed.tables.classes_if live.number))
          (conditional_met p o s g live.number live.marked))
          (field_row live.number w.number w.entry live.short w.is_in w.is_entry same))

      by : ((outer_of p o).fields f ≡ true) ⊎ (((conditions_of p o).fields f && (family_of p s).classes f.class) ≡ true) → (family_of p s).fields f ≡ true
      by (inl h) =
          let w = field_listed f o.fields d h in
          field_live f o.fields w (met_one p o s g (kept_field p) o.fields w.number (met_front p o s g kept_fields kept_methods (met_back p o s g kept_classes (kept_fields ++ kept_methods) begins_met)) w.is_in)
      by (inr h) = by_class (field_listed f o.fields_if d (and_left ((conditions_of p o).fields f) ((family_of p s).classes f.class) h))
          (class_number p s f.class (and_behind ((conditions_of p o).fields f) ((family_of p s).classes f.class) h))

  -- ---- methods

  -- a number of a listed method
  record MethodNumber (f : MethodKey) (ns : List ℕ) : Type 0 where
    number : ℕ
    is_in : In number ns
    short : number < length p.methods
    entry : MethodName
    is_entry : slice_get p.methods number ≡ Some entry
    is : method_at p number ≡ f

  method_listed : (f : MethodKey) (ns : List ℕ) → defines (named p) f.class ≡ true → methods_in p ns f ≡ true → MethodNumber f ns
  method_listed f ns d e = by (cases_lt r.0 (length p.methods))
    where
      r : (n : ℕ) × (In n ns × (method_eq (method_at p n) f ≡ true))
      r = any_where (λ n. method_eq (method_at p n) f) ns e

      is : method_at p r.0 ≡ f
      is = method_sound (method_at p r.0) f r.1.1

      by : (r.0 < length p.methods) ⊎ (length p.methods ≤ r.0) → MethodNumber f ns
      by (inl lt) = let q = entry_at p.methods r.0 lt in record { number = r.0; is_in = r.1.0; short = lt; entry = q.0; is_entry = q.1; is = is }
      by (inr le) =
          let empty : f.class ≡ [] = ap (λ k. k.class) (sym is) ∙ ap (λ x. (elim x as (λ x. MethodKey) [ Some m ↦ record { class = type_at p m.class; name = text_at p m.name; signature = signature_at p m.proto } | None ↦ record { class = []; name = []; signature = record { parameters = []; result = [] } } ]).class) (slice_get_past p.methods r.0 le) in
          empty_undefined p o s g (ap (defines (named p)) (sym empty) ∙ d)

  method_row : (k n : ℕ) (q : MethodName) → k < length p.types → In n o.methods_if → slice_get p.methods n ≡ Some q → q.class ≡ k → In n (row_of g.closed.tables.methods_if k)
  method_row k n q lt i is same = subst (In n) (sym (g.closed.are.methods k lt))
      (in_flat (method_if p k) n n o.methods_if i (subst (In n) (sym (ap (method_in k n) is ∙ ap (λ b. cond b (n ∷ []) []) (number_test k q.class (sym same)))) (here [])))

  -- the outside keeps it, or a live thing brings it along
  abbrev pub Begins : Fact → Type 0
  Begins y = In y (kept_facts p o) ⊎ ((x : Fact) × ((is_live s x ≡ true) × In y (forced p g.closed.tables x)))

  begins_live : (y : Fact) → Begins y → is_met s y ≡ true
  begins_live y (inl i) = begins_met y i
  begins_live y (inr b) = g.closed.entails b.0 y b.1.0 (inl (contained y (forced p g.closed.tables b.0) b.1.1))

  -- a number of a kept method, from which all begins that follows from its being kept
  pub record KeptMethod (f : MethodKey) : Type 0 where
    pub number : ℕ
    pub short : number < length p.methods
    pub entry : MethodName
    pub is_entry : slice_get p.methods number ≡ Some entry
    pub is : method_at p number ≡ f
    pub begins : (y : Fact) → In y (kept_method p number) → Begins y

  abbrev pub IsKeptMethod : MethodKey → Type 0
  IsKeptMethod f = is_kept_method (outer_of p o) (conditions_of p o) (family_of p s) f ≡ true

  kept_outside_method : (f : MethodKey) → MethodNumber f o.methods → KeptMethod f
  kept_outside_method f w = record {
    number = w.number;
    short = w.short;
    entry = w.entry;
    is_entry = w.is_entry;
    is = w.is;
    begins = λ y i. inl (in_back y kept_classes (kept_fields ++ kept_methods) (in_back y kept_fields kept_methods (in_flat (kept_method p) w.number y o.methods w.is_in i)));
  }

  kept_by_class : (f : MethodKey) → MethodNumber f o.methods_if → ByNumber s.classes.items (length p.types) (type_at p) f.class → KeptMethod f
  kept_by_class f w live =
      let name : type_at p w.entry.class ≡ f.class = ap (λ k. k.class) (sym (method_is p (S p o s g) w.number w.entry w.is_entry) ∙ w.is) in
      let same = type_once p (S p o s g) w.entry.class live.number (method_class p (S p o s g) w.number w.entry w.is_entry) live.short (name ∙ sym live.is) in
      let row = method_row live.number w.number w.entry live.short w.is_in w.is_entry same in
      record {
        number = w.number;
        short = w.short;
        entry = w.entry;
        is_entry = w.is_entry;
        is = w.is;
        begins = λ y i. inr (
          fact.Class live.number,
          (
            live.marked,
            in_back y (class_facts p g.closed.tables.bases.items live.number) (conditional p g.closed.tables live.number)
                (in_back y (flat_map (kept_field p) (row_of g.closed.tables.fields_if live.number)) (flat_map (kept_method p) (row_of g.closed.tables.methods_if live.number) ++ flat_map (kept_class p) (row_of g.closed.tables.classes_if live.number))
                (in_front y (flat_map (kept_method p) (row_of g.closed.tables.methods_if live.number)) (flat_map (kept_class p) (row_of g.closed.tables.classes_if live.number))
                (in_flat (kept_method p) w.number y (row_of g.closed.tables.methods_if live.number) row i))),
          ),
        );
      }

  pub kept_by_number : (f : MethodKey) → defines (named p) f.class ≡ true → IsKeptMethod f → KeptMethod f
  kept_by_number f d e = by (or_cases ((outer_of p o).methods f) ((conditions_of p o).methods f && (family_of p s).classes f.class) e)
    where
      by : ((outer_of p o).methods f ≡ true) ⊎ (((conditions_of p o).methods f && (family_of p s).classes f.class) ≡ true) → KeptMethod f
      by (inl h) = kept_outside_method f (method_listed f o.methods d h)
      by (inr h) = kept_by_class f (method_listed f o.methods_if d (and_left ((conditions_of p o).methods f) ((family_of p s).classes f.class) h))
          (class_number p s f.class (and_behind ((conditions_of p o).methods f) ((family_of p s).classes f.class) h))

  method_class_defined : (f : MethodKey) → is_some (defined_method (named p) f) ≡ true → defines (named p) f.class ≡ true
  method_class_defined f d = by (class_named (named p) f.class) refl d
    where
      by : (x : Option NamedClass) → class_named (named p) f.class ≡ x → is_some (elim x as (λ x. Option NamedMethod) [ Some c ↦ find.method_in c f.name f.signature | None ↦ None ]) ≡ true → defines (named p) f.class ≡ true
      by None i h = clash false h refl
      by (Some c) i h = defined (named p) f.class c i

  -- a kept method that the program defines
  pub record KeptOwn (f : MethodKey) (x : NamedMethod) : Type 0 where
    pub kept : KeptMethod f
    pub own : OwnMethod p kept.number x
    pub live : Begins (fact.Method kept.number)
    pub entered : (y : Fact) → In y (entered_of p kept.number own.method) → Begins y

  pub kept_own : (f : MethodKey) (x : NamedMethod) → defined_method (named p) f ≡ Some x → IsKeptMethod f → KeptOwn f x
  kept_own f x d e =
      let w = kept_by_number f (method_class_defined f (ap is_some d)) e in
      let own = own_method p o s g w.number w.short x (ap (defined_method (named p)) w.is ∙ d) in
      let all : (y : Fact) → In y (fact.Method w.number ∷ entered_of p w.number own.method) → Begins y =
      λ y i. w.begins y (in_back y (constructed_of p (slice_get p.methods w.number)) (own_kept_of p w.number (follow.own_method p w.number)) (subst (λ z. In y (own_kept_of p w.number z)) (sym own.own) i)) in
      record {
        kept = w;
        own = own;
        live = all (fact.Method w.number) (here (entered_of p w.number own.method));
        entered = λ y i. all y (there (fact.Method w.number) (entered_of p w.number own.method) i);
      }

  pub method_kept : (f : MethodKey) → is_some (defined_method (named p) f) ≡ true → IsKeptMethod f → (family_of p s).methods f ≡ true
  method_kept f d e =
      let x = some_defined (defined_method (named p) f) d in
      let w = kept_own f x.0 x.1 e in
      ap (family_of p s).methods (sym w.kept.is) ∙ method_met p s g.sized w.kept.number w.kept.short (begins_live (fact.Method w.kept.number) w.live)

  -- ---- kept constructors

  constructor_number : (f : MethodKey) → defines (named p) f.class ≡ true → is_constructor f ≡ true → IsKeptMethod f → KeptNumber f.class
  constructor_number f d c e =
      let w = kept_by_number f d e in
      let key = sym (method_is p (S p o s g) w.number w.entry w.is_entry) ∙ w.is in
      let test : string_is p w.entry.name constructor_name ≡ true = ap (λ z. text_eq z constructor_name) (sym (text_same p w.entry.name)) ∙ ap is_constructor key ∙ c in
      let facts : constructed_of p (slice_get p.methods w.number) ≡ kept_class p w.entry.class = ap (constructed_of p) w.is_entry ∙ ap (λ b. cond b (kept_class p w.entry.class) []) test in
      record {
        number = w.entry.class;
        is = ap (λ k. k.class) key;
        met = λ y i. begins_live y (w.begins y (in_front y (constructed_of p (slice_get p.methods w.number)) (own_kept_of p w.number (follow.own_method p w.number)) (subst (In y) (sym facts) i)));
      }

  pub constructed_live : (f : MethodKey) → defines (named p) f.class ≡ true → is_constructor f ≡ true → IsKeptMethod f → (family_of p s).classes f.class ≡ true
  constructed_live f d c e = let k = defines_class (named p) f.class d in kept_live f.class k.0 k.1 (constructor_number f d c e)

  pub constructed_made : (f : MethodKey) → is_concrete (named p) f.class ≡ true → is_constructor f ≡ true → IsKeptMethod f → (family_of p s).made f.class ≡ true
  constructed_made f d c e = by (class_named (named p) f.class) refl d
    where
      by : (x : Option NamedClass) → class_named (named p) f.class ≡ x → elim x as (λ x. Bool) [ Some k ↦ not (is_interface k.flags) && not (is_abstract k.flags) | None ↦ false ] ≡ true → (family_of p s).made f.class ≡ true
      by None is h = clash false h refl
      by (Some k) is h = kept_made f.class k is (constructor_number f (defined (named p) f.class k is) c e) h

  -- ---- the classes of live members

  pub keeps_owners : KeepsOwners (named p) (family_of p s)
  keeps_owners = record {
    fields = λ f live d.
        let n = field_number p s f live in
        class_held p o s g f.class (field_types_held p o s g n.number f.class
        (met_front p o s g (field_types p (bases_of p) n.number) (all_named p (bases_of p) (field_names (follow.own_field p n.number))) (field_facts_met p o s g n.number n.marked))
        (subst (λ z. In z ((field_at p n.number).class ∷ (field_at p n.number).kind ∷ [])) (ap (λ k. k.class) n.is) (here ((field_at p n.number).kind ∷ [])))) d;
    methods = λ m live d.
        let n = method_number p s m live in
        class_held p o s g m.class (method_types_held p o s g n.number m.class
        (met_front p o s g (method_types p (bases_of p) n.number) (all_named p (bases_of p) (names_of_method (follow.own_method p n.number))) (body_facts_met p o s g n.number n.marked))
        (subst (λ z. In z ((method_at p n.number).class ∷ types_of (method_at p n.number).signature)) (ap (λ k. k.class) n.is) (here (types_of (method_at p n.number).signature)))) d;
  }

  class_defined : (k : ℕ) → k < length p.types → is_some (class_of p k) ≡ true → defines (named p) (type_at p k) ≡ true
  class_defined k lt e = by (class_place p k) refl e
    where
      by_class : (i : ℕ) (x : Option Class) → class_place p k ≡ Some i → slice_get p.classes i ≡ x → is_some x ≡ true → defines (named p) (type_at p k) ≡ true
      by_class i None at is h = clash false h refl
      by_class i (Some c) at is h = defined (named p) (type_at p k) (named_class p c) (class_by_number p (S p o s g) k lt ∙ ap (option_and_then (class_at p)) at ∙ ap (option_map (named_class p)) is)

      by : (x : Option ℕ) → class_place p k ≡ x → is_some (option_and_then (slice_get p.classes) x) ≡ true → defines (named p) (type_at p k) ≡ true
      by None at h = clash false h refl
      by (Some i) at h = by_class i (slice_get p.classes i) at refl h

  pub keeps_kept : AreDefined p s → KeepsKept (named p) (outer_of p o) (conditions_of p o) (family_of p s)
  keeps_kept known = record {
    classes = class_kept;
    fields = field_kept;
    methods = method_kept;
    constructors = constructed_live;
    field_classes = λ f live.
        let n = field_number p s f live in
        let q = entry_at p.fields n.number n.short in
        let name : type_at p q.0.class ≡ f.class = ap (λ k. k.class) (sym (field_is p (S p o s g) n.number q.0 q.1) ∙ n.is) in
        keeps_owners.fields f live (ap (defines (named p)) (sym name) ∙ class_defined q.0.class (field_class p (S p o s g) n.number q.0 q.1) (known.fields n.number q.0 n.marked q.1));
    method_classes = λ m live.
        let n = method_number p s m live in
        let q = entry_at p.methods n.number n.short in
        let name : type_at p q.0.class ≡ m.class = ap (λ k. k.class) (sym (method_is p (S p o s g) n.number q.0 q.1) ∙ n.is) in
        keeps_owners.methods m live (ap (defines (named p)) (sym name) ∙ class_defined q.0.class (method_class p (S p o s g) n.number q.0 q.1) (known.methods n.number q.0 n.marked q.1));
  }
