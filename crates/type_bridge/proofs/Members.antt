-- What members' numbers name.
use Rattle.std.proofs.Common.{◌≡◌, ℕ, zero, suc, ◌<◌, Bool, true, false, true≢false, List, [], ◌∷◌, ◌++◌, map, length, Option, Some, None, refl, sym, ap, ◌∙◌, subst}
use Rattle.std.specs.Prelude.{not, slice_get, option_and_then, position, codes}
use Rattle.std.specs.Option.{option_map, option_or}
use Rattle.lemmas.proofs.Lists.{got_map}
use Rattle.class_defs.proofs.Positions.{entry_at, number_of, number_test, place_entry}
use Rattle.class_defs.proofs.WellFormed.{class_parts}
use Rattle.class_defs.specs.Finding as finding
use Rattle.class_defs.specs.Members.{is_field, own_field, own_method, field_of_class}
use Rattle.class_defs.specs.Places.{super_place, interface_places}
use Rattle.hierarchy.specs.Shapes.{IsResolved}
use Rattle.hierarchy.specs.Tables.{answer}
use Rattle.hierarchy.specs.Walking.{method_by}
use Rattle.program_model.specs.Lookups as look
use Rattle.program_model.specs.MemberRules.{has_flag}
use Rattle.program_model.specs.declared.pools.FieldName.{FieldName}
use Rattle.program_model.specs.declared.pools.MethodName.{MethodName}
use Rattle.program_model.specs.declared.pools.Proto.{Proto}
use Rattle.program_model.specs.declared.program.Class.{Class}
use Rattle.program_model.specs.declared.program.Field.{Field}
use Rattle.program_model.specs.declared.program.Method.{Method}
use Rattle.program_model.specs.declared.program.MethodAt.{MethodAt}
use Rattle.program_model.specs.declared.program.Program.{Program}
use Rattle.dalvik_defs.specs.Names.{text_eq}
use Rattle.dalvik_defs.specs.Naming.{type_at, signature_at, field_at, method_at, named_class, named}
use Rattle.dalvik_defs.specs.Find as find
use Rattle.dalvik_defs.specs.Find.{finds_field, resolves_method}
use Rattle.dalvik_defs.specs.Flags as remainder
use Rattle.dalvik_defs.specs.declared.names.Signature.{Signature}
use Rattle.name_bridge.specs.Named.{field_at_place, field_of, field_there, found_at, found_of, found_there, finds, search_at}
use Rattle.name_bridge.proofs.Above.{own_place}
use Rattle.name_bridge.proofs.Classes.{type_test}
use Rattle.name_bridge.proofs.Fields.{field_resolves_by_number}
use Rattle.name_bridge.proofs.Flags.{static_flag}
use Rattle.name_bridge.proofs.Found.{text_same}
use Rattle.name_bridge.proofs.Resolved.{resolves_by_number, super_by_number}
use Rattle.name_bridge.proofs.Tables as table
use Rattle.pass_defs.specs.Demands as asked
use Rattle.pass_defs.specs.Typed as typed
use Rattle.verify.specs.declared.calls.Search.{Search}
use Rattle.verify.specs.declared.calls.Search.TheVariants as search
use Rattle.verify.specs.declared.setting.Setting.{Setting}
use Rattle.verify.specs.declared.tables.Tables.{Tables}
use Rattle.verify.specs.Names.{kind_or, field_class_or, class_or, field_kind, field_class, method_class, proto_of, parameters_or, result_or, parameters_of, result_of}
use Rattle.verify.specs.Reads.{is_place, defines_field}
use Rattle.verify.specs.Supers as supers
use Rattle.verify.specs.Types.{is_constructor}
use Rattle.verify.specs.Wrong as wrong
use Rattle.verify.proofs.Descriptions.{text_same as same_text}
use Rattle.type_bridge.proofs.FirstValues.{first_same}
use Rattle.type_bridge.proofs.Told.{Told}

-- ---- keys

module _ (p : Program) (t : Tables) (d : Told p t) where
  pub record FieldIs (f : ℕ) : Type 0 where
    pub small : f < length p.fields
    pub entry : FieldName
    pub is : slice_get p.fields f ≡ Some entry

  pub field_is : (f : ℕ) → f < length p.fields → FieldIs f
  field_is f h = let e = entry_at p.fields f h in record { small = h; entry = e.0; is = e.1 }

  pub field_kind_is : (f : ℕ) → FieldIs f → type_at p (field_kind p f) ≡ (field_at p f).kind
  field_kind_is f e = ap (λ o. type_at p (kind_or o)) e.is ∙ sym (ap (λ k. k.kind) (table.field_is p d.sound f e.entry e.is))

  pub field_class_is : (f : ℕ) → FieldIs f → type_at p (field_class p f) ≡ (field_at p f).class
  field_class_is f e = ap (λ o. type_at p (field_class_or o)) e.is ∙ sym (ap (λ k. k.class) (table.field_is p d.sound f e.entry e.is))

  pub record MethodIs (m : ℕ) : Type 0 where
    pub small : m < length p.methods
    pub entry : MethodName
    pub is : slice_get p.methods m ≡ Some entry
    pub proto : Proto
    pub is_proto : slice_get p.protos entry.proto ≡ Some proto

  pub method_is : (m : ℕ) → m < length p.methods → MethodIs m
  method_is m h =
      let e = entry_at p.methods m h in
      let q = entry_at p.protos e.0.proto (table.method_proto p d.sound m e.0 e.1) in
      record { small = h; entry = e.0; is = e.1; proto = q.0; is_proto = q.1 }

  pub method_class_small : (m : ℕ) → MethodIs m → method_class p m < length p.types
  method_class_small m e = subst (λ k. k < length p.types) (sym (ap class_or e.is)) (table.method_class p d.sound m e.entry e.is)

  pub method_class_is : (m : ℕ) → MethodIs m → type_at p (method_class p m) ≡ (method_at p m).class
  method_class_is m e = ap (λ o. type_at p (class_or o)) e.is ∙ sym (ap (λ k. k.class) (table.method_is p d.sound m e.entry e.is))

  pub proto_is : (m : ℕ) (e : MethodIs m) → proto_of p m ≡ Some e.proto
  proto_is m e = ap (option_and_then (λ n. slice_get p.protos n.proto)) e.is ∙ e.is_proto

  proto_signature : (i : ℕ) (q : Proto) → slice_get p.protos i ≡ Some q → signature_at p i ≡ record { parameters = map (type_at p) q.parameters; result = type_at p q.result }
  proto_signature i q e = ap (λ o. elim o as (λ o. Signature) [ Some q ↦ record { parameters = map (type_at p) q.parameters; result = type_at p q.result } | None ↦ record { parameters = []; result = [] } ]) e

  pub signature_is : (m : ℕ) (e : MethodIs m) → (method_at p m).signature ≡ record { parameters = map (type_at p) e.proto.parameters; result = type_at p e.proto.result }
  signature_is m e = ap (λ k. k.signature) (table.method_is p d.sound m e.entry e.is) ∙ proto_signature e.entry.proto e.proto e.is_proto

  pub result_is : (m : ℕ) → MethodIs m → type_at p (result_of p m) ≡ (method_at p m).signature.result
  result_is m e = ap (λ o. type_at p (result_or o)) (proto_is m e) ∙ sym (ap (λ s. s.result) (signature_is m e))

  pub result_below : (m : ℕ) → MethodIs m → result_of p m < length p.types
  result_below m e = subst (λ k. k < length p.types) (sym (ap result_or (proto_is m e))) (table.proto_result p d.sound e.entry.proto e.proto e.is_proto)

  pub parameters_is : (m : ℕ) → MethodIs m → map (type_at p) (parameters_of p m) ≡ (method_at p m).signature.parameters
  parameters_is m e = ap (λ o. map (type_at p) (parameters_or o)) (proto_is m e) ∙ sym (ap (λ s. s.parameters) (signature_is m e))

  pub constructor_is : (m : ℕ) → MethodIs m → is_constructor t m ≡ asked.is_constructor_name (method_at p m).name
  constructor_is m e =
      d.says.begins m e.entry e.is
      ∙ ap (λ u. text_eq u (codes "<init>")) (sym (text_same p e.entry.name))
      ∙ sym (ap (λ k. asked.is_constructor_name k.name) (table.method_is p d.sound m e.entry e.is))

-- ---- fields that there are

pub record FieldThere (p : Program) (at : ℕ × ℕ) : Type 0 where
  pub class : Class
  pub is_class : slice_get p.classes at.0 ≡ Some class
  pub field : Field
  pub is_field : slice_get class.fields at.1 ≡ Some field

own_there : (p : Program) (name kind c : ℕ) (at : ℕ × ℕ) → own_field p name kind c ≡ Some at → FieldThere p at
own_there p name kind c at h = by_class (slice_get p.classes c) refl h
  where
    by_place : (k : Class) (o : Option ℕ) → slice_get p.classes c ≡ Some k → position (is_field p name kind) k.fields ≡ o → ◌≡◌ {A = Option (ℕ × ℕ)} (option_map (λ i. (c, i)) o) (Some at) → FieldThere p at
    by_place k None g f h = cc
    by_place k (Some i) g f h =
        let same : ◌≡◌ {A = ℕ × ℕ} (c, i) at = cc in
        let r = place_entry (is_field p name kind) k.fields i f in
        record { class = k; is_class = ap (λ a. slice_get p.classes a.0) (sym same) ∙ g; field = r.entry; is_field = ap (λ a. slice_get k.fields a.1) (sym same) ∙ r.is }

    by_class : (o : Option Class) → slice_get p.classes c ≡ o → field_of_class p name kind c o ≡ Some at → FieldThere p at
    by_class None g h = cc
    by_class (Some k) g h = by_place k (position (is_field p name kind) k.fields) g refl h

first_there : (p : Program) (f : ℕ → Option (ℕ × ℕ)) → ((c : ℕ) (at : ℕ × ℕ) → f c ≡ Some at → FieldThere p at) → (cs : List ℕ) (at : ℕ × ℕ) → finding.first_among f cs ≡ Some at → FieldThere p at
first_there p f h [] at g = cc
first_there p f h (c ∷ cs) at g = by_first (first_there p f h cs at) (f c) refl g
  where
    by_first : (finding.first_among f cs ≡ Some at → FieldThere p at) → (o : Option (ℕ × ℕ)) → f c ≡ o → option_or o (finding.first_among f cs) ≡ Some at → FieldThere p at
    by_first more None x g = more g
    by_first more (Some one) x g = h c at (x ∙ g)

from_there : (p : Program) (name kind n c : ℕ) (at : ℕ × ℕ) → finding.field_from n p name kind c ≡ Some at → FieldThere p at
from_there p name kind zero c at h = cc
from_there p name kind (suc n) c at h = by_own (first_there p (finding.field_from n p name kind) (from_there p name kind n) (interface_places p c ++ finding.beside (super_place p c)) at) (own_field p name kind c) refl h
  where
    by_own : (finding.first_among (finding.field_from n p name kind) (interface_places p c ++ finding.beside (super_place p c)) ≡ Some at → FieldThere p at) → (o : Option (ℕ × ℕ)) → own_field p name kind c ≡ o
        → option_or o (finding.first_among (finding.field_from n p name kind) (interface_places p c ++ finding.beside (super_place p c))) ≡ Some at → FieldThere p at
    by_own more None g h = more h
    by_own more (Some one) g h = own_there p name kind c at (g ∙ h)

resolved_there : (p : Program) (f : ℕ) (e : FieldName) (at : ℕ × ℕ) → slice_get p.fields f ≡ Some e → finding.resolves_field p f ≡ Some at → FieldThere p at
resolved_there p f e at h g = by (look.class_place p e.class) (ap (finding.field_by p) (sym h) ∙ g)
  where
    by : (o : Option ℕ) → option_and_then (finding.field_from (length p.classes) p e.name e.kind) o ≡ Some at → FieldThere p at
    by None g = cc
    by (Some c) g = from_there p e.name e.kind (length p.classes) c at g

-- ---- flags of what names resolve to

differ_same : (static : Bool) (b c : Bool) → b ≡ c → wrong.differ static (Some b) ≡ typed.differ static c
differ_same true b c e = ap not e
differ_same false b c e = e

differ_none : (static : Bool) → wrong.differ static None ≡ false
differ_none true = refl
differ_none false = refl

module _ (s : Setting) (d : Told s.program.now s.tables.now) (h : IsResolved s.program.now s.hierarchy.now) where
  field_target : (f : ℕ) → FieldIs s.program.now s.tables.now d f → answer (slice_get s.hierarchy.now.targets.fields.items f) ≡ finding.resolves_field s.program.now f
  field_target f e =
      ap (λ l. answer (slice_get l f)) h.targets.fields
      ∙ ap answer (got_map (λ f. finding.field_by s.program.now (Some f)) s.program.now.fields f e.entry e.is)
      ∙ sym (ap (finding.field_by s.program.now) e.is)

  method_target : (m : ℕ) → MethodIs s.program.now s.tables.now d m → answer (slice_get s.hierarchy.now.targets.methods.items m) ≡ finding.resolves_method s.program.now m
  method_target m e =
      ap (λ l. answer (slice_get l m)) h.targets.methods
      ∙ ap answer (got_map (method_by s.program.now) s.program.now.methods m e.entry e.is)
      ∙ sym (ap (finding.by_entry (λ q. finding.first_among (own_method s.program.now q.name q.proto) (finding.resolution_of s.program.now (look.class_place s.program.now q.class)))) e.is)

  field_flag : (static : Bool) (o : Option (ℕ × ℕ)) → wrong.differ static (option_and_then (λ at. wrong.static_at s at.0 at.1) o)
      ≡ elim (option_and_then (field_at_place s.program.now) o) as (λ o. Bool) [ Some f ↦ typed.differ static (remainder.is_static f.1.flags) | None ↦ false ]
  field_flag static None = differ_none static
  field_flag static (Some at) = by_class (slice_get s.program.now.classes at.0)
    where
      by_field : (k : Class) (o : Option Field) → wrong.differ static (wrong.is_static_in o) ≡ elim (field_there s.program.now k o) as (λ o. Bool) [ Some f ↦ typed.differ static (remainder.is_static f.1.flags) | None ↦ false ]
      by_field k None = differ_none static
      by_field k (Some f) = differ_same static (has_flag f.flags 8) (remainder.is_static f.flags.0) (static_flag f.flags)

      by_class : (o : Option Class) → wrong.differ static (option_and_then (λ k. wrong.is_static_in (slice_get k.fields at.1)) o) ≡ elim (field_of s.program.now at.1 o) as (λ o. Bool) [ Some f ↦ typed.differ static (remainder.is_static f.1.flags) | None ↦ false ]
      by_class None = differ_none static
      by_class (Some k) = by_field k (slice_get k.fields at.1)

  pub field_flags : (static : Bool) (f : ℕ) → FieldIs s.program.now s.tables.now d f → wrong.differ static (wrong.static_field s f) ≡ typed.wrong_field (named s.program.now) static (field_at s.program.now f)
  field_flags static f e =
      ap (λ o. wrong.differ static (option_and_then (λ at. wrong.static_at s at.0 at.1) o)) (field_target f e)
      ∙ field_flag static (finding.resolves_field s.program.now f)
      ∙ sym (ap (λ o. elim o as (λ o. Bool) [ Some f ↦ typed.differ static (remainder.is_static f.1.flags) | None ↦ false ]) (field_resolves_by_number s.program.now d.sound f e.small))

  -- what a field has first, to which a name resolves
  field_first : (o : Option (ℕ × ℕ)) → elim o as (λ o. Bool) [ Some at ↦ wrong.begins_at s at.0 at.1 | None ↦ false ]
      ≡ elim (option_and_then (field_at_place s.program.now) o) as (λ o. Bool) [ Some f ↦ typed.begins_as_text_or_type f.1 | None ↦ false ]
  field_first None = refl
  field_first (Some at) = by_class (slice_get s.program.now.classes at.0)
    where
      by_field : (k : Class) (o : Option Field) → wrong.begins_in o ≡ elim (field_there s.program.now k o) as (λ o. Bool) [ Some f ↦ typed.begins_as_text_or_type f.1 | None ↦ false ]
      by_field k None = refl
      by_field k (Some f) = sym (first_same s.program.now f.first)

      by_class : (o : Option Class) → elim o as (λ o. Bool) [ Some k ↦ wrong.begins_in (slice_get k.fields at.1) | None ↦ false ] ≡ elim (field_of s.program.now at.1 o) as (λ o. Bool) [ Some f ↦ typed.begins_as_text_or_type f.1 | None ↦ false ]
      by_class None = refl
      by_class (Some k) = by_field k (slice_get k.fields at.1)

  pub field_begins : (f : ℕ) → FieldIs s.program.now s.tables.now d f → wrong.begins_as_text_or_type s f
      ≡ elim (finds_field (named s.program.now) (field_at s.program.now f)) as (λ o. Bool) [ Some f ↦ typed.begins_as_text_or_type f.1 | None ↦ false ]
  field_begins f e =
      ap (λ o. elim o as (λ o. Bool) [ Some at ↦ wrong.begins_at s at.0 at.1 | None ↦ false ]) (field_target f e)
      ∙ field_first (finding.resolves_field s.program.now f)
      ∙ sym (ap (λ o. elim o as (λ o. Bool) [ Some f ↦ typed.begins_as_text_or_type f.1 | None ↦ false ]) (field_resolves_by_number s.program.now d.sound f e.small))

  method_flag : (static : Bool) (o : Option MethodAt) → wrong.differ static (option_and_then (λ at. wrong.is_static_of (look.method_at s.program.now at)) o)
      ≡ elim (option_and_then (found_at s.program.now) o) as (λ o. Bool) [ Some g ↦ typed.differ static (remainder.is_static g.flags) | None ↦ false ]
  method_flag static None = differ_none static
  method_flag static (Some at) = by_class (slice_get s.program.now.classes at.class)
    where
      by_method : (k : Class) (o : Option Method) → wrong.differ static (wrong.is_static_of o) ≡ elim (found_there s.program.now k o) as (λ o. Bool) [ Some g ↦ typed.differ static (remainder.is_static g.flags) | None ↦ false ]
      by_method k None = differ_none static
      by_method k (Some m) = differ_same static (has_flag m.flags 8) (remainder.is_static m.flags.0) (static_flag m.flags)

      by_class : (o : Option Class) → wrong.differ static (wrong.is_static_of (option_and_then (λ c. slice_get c.methods at.place) o)) ≡ elim (found_of s.program.now at.place o) as (λ o. Bool) [ Some g ↦ typed.differ static (remainder.is_static g.flags) | None ↦ false ]
      by_class None = differ_none static
      by_class (Some k) = by_method k (slice_get k.methods at.place)

  pub method_flags : (static : Bool) (m : ℕ) → MethodIs s.program.now s.tables.now d m → wrong.differ static (wrong.static_method s m)
      ≡ elim (resolves_method (named s.program.now) (method_at s.program.now m)) as (λ o. Bool) [ Some g ↦ typed.differ static (remainder.is_static g.flags) | None ↦ false ]
  method_flags static m e =
      ap (λ o. wrong.differ static (option_and_then (λ at. wrong.is_static_of (look.method_at s.program.now at)) o)) (method_target m e)
      ∙ method_flag static (finding.resolves_method s.program.now m)
      ∙ sym (ap (λ o. elim o as (λ o. Bool) [ Some g ↦ typed.differ static (remainder.is_static g.flags) | None ↦ false ]) (resolves_by_number s.program.now d.sound m e.small))

  -- ---- the class that defines a field

  pub defines_is : (c : Class) → slice_get s.program.now.classes s.class ≡ Some c → (f : ℕ) → FieldIs s.program.now s.tables.now d f → defines_field s f ≡ true → asked.defines_field (named s.program.now) (named_class s.program.now c) (field_at s.program.now f) ≡ true
  defines_is c i f e g =
      ap (λ o. elim o as (λ o. Bool) [ Some f ↦ text_eq f.0 (type_at s.program.now c.name) | None ↦ false ]) (field_resolves_by_number s.program.now d.sound f e.small)
      ∙ by (finding.resolves_field s.program.now f) refl (ap (λ o. is_place o s.class) (sym (field_target f e)) ∙ g)
    where
      by : (o : Option (ℕ × ℕ)) → finding.resolves_field s.program.now f ≡ o → is_place o s.class ≡ true → elim (option_and_then (field_at_place s.program.now) o) as (λ o. Bool) [ Some f ↦ text_eq f.0 (type_at s.program.now c.name) | None ↦ false ] ≡ true
      by None x y = absurd (true≢false (sym y))
      by (Some at) x y =
          let there = resolved_there s.program.now f e.entry at e.is x in
          let same : Some there.class ≡ Some c = sym there.is_class ∙ ap (slice_get s.program.now.classes) (number_of at.0 s.class y) ∙ i in
          let one : there.class ≡ c = cc in
          ap (λ o. elim (field_of s.program.now at.1 o) as (λ o. Bool) [ Some f ↦ text_eq f.0 (type_at s.program.now c.name) | None ↦ false ]) there.is_class
          ∙ ap (λ o. elim (field_there s.program.now there.class o) as (λ o. Bool) [ Some f ↦ text_eq f.0 (type_at s.program.now c.name) | None ↦ false ]) there.is_field
          ∙ ap (λ k. text_eq (type_at s.program.now k.name) (type_at s.program.now c.name)) one
          ∙ same_text (type_at s.program.now c.name)

  pub defines_back : (c : Class) → slice_get s.program.now.classes s.class ≡ Some c → (f : ℕ) → FieldIs s.program.now s.tables.now d f → asked.defines_field (named s.program.now) (named_class s.program.now c) (field_at s.program.now f) ≡ true → defines_field s f ≡ true
  defines_back c i f e g =
      ap (λ o. is_place o s.class) (field_target f e)
      ∙ by (finding.resolves_field s.program.now f) refl
      (sym (ap (λ o. elim o as (λ o. Bool) [ Some f ↦ text_eq f.0 (type_at s.program.now c.name) | None ↦ false ]) (field_resolves_by_number s.program.now d.sound f e.small)) ∙ g)
    where
      by : (o : Option (ℕ × ℕ)) → finding.resolves_field s.program.now f ≡ o → elim (option_and_then (field_at_place s.program.now) o) as (λ o. Bool) [ Some f ↦ text_eq f.0 (type_at s.program.now c.name) | None ↦ false ] ≡ true → is_place o s.class ≡ true
      by None x y = absurd (true≢false (sym y))
      by (Some at) x y =
          let there = resolved_there s.program.now f e.entry at e.is x in
          let same : text_eq (type_at s.program.now there.class.name) (type_at s.program.now c.name) ≡ true =
          sym (ap (λ o. elim (field_of s.program.now at.1 o) as (λ o. Bool) [ Some f ↦ text_eq f.0 (type_at s.program.now c.name) | None ↦ false ]) there.is_class
          ∙ ap (λ o. elim (field_there s.program.now there.class o) as (λ o. Bool) [ Some f ↦ text_eq f.0 (type_at s.program.now c.name) | None ↦ false ]) there.is_field) ∙ y in
          let one : there.class.name ≡ c.name = number_of there.class.name c.name (sym (type_test s.program.now d.sound there.class.name c.name (class_parts s.program.now d.sound at.0 there.class there.is_class).name (class_parts s.program.now d.sound s.class c i).name) ∙ same) in
          let place : Some at.0 ≡ Some s.class = sym (own_place s.program.now d.once at.0 there.class there.is_class) ∙ ap (look.class_place s.program.now) one ∙ own_place s.program.now d.once s.class c i in
          number_test at.0 s.class (let q : at.0 ≡ s.class = cc in q)

  -- ---- super calls

  -- the classes that a look-up by number says
  abbrev pub classes_of : Search → List ℕ
  classes_of (search.Finds class static) = class ∷ []
  classes_of search.Nothing = []

  pub record SameFound (x : Search) (y : find.Search) : Type 0 where
    pub static : wrong.finds_static x ≡ typed.finds_static y
    pub classes : asked.found_class y ≡ map (type_at s.program.now) (classes_of x)

  said_same : (x : finding.Search) → SameFound (supers.said s.program.now x) (search_at s.program.now x)
  said_same finding.Nothing = record { static = refl; classes = refl }
  said_same finding.Clash = record { static = refl; classes = refl }
  said_same (finding.Finds at) = by_class (slice_get s.program.now.classes at.class)
    where
      by_method : (k : Class) (o : Option Method) → SameFound (supers.found_in o (Some k)) (finds (found_there s.program.now k o))
      by_method k None = record { static = refl; classes = refl }
      by_method k (Some m) = record { static = static_flag m.flags; classes = refl }

      none : (m : Option Method) → SameFound (supers.found_in m None) (finds None)
      none None = record { static = refl; classes = refl }
      none (Some m) = record { static = refl; classes = refl }

      by_class : (o : Option Class) → SameFound (supers.found_in (option_and_then (λ c. slice_get c.methods at.place) o) o) (finds (found_of s.program.now at.place o))
      by_class None = none None
      by_class (Some k) = by_method k (slice_get k.methods at.place)

  -- what a super call of a class finds
  pub found_same : (c : Class) → slice_get s.program.now.classes s.class ≡ Some c → (m : ℕ) → MethodIs s.program.now s.tables.now d m
      → SameFound (supers.said s.program.now (finding.finds_super s.program.now s.class m)) (find.finds_super (named s.program.now) (type_at s.program.now c.name) (method_at s.program.now m))
  found_same c i m e = subst (SameFound (supers.said s.program.now (finding.finds_super s.program.now s.class m)))
      (sym (super_by_number s.program.now d.sound d.once c.name s.class (class_parts s.program.now d.sound s.class c i).name (own_place s.program.now d.once s.class c i) c i m e.small))
      (said_same (finding.finds_super s.program.now s.class m))
