-- The members that classes themselves define, by number and by name.
use Rattle.std.proofs.Common.{◌≡◌, ℕ, zero, suc, ◌<◌, true, nat_eq, List, ◌∷◌, ◌++◌, length, Option, Some, None, refl, sym, ap, ◌∙◌, arith}
use Rattle.std.specs.Prelude.{cond, slice_get, position, option_and_then, flat_map}
use Rattle.std.specs.Option.{option_map, option_or}
use Rattle.lemmas.proofs.Lists.{got_short}
use Rattle.lemmas.proofs.Options.{none_some, some_same}
use Rattle.program_model.specs.declared.pools.FieldName.{FieldName}
use Rattle.program_model.specs.declared.pools.MethodName.{MethodName}
use Rattle.program_model.specs.declared.program.Field.{Field}
use Rattle.program_model.specs.declared.program.Method.{Method}
use Rattle.program_model.specs.declared.program.Class.{Class}
use Rattle.program_model.specs.declared.program.Program.{Program}
use Rattle.program_model.specs.declared.pass.Outside.{Outside}
use Rattle.program_model.specs.Lookups as look
use Rattle.program_model.specs.Lookups.{class_place}
use Rattle.class_defs.specs.Places.{super_place, chain_from, chain_of, interface_places}
use Rattle.class_defs.specs.Members.{names_method, is_method, method_of_class, names_field, is_field, field_of_class}
use Rattle.class_defs.specs.Members as member
use Rattle.class_defs.specs.Finding.{first_among, by_entry, resolution_of, resolves_method, beside, field_by, resolves_field}
use Rattle.class_defs.specs.Finding as number
use Rattle.class_defs.proofs.Positions.{entry_at, number_test, number_of, find_place, place_entry}
use Rattle.class_defs.proofs.WellFormed.{class_parts}
use Rattle.call_graph.specs.declared.live_set.LiveSet.{LiveSet}
use Rattle.call_graph.specs.Follows as follow
use Rattle.dalvik_defs.specs.Naming.{text_at, type_at, signature_at, field_at, method_at, named_field, named_method, named_class, named}
use Rattle.dalvik_defs.specs.Find.{method_in, defined_method, defined_field}
use Rattle.dalvik_defs.specs.declared.program.NamedField.{NamedField}
use Rattle.dalvik_defs.specs.declared.program.NamedMethod.{NamedMethod}
use Rattle.dalvik_defs.specs.declared.program.NamedClass.{NamedClass}
use Rattle.name_bridge.specs.Named.{class_at}
use Rattle.name_bridge.proofs.Above as above
use Rattle.name_bridge.proofs.Tables.{method_is, method_class, method_name, method_proto, method_once, field_is, field_once}
use Rattle.name_bridge.proofs.Classes.{class_by_number, method_by_number}
use Rattle.name_bridge.proofs.Defined.{fields_of, field_defined_known}
use Rattle.removal_law.proofs.Lists.{In, and_left, and_behind}
use Rattle.reach.specs.Marked.{IsMarked}
use Rattle.reach_bridge.proofs.Held.{at_stands}
use Rattle.reach_bridge.proofs.Based.{S}

-- a chain from a class begins with it
chain_head : (up : ℕ → Option ℕ) (n c : ℕ) → 0 < n → (rest : List ℕ) × (chain_from up n (Some c) ≡ c ∷ rest)
chain_head up zero c lt = absurd (omega (arith, lt))
chain_head up (suc n) c lt = (chain_from up n (up c), refl)

some_classes : (p : Program) (c : ℕ) (k : Class) → slice_get p.classes c ≡ Some k → 0 < length p.classes
some_classes p c k e = let h = got_short p.classes c k e in omega (arith, h)

-- the names of an entry
names_are : (n q : ℕ) (e : MethodName) → names_method n q (Some e) ≡ true → (e.name ≡ n) × (e.proto ≡ q)
names_are n q e h = (number_of e.name n (and_left (nat_eq e.name n) (nat_eq e.proto q) h), number_of e.proto q (and_behind (nat_eq e.name n) (nat_eq e.proto q) h))

field_names_are : (n k : ℕ) (e : FieldName) → names_field n k (Some e) ≡ true → (e.name ≡ n) × (e.kind ≡ k)
field_names_are n k e h = (number_of e.name n (and_left (nat_eq e.name n) (nat_eq e.kind k) h), number_of e.kind k (and_behind (nat_eq e.name n) (nat_eq e.kind k) h))

-- a method of a number that its class defines
pub record OwnMethod (p : Program) (n : ℕ) (nm : NamedMethod) : Type 0 where
  pub entry : MethodName
  pub is_entry : slice_get p.methods n ≡ Some entry
  pub place : ℕ
  pub is_place : class_place p entry.class ≡ Some place
  pub class : Class
  pub is_class : slice_get p.classes place ≡ Some class
  pub method : Method
  pub there : In method class.methods
  pub number : method.name ≡ n
  pub own : follow.own_method p n ≡ Some method
  pub is : named_method p method ≡ nm

-- a field of a number that its class defines
pub record OwnField (p : Program) (n : ℕ) (nf : NamedField) : Type 0 where
  pub entry : FieldName
  pub is_entry : slice_get p.fields n ≡ Some entry
  pub place : ℕ
  pub is_place : class_place p entry.class ≡ Some place
  pub class : Class
  pub is_class : slice_get p.classes place ≡ Some class
  pub field : Field
  pub there : In field class.fields
  pub number : field.name ≡ n
  pub own : follow.own_field p n ≡ Some field
  pub is : named_field p field ≡ nf

module _ (p : Program) (o : Outside) (s : LiveSet) (g : IsMarked p o s) where
  -- ---- methods

  module _ (n : ℕ) (e : MethodName) (is : slice_get p.methods n ≡ Some e) (nm : NamedMethod) where
    abbrev in_class : Option NamedClass → Option NamedMethod
    in_class x = elim x as (λ x. Option NamedMethod) [ Some c ↦ method_in c (text_at p e.name) (signature_at p e.proto) | None ↦ None ]

    method_there : (c i : ℕ) (k : Class) (m : Method) → class_place p e.class ≡ Some c → slice_get p.classes c ≡ Some k → position (is_method p e.name e.proto) k.methods ≡ Some i → slice_get k.methods i ≡ Some m
        → is_method p e.name e.proto m ≡ true → named_method p m ≡ nm → OwnMethod p n nm
    method_there c i k m at f h j t same =
        let w = (class_parts p (S p o s g) c k f).methods i m j in
        let d = above.defined p e.class c at in
        let names = names_are e.name e.proto w.entry (sym (ap (names_method e.name e.proto) w.is) ∙ t) in
        let class : w.entry.class ≡ e.class = w.owner ∙ ap (λ x. x.name) (some_same k d.class (sym f ∙ d.is)) ∙ d.named in
        let numbered : m.name ≡ n = method_once p (S p o s g) m.name n (got_short p.methods m.name w.entry w.is) (got_short p.methods n e is)
        (method_is p (S p o s g) m.name w.entry w.is
        ∙ ap (λ z. record { class = type_at p z; name = text_at p w.entry.name; signature = signature_at p w.entry.proto }) class
        ∙ ap (λ z. record { class = type_at p e.class; name = text_at p z; signature = signature_at p w.entry.proto }) names.0
        ∙ ap (λ z. record { class = type_at p e.class; name = text_at p e.name; signature = signature_at p z }) names.1
        ∙ sym (method_is p (S p o s g) n e is)) in
        let found : member.own_method p e.name e.proto c ≡ Some (record { class = c; place = i }) = ap (method_of_class p e.name e.proto c) f ∙ ap (option_map (λ i. record { class = c; place = i })) h in
        let head = chain_head (super_place p) (length p.classes) c (some_classes p c k f) in
        let resolved : resolves_method p n ≡ Some (record { class = c; place = i }) =
        ap (by_entry (λ q. first_among (member.own_method p q.name q.proto) (resolution_of p (class_place p q.class)))) is
        ∙ ap (λ x. first_among (member.own_method p e.name e.proto) (resolution_of p x)) at
        ∙ ap (λ l. first_among (member.own_method p e.name e.proto) (l ++ number.interfaces_from (length p.classes) p (flat_map (interface_places p) (chain_of p (Some c))))) head.1
        ∙ ap (λ x. option_or x (first_among (member.own_method p e.name e.proto) (head.0 ++ number.interfaces_from (length p.classes) p (flat_map (interface_places p) (chain_of p (Some c)))))) found in
        let method : look.method_at p (record { class = c; place = i }) ≡ Some m = ap (option_and_then (λ x. slice_get x.methods i)) f ∙ j in
        record {
          entry = e;
          is_entry = is;
          place = c;
          is_place = at;
          class = k;
          is_class = f;
          method = m;
          there = at_stands k.methods i m j;
          number = numbered;
          own = ap (λ x. follow.method_if n (option_and_then (look.method_at p) x)) resolved ∙ ap (follow.method_if n) method ∙ ap (λ b. cond b (Some m) None) (number_test m.name n numbered);
          is = same;
        }

    method_by_place : (c : ℕ) (k : Class) → class_place p e.class ≡ Some c → slice_get p.classes c ≡ Some k → (x : Option ℕ) → position (is_method p e.name e.proto) k.methods ≡ x
        → option_map (named_method p) (option_and_then (slice_get k.methods) x) ≡ Some nm → OwnMethod p n nm
    method_by_place c k at f None h same = none_some nm same
    method_by_place c k at f (Some i) h same =
        let r = place_entry (is_method p e.name e.proto) k.methods i h in
        method_there c i k r.entry at f h r.is r.passes (some_same (named_method p r.entry) nm (sym (ap (option_map (named_method p)) r.is) ∙ same))

    method_by_class : (c : ℕ) (x : Option Class) → class_place p e.class ≡ Some c → slice_get p.classes c ≡ x → in_class (option_map (named_class p) x) ≡ Some nm → OwnMethod p n nm
    method_by_class c None at f same = none_some nm same
    method_by_class c (Some k) at f same = method_by_place c k at f (position (is_method p e.name e.proto) k.methods) refl
        (sym (method_by_number p (S p o s g) c k e.name e.proto f (method_name p (S p o s g) n e is) (method_proto p (S p o s g) n e is) ∙ ap (option_map (named_method p)) (find_place (is_method p e.name e.proto) k.methods)) ∙ same)

    method_by_type : (x : Option ℕ) → class_place p e.class ≡ x → in_class (option_and_then (class_at p) x) ≡ Some nm → OwnMethod p n nm
    method_by_type None at same = none_some nm same
    method_by_type (Some c) at same = method_by_class c (slice_get p.classes c) at refl same

    own_method_known : defined_method (named p) (method_at p n) ≡ Some nm → OwnMethod p n nm
    own_method_known h = method_by_type (class_place p e.class) refl
        (sym (ap (defined_method (named p)) (method_is p (S p o s g) n e is) ∙ ap in_class (class_by_number p (S p o s g) e.class (method_class p (S p o s g) n e is))) ∙ h)

  pub own_method : (n : ℕ) → n < length p.methods → (nm : NamedMethod) → defined_method (named p) (method_at p n) ≡ Some nm → OwnMethod p n nm
  own_method n lt nm h = let e = entry_at p.methods n lt in own_method_known n e.0 e.1 nm h

  -- ---- fields

  module _ (n : ℕ) (e : FieldName) (is : slice_get p.fields n ≡ Some e) (nf : NamedField) where
    field_there : (c i : ℕ) (k : Class) (m : Field) → class_place p e.class ≡ Some c → slice_get p.classes c ≡ Some k → position (is_field p e.name e.kind) k.fields ≡ Some i → slice_get k.fields i ≡ Some m
        → is_field p e.name e.kind m ≡ true → named_field p m ≡ nf → OwnField p n nf
    field_there c i k m at f h j t same =
        let w = (class_parts p (S p o s g) c k f).fields i m j in
        let d = above.defined p e.class c at in
        let names = field_names_are e.name e.kind w.entry (sym (ap (names_field e.name e.kind) w.is) ∙ t) in
        let class : w.entry.class ≡ e.class = w.owner ∙ ap (λ x. x.name) (some_same k d.class (sym f ∙ d.is)) ∙ d.named in
        let numbered : m.name ≡ n = field_once p (S p o s g) m.name n (got_short p.fields m.name w.entry w.is) (got_short p.fields n e is)
        (field_is p (S p o s g) m.name w.entry w.is
        ∙ ap (λ z. record { class = type_at p z; name = text_at p w.entry.name; kind = type_at p w.entry.kind }) class
        ∙ ap (λ z. record { class = type_at p e.class; name = text_at p z; kind = type_at p w.entry.kind }) names.0
        ∙ ap (λ z. record { class = type_at p e.class; name = text_at p e.name; kind = type_at p z }) names.1
        ∙ sym (field_is p (S p o s g) n e is)) in
        let found : member.own_field p e.name e.kind c ≡ Some (c, i) = ap (field_of_class p e.name e.kind c) f ∙ ap (option_map (λ i. (c, i))) h in
        let resolved : resolves_field p n ≡ Some (c, i) =
        ap (field_by p) is ∙ ap (option_and_then (number.field_from (length p.classes) p e.name e.kind)) at ∙ first (length p.classes) (some_classes p c k f) found in
        let field : follow.field_at p (c, i) ≡ Some m = ap (option_and_then (λ x. slice_get x.fields i)) f ∙ j in
        record {
          entry = e;
          is_entry = is;
          place = c;
          is_place = at;
          class = k;
          is_class = f;
          field = m;
          there = at_stands k.fields i m j;
          number = numbered;
          own = ap (λ x. follow.field_if n (option_and_then (follow.field_at p) x)) resolved ∙ ap (follow.field_if n) field ∙ ap (λ b. cond b (Some m) None) (number_test m.name n numbered);
          is = same;
        }
      where
        first : (z : ℕ) → 0 < z → member.own_field p e.name e.kind c ≡ Some (c, i) → number.field_from z p e.name e.kind c ≡ Some (c, i)
        first zero lt found = absurd (omega (arith, lt))
        first (suc z) lt found = ap (λ x. option_or x (first_among (number.field_from z p e.name e.kind) (interface_places p c ++ beside (super_place p c)))) found

    field_by_place : (c : ℕ) (k : Class) → class_place p e.class ≡ Some c → slice_get p.classes c ≡ Some k → (x : Option ℕ) → position (is_field p e.name e.kind) k.fields ≡ x
        → option_map (named_field p) (option_and_then (slice_get k.fields) x) ≡ Some nf → OwnField p n nf
    field_by_place c k at f None h same = none_some nf same
    field_by_place c k at f (Some i) h same =
        let r = place_entry (is_field p e.name e.kind) k.fields i h in
        field_there c i k r.entry at f h r.is r.passes (some_same (named_field p r.entry) nf (sym (ap (option_map (named_field p)) r.is) ∙ same))

    field_by_class : (c : ℕ) (x : Option Class) → class_place p e.class ≡ Some c → slice_get p.classes c ≡ x → fields_of p e.name e.kind x ≡ Some nf → OwnField p n nf
    field_by_class c None at f same = none_some nf same
    field_by_class c (Some k) at f same = field_by_place c k at f (position (is_field p e.name e.kind) k.fields) refl
        (sym (ap (option_map (named_field p)) (find_place (is_field p e.name e.kind) k.fields)) ∙ same)

    field_by_type : (x : Option ℕ) → class_place p e.class ≡ x → option_and_then (λ c. fields_of p e.name e.kind (slice_get p.classes c)) x ≡ Some nf → OwnField p n nf
    field_by_type None at same = none_some nf same
    field_by_type (Some c) at same = field_by_class c (slice_get p.classes c) at refl same

    own_field_known : defined_field (named p) (field_at p n) ≡ Some nf → OwnField p n nf
    own_field_known h = field_by_type (class_place p e.class) refl (sym (field_defined_known p (S p o s g) n e is) ∙ h)

  pub own_field : (n : ℕ) → n < length p.fields → (nf : NamedField) → defined_field (named p) (field_at p n) ≡ Some nf → OwnField p n nf
  own_field n lt nf h = let e = entry_at p.fields n lt in own_field_known n e.0 e.1 nf h
