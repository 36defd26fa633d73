-- Methods that may be static by number may be so by name, where what overrides them and the calls that find them are known.
use Rattle.std.proofs.Common.{◌≡◌, ℕ, ◌<◌, ◌≤◌, inl, inr, lt-ltb, Bool, true, false, true≢false, List, [], ◌∷◌, map, length, Option, Some, None, refl, sym, ap, ◌∙◌, subst}
use Rattle.std.specs.Prelude.{◌&&◌, codes, is_some, nat_eq, nat_lt, slice_get, Contains}
use Rattle.std.specs.List.{list_all, list_any}
use Rattle.std.specs.Option.{option_map}
use Rattle.std.proofs.lemmas.Bool.{and_from, cases_lt}
use Rattle.std.proofs.lemmas.Option.{slice_get_past}
use Rattle.lemmas.proofs.Bools.{untrue}
use Rattle.lemmas.proofs.Options.{mapped_some, none_some, some_same}
use Rattle.insn_set.specs.declared.ops.InvokeKind.{InvokeKind}
use Rattle.program_model.specs.Texts.{has_type}
use Rattle.program_model.specs.declared.pass.Outside.{Outside}
use Rattle.program_model.specs.declared.pools.MethodName.{MethodName}
use Rattle.program_model.specs.declared.pools.Proto.{Proto}
use Rattle.program_model.specs.declared.program.Class.{Class}
use Rattle.program_model.specs.declared.program.Method.{Method}
use Rattle.program_model.specs.declared.program.Program.{Program}
use Rattle.class_defs.specs.ClassGraph.{IsTwice}
use Rattle.class_defs.proofs.Positions.{number_test}
use Rattle.class_defs.proofs.WellFormed.{class_parts}
use Rattle.dalvik_defs.specs.Face.{bodies_of}
use Rattle.dalvik_defs.specs.Find.{defined_method, is_virtual_method, method_in}
use Rattle.dalvik_defs.specs.Initialised.{is_trivial}
use Rattle.dalvik_defs.specs.Names.{Text, is_class_type, method_eq, same_name, signature_eq, text_eq}
use Rattle.dalvik_defs.specs.Naming.{body_of, method_at, named, named_class, named_method, signature_at, text_at, type_at}
use Rattle.dalvik_defs.specs.Outer.{methods_in, outer_of}
use Rattle.dalvik_defs.specs.Silence.{key_in}
use Rattle.dalvik_defs.specs.Under.{class_named, defines}
use Rattle.dalvik_defs.specs.declared.forms.Form.TheVariants as form
use Rattle.dalvik_defs.specs.declared.names.MethodKey.{MethodKey}
use Rattle.dalvik_defs.specs.declared.names.Signature.{Signature}
use Rattle.dalvik_defs.specs.declared.program.NamedBody.{NamedBody}
use Rattle.dalvik_defs.specs.declared.program.NamedClass.{NamedClass}
use Rattle.dalvik_defs.specs.declared.program.NamedMethod.{NamedMethod}
use Rattle.dalvik_defs.proofs.Calm.{text_sound}
use Rattle.name_bridge.proofs.Above.{own_place}
use Rattle.name_bridge.proofs.Flags.{interface_flag, static_flag}
use Rattle.name_bridge.proofs.Found.{text_same as same_text}
use Rattle.name_bridge.proofs.Started.{trivial_by_number}
use Rattle.name_bridge.proofs.Tables.{Sound, below, entry_at, method_is, method_name, method_once, method_proto, proto_parameters, proto_result, text_once, type_once, types_once}
use Rattle.pass_defs.specs.Demands.{is_constructor_name}
use Rattle.pass_defs.specs.Loose.{concerns, is_plain_call, new_signature}
use Rattle.pass_defs.specs.Numbered.{tables_of}
use Rattle.pass_defs.specs.Numbered as numbered
use Rattle.pass_defs.specs.Walks.{form_at}
use Rattle.removal_law.specs.Left.{In}
use Rattle.removal_law.proofs.Declared.{method_sound}
use Rattle.removal_law.proofs.Lists.{and_left, and_behind, clash, contained}
use Rattle.removal_law.proofs.Members.{signature_sound}
use Rattle.removal_law.proofs.Outward.{any_here, any_where}
use Rattle.removal_law.proofs.Trees.{defined}
use Rattle.static_law.specs.Static.{IsApart, MayBeStatic, has_receiver}
use Rattle.removal_bridge.proofs.Listed.{Image, image}
use Rattle.removal_bridge.proofs.Members.{class_known, method_known}
use Rattle.static_law.specs.Candidates.{IsCandidate}
use Rattle.static_law.specs.Edited.{IsOwn}
use Rattle.static_law.proofs.Forms.{not_below}
use Rattle.static_law.proofs.Targets.{key_there}

-- what an entry of a table of methods names
abbrev method_of : Program → Option MethodName → MethodKey
method_of p o = elim o as (λ o. MethodKey) [ Some m ↦ record { class = type_at p m.class; name = text_at p m.name; signature = signature_at p m.proto } | None ↦ record { class = []; name = []; signature = record { parameters = []; result = [] } } ]

abbrev signature_of : Program → Option Proto → Signature
signature_of p o = elim o as (λ o. Signature) [ Some x ↦ record { parameters = map (type_at p) x.parameters; result = type_at p x.result } | None ↦ record { parameters = []; result = [] } ]

module _ (p : Program) (s : Sound p) (twice : (class : ℕ) → IsTwice p class → ⊥) (class_types : (t : Text) → defines (named p) t ≡ true → is_class_type t ≡ true) (o : Outside) (n : ℕ) (x : IsCandidate p o n) where
  abbrev c : Class
  c = x.own.class

  abbrev m : Method
  m = x.own.method

  abbrev k : MethodKey
  k = method_at p n

  key : key_in (named_class p c) (named_method p m) ≡ k
  key = key_there (λ n. None) p s twice x.own.class_place c x.own.is_class x.own.place m x.own.is_method ∙ ap (method_at p) x.own.number

  entry_is : k ≡ record { class = type_at p x.entry.class; name = text_at p x.entry.name; signature = signature_at p x.entry.proto }
  entry_is = method_is p s n x.entry x.is_entry

  class_there : class_named (named p) k.class ≡ Some (named_class p c)
  class_there = ap (λ (y : MethodKey). class_named (named p) y.class) (sym key) ∙ class_known p s twice x.own.class_place c x.own.is_class

  method_there : defined_method (named p) k ≡ Some (named_method p m)
  method_there = ap (λ (y : MethodKey). defined_method (named p) y) (sym key)
      ∙ (ap (λ o. elim o as (λ o. Option NamedMethod) [ Some d ↦ method_in d (named_method p m).name (named_method p m).signature | None ↦ None ]) (class_known p s twice x.own.class_place c x.own.is_class)
      ∙ method_known p s x.own.class_place c x.own.is_class x.own.place m x.own.is_method)

  low : n < length p.methods
  low = by (nat_lt n (length p.methods)) refl
    where
      by : (b : Bool) → nat_lt n (length p.methods) ≡ b → n < length p.methods
      by true e = below n (length p.methods) e
      by false e = none_some x.entry (sym (slice_get_past p.methods n (not_below n (length p.methods) e)) ∙ x.is_entry)

  -- a number that has the name is it
  same_number : (r : ℕ) → method_at p r ≡ k → r ≡ n
  same_number r e = by (nat_lt r (length p.methods)) refl
    where
      by : (b : Bool) → nat_lt r (length p.methods) ≡ b → r ≡ n
      by true l = method_once p s r n (below r (length p.methods) l) low e
      by false l =
          let none : k.class ≡ [] = sym (ap (λ (y : MethodKey). y.class) e) ∙ ap (λ (o : Option MethodName). (method_of p o).class) (slice_get_past p.methods r (not_below r (length p.methods) l)) in
          absurd (true≢false (sym (class_types k.class (defined (named p) k.class (named_class p c) class_there)) ∙ ap is_class_type none))

  free_there : methods_in p o.methods k ≡ false
  free_there = untrue (methods_in p o.methods k) (λ e.
      let r = any_where (λ r. method_eq (method_at p r) k) o.methods e in
      clash (list_any (nat_eq n) o.methods) (any_here (nat_eq n) r.0 o.methods r.1.0 (number_test n r.0 (sym (same_number r.0 (method_sound (method_at p r.0) k r.1.1))))) x.free)

  -- no entry has the name and the new signature
  module _ (other : MethodName) (r : ℕ) (is_other : slice_get p.methods r ≡ Some other) (same : same_name (text_at p other.name) (signature_at p other.proto) k.name (new_signature k) ≡ true) where
    names_same : other.name ≡ x.entry.name
    names_same = text_once p s other.name x.entry.name (method_name p s r other is_other) (method_name p s n x.entry x.is_entry)
        (text_sound (text_at p other.name) k.name (and_left (text_eq (text_at p other.name) k.name) (signature_eq (signature_at p other.proto) (new_signature k)) same) ∙ ap (λ (y : MethodKey). y.name) entry_is)

    signatures_same : signature_at p other.proto ≡ new_signature k
    signatures_same = signature_sound (signature_at p other.proto) (new_signature k) (and_behind (text_eq (text_at p other.name) k.name) (signature_eq (signature_at p other.proto) (new_signature k)) same)

    taken : ⊥
    taken =
        let a = entry_at p.protos other.proto (method_proto p s r other is_other) in
        let b = entry_at p.protos x.entry.proto (method_proto p s n x.entry x.is_entry) in
        let old : k.signature ≡ record { parameters = map (type_at p) b.0.parameters; result = type_at p b.0.result } = ap (λ (y : MethodKey). y.signature) entry_is ∙ ap (signature_of p) b.1 in
        let new : record { parameters = map (type_at p) a.0.parameters; result = type_at p a.0.result } ≡ new_signature k = sym (ap (signature_of p) a.1) ∙ signatures_same in
        let class_is : k.class ≡ type_at p c.name = sym (ap (λ (y : MethodKey). y.class) key) in
        let result = type_once p s a.0.result b.0.result (proto_result p s other.proto a.0 a.1) (proto_result p s x.entry.proto b.0 b.1) (ap (λ (g : Signature). g.result) new ∙ ap (λ (g : Signature). g.result) old) in
        let parameters = types_once p s a.0.parameters (c.name ∷ b.0.parameters) (proto_parameters p s other.proto a.0 a.1)
        (and_from (has_type p c.name) (list_all (has_type p) b.0.parameters) (lt-ltb c.name (length p.types) (class_parts p s x.own.class_place c x.own.is_class).name) (proto_parameters p s x.entry.proto b.0 b.1))
        (ap (λ (g : Signature). g.parameters) new ∙ (ap (λ (t : Text). t ∷ k.signature.parameters) class_is ∙ ap (λ (g : Signature). type_at p c.name ∷ g.parameters) old)) in
        x.new r other a.0 b.0 is_other names_same a.1 b.1 result parameters

  new_there : list_any (λ t. same_name t.name t.signature k.name (new_signature k)) (tables_of p).methods ≡ false
  new_there = untrue (list_any (λ t. same_name t.name t.signature k.name (new_signature k)) (tables_of p).methods) (λ e.
      let r = any_where (λ t. same_name t.name t.signature k.name (new_signature k)) (tables_of p).methods e in
      let y = image (numbered.method_of p) p.methods r.0 (contained r.0 (tables_of p).methods r.1.0) in
      taken y.entry y.place y.is_entry (subst (λ (z : MethodKey). same_name z.name z.signature k.name (new_signature k) ≡ true) (sym y.is) r.1.1))

  pub candidate_static : (is_virtual_method (named_method p m) ≡ true → IsApart (named p) k)
      → ((caller : MethodKey) (b : NamedBody) (i : ℕ) (kind : InvokeKind) (called : MethodKey) (args : List ℕ) → bodies_of (named p) caller ≡ Some b → form_at b i ≡ Some (form.Invoke kind called args)
      → concerns (named p) k caller.class kind called ≡ true → (has_receiver kind args ≡ true) × (is_plain_call (named p) k caller.class kind called ≡ true))
      → MayBeStatic (named p) (outer_of p o) (tables_of p).methods k
  candidate_static apart calls = record {
    class = named_class p c;
    method = named_method p m;
    named = class_there;
    defined = method_there;
    coded = mapped_some (body_of p) m.body ∙ x.coded;
    receiver = sym (static_flag m.flags) ∙ x.receiver;
    plain = ap (λ (y : MethodKey). is_constructor_name y.name) entry_is ∙ (ap is_constructor_name (same_text p x.entry.name) ∙ x.plain);
    free = free_there;
    in_class = sym (interface_flag c.flags) ∙ x.in_class;
    trivial = ap (λ (y : MethodKey). is_trivial (named p) y.class) (sym key) ∙ (trivial_by_number p s twice c.name x.own.class_place (class_parts p s x.own.class_place c x.own.is_class).name (own_place p twice x.own.class_place c x.own.is_class) ∙ x.trivial);
    apart = apart;
    calls = calls;
    new = new_there;
  }
