-- What numbers name in the tables with what is appended: what they named, but for methods that are made static, which have their
-- class in front of their parameters.
use Rattle.std.proofs.Common.{◌≡◌, ℕ, ◌<◌, ◌≤◌, inl, inr, Bool, true, false, true≢false, List, [], ◌∷◌, length, map, refl, sym, ap, ◌∙◌, subst}
use std.Path.{fun_ext}
use Rattle.std.specs.Prelude.{◌&&◌, Option, Some, None, slice_get, is_some, nat_lt, if◌then◌else◌}
use Rattle.std.specs.Option.{option_map}
use Rattle.std.proofs.lemmas.Bool.{cases_lt}
use Rattle.std.proofs.lemmas.Option.{slice_get_past}
use Rattle.program_model.specs.declared.pools.FieldName.{FieldName}
use Rattle.program_model.specs.declared.pools.MethodName.{MethodName}
use Rattle.program_model.specs.declared.pools.Proto.{Proto}
use Rattle.program_model.specs.declared.program.Program.{Program}
use Rattle.class_defs.proofs.Positions.{both}
use Rattle.class_defs.proofs.WellFormed.{and_left, and_right}
use Rattle.dalvik_defs.specs.Names.{Text, method_eq}
use Rattle.dalvik_defs.specs.Naming.{text_at, type_at, signature_at, field_at, method_at}
use Rattle.dalvik_defs.specs.declared.names.FieldKey.{FieldKey}
use Rattle.dalvik_defs.specs.declared.names.MethodKey.{MethodKey}
use Rattle.dalvik_defs.specs.declared.names.Signature.{Signature}
use Rattle.name_bridge.proofs.Tables.{Sound, entry_at, type_string, field_name, method_is, method_once, method_name, method_proto}
use Rattle.pass_defs.specs.Loose.{new_key, new_signature}
use Rattle.removal_law.proofs.Declared.{method_sound, method_same}
use Rattle.removal_law.proofs.Lists.{clash}
use Rattle.static_law.specs.Edited.{IsEdited, IsNewProto, IsPlanned, any_below, loose_in, name_edited}
use Rattle.static_law.proofs.Numbers.{any_has, any_from}

-- what an entry of a table names
abbrev signature_of : Program → Option Proto → Signature
signature_of p o = elim o as (λ o. Signature) [ Some x ↦ record { parameters = map (type_at p) x.parameters; result = type_at p x.result } | None ↦ record { parameters = []; result = [] } ]

abbrev method_of : Program → Option MethodName → MethodKey
method_of p o = elim o as (λ o. MethodKey) [ Some m ↦ record { class = type_at p m.class; name = text_at p m.name; signature = signature_at p m.proto } | None ↦ record { class = []; name = []; signature = record { parameters = []; result = [] } } ]

abbrev field_of : Program → Option FieldName → FieldKey
field_of p o = elim o as (λ o. FieldKey) [ Some f ↦ record { class = type_at p f.class; name = text_at p f.name; kind = type_at p f.kind } | None ↦ record { class = []; name = []; kind = [] } ]

abbrev key_by : Text → Text → Signature → MethodKey
key_by t n g = record { class = t; name = n; signature = g }

abbrev signature_by : List Text → Text → Signature
signature_by ts t = record { parameters = ts; result = t }

abbrev field_by : Text → Text → Text → FieldKey
field_by t n k = record { class = t; name = n; kind = k }

module _ (given target : ℕ → Option ℕ) (p q : Program) (s : Sound p) (edited : IsEdited given target p q) where
  pub text_same : (n : ℕ) → n < length p.strings → text_at q n ≡ text_at p n
  text_same n low = let i = entry_at p.strings n low in
      ap (λ (o : Option Text). elim o as (λ o. Text) [ Some t ↦ t | None ↦ [] ]) (edited.strings n i.0 i.1 ∙ sym i.1)

  pub type_same : (n : ℕ) → type_at q n ≡ type_at p n
  type_same n = ap (λ (ts : List ℕ). elim (slice_get ts n) as (λ o. Text) [ Some t ↦ text_at q t | None ↦ [] ]) edited.types ∙ by (slice_get p.types n) refl
    where
      by : (o : Option ℕ) → slice_get p.types n ≡ o → elim o as (λ o. Text) [ Some t ↦ text_at q t | None ↦ [] ] ≡ elim o as (λ o. Text) [ Some t ↦ text_at p t | None ↦ [] ]
      by None e = refl
      by (Some t) e = text_same t (type_string p s n t e)

  pub types_same : (ns : List ℕ) → map (type_at q) ns ≡ map (type_at p) ns
  types_same ns = ap (λ (f : ℕ → Text). map f ns) (fun_ext type_same)

  pub signature_same : (n : ℕ) → n < length p.protos → signature_at q n ≡ signature_at p n
  signature_same n low = let i = entry_at p.protos n low in
      ap (signature_of q) (edited.protos n i.0 i.1)
      ∙ (ap (λ (f : ℕ → Text). signature_by (map f i.0.parameters) (f i.0.result)) (fun_ext type_same) ∙ sym (ap (signature_of p) i.1))

  pub field_same : (n : ℕ) → field_at q n ≡ field_at p n
  field_same n = ap (λ (fs : List FieldName). field_of q (slice_get fs n)) edited.fields ∙ by (slice_get p.fields n) refl
    where
      by : (o : Option FieldName) → slice_get p.fields n ≡ o → field_of q o ≡ field_of p o
      by None e = refl
      by (Some f) e = ap (λ (t : ℕ → Text). field_by (t f.class) (text_at q f.name) (t f.kind)) (fun_ext type_same)
          ∙ ap (λ (u : Text). field_by (type_at p f.class) u (type_at p f.kind)) (text_same f.name (field_name p s n f e))

  -- ---- methods

  -- a method's name, and its new one where it is made static
  abbrev pub key_edited : ℕ → MethodKey
  key_edited n = if is_some (given n) then new_key (method_at p n) else method_at p n

  entry_same : (n : ℕ) (m : MethodName) → slice_get p.methods n ≡ Some m → method_of q (option_map (name_edited given target n) (Some m)) ≡ key_edited n
  entry_same n m e = by (given n) refl
    where
      low : m.proto < length p.protos
      low = method_proto p s n m e

      by : (o : Option ℕ) → given n ≡ o → method_of q (Some (elim o as (λ o. MethodName) [ Some k ↦ record m { proto = k } | None ↦ m ])) ≡ (if is_some o then new_key (method_at p n) else method_at p n)
      by None g = ap (λ (t : ℕ → Text). key_by (t m.class) (text_at q m.name) (signature_at q m.proto)) (fun_ext type_same)
          ∙ (ap (λ (u : Text). key_by (type_at p m.class) u (signature_at q m.proto)) (text_same m.name (method_name p s n m e))
          ∙ (ap (λ (g : Signature). key_by (type_at p m.class) (text_at p m.name) g) (signature_same m.proto low) ∙ sym (method_is p s n m e)))
      by (Some k) g =
          let x = entry_at p.protos m.proto low in
          let new = edited.new n k m x.0 g e x.1 in
          let signature : signature_at q k ≡ signature_by (type_at p m.class ∷ map (type_at p) x.0.parameters) (type_at p x.0.result) =
          ap (signature_of q) new.there
          ∙ (ap (λ (f : ℕ → Text). signature_by (map f new.proto.parameters) (f new.proto.result)) (fun_ext type_same)
          ∙ (ap (λ (ns : List ℕ). signature_by (map (type_at p) ns) (type_at p new.proto.result)) new.parameters
          ∙ ap (λ (r : ℕ). signature_by (type_at p m.class ∷ map (type_at p) x.0.parameters) (type_at p r)) new.result)) in
          let old : signature_at p m.proto ≡ signature_by (map (type_at p) x.0.parameters) (type_at p x.0.result) = ap (signature_of p) x.1 in
          ap (λ (t : ℕ → Text). key_by (t m.class) (text_at q m.name) (signature_at q k)) (fun_ext type_same)
          ∙ (ap (λ (u : Text). key_by (type_at p m.class) u (signature_at q k)) (text_same m.name (method_name p s n m e))
          ∙ (ap (λ (g : Signature). key_by (type_at p m.class) (text_at p m.name) g) signature
          ∙ (sym (ap (λ (g : Signature). key_by (type_at p m.class) (text_at p m.name) (signature_by (type_at p m.class ∷ g.parameters) g.result)) old)
          ∙ sym (ap new_key (method_is p s n m e)))))

  -- what a method number names
  pub method_same_at : (inside : (n k : ℕ) → given n ≡ Some k → slice_get p.methods n ≡ None → ⊥) (n : ℕ) → method_at q n ≡ key_edited n
  method_same_at inside n = ap (method_of q) (edited.methods n) ∙ by (slice_get p.methods n) refl
    where
      by : (o : Option MethodName) → slice_get p.methods n ≡ o → method_of q (option_map (name_edited given target n) o) ≡ key_edited n
      by (Some m) e = entry_same n m e
      by None e = on (given n) refl
        where
          on : (o : Option ℕ) → given n ≡ o → method_of q None ≡ (if is_some o then new_key (method_at p n) else method_at p n)
          on None g = sym (ap (method_of p) e)
          on (Some k) g = absurd (inside n k g e)

-- ---- which methods are made static, by name

module _ (given : ℕ → Option ℕ) (p : Program) (s : Sound p) where
  -- a number of the table is made static where its name is
  pub loose_number : (n : ℕ) → n < length p.methods → loose_in p given (method_at p n) ≡ is_some (given n)
  loose_number n low = by (is_some (given n)) refl (loose_in p given (method_at p n)) refl
    where
      test : ℕ → Bool
      test k = is_some (given k) && method_eq (method_at p k) (method_at p n)

      by : (b : Bool) → is_some (given n) ≡ b → (a : Bool) → loose_in p given (method_at p n) ≡ a → a ≡ b
      by true e true i = refl
      by false e false i = refl
      by true e false i = clash (loose_in p given (method_at p n)) (any_has (length p.methods) test n low (both (is_some (given n)) (method_eq (method_at p n) (method_at p n)) e (method_same (method_at p n)))) i
      by false e true i =
          let r = any_from (length p.methods) test i in
          let same = method_once p s r.0 n r.1.0 low (method_sound (method_at p r.0) (method_at p n) (and_right (is_some (given r.0)) (method_eq (method_at p r.0) (method_at p n)) r.1.1)) in
          sym (sym (ap (λ k. is_some (given k)) same ∙ e) ∙ and_left (is_some (given r.0)) (method_eq (method_at p r.0) (method_at p n)) r.1.1)

  -- a name that is made static is that of such a number
  pub loose_from : (k : MethodKey) → loose_in p given k ≡ true → (n : ℕ) × ((n < length p.methods) × ((is_some (given n) ≡ true) × (method_at p n ≡ k)))
  loose_from k e = let r = any_from (length p.methods) (λ n. is_some (given n) && method_eq (method_at p n) k) e in
      (r.0, (r.1.0, (and_left (is_some (given r.0)) (method_eq (method_at p r.0) k) r.1.1, method_sound (method_at p r.0) k (and_right (is_some (given r.0)) (method_eq (method_at p r.0) k) r.1.1))))
