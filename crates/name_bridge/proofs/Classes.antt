-- Classes and members by number are those by name.
use Rattle.std.proofs.Common.{◌≡◌, ℕ, ◌<◌, true, true≢false, nat_eq, List, [], ◌∷◌, length, Option, Some, None, refl, sym, ap, ◌∙◌}
use Rattle.std.specs.Prelude.{◌&&◌, not, slice_get, find, option_and_then}
use Rattle.std.specs.List.{list_all}
use Rattle.std.specs.Option.{option_map}
use Rattle.std.specs.Cmp.Lexicographic.{pointwise_decides, bytes_decides}
use Rattle.program_model.specs.declared.pools.FieldName.{FieldName}
use Rattle.program_model.specs.declared.pools.MethodName.{MethodName}
use Rattle.program_model.specs.declared.program.Field.{Field}
use Rattle.program_model.specs.declared.program.Method.{Method}
use Rattle.program_model.specs.declared.program.Class.{Class}
use Rattle.program_model.specs.declared.program.Program.{Program}
use Rattle.program_model.specs.Lookups.{class_place}
use Rattle.program_model.specs.Neighbours.{neighbours}
use Rattle.program_model.specs.Distinct.{own_field_key, own_method_key, all_differ}
use Rattle.program_model.specs.Texts.{has_type, is_class, letter_of, type_text}
use Rattle.program_model.specs.ValueRules.{marks_fit}
use Rattle.program_model.specs.MemberRules.{is_class_type, is_object, types_of_class_fit, source_fits, fields_fit, methods_fit, class_fits, field_fits, method_fits, is_class_number, class_of_field, class_of_method, first_value_fits, code_fits, fields_in_order, methods_in_order}
use Rattle.class_defs.specs.Members.{names_method, is_method, names_field, is_field}
use Rattle.dalvik_defs.specs.Names.{text_eq, texts_eq, signature_eq, same_name}
use Rattle.dalvik_defs.specs.Naming.{text_at, type_at, signature_at, named_field, named_method, named_class, named}
use Rattle.dalvik_defs.specs.Under.{class_named}
use Rattle.dalvik_defs.specs.Find.{method_in, field_in}
use Rattle.dalvik_defs.specs.declared.names.Signature.{Signature}
pub use Rattle.class_defs.proofs.WellFormed.{FieldFits, MethodFits, ClassFits, class_parts}
use Rattle.name_bridge.specs.Named.{class_at}
use Rattle.name_bridge.proofs.Tables.{and_left, and_right, all_at, below, Sound, text_once, type_once, signature_once, method_is, field_is, method_name, method_proto, field_name, field_kind}
use Rattle.name_bridge.proofs.Lists.{same_test, both, number_test, number_of, find_place, find_named}

module _ (p : Program) (s : Sound p) where
  -- ---- tests of names are tests of numbers

  pub text_test : (i j : ℕ) → i < length p.strings → j < length p.strings → text_eq (text_at p i) (text_at p j) ≡ nat_eq i j
  text_test i j hi hj = same_test _ _ (λ h. number_test i j (text_once p s i j hi hj ((bytes_decides _ _).0 h))) (λ h. (bytes_decides _ _).1 (ap (text_at p) (number_of i j h)))

  pub type_test : (i j : ℕ) → i < length p.types → j < length p.types → text_eq (type_at p i) (type_at p j) ≡ nat_eq i j
  type_test i j hi hj = same_test _ _ (λ h. number_test i j (type_once p s i j hi hj ((bytes_decides _ _).0 h))) (λ h. (bytes_decides _ _).1 (ap (type_at p) (number_of i j h)))

  signatures_decide : (a b : Signature) → signature_eq a b ≡ true → a ≡ b
  signatures_decide a b h =
      let r = (bytes_decides a.result b.result).0 (and_left (text_eq a.result b.result) (texts_eq a.parameters b.parameters) h) in
      let q = (pointwise_decides {E = text_eq} bytes_decides a.parameters b.parameters).0 (and_right (text_eq a.result b.result) (texts_eq a.parameters b.parameters) h) in
      λ i. record { parameters = q i; result = r i }

  signature_self : (a b : Signature) → a ≡ b → signature_eq a b ≡ true
  signature_self a b e = both (text_eq a.result b.result) (texts_eq a.parameters b.parameters)
      ((bytes_decides a.result b.result).1 (ap (λ x. x.result) e)) ((pointwise_decides {E = text_eq} bytes_decides a.parameters b.parameters).1 (ap (λ x. x.parameters) e))

  pub signature_test : (i j : ℕ) → i < length p.protos → j < length p.protos → signature_eq (signature_at p i) (signature_at p j) ≡ nat_eq i j
  signature_test i j hi hj = same_test _ _ (λ h. number_test i j (signature_once p s i j hi hj (signatures_decide _ _ h))) (λ h. signature_self _ _ (ap (signature_at p) (number_of i j h)))

  -- ---- classes

  -- the class of a type
  pub class_by_number : (k : ℕ) → k < length p.types → class_named (named p) (type_at p k) ≡ option_and_then (class_at p) (class_place p k)
  class_by_number k h =
      find_named (λ c. text_eq c.name (type_at p k)) (λ c. nat_eq c.name k) (named_class p) p.classes (λ i c e. type_test c.name k (class_parts p s i c e).name h)
      ∙ ap (option_map (named_class p)) (find_place (λ c. nat_eq c.name k) p.classes)
      ∙ through (class_place p k)
    where
      through : (o : Option ℕ) → option_map (named_class p) (option_and_then (slice_get p.classes) o) ≡ option_and_then (class_at p) o
      through None = refl
      through (Some c) = refl

  -- ---- members of a class

  method_test : (c : Class) (n q : ℕ) → n < length p.strings → q < length p.protos → (m : Method) → MethodFits p c.name m
      → same_name (named_method p m).name (named_method p m).signature (text_at p n) (signature_at p q) ≡ is_method p n q m
  method_test c n q hn hq m f =
      let is = method_is p s m.name f.entry f.is in
      ap (λ k. same_name k.name k.signature (text_at p n) (signature_at p q)) is
      ∙ ap (λ b. b && signature_eq (signature_at p f.entry.proto) (signature_at p q)) (text_test f.entry.name n (method_name p s m.name f.entry f.is) hn)
      ∙ ap (λ b. nat_eq f.entry.name n && b) (signature_test f.entry.proto q (method_proto p s m.name f.entry f.is) hq)
      ∙ sym (ap (names_method n q) f.is)

  -- the method of a name and a proto in a class
  pub method_by_number : (i : ℕ) (c : Class) (n q : ℕ) → slice_get p.classes i ≡ Some c → n < length p.strings → q < length p.protos
      → method_in (named_class p c) (text_at p n) (signature_at p q) ≡ option_map (named_method p) (find (is_method p n q) c.methods)
  method_by_number i c n q e hn hq =
      find_named (λ m. same_name m.name m.signature (text_at p n) (signature_at p q)) (is_method p n q) (named_method p) c.methods
      (λ j m f. method_test c n q hn hq m ((class_parts p s i c e).methods j m f))

  field_test : (c : Class) (n k : ℕ) → n < length p.strings → k < length p.types → (f : Field) → FieldFits p c.name f
      → (text_eq (named_field p f).name (text_at p n) && text_eq (named_field p f).kind (type_at p k)) ≡ is_field p n k f
  field_test c n k hn hk f g =
      let is = field_is p s f.name g.entry g.is in
      ap (λ x. text_eq x.name (text_at p n) && text_eq x.kind (type_at p k)) is
      ∙ ap (λ b. b && text_eq (type_at p g.entry.kind) (type_at p k)) (text_test g.entry.name n (field_name p s f.name g.entry g.is) hn)
      ∙ ap (λ b. nat_eq g.entry.name n && b) (type_test g.entry.kind k (field_kind p s f.name g.entry g.is) hk)
      ∙ sym (ap (names_field n k) g.is)

  -- the field of a name and a type in a class
  pub field_by_number : (i : ℕ) (c : Class) (n k : ℕ) → slice_get p.classes i ≡ Some c → n < length p.strings → k < length p.types
      → field_in (named_class p c) (text_at p n) (type_at p k) ≡ option_map (named_field p) (find (is_field p n k) c.fields)
  field_by_number i c n k e hn hk =
      find_named (λ f. text_eq f.name (text_at p n) && text_eq f.kind (type_at p k)) (is_field p n k) (named_field p) c.fields
      (λ j f g. field_test c n k hn hk f ((class_parts p s i c e).fields j f g))
