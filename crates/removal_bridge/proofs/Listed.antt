-- Entries of lists, and the tests that a well-formed class passes.
use Rattle.std.proofs.Common.{◌≡◌, ℕ, zero, suc, ◌<◌, Bool, true, false, true≢false, List, [], ◌∷◌, Some, None, refl, sym, ap, ◌∙◌, subst, arith}
use Rattle.std.specs.Prelude.{◌&&◌, not, map, find, slice_get, if◌then◌else◌, Contains}
use Rattle.std.specs.List.{list_all}
use Rattle.program_model.specs.Distinct.{all_differ, own_field_key, own_method_key}
use Rattle.program_model.specs.MemberRules as rules
use Rattle.program_model.specs.MemberRules.{class_fits, types_of_class_fit, source_fits, field_fits, fields_fit, fields_in_order, method_fits, methods_fit, methods_in_order, is_object}
use Rattle.program_model.specs.Neighbours.{neighbours}
use Rattle.program_model.specs.Texts.{has_type, type_text, first_unit, letter_of, is_class}
use Rattle.program_model.specs.ValueRules.{marks_fit}
use Rattle.program_model.specs.declared.program.Class.{Class}
use Rattle.program_model.specs.declared.program.Field.{Field}
use Rattle.program_model.specs.declared.program.Method.{Method}
use Rattle.program_model.specs.declared.program.Program.{Program}
use Rattle.class_defs.proofs.WellFormed.{and_left, and_right, all_at, Sound}
use Rattle.dalvik_defs.specs.Names.{Text, is_class_type}
use Rattle.dalvik_defs.specs.Naming.{type_at}
use Rattle.name_bridge.proofs.Found.{type_same}

-- ---- lists

-- an entry of a list of images
pub record Image {A B : Type 0} (f : A → B) (xs : List A) (y : B) : Type 0 where
  pub place : ℕ
  pub entry : A
  pub is_entry : slice_get xs place ≡ Some entry
  pub is : f entry ≡ y

pub image : {A B : Type 0} (f : A → B) (xs : List A) (y : B) → Contains (map f xs) y → Image f xs y
image f [] y h = let l : h.0 < 0 = h.1 in absurd (omega (arith, l))
image f (x ∷ xs) y (zero, l, e) = record { place = 0; entry = x; is_entry = refl; is = e }
image f (x ∷ xs) y (suc n, l, e) = let r = image f xs y (n, omega (arith, l), e) in record { place = suc r.place; entry = r.entry; is_entry = r.is_entry; is = r.is }

pub some_same : {A : Type 0} (x y : A) → Some x ≡ Some y → x ≡ y
some_same x y e = ap (λ o. elim o [ Some z ↦ z | None ↦ x ]) e

pub none_same : {A B : Type 0} (x : A) → None ≡ Some x → B
none_same x e = absurd (true≢false (ap (λ o. elim o as (λ o. Bool) [ Some z ↦ false | None ↦ true ]) e))

-- the entry that alone passes a test is the first that does
pub find_alone : {A : Type 0} (t : A → Bool) (xs : List A) (i : ℕ) (x : A) → slice_get xs i ≡ Some x → t x ≡ true → ((j : ℕ) (y : A) → slice_get xs j ≡ Some y → t y ≡ true → y ≡ x) → find t xs ≡ Some x
find_alone t [] i x e h alone = none_same x e
find_alone t (y ∷ ys) zero x e h alone = ap (λ b. if b then Some y else find t ys) (subst (λ z. t z ≡ true) (sym (some_same y x e)) h) ∙ e
find_alone t (y ∷ ys) (suc i) x e h alone = by (t y) refl (find_alone t ys i x e h (λ j z. alone (suc j) z))
  where
    by : (b : Bool) → t y ≡ b → find t ys ≡ Some x → (if b then Some y else find t ys) ≡ Some x
    by true k more = ap Some (alone 0 y refl k)
    by false k more = more

-- ---- a well-formed class

module _ (p : Program) (s : Sound p) (i : ℕ) (c : Class) (e : slice_get p.classes i ≡ Some c) where
  fits : class_fits p c ≡ true
  fits = all_at (class_fits p) p.classes i c s.classes_fit e

  abbrev heads : Bool
  heads = types_of_class_fit p c && (source_fits p c.source && marks_fit p c.marks)

  types_fit : types_of_class_fit p c ≡ true
  unfolding class_fits
  types_fit = and_left (types_of_class_fit p c) (source_fits p c.source && marks_fit p c.marks) (and_left heads (fields_fit p c.name c.fields && methods_fit p c.name c.methods) fits)

  all_fields_fit : fields_fit p c.name c.fields ≡ true
  unfolding class_fits
  all_fields_fit = and_left (fields_fit p c.name c.fields) (methods_fit p c.name c.methods) (and_right heads (fields_fit p c.name c.fields && methods_fit p c.name c.methods) fits)

  all_methods_fit : methods_fit p c.name c.methods ≡ true
  unfolding class_fits
  all_methods_fit = and_right (fields_fit p c.name c.fields) (methods_fit p c.name c.methods) (and_right heads (fields_fit p c.name c.fields && methods_fit p c.name c.methods) fits)

  pub field_fits_at : (j : ℕ) (x : Field) → slice_get c.fields j ≡ Some x → field_fits p c.name x ≡ true
  unfolding fields_fit
  field_fits_at j x h = all_at (field_fits p c.name) c.fields j x (and_left (list_all (field_fits p c.name) c.fields) (list_all fields_in_order (neighbours c.fields) && all_differ own_field_key c.fields) all_fields_fit) h

  pub method_fits_at : (j : ℕ) (m : Method) → slice_get c.methods j ≡ Some m → method_fits p c.name m ≡ true
  unfolding methods_fit
  method_fits_at j m h = all_at (method_fits p c.name) c.methods j m (and_left (list_all (method_fits p c.name) c.methods) (list_all (methods_in_order p) (neighbours c.methods) && all_differ own_method_key c.methods) all_methods_fit) h

  pub methods_differ : all_differ own_method_key c.methods ≡ true
  unfolding methods_fit
  methods_differ = and_right (list_all (methods_in_order p) (neighbours c.methods)) (all_differ own_method_key c.methods)
      (and_right (list_all (method_fits p c.name) c.methods) (list_all (methods_in_order p) (neighbours c.methods) && all_differ own_method_key c.methods) all_methods_fit)

  letter : is_class (letter_of p c.name) ≡ true
  unfolding types_of_class_fit
  letter = and_right (has_type p c.name) (is_class (letter_of p c.name))
      (and_left (rules.is_class_type p c.name) (not (is_object (type_text p c.name)))
      (and_left (rules.is_class_type p c.name && not (is_object (type_text p c.name))) (rules.is_class_type p c.superclass && list_all (rules.is_class_type p) c.interfaces) types_fit))

  first_letter : is_class (first_unit (type_at p c.name)) ≡ true
  unfolding letter_of
  first_letter = ap (λ t. is_class (first_unit t)) (type_same p c.name) ∙ letter

  -- its name is a class type
  pub name_fits : is_class_type (type_at p c.name) ≡ true
  name_fits = by (type_at p c.name) first_letter
    where
      by : (t : Text) → is_class (first_unit t) ≡ true → is_class_type t ≡ true
      by [] h = absurd (true≢false (sym h))
      by (u ∷ us) h = h
