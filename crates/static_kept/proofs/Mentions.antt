-- No annotation of a class names a method that no annotation or first value of the program names.
use Rattle.std.proofs.Common.{◌≡◌, ℕ, zero, suc, Bool, true, false, List, [], ◌∷◌, ◌++◌, map, Option, Some, None, refl, sym, ap, ◌∙◌, subst}
use Rattle.std.specs.Prelude.{flat_map, is_some, slice_get, Contains}
use Rattle.program_model.specs.MemberRules.{is_static}
use Rattle.program_model.specs.declared.program.Class.{Class}
use Rattle.program_model.specs.declared.program.Field.{Field}
use Rattle.program_model.specs.declared.program.Method.{Method}
use Rattle.program_model.specs.declared.value.Element.{Element, fold-Element, fold_out-Element}
use Rattle.program_model.specs.declared.value.EncValue.{EncValue, EncValue-F, out-EncValue, fold-EncValue, fold_out-EncValue}
use Rattle.program_model.specs.declared.value.EncValue.TheFolds as folds
use Rattle.program_model.specs.declared.value.EncValue.TheOpen as layer
use Rattle.program_model.specs.declared.value.Mark.{Mark}
use Rattle.program_model.specs.declared.value.Note.{Note, out-Note, fold-Note, fold_out-Note}
use Rattle.run_laws.specs.Holds.{Each}
use Rattle.removal_law.specs.Left.{In, here, there}
use Rattle.static_law.specs.Edited.{LetsClass, layer_names, marks_name, note_names, value_names}
use Rattle.static_law.proofs.Programs.{in_from}
use Rattle.loose_methods.specs.Mentioned.{class_methods, field_methods, first_methods, joined, mark_methods, marks_methods, method_methods, methods_of_element, methods_of_layer, methods_of_note, note_methods}

module _ (P : ℕ → Type 0) where
  -- ---- lists put together

  pub each_in_all : (xs : List ℕ) → ((x : ℕ) → In x xs → P x) → Each P xs
  each_in_all [] h = tt
  each_in_all (x ∷ xs) h = (h x (here xs), each_in_all xs (λ y i. h y (there x xs i)))

  each_left : (xs ys : List ℕ) → Each P (xs ++ ys) → Each P xs
  each_left [] ys h = tt
  each_left (x ∷ xs) ys h = (h.0, each_left xs ys h.1)

  each_right : (xs ys : List ℕ) → Each P (xs ++ ys) → Each P ys
  each_right [] ys h = h
  each_right (x ∷ xs) ys h = each_right xs ys h.1

  pub each_in : {A : Type 0} (f : A → List ℕ) (x : A) (xs : List A) → In x xs → Each P (flat_map f xs) → Each P (f x)
  each_in f x [] i h = elim i [ ]
  each_in f x (y ∷ xs) (here ys) h = each_left (f x) (flat_map f ys) h
  each_in f x (y ∷ xs) (there z ys i) h = each_in f x ys i (each_right (f z) (flat_map f ys) h)

  each_of : {A : Type 0} (f : A → List ℕ) (Q : A → Type 0) → ((x : A) → Each P (f x) → Q x) → (xs : List A) → Each P (flat_map f xs) → Each Q xs
  each_of f Q h [] e = tt
  each_of f Q h (x ∷ xs) e = (h x (each_left (f x) (flat_map f xs) e), each_of f Q h xs (each_right (f x) (flat_map f xs) e))

  each_joined : {A : Type 0} (f : A → List ℕ) (Q : A → Type 0) → ((x : A) → Each P (f x) → Q x) → (xs : List A) → Each P (joined (map f xs)) → Each Q xs
  unfolding joined
  each_joined f Q h [] e = tt
  each_joined f Q h (x ∷ xs) e = (h x (each_left (f x) (joined (map f xs)) e), each_joined f Q h xs (each_right (f x) (joined (map f xs)) e))

  -- ---- values and annotations

  abbrev value_list : EncValue → List ℕ
  value_list v = fold-EncValue (List ℕ) (List ℕ) (List ℕ) methods_of_layer methods_of_element methods_of_note v

  abbrev element_list : Element → List ℕ
  element_list e = fold-Element (List ℕ) (List ℕ) (List ℕ) methods_of_layer methods_of_element methods_of_note e

  abbrev note_list : Note → List ℕ
  note_list n = fold-Note (List ℕ) (List ℕ) (List ℕ) methods_of_layer methods_of_element methods_of_note n

  note_named : (inner : EncValue → Type 0) → ((v : EncValue) → Each P (value_list v) → inner v) → (n : Note) → Each P (note_list n) → Each (λ (e : Element). inner e.value) (out-Note n).elements
  note_named inner h n e =
      each_joined element_list (λ (x : Element). inner x.value) (λ x i. h x.value (subst (Each P) (fold_out-Element (List ℕ) (List ℕ) (List ℕ) methods_of_layer methods_of_element methods_of_note x) i)) (out-Note n).elements
      (subst (Each P) (fold_out-Note (List ℕ) (List ℕ) (List ℕ) methods_of_layer methods_of_element methods_of_note n) e)

  layer_named : (inner : EncValue → Type 0) → ((v : EncValue) → Each P (value_list v) → inner v) → (x : EncValue-F EncValue Element Note)
      → Each P (methods_of_layer (folds.map-EncValue EncValue Element Note (List ℕ) (List ℕ) (List ℕ) value_list element_list note_list x)) → layer_names inner P x
  layer_named inner h (layer.Method n) e = e.0
  layer_named inner h (layer.Array values) e = each_joined value_list inner h values e
  layer_named inner h (layer.Annotation note) e = note_named inner h note e
  layer_named inner h x e = tt

  value_named : (depth : ℕ) (v : EncValue) → Each P (value_list v) → value_names P depth v
  value_named zero v e = tt
  value_named (suc depth) v e = layer_named (value_names P depth) (value_named depth) (out-EncValue v)
      (subst (Each P) (fold_out-EncValue (List ℕ) (List ℕ) (List ℕ) methods_of_layer methods_of_element methods_of_note v) e)

  note_of : (n : Note) → Each P (note_methods n) → note_names P n
  unfolding note_methods
  note_of n e = note_named (value_names P 64) (value_named 64) n e

  marks_of : (ms : List Mark) → Each P (marks_methods ms) → marks_name P ms
  marks_of ms e = each_of mark_methods (λ (m : Mark). note_names P m.note) (λ m h. note_of m.note h) ms e

  -- ---- classes

  module _ (c : Class) (e : Each P (class_methods c)) where
    in_front : Each P (marks_methods c.marks ++ flat_map field_methods c.fields)
    in_front = each_left (marks_methods c.marks ++ flat_map field_methods c.fields) (flat_map method_methods c.methods) e

    pub class_marks : marks_name P c.marks
    class_marks = marks_of c.marks (each_left (marks_methods c.marks) (flat_map field_methods c.fields) in_front)

    pub field_marks : (f : Field) → Contains c.fields f → marks_name P f.marks
    field_marks f i = marks_of f.marks (each_left (marks_methods f.marks) (first_methods f.first)
        (each_in field_methods f c.fields (in_from c.fields f i) (each_right (marks_methods c.marks) (flat_map field_methods c.fields) in_front)))

    of_method : (m : Method) → Contains c.methods m → Each P (method_methods m)
    of_method m i = each_in method_methods m c.methods (in_from c.methods m i) (each_right (marks_methods c.marks ++ flat_map field_methods c.fields) (flat_map method_methods c.methods) e)

    pub method_marks : (m : Method) → Contains c.methods m → (marks_name P m.marks) × (Each (marks_name P) m.parameter_marks)
    method_marks m i = (
      marks_of m.marks (each_left (marks_methods m.marks) (flat_map marks_methods m.parameter_marks) (of_method m i)),
      each_of marks_methods (marks_name P) marks_of m.parameter_marks (each_right (marks_methods m.marks) (flat_map marks_methods m.parameter_marks) (of_method m i)),
    )
