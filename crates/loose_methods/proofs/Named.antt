-- The methods that a value names, by the values in it.
use Rattle.std.proofs.Common.{◌≡◌, ℕ, List, [], ◌∷◌, ◌++◌, map, refl, sym, ap, ◌∙◌}
use Rattle.std.specs.List.{flat_map}
use Rattle.program_model.specs.declared.value.EncValue.{EncValue, fold-roll-EncValue}
use Rattle.program_model.specs.declared.value.EncValue.TheVariants as variant
use Rattle.program_model.specs.declared.value.EncValue.TheOpen as layer
use Rattle.program_model.specs.declared.value.Note.{Note, out-Note, fold_out-Note}
use Rattle.program_model.specs.declared.value.Element.{Element, fold_out-Element}
use Rattle.loose_methods.specs.Mentioned.{joined, methods_of_layer, methods_of_element, methods_of_note, value_methods, element_methods, note_methods}

joined_map : {X : Type 0} (f : X → List ℕ) (xs : List X) → joined (map f xs) ≡ flat_map f xs
unfolding joined
joined_map f [] = refl
joined_map f (x ∷ xs) = ap (λ (ys : List ℕ). f x ++ ys) (joined_map f xs)

pub array_methods : (xs : List EncValue) → value_methods (variant.Array xs) ≡ flat_map value_methods xs
unfolding value_methods
array_methods xs =
    ap (λ (v : EncValue). value_methods v) (sym (variant.rolls-Array xs))
    ∙ fold-roll-EncValue (List ℕ) (List ℕ) (List ℕ) methods_of_layer methods_of_element methods_of_note (layer.Array xs)
    ∙ joined_map value_methods xs

pub annotation_methods : (n : Note) → value_methods (variant.Annotation n) ≡ note_methods n
unfolding value_methods note_methods
annotation_methods n =
    ap (λ (v : EncValue). value_methods v) (sym (variant.rolls-Annotation n))
    ∙ fold-roll-EncValue (List ℕ) (List ℕ) (List ℕ) methods_of_layer methods_of_element methods_of_note (layer.Annotation n)

pub note_methods_are : (n : Note) → note_methods n ≡ flat_map element_methods (out-Note n).elements
unfolding note_methods element_methods
note_methods_are n = fold_out-Note (List ℕ) (List ℕ) (List ℕ) methods_of_layer methods_of_element methods_of_note n ∙ joined_map element_methods (out-Note n).elements

pub element_methods_are : (e : Element) → element_methods e ≡ value_methods e.value
unfolding element_methods value_methods
element_methods_are e = fold_out-Element (List ℕ) (List ℕ) (List ℕ) methods_of_layer methods_of_element methods_of_note e
