-- What a value names, by the values in it.
use Rattle.std.proofs.Common.{◌≡◌, List, [], ◌∷◌, ◌++◌, map, refl, sym, ap, ◌∙◌}
use Rattle.std.proofs.lemmas.List.{append_assoc}
use Rattle.std.specs.List.{flat_map}
use Rattle.program_model.specs.declared.value.EncValue.{EncValue, fold-roll-EncValue}
use Rattle.program_model.specs.declared.value.EncValue.TheVariants as variant
use Rattle.program_model.specs.declared.value.EncValue.TheOpen as layer
use Rattle.program_model.specs.declared.value.Note.{Note, out-Note, fold_out-Note}
use Rattle.program_model.specs.declared.value.Element.{Element, fold_out-Element}
use Rattle.call_graph.specs.declared.named.Named.{Named}
use Rattle.call_graph.specs.declared.named.Named.TheVariants as named
use Rattle.call_graph.specs.Names.{joined, names_of_value, names_of_element, names_of_note, value_names, element_names, note_names}

joined_map : {X : Type 0} (f : X → List Named) (xs : List X) → joined (map f xs) ≡ flat_map f xs
unfolding joined
joined_map f [] = refl
joined_map f (x ∷ xs) = ap (λ (ys : List Named). f x ++ ys) (joined_map f xs)

pub array_names : (xs : List EncValue) → value_names (variant.Array xs) ≡ flat_map value_names xs
unfolding value_names
array_names xs =
    ap (λ (v : EncValue). value_names v) (sym (variant.rolls-Array xs))
    ∙ fold-roll-EncValue (List Named) (List Named) (List Named) names_of_value names_of_element names_of_note (layer.Array xs)
    ∙ joined_map value_names xs

pub annotation_names : (n : Note) → value_names (variant.Annotation n) ≡ note_names n
unfolding value_names note_names
annotation_names n =
    ap (λ (v : EncValue). value_names v) (sym (variant.rolls-Annotation n))
    ∙ fold-roll-EncValue (List Named) (List Named) (List Named) names_of_value names_of_element names_of_note (layer.Annotation n)

pub note_names_are : (n : Note) → note_names n ≡ named.Kind (out-Note n).class ∷ flat_map element_names (out-Note n).elements
unfolding note_names element_names
note_names_are n =
    fold_out-Note (List Named) (List Named) (List Named) names_of_value names_of_element names_of_note n
    ∙ ap (λ (ys : List Named). named.Kind (out-Note n).class ∷ ys) (joined_map element_names (out-Note n).elements)

pub element_names_are : (e : Element) → element_names e ≡ value_names e.value
unfolding element_names value_names
element_names_are e = fold_out-Element (List Named) (List Named) (List Named) names_of_value names_of_element names_of_note e

-- the type of an annotation and what its elements name are added
pub note_adds : (old pushed new : List Named) (n : Note) (xs : List Element) → pushed ≡ old ++ named.Kind (out-Note n).class ∷ [] → xs ≡ (out-Note n).elements → new ≡ pushed ++ flat_map element_names xs → new ≡ old ++ note_names n
note_adds old pushed new n xs a b c =
    c ∙ ap (λ (l : List Named). l ++ flat_map element_names xs) a
    ∙ append_assoc old (named.Kind (out-Note n).class ∷ []) (flat_map element_names xs)
    ∙ ap (λ (l : List Element). old ++ (named.Kind (out-Note n).class ∷ flat_map element_names l)) b
    ∙ ap (λ (l : List Named). old ++ l) (sym (note_names_are n))
