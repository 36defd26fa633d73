-- Names marked one after the other, and the names of a value by those of the values in it.
use Rattle.std.proofs.Common.{◌≡◌, ℕ, ◌+◌, ◌<◌, List, [], ◌∷◌, ◌++◌, length, take, get_or, map, refl, sym, ap, ◌∙◌}
use Rattle.std.proofs.lemmas.List.{take_more, append-nil}
use Rattle.std.proofs.lemmas.List.Concat.{flat_map-append}
use Rattle.std.specs.List.{flat_map}
use Rattle.program_model.specs.declared.value.EncValue.{EncValue, fold-roll-EncValue}
use Rattle.program_model.specs.declared.value.EncValue.TheVariants as variant
use Rattle.program_model.specs.declared.value.EncValue.TheOpen as layer
use Rattle.program_model.specs.declared.value.Note.{Note, out-Note, fold_out-Note}
use Rattle.program_model.specs.declared.value.Element.{Element, fold_out-Element}
use Rattle.dex_pools.specs.declared.used.Named.{Named}
use Rattle.dex_pools.specs.declared.used.Named.TheVariants as named
use Rattle.dex_pools.specs.declared.used.Used.{Used}
use Rattle.dex_pools.specs.Used.{marked, mark_name, joined, names_of_value, names_of_element, names_of_note, value_names, element_names, note_names}

pub marked_append : (u : Used) (xs ys : List Named) → marked u (xs ++ ys) ≡ marked (marked u xs) ys
marked_append u [] ys = refl
marked_append u (x ∷ xs) ys = marked_append (mark_name u x) xs ys

joined_map : {X : Type 0} (f : X → List Named) (xs : List X) → joined (map f xs) ≡ flat_map f xs
unfolding joined
joined_map f [] = refl
joined_map f (x ∷ xs) = ap (λ (ys : List Named). f x ++ ys) (joined_map f xs)

pub array_names : (xs : List EncValue) → value_names (variant.Array xs) ≡ flat_map value_names xs
unfolding value_names
array_names xs =
    ap (λ (v : EncValue). value_names v) (sym (variant.rolls-Array xs))
    ∙ fold-roll-EncValue (List Named) (List Named) (List Named) names_of_value names_of_element names_of_note (layer.Array xs)
    ∙ joined_map value_names xs

pub annotation_names : (n : Note) → value_names (variant.Annotation n) ≡ note_names n
unfolding value_names note_names
annotation_names n =
    ap (λ (v : EncValue). value_names v) (sym (variant.rolls-Annotation n))
    ∙ fold-roll-EncValue (List Named) (List Named) (List Named) names_of_value names_of_element names_of_note (layer.Annotation n)

pub note_names_are : (n : Note) → note_names n ≡ named.Kind (out-Note n).class ∷ flat_map element_names (out-Note n).elements
unfolding note_names element_names
note_names_are n =
    fold_out-Note (List Named) (List Named) (List Named) names_of_value names_of_element names_of_note n
    ∙ ap (λ (ys : List Named). named.Kind (out-Note n).class ∷ ys) (joined_map element_names (out-Note n).elements)

pub element_names_are : (e : Element) → element_names e ≡ named.Text e.name ∷ value_names e.value
unfolding element_names value_names
element_names_are e = fold_out-Element (List Named) (List Named) (List Named) names_of_value names_of_element names_of_note e

-- the names of one more item of a list are marked
pub walks_on : {X : Type 0} (names : X → List Named) (first before behind : Used) (xs : List X) (i : ℕ) (x : X) → before ≡ marked first (flat_map names (take i xs)) → i < length xs → x ≡ get_or xs i x
    → behind ≡ marked before (names x) → behind ≡ marked first (flat_map names (take (i + 1) xs))
walks_on names first before behind xs i x so_far lt is step =
    let more : take (i + 1) xs ≡ take i xs ++ x ∷ [] = take_more xs i x lt ∙ ap (λ (y : _). take i xs ++ y ∷ []) (sym is) in
    let text : flat_map names (take (i + 1) xs) ≡ flat_map names (take i xs) ++ names x = rw (more, flat_map-append) (ap (λ (ys : List Named). flat_map names (take i xs) ++ ys) (append-nil (names x))) in
    step ∙ rw (so_far, text) (sym (marked_append first (flat_map names (take i xs)) (names x)))

-- the same for an item that is a number or is made of numbers
pub walks_at : {X : Type 0} (names : X → List Named) (first before behind : Used) (xs : List X) (i : ℕ) (d : X) → before ≡ marked first (flat_map names (take i xs)) → i < length xs
    → behind ≡ marked before (names (get_or xs i d)) → behind ≡ marked first (flat_map names (take (i + 1) xs))
walks_at names first before behind xs i d so_far lt step =
    let text : flat_map names (take (i + 1) xs) ≡ flat_map names (take i xs) ++ names (get_or xs i d)
    = rw (take_more xs i d lt, flat_map-append) (ap (λ (ys : List Named). flat_map names (take i xs) ++ ys) (append-nil (names (get_or xs i d)))) in
    step ∙ rw (so_far, text) (sym (marked_append first (flat_map names (take i xs)) (names (get_or xs i d))))
