-- The text of a value by the texts of the values in it.
use Rattle.std.proofs.Common.{◌≡◌, ℕ, List, [], ◌∷◌, ◌++◌, length, map, refl, sym, ap, ◌∙◌, suc}
use Rattle.std.specs.List.{concat, flat_map}
use Rattle.dex_base.specs.Leb.{uleb_text}
use Rattle.program_model.specs.declared.pass.Renumber.{Renumber}
use Rattle.program_model.specs.declared.value.EncValue.{EncValue, fold-roll-EncValue}
use Rattle.program_model.specs.declared.value.EncValue.TheVariants as variant
use Rattle.program_model.specs.declared.value.EncValue.TheOpen as layer
use Rattle.program_model.specs.declared.value.Note.{Note, out-Note, fold_out-Note}
use Rattle.program_model.specs.declared.value.Element.{Element, fold_out-Element}
use Rattle.dex_pools.specs.Written.{renumbered, listed, text_of_value, text_of_element, text_of_note, value_text, element_text, note_text, list_text}

concat_map : {X : Type 0} (f : X → List ℕ) (xs : List X) → concat (map f xs) ≡ flat_map f xs
concat_map f [] = refl
concat_map f (x ∷ xs) = ap (λ (ys : List ℕ). f x ++ ys) (concat_map f xs)

length_map : {X : Type 0} (f : X → List ℕ) (xs : List X) → length (map f xs) ≡ length xs
length_map f [] = refl
length_map f (x ∷ xs) = ap (λ (n : ℕ). suc n) (length_map f xs)

listed_is : {X : Type 0} (f : X → List ℕ) (xs : List X) → listed (map f xs) ≡ list_text f xs
unfolding list_text
listed_is f xs = rw (concat_map f xs, length_map f xs) refl

pub array_text : (numbers : Renumber) (xs : List EncValue) → value_text numbers (variant.Array xs) ≡ 28 ∷ list_text (value_text numbers) xs
unfolding value_text
array_text numbers xs =
    ap (λ (v : EncValue). value_text numbers v) (sym (variant.rolls-Array xs))
    ∙ fold-roll-EncValue (List ℕ) (List ℕ) (List ℕ) (text_of_value numbers) (text_of_element numbers) (text_of_note numbers) (layer.Array xs)
    ∙ ap (λ (ys : List ℕ). 28 ∷ ys) (listed_is (value_text numbers) xs)

pub annotation_text : (numbers : Renumber) (n : Note) → value_text numbers (variant.Annotation n) ≡ 29 ∷ note_text numbers n
unfolding value_text note_text
annotation_text numbers n =
    ap (λ (v : EncValue). value_text numbers v) (sym (variant.rolls-Annotation n))
    ∙ fold-roll-EncValue (List ℕ) (List ℕ) (List ℕ) (text_of_value numbers) (text_of_element numbers) (text_of_note numbers) (layer.Annotation n)

pub note_text_is : (numbers : Renumber) (n : Note)
    → note_text numbers n ≡ uleb_text (renumbered numbers.types.items (out-Note n).class) ++ list_text (element_text numbers) (out-Note n).elements
unfolding note_text element_text
note_text_is numbers n =
    fold_out-Note (List ℕ) (List ℕ) (List ℕ) (text_of_value numbers) (text_of_element numbers) (text_of_note numbers) n
    ∙ ap (λ (ys : List ℕ). uleb_text (renumbered numbers.types.items (out-Note n).class) ++ ys) (listed_is (element_text numbers) (out-Note n).elements)

pub element_text_is : (numbers : Renumber) (e : Element) → element_text numbers e ≡ uleb_text (renumbered numbers.strings.items e.name) ++ value_text numbers e.value
unfolding element_text value_text
element_text_is numbers e = fold_out-Element (List ℕ) (List ℕ) (List ℕ) (text_of_value numbers) (text_of_element numbers) (text_of_note numbers) e
