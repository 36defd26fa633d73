-- A value is in range where the values in it are.
use Rattle.std.proofs.Common.{◌≡◌, ℕ, ◌<◌, List, [], ◌∷◌, Bool, true, refl, sym, All, map, ap, ◌∙◌}
use Rattle.std.proofs.lemmas.Bool.{lt-ltb}
use Rattle.std.proofs.lemmas.List.Elements.{All-head, All-tail}
use Rattle.std.specs.Prelude.{IsTrue, ◌&&◌, nat_lt}
use Rattle.std.specs.List.{list_all}
use Rattle.program_model.specs.declared.value.EncValue.{EncValue, fold-roll-EncValue}
use Rattle.program_model.specs.declared.value.EncValue.TheVariants.{Array, rolls-Array}
use Rattle.program_model.specs.declared.value.EncValue.TheOpen as layer
use Rattle.program_model.specs.declared.value.Note.{roll-Note, fold-roll-Note}
use Rattle.program_model.specs.declared.value.Element.{Element}
use Rattle.dex_pools.specs.declared.scalar.TableSizes.{TableSizes}
use Rattle.dex_pools.specs.ValueRange.{of_value, of_element, of_note, value_fits, element_fits, note_fits, ValueInRange, ElementInRange, NoteInRange}

all_true : {X : Type 0} (test : X → Bool) (xs : List X) → All (λ x. IsTrue (test x)) xs → IsTrue (list_all (λ b. b) (map test xs))
all_true test [] h = refl
all_true test (x ∷ xs) h =
    let here : test x ≡ true = All-head (λ y. IsTrue (test y)) x xs h in
    let rest : list_all (λ b. b) (map test xs) ≡ true = all_true test xs (All-tail (λ y. IsTrue (test y)) x xs h) in
    rw (here, rest) refl

array_is : (sizes : TableSizes) (xs : List EncValue) → value_fits sizes (Array xs) ≡ list_all (λ b. b) (map (value_fits sizes) xs)
array_is sizes xs = ap (λ (v : EncValue). value_fits sizes v) (sym (rolls-Array xs)) ∙ fold-roll-EncValue Bool Bool Bool (of_value sizes) (of_element sizes) (of_note sizes) (layer.Array xs)

pub array_fits : (sizes : TableSizes) (xs : List EncValue) → All (ValueInRange sizes) xs → ValueInRange sizes (Array xs)
array_fits sizes xs h = array_is sizes xs ∙ all_true (value_fits sizes) xs h

note_is : (sizes : TableSizes) (class : ℕ) (elements : List Element)
    → note_fits sizes (roll-Note (record { class = class; elements = elements })) ≡ (nat_lt class sizes.types && list_all (λ b. b) (map (element_fits sizes) elements))
note_is sizes class elements = fold-roll-Note Bool Bool Bool (of_value sizes) (of_element sizes) (of_note sizes) (record { class = class; elements = elements })

pub note_fits_lem : (sizes : TableSizes) (class : ℕ) (elements : List Element) → class < sizes.types → All (ElementInRange sizes) elements
    → NoteInRange sizes (roll-Note (record { class = class; elements = elements }))
note_fits_lem sizes class elements lt h = note_is sizes class elements ∙ rw (lt-ltb class sizes.types lt, all_true (element_fits sizes) elements h) refl
