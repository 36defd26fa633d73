-- Values and annotations as they are written: each number in the fewest bytes (Dalvik executable format, "encoded_value").
use Rattle.std.specs.Prelude.{ℕ, List, [], ◌∷◌, ◌++◌, if◌then◌else◌}
use Rattle.dex_base.specs.Leb.{uleb_text}
use Rattle.program_model.specs.declared.value.EncValue.{EncValue, EncValue-F, fold-EncValue}
use Rattle.program_model.specs.declared.value.EncValue.TheOpen as layer
use Rattle.program_model.specs.declared.value.Note.{Note, Note-F, fold-Note}
use Rattle.program_model.specs.declared.value.Element.{Element-F}
use Rattle.program_model.specs.declared.value.Mark.{Mark}
use Rattle.dex_pools.specs.Written.{tagged, unsigned_few, signed_few, float_few, double_few, listed, list_text}

-- a value, by the texts of the values in it: its type with the number of its bytes, and these
abbrev pub layer_text : EncValue-F (List ℕ) (List ℕ) (List ℕ) → List ℕ
layer_text (layer.Byte z) = tagged 0 (signed_few z)
layer_text (layer.Short z) = tagged 2 (signed_few z)
layer_text (layer.Char n) = tagged 3 (unsigned_few n)
layer_text (layer.Int z) = tagged 4 (signed_few z)
layer_text (layer.Long z) = tagged 6 (signed_few z)
layer_text (layer.Float bits) = tagged 16 (float_few bits)
layer_text (layer.Double bits) = tagged 17 (double_few bits)
layer_text (layer.Str n) = tagged 23 (unsigned_few n)
layer_text (layer.Class n) = tagged 24 (unsigned_few n)
layer_text (layer.Field n) = tagged 25 (unsigned_few n)
layer_text (layer.Method n) = tagged 26 (unsigned_few n)
layer_text (layer.Enum n) = tagged 27 (unsigned_few n)
layer_text (layer.Array texts) = 28 ∷ listed texts
layer_text (layer.Annotation text) = 29 ∷ text
layer_text layer.Null = 30 ∷ []
layer_text (layer.Bool b) = (if b then 63 else 31) ∷ []

abbrev pub element_text : Element-F (List ℕ) (List ℕ) (List ℕ) → List ℕ
element_text e = uleb_text e.name ++ e.value

abbrev pub note_layer_text : Note-F (List ℕ) (List ℕ) (List ℕ) → List ℕ
note_layer_text n = uleb_text n.class ++ listed n.elements

abbrev pub value_text : EncValue → List ℕ
value_text v = fold-EncValue (List ℕ) (List ℕ) (List ℕ) layer_text element_text note_layer_text v

abbrev pub note_text : Note → List ℕ
note_text n = fold-Note (List ℕ) (List ℕ) (List ℕ) layer_text element_text note_layer_text n

-- an annotation
abbrev pub mark_text : Mark → List ℕ
mark_text m = m.visibility ∷ note_text m.note

-- the first values of a class that has any
abbrev pub array_text : List EncValue → List ℕ
array_text [] = []
array_text (v ∷ vs) = list_text value_text (v ∷ vs)
