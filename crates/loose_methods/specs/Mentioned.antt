-- The methods that annotations and first values name, by number (Dalvik executable format, "encoded_value",
-- "annotation_set_item").
use Rattle.std.specs.Prelude.{ℕ, Bool, List, [], ◌∷◌, ◌++◌, flat_map, Option, Some, None}
use Rattle.std.specs.List.{list_any}
use Rattle.program_model.specs.declared.program.Class.{Class}
use Rattle.program_model.specs.declared.program.Field.{Field}
use Rattle.program_model.specs.declared.program.Method.{Method}
use Rattle.program_model.specs.declared.program.Program.{Program}
use Rattle.program_model.specs.declared.value.EncValue.{EncValue, EncValue-F, fold-EncValue}
use Rattle.program_model.specs.declared.value.EncValue.TheOpen as layer
use Rattle.program_model.specs.declared.value.Note.{Note, Note-F, fold-Note}
use Rattle.program_model.specs.declared.value.Element.{Element, Element-F, fold-Element}
use Rattle.program_model.specs.declared.value.Mark.{Mark}
use Rattle.loose_methods.specs.Loose.{names_it}

unfoldable pub joined : List (List ℕ) → List ℕ
joined [] = []
joined (x ∷ xs) = x ++ joined xs

-- ---- values and annotations

abbrev pub methods_of_layer : EncValue-F (List ℕ) (List ℕ) (List ℕ) → List ℕ
methods_of_layer (layer.Method n) = n ∷ []
methods_of_layer (layer.Array numbers) = joined numbers
methods_of_layer (layer.Annotation numbers) = numbers
methods_of_layer v = []

abbrev pub methods_of_element : Element-F (List ℕ) (List ℕ) (List ℕ) → List ℕ
methods_of_element e = e.value

abbrev pub methods_of_note : Note-F (List ℕ) (List ℕ) (List ℕ) → List ℕ
methods_of_note n = joined n.elements

unfoldable pub value_methods : EncValue → List ℕ
value_methods v = fold-EncValue (List ℕ) (List ℕ) (List ℕ) methods_of_layer methods_of_element methods_of_note v

unfoldable pub element_methods : Element → List ℕ
element_methods e = fold-Element (List ℕ) (List ℕ) (List ℕ) methods_of_layer methods_of_element methods_of_note e

unfoldable pub note_methods : Note → List ℕ
note_methods n = fold-Note (List ℕ) (List ℕ) (List ℕ) methods_of_layer methods_of_element methods_of_note n

abbrev pub mark_methods : Mark → List ℕ
mark_methods mark = note_methods mark.note

abbrev pub marks_methods : List Mark → List ℕ
marks_methods marks = flat_map mark_methods marks

abbrev pub first_methods : Option EncValue → List ℕ
first_methods None = []
first_methods (Some v) = value_methods v

-- ---- classes

abbrev pub field_methods : Field → List ℕ
field_methods f = marks_methods f.marks ++ first_methods f.first

abbrev pub method_methods : Method → List ℕ
method_methods m = marks_methods m.marks ++ flat_map marks_methods m.parameter_marks

abbrev pub class_methods : Class → List ℕ
class_methods c = marks_methods c.marks ++ flat_map field_methods c.fields ++ flat_map method_methods c.methods

-- the method numbers that the annotations and first values of a program name
abbrev pub mentioned : Program → List ℕ
mentioned p = flat_map class_methods p.classes

-- one of them is the name of the method of a number
abbrev pub is_mentioned : Program → ℕ → Bool
is_mentioned p n = list_any (names_it p n) (mentioned p)
