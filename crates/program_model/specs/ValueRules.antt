-- What values and annotations have to be (Dalvik executable format, "encoded_value", "encoded_annotation",
-- "annotation_set_item").
use Rattle.std.specs.Prelude.{ℕ, zero, suc, pos, List, Bool, true, false, not, ◌&&◌, ◌==◌, nat_eq, nat_lt}
use Rattle.std.specs.List.{list_all}
use Rattle.std.specs.Ordering.{int_eq}
use Rattle.program_model.specs.Neighbours.{neighbours}
use Rattle.program_model.specs.Texts.{has_string, has_type, has_field, has_method, is_reference}
use Rattle.program_model.specs.declared.value.EncValue.{EncValue, EncValue-F, out-EncValue}
use Rattle.program_model.specs.declared.value.EncValue.TheOpen.{Byte, Short, Char, Int, Long, Float, Double, Str, Class, Field, Method, Enum, Array, Annotation}
use Rattle.program_model.specs.declared.value.EncValue.TheOpen as value
use Rattle.program_model.specs.declared.value.Note.{Note, out-Note}
use Rattle.program_model.specs.declared.value.Element.{Element}
use Rattle.program_model.specs.declared.value.Mark.{Mark}
use Rattle.program_model.specs.declared.program.Program.{Program}

-- an element has a name, and a value of which `inner` is true
abbrev pub element_fits : (EncValue → Bool) → Program → Element → Bool
element_fits inner p element = has_string p element.name && inner element.value

-- elements ascend by name
abbrev pub named_in_order : Element × Element → Bool
named_in_order pair = nat_lt pair.0.name pair.1.name

-- an annotation has a type and elements
abbrev pub note_fits : (EncValue → Bool) → Program → Note → Bool
note_fits inner p note = has_type p (out-Note note).class
    && (list_all (element_fits inner p) (out-Note note).elements && list_all named_in_order (neighbours (out-Note note).elements))

-- a value names entries of the tables, and `inner` is true of the values in it
abbrev pub names_fit : (EncValue → Bool) → Program → EncValue-F EncValue Element Note → Bool
names_fit inner p (Str n) = has_string p n
names_fit inner p (Class n) = has_type p n
names_fit inner p (Field n) = has_field p n
names_fit inner p (Method n) = has_method p n
names_fit inner p (Enum n) = has_field p n
names_fit inner p (Array values) = list_all inner values
names_fit inner p (Annotation note) = note_fits inner p note
names_fit inner p v = true

-- a value in which values nest so deep at most, itself counted
abbrev pub value_fits : ℕ → Program → EncValue → Bool
value_fits zero p v = false
value_fits (suc depth) p v = names_fit (value_fits depth p) p (out-EncValue v)

-- an annotation of a class, a member or a parameter: its values nest 64 deep at most
unfoldable pub mark_fits : Program → Mark → Bool
mark_fits p mark = note_fits (value_fits 64 p) p mark.note

-- annotations of one set ascend by type
abbrev pub typed_in_order : Mark × Mark → Bool
typed_in_order pair = nat_lt (out-Note pair.0.note).class (out-Note pair.1.note).class

unfoldable pub marks_fit : Program → List Mark → Bool
marks_fit p marks = list_all (mark_fits p) marks && list_all typed_in_order (neighbours marks)

-- a first value is of its field's type, which has this letter, and is not zero, false or null
abbrev pub layer_fits : Program → ℕ → EncValue-F EncValue Element Note → Bool
layer_fits p letter (Byte n) = letter == 66 && not (int_eq n (pos 0))
layer_fits p letter (Short n) = letter == 83 && not (int_eq n (pos 0))
layer_fits p letter (Char n) = letter == 67 && not (nat_eq n 0)
layer_fits p letter (Int n) = letter == 73 && not (int_eq n (pos 0))
layer_fits p letter (Long n) = letter == 74 && not (int_eq n (pos 0))
layer_fits p letter (Float bits) = letter == 70 && not (nat_eq bits 0)
layer_fits p letter (Double bits) = letter == 68 && not (nat_eq bits 0)
layer_fits p letter (value.Bool b) = letter == 90 && b
layer_fits p letter (Str n) = is_reference letter && has_string p n
layer_fits p letter (Class n) = is_reference letter && has_type p n
layer_fits p letter v = false

abbrev pub first_fits : Program → ℕ → EncValue → Bool
first_fits p letter v = layer_fits p letter (out-EncValue v)
