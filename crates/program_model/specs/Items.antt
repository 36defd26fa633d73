-- The items of a program: the entries of its lists, which a file may have 16,777,216 of.
use Rattle.std.specs.Prelude.{ℕ, zero, suc, ◌+◌, List, [], ◌∷◌, length, sum_by, Option, Some, None, is_some, if◌then◌else◌}
use Rattle.program_model.specs.declared.value.EncValue.{EncValue, EncValue-F, out-EncValue}
use Rattle.program_model.specs.declared.value.EncValue.TheOpen.{Array, Annotation}
use Rattle.program_model.specs.declared.value.Note.{Note, out-Note}
use Rattle.program_model.specs.declared.value.Element.{Element}
use Rattle.program_model.specs.declared.value.Mark.{Mark}
use Rattle.program_model.specs.declared.pools.Proto.{Proto}
use Rattle.program_model.specs.declared.body.Region.{Region}
use Rattle.program_model.specs.declared.body.Body.{Body}
use Rattle.program_model.specs.declared.program.Field.{Field}
use Rattle.program_model.specs.declared.program.Method.{Method}
use Rattle.program_model.specs.declared.program.Class.{Class}
use Rattle.program_model.specs.declared.program.Program.{Program}

-- the elements of an annotation, and what `inner` counts in their values
abbrev pub element_items : (EncValue → ℕ) → Element → ℕ
element_items inner element = inner element.value

abbrev pub note_items : (EncValue → ℕ) → Note → ℕ
note_items inner note = length (out-Note note).elements + sum_by (element_items inner) (out-Note note).elements

-- the entries of an array or an annotation, and what `inner` counts in them
abbrev pub layer_items : (EncValue → ℕ) → EncValue-F EncValue Element Note → ℕ
layer_items inner (Array values) = length values + sum_by inner values
layer_items inner (Annotation note) = note_items inner note
layer_items inner v = 0

-- the entries in a value down to a depth: all of them where its values nest no deeper
abbrev pub value_items : ℕ → EncValue → ℕ
value_items zero v = 0
value_items (suc depth) v = layer_items (value_items depth) (out-EncValue v)

-- an annotation, whose values nest 64 deep at most, and a set of annotations
unfoldable pub mark_items : Mark → ℕ
mark_items mark = note_items (value_items 64) mark.note

abbrev pub marks_items : List Mark → ℕ
marks_items marks = length marks + sum_by mark_items marks

-- the values of the static fields are written up to the last one that is not zero, false or null: so many fields there are up
-- to the last one with a first value, `count` so far, and `place` fields being passed
abbrev pub first_items_from : ℕ → ℕ → List Field → ℕ
first_items_from count place [] = count
first_items_from count place (field ∷ fields) = first_items_from (if is_some field.first then place + 1 else count) (place + 1) fields

abbrev pub field_items : Field → ℕ
field_items field = marks_items field.marks

abbrev pub fields_items : List Field → ℕ
fields_items fields = first_items_from 0 0 fields + sum_by field_items fields

-- the handlers of a region with its catch-all
abbrev pub rest_items : Option ℕ → ℕ
rest_items None = 0
rest_items (Some rest) = 1

abbrev pub region_items : Region → ℕ
region_items region = length region.handlers + rest_items region.rest

abbrev pub body_items : Option Body → ℕ
body_items None = 0
body_items (Some body) = sum_by region_items body.regions

-- the sets of annotations of a method and of its parameters, and the handlers
abbrev pub method_items : Method → ℕ
method_items method = marks_items method.marks + (length method.parameter_marks + sum_by marks_items method.parameter_marks) + body_items method.body

unfoldable pub class_items : Class → ℕ
class_items class = length class.interfaces + marks_items class.marks + (fields_items class.fields + sum_by method_items class.methods)

abbrev pub proto_items : Proto → ℕ
proto_items proto = length proto.parameters

unfoldable pub items_of : Program → ℕ
items_of p = sum_by proto_items p.protos + sum_by class_items p.classes
