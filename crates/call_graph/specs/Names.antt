-- What instructions, annotations and values name, item by item.
use Rattle.std.specs.Prelude.{List, [], ◌∷◌, ◌++◌, Option, Some, None}
use Rattle.std.specs.List.{flat_map}
use Rattle.insn_set.specs.declared.form.Insn.{Insn}
use Rattle.insn_set.specs.declared.form.Insn.TheVariants as insn
use Rattle.program_model.specs.declared.body.Handler.{Handler}
use Rattle.program_model.specs.declared.body.Region.{Region}
use Rattle.program_model.specs.declared.body.Body.{Body}
use Rattle.program_model.specs.declared.program.Method.{Method}
use Rattle.program_model.specs.declared.value.EncValue.{EncValue, EncValue-F, fold-EncValue}
use Rattle.program_model.specs.declared.value.EncValue.TheOpen as layer
use Rattle.program_model.specs.declared.value.Note.{Note, Note-F, fold-Note}
use Rattle.program_model.specs.declared.value.Element.{Element, Element-F, fold-Element}
use Rattle.program_model.specs.declared.value.Mark.{Mark}
use Rattle.call_graph.specs.declared.named.Named.{Named}
use Rattle.call_graph.specs.declared.named.Named.TheVariants as named

-- what a list of items names
unfoldable pub joined : List (List Named) → List Named
joined [] = []
joined (x ∷ xs) = x ++ joined xs

-- ---- values and annotations

abbrev pub names_of_value : EncValue-F (List Named) (List Named) (List Named) → List Named
names_of_value (layer.Class n) = named.Kind n ∷ []
names_of_value (layer.Field n) = named.Field n ∷ []
names_of_value (layer.Enum n) = named.Field n ∷ []
names_of_value (layer.Method n) = named.Method n ∷ []
names_of_value (layer.Array names) = joined names
names_of_value (layer.Annotation names) = names
names_of_value _ = []

abbrev pub names_of_element : Element-F (List Named) (List Named) (List Named) → List Named
names_of_element e = e.value

abbrev pub names_of_note : Note-F (List Named) (List Named) (List Named) → List Named
names_of_note n = named.Kind n.class ∷ joined n.elements

unfoldable pub value_names : EncValue → List Named
value_names v = fold-EncValue (List Named) (List Named) (List Named) names_of_value names_of_element names_of_note v

unfoldable pub element_names : Element → List Named
element_names e = fold-Element (List Named) (List Named) (List Named) names_of_value names_of_element names_of_note e

unfoldable pub note_names : Note → List Named
note_names n = fold-Note (List Named) (List Named) (List Named) names_of_value names_of_element names_of_note n

abbrev pub mark_names : Mark → List Named
mark_names m = note_names m.note

abbrev pub marks_names : List Mark → List Named
marks_names marks = flat_map mark_names marks

abbrev pub first_names : Option EncValue → List Named
first_names None = []
first_names (Some v) = value_names v

-- ---- bodies

abbrev pub insn_name : Insn → Option Named
insn_name (insn.ConstClass to kind) = Some (named.Kind kind)
insn_name (insn.CheckCast on kind) = Some (named.Kind kind)
insn_name (insn.InstanceOf to from kind) = Some (named.Kind kind)
insn_name (insn.NewInstance to kind) = Some (named.Made kind)
insn_name (insn.NewArray to size kind) = Some (named.Kind kind)
insn_name (insn.FilledNewArray kind args) = Some (named.Kind kind)
insn_name (insn.InstanceGet item to on field) = Some (named.Field field)
insn_name (insn.InstancePut item from on field) = Some (named.Field field)
insn_name (insn.StaticGet item to field) = Some (named.Field field)
insn_name (insn.StaticPut item from field) = Some (named.Field field)
insn_name (insn.Invoke kind method args) = Some (named.Call kind method)
insn_name _ = None

abbrev pub named_once : Option Named → List Named
named_once None = []
named_once (Some n) = n ∷ []

abbrev pub insn_names : Insn → List Named
insn_names i = named_once (insn_name i)

abbrev pub handler_names : Handler → List Named
handler_names h = named.Kind h.kind ∷ []

abbrev pub region_names : Region → List Named
region_names r = flat_map handler_names r.handlers

abbrev pub body_names : Body → List Named
body_names b = flat_map insn_names b.insns ++ flat_map region_names b.regions

abbrev pub code_names : Option Body → List Named
code_names None = []
code_names (Some b) = body_names b

abbrev pub method_names : Method → List Named
method_names m = marks_names m.marks ++ (flat_map marks_names m.parameter_marks ++ code_names m.body)
