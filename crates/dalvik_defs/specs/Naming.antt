-- The program that the tables and numbers of a file name: every number is replaced by its text (Dalvik executable
-- format, "string_id_item" to "class_data_item"). Two programs are the same where what they name is equal.
use Rattle.std.specs.Prelude.{ℕ, [], map, Some, None, slice_get}
use Rattle.std.specs.Option.{option_map}
use Rattle.insn_set.specs.declared.form.Insn.{Insn}
use Rattle.insn_set.specs.declared.form.Insn.TheVariants as insn
use Rattle.program_model.specs.declared.body.Handler.{Handler}
use Rattle.program_model.specs.declared.body.Region.{Region}
use Rattle.program_model.specs.declared.body.Body.{Body}
use Rattle.program_model.specs.declared.program.Field.{Field}
use Rattle.program_model.specs.declared.program.Method.{Method}
use Rattle.program_model.specs.declared.program.Class.{Class}
use Rattle.program_model.specs.declared.program.Program.{Program}
use Rattle.program_model.specs.declared.value.EncValue.{EncValue, EncValue-F, fold-EncValue}
use Rattle.program_model.specs.declared.value.EncValue.TheOpen as layer
use Rattle.program_model.specs.declared.value.Note.{Note, Note-F, fold-Note}
use Rattle.program_model.specs.declared.value.Element.{Element-F}
use Rattle.program_model.specs.declared.value.Mark.{Mark}
use Rattle.dalvik_defs.specs.Names.{Text}
use Rattle.dalvik_defs.specs.declared.names.Signature.{Signature}
use Rattle.dalvik_defs.specs.declared.names.MethodKey.{MethodKey}
use Rattle.dalvik_defs.specs.declared.names.FieldKey.{FieldKey}
use Rattle.dalvik_defs.specs.declared.forms.Form.{Form}
use Rattle.dalvik_defs.specs.declared.forms.Form.TheVariants as form
use Rattle.dalvik_defs.specs.declared.encoded.NamedValue.{NamedValue}
use Rattle.dalvik_defs.specs.declared.encoded.NamedValue.TheVariants as value
use Rattle.dalvik_defs.specs.declared.encoded.NamedNote.{NamedNote, roll-NamedNote}
use Rattle.dalvik_defs.specs.declared.encoded.NamedElement.{NamedElement}
use Rattle.dalvik_defs.specs.declared.encoded.NamedMark.{NamedMark}
use Rattle.dalvik_defs.specs.declared.program.NamedHandler.{NamedHandler}
use Rattle.dalvik_defs.specs.declared.program.NamedRegion.{NamedRegion}
use Rattle.dalvik_defs.specs.declared.program.NamedBody.{NamedBody}
use Rattle.dalvik_defs.specs.declared.program.NamedField.{NamedField}
use Rattle.dalvik_defs.specs.declared.program.NamedMethod.{NamedMethod}
use Rattle.dalvik_defs.specs.declared.program.NamedClass.{NamedClass}
use Rattle.dalvik_defs.specs.declared.program.NamedProgram.{NamedProgram}

-- the entry of a table, or an empty one
abbrev pub text_at : Program → ℕ → Text
text_at p n = elim (slice_get p.strings n) [ Some t ↦ t | None ↦ [] ]

abbrev pub type_at : Program → ℕ → Text
type_at p n = elim (slice_get p.types n) [ Some t ↦ text_at p t | None ↦ [] ]

abbrev pub signature_at : Program → ℕ → Signature
signature_at p n = elim (slice_get p.protos n) [
  | Some q ↦ record { parameters = map (type_at p) q.parameters; result = type_at p q.result }
  | None ↦ record { parameters = []; result = [] }
]

abbrev pub field_at : Program → ℕ → FieldKey
field_at p n = elim (slice_get p.fields n) [
  | Some f ↦ record { class = type_at p f.class; name = text_at p f.name; kind = type_at p f.kind }
  | None ↦ record { class = []; name = []; kind = [] }
]

abbrev pub method_at : Program → ℕ → MethodKey
method_at p n = elim (slice_get p.methods n) [
  | Some m ↦ record { class = type_at p m.class; name = text_at p m.name; signature = signature_at p m.proto }
  | None ↦ record { class = []; name = []; signature = record { parameters = []; result = [] } }
]

-- an instruction
abbrev pub form_of : Program → Insn → Form
form_of p insn.Nop = form.Nop
form_of p (insn.Move slot to from) = form.Move slot to from
form_of p (insn.MoveResult slot to) = form.MoveResult slot to
form_of p (insn.MoveException to) = form.MoveException to
form_of p insn.ReturnVoid = form.ReturnVoid
form_of p (insn.Return slot from) = form.Return slot from
form_of p (insn.Const to value) = form.Const to value
form_of p (insn.ConstWide to value) = form.ConstWide to value
form_of p (insn.ConstString to string) = form.ConstString to (text_at p string)
form_of p (insn.ConstClass to kind) = form.ConstClass to (type_at p kind)
form_of p (insn.MonitorEnter on) = form.MonitorEnter on
form_of p (insn.MonitorExit on) = form.MonitorExit on
form_of p (insn.CheckCast on kind) = form.CheckCast on (type_at p kind)
form_of p (insn.InstanceOf to from kind) = form.InstanceOf to from (type_at p kind)
form_of p (insn.ArrayLength to from) = form.ArrayLength to from
form_of p (insn.NewInstance to kind) = form.NewInstance to (type_at p kind)
form_of p (insn.NewArray to size kind) = form.NewArray to size (type_at p kind)
form_of p (insn.FilledNewArray kind args) = form.FilledNewArray (type_at p kind) args
form_of p (insn.FillArray on width items) = form.FillArray on width items
form_of p (insn.Throw on) = form.Throw on
form_of p (insn.Goto target) = form.Goto target
form_of p (insn.PackedSwitch on first targets) = form.PackedSwitch on first targets
form_of p (insn.SparseSwitch on keys targets) = form.SparseSwitch on keys targets
form_of p (insn.Cmp op to a b) = form.Cmp op to a b
form_of p (insn.If test a b target) = form.If test a b target
form_of p (insn.IfZero test a target) = form.IfZero test a target
form_of p (insn.ArrayGet item to array index) = form.ArrayGet item to array index
form_of p (insn.ArrayPut item from array index) = form.ArrayPut item from array index
form_of p (insn.InstanceGet item to on field) = form.InstanceGet item to on (field_at p field)
form_of p (insn.InstancePut item from on field) = form.InstancePut item from on (field_at p field)
form_of p (insn.StaticGet item to field) = form.StaticGet item to (field_at p field)
form_of p (insn.StaticPut item from field) = form.StaticPut item from (field_at p field)
form_of p (insn.Invoke kind method args) = form.Invoke kind (method_at p method) args
form_of p (insn.Unary op to from) = form.Unary op to from
form_of p (insn.Binary op to a b) = form.Binary op to a b
form_of p (insn.Literal op to a value) = form.Literal op to a value

-- values and annotations
abbrev pub value_layer : Program → EncValue-F NamedValue NamedElement NamedNote → NamedValue
value_layer p (layer.Byte x) = value.Byte x
value_layer p (layer.Short x) = value.Short x
value_layer p (layer.Char x) = value.Char x
value_layer p (layer.Int x) = value.Int x
value_layer p (layer.Long x) = value.Long x
value_layer p (layer.Float x) = value.Float x
value_layer p (layer.Double x) = value.Double x
value_layer p (layer.Str n) = value.Str (text_at p n)
value_layer p (layer.Class n) = value.Class (type_at p n)
value_layer p (layer.Field n) = value.Field (field_at p n)
value_layer p (layer.Method n) = value.Method (method_at p n)
value_layer p (layer.Enum n) = value.Enum (field_at p n)
value_layer p (layer.Array values) = value.Array values
value_layer p (layer.Annotation note) = value.Annotation note
value_layer p layer.Null = value.Null
value_layer p (layer.Bool b) = value.Bool b

abbrev pub element_layer : Program → Element-F NamedValue NamedElement NamedNote → NamedElement
element_layer p e = record { name = text_at p e.name; value = e.value }

abbrev pub note_layer : Program → Note-F NamedValue NamedElement NamedNote → NamedNote
note_layer p n = roll-NamedNote (record { class = type_at p n.class; elements = n.elements })

abbrev pub value_of : Program → EncValue → NamedValue
value_of p v = fold-EncValue NamedValue NamedElement NamedNote (value_layer p) (element_layer p) (note_layer p) v

abbrev pub note_of : Program → Note → NamedNote
note_of p n = fold-Note NamedValue NamedElement NamedNote (value_layer p) (element_layer p) (note_layer p) n

abbrev pub mark_of : Program → Mark → NamedMark
mark_of p m = record { visibility = m.visibility; note = note_of p m.note }

-- code
abbrev pub handler_of : Program → Handler → NamedHandler
handler_of p h = record { kind = type_at p h.kind; position = h.position }

abbrev pub region_of : Program → Region → NamedRegion
region_of p r = record { first = r.first; end = r.end; handlers = map (handler_of p) r.handlers; rest = r.rest }

abbrev pub body_of : Program → Body → NamedBody
body_of p b = record { registers = b.registers; ins = b.ins; forms = map (form_of p) b.insns; regions = map (region_of p) b.regions }

-- members, classes, programs
abbrev pub named_field : Program → Field → NamedField
named_field p f = let k = field_at p f.name in record {
  name = k.name;
  kind = k.kind;
  flags = f.flags.0;
  first = option_map (value_of p) f.first;
  marks = map (mark_of p) f.marks;
}

abbrev pub named_method : Program → Method → NamedMethod
named_method p m = let k = method_at p m.name in record {
  name = k.name;
  signature = k.signature;
  flags = m.flags.0;
  marks = map (mark_of p) m.marks;
  parameter_marks = map (map (mark_of p)) m.parameter_marks;
  body = option_map (body_of p) m.body;
  lines = m.lines;
}

abbrev pub named_class : Program → Class → NamedClass
named_class p c = record {
  name = type_at p c.name;
  flags = c.flags.0;
  superclass = type_at p c.superclass;
  interfaces = map (type_at p) c.interfaces;
  source = option_map (text_at p) c.source;
  marks = map (mark_of p) c.marks;
  fields = map (named_field p) c.fields;
  methods = map (named_method p) c.methods;
}

abbrev pub named : Program → NamedProgram
named p = record { version = p.version; classes = map (named_class p) p.classes }
