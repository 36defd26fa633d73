-- The types, fields and methods that code, values and annotations name.
use Rattle.std.specs.Prelude.{List, [], ◌∷◌, ◌++◌, map, flat_map, Option, Some, None}
use Rattle.dalvik_defs.specs.Names.{Text}
use Rattle.dalvik_defs.specs.declared.names.Signature.{Signature}
use Rattle.dalvik_defs.specs.declared.names.MethodKey.{MethodKey}
use Rattle.dalvik_defs.specs.declared.names.FieldKey.{FieldKey}
use Rattle.dalvik_defs.specs.declared.forms.Form.{Form}
use Rattle.dalvik_defs.specs.declared.forms.Form.TheVariants as form
use Rattle.dalvik_defs.specs.declared.encoded.NamedValue.{NamedValue, NamedValue-F, fold-NamedValue}
use Rattle.dalvik_defs.specs.declared.encoded.NamedValue.TheOpen as layer
use Rattle.dalvik_defs.specs.declared.encoded.NamedNote.{NamedNote, NamedNote-F, fold-NamedNote}
use Rattle.dalvik_defs.specs.declared.encoded.NamedMark.{NamedMark}
use Rattle.dalvik_defs.specs.declared.program.NamedBody.{NamedBody}
use Rattle.dalvik_defs.specs.declared.program.NamedField.{NamedField}
use Rattle.dalvik_defs.specs.declared.program.NamedMethod.{NamedMethod}
use Rattle.dalvik_defs.specs.declared.program.NamedClass.{NamedClass}

abbrev pub types_of : Signature → List Text
types_of s = s.result ∷ s.parameters

abbrev pub types_of_field : FieldKey → List Text
types_of_field k = k.class ∷ k.kind ∷ []

abbrev pub types_of_method : MethodKey → List Text
types_of_method k = k.class ∷ types_of k.signature

-- ---- code

-- a member is named with its class and the types of its descriptor
abbrev pub types_in : Form → List Text
types_in (form.ConstClass to kind) = kind ∷ []
types_in (form.CheckCast on kind) = kind ∷ []
types_in (form.InstanceOf to from kind) = kind ∷ []
types_in (form.NewInstance to kind) = kind ∷ []
types_in (form.NewArray to size kind) = kind ∷ []
types_in (form.FilledNewArray kind args) = kind ∷ []
types_in (form.InstanceGet item to on field) = types_of_field field
types_in (form.InstancePut item from on field) = types_of_field field
types_in (form.StaticGet item to field) = types_of_field field
types_in (form.StaticPut item from field) = types_of_field field
types_in (form.Invoke kind method args) = types_of_method method
types_in f = []

abbrev pub fields_in : Form → List FieldKey
fields_in (form.InstanceGet item to on field) = field ∷ []
fields_in (form.InstancePut item from on field) = field ∷ []
fields_in (form.StaticGet item to field) = field ∷ []
fields_in (form.StaticPut item from field) = field ∷ []
fields_in f = []

abbrev pub types_in_body : NamedBody → List Text
types_in_body b = flat_map types_in b.forms ++ flat_map (λ r. map (λ h. h.kind) r.handlers) b.regions

abbrev pub fields_in_body : NamedBody → List FieldKey
fields_in_body b = flat_map fields_in b.forms

-- ---- values and annotations

pub record Mentions : Type 0 where
  pub types : List Text
  pub fields : List FieldKey
  pub methods : List MethodKey

abbrev pub none : Mentions
none = record { types = []; fields = []; methods = [] }

abbrev pub all_of : List Mentions → Mentions
all_of ms = record { types = flat_map (λ m. m.types) ms; fields = flat_map (λ m. m.fields) ms; methods = flat_map (λ m. m.methods) ms }

abbrev pub a_type : Text → Mentions
a_type t = record none { types = t ∷ [] }

abbrev pub a_field : FieldKey → Mentions
a_field k = record none { types = types_of_field k; fields = k ∷ [] }

abbrev pub a_method : MethodKey → Mentions
a_method k = record none { types = types_of_method k; methods = k ∷ [] }

abbrev pub value_layer : NamedValue-F Mentions Mentions Mentions → Mentions
value_layer (layer.Class t) = a_type t
value_layer (layer.Field k) = a_field k
value_layer (layer.Enum k) = a_field k
value_layer (layer.Method k) = a_method k
value_layer (layer.Array ms) = all_of ms
value_layer (layer.Annotation m) = m
value_layer v = none

abbrev pub note_layer : NamedNote-F Mentions Mentions Mentions → Mentions
note_layer n = all_of (a_type n.class ∷ n.elements)

abbrev pub in_value : NamedValue → Mentions
in_value v = fold-NamedValue Mentions Mentions Mentions value_layer (λ e. e.value) note_layer v

abbrev pub in_note : NamedNote → Mentions
in_note n = fold-NamedNote Mentions Mentions Mentions value_layer (λ e. e.value) note_layer n

abbrev pub in_marks : List NamedMark → Mentions
in_marks ms = all_of (map (λ m. in_note m.note) ms)

abbrev pub in_first : Option NamedValue → Mentions
in_first None = none
in_first (Some v) = in_value v

abbrev pub in_field : NamedField → Mentions
in_field f = all_of (in_marks f.marks ∷ in_first f.first ∷ [])

abbrev pub in_method : NamedMethod → Mentions
in_method m = all_of (in_marks m.marks ∷ map in_marks m.parameter_marks)

abbrev pub in_class : NamedClass → Mentions
in_class c = in_marks c.marks
