-- What a class and its members have to be (Dalvik executable format, "class_def_item", "class_data_item").
use Rattle.std.specs.Prelude.{ℕ, ◌+◌, List, [], length, sum_by, Bool, true, false, not, ◌&&◌, ◌||◌, ◌==◌, nat_eq, nat_lt, nat_le, Option, Some, None, slice_get, option_and_then, codes, if◌then◌else◌}
use Rattle.std.specs.Int.RustNames.{bit_and}
use Rattle.std.specs.List.{list_all}
use Rattle.std.specs.Cmp.Lexicographic.{pointwise}
use Rattle.program_model.specs.Neighbours.{neighbours}
use Rattle.program_model.specs.Distinct.{own_field_key, own_method_key, all_differ}
use Rattle.program_model.specs.Texts.{has_string, has_type, string_text, type_text, first_unit, letter_of, is_class, is_wide}
use Rattle.program_model.specs.ValueRules.{marks_fit, first_fits}
use Rattle.program_model.specs.BodyRules.{body_fits}
use Rattle.program_model.specs.LineRules.{lines_fit}
use Rattle.program_model.specs.declared.flags.Flags.{Flags}
use Rattle.program_model.specs.declared.value.EncValue.{EncValue}
use Rattle.program_model.specs.declared.pools.Proto.{Proto}
use Rattle.program_model.specs.declared.pools.FieldName.{FieldName}
use Rattle.program_model.specs.declared.pools.MethodName.{MethodName}
use Rattle.program_model.specs.declared.body.Body.{Body}
use Rattle.program_model.specs.declared.program.Field.{Field}
use Rattle.program_model.specs.declared.program.Method.{Method}
use Rattle.program_model.specs.declared.program.Class.{Class}
use Rattle.program_model.specs.declared.program.Program.{Program}

-- ---- flags

abbrev pub has_flag : Flags → ℕ → Bool
has_flag flags bit = bit_and flags.0 bit == bit

abbrev pub is_private : Flags → Bool
is_private flags = has_flag flags 2

abbrev pub is_static : Flags → Bool
is_static flags = has_flag flags 8

-- abstract and native methods have no code
abbrev pub lacks_code : Flags → Bool
lacks_code flags = has_flag flags 1024 || has_flag flags 256

-- the first of two lists comes before the second; in each, members ascend by number
abbrev pub in_groups : Bool → Bool → Bool → Bool
in_groups true false ascends = true
in_groups false true ascends = false
in_groups one two ascends = ascends

-- ---- fields

abbrev pub class_of_field : Option FieldName → Option ℕ
class_of_field None = None
class_of_field (Some field) = Some field.class

abbrev pub is_class_number : Option ℕ → ℕ → Bool
is_class_number None class = false
is_class_number (Some one) class = nat_eq one class

-- the letter of a field's type
abbrev pub field_letter : Program → Option FieldName → ℕ
field_letter p None = 0
field_letter p (Some field) = letter_of p field.kind

-- only a static field has a first value, which is one of its type
abbrev pub first_value_fits : Program → Flags → ℕ → Option EncValue → Bool
first_value_fits p flags field None = true
first_value_fits p flags field (Some value) = is_static flags && first_fits p (field_letter p (slice_get p.fields field)) value

-- a field is one of its class
unfoldable pub field_fits : Program → ℕ → Field → Bool
field_fits p class field = is_class_number (class_of_field (slice_get p.fields field.name)) class
    && (first_value_fits p field.flags field.name field.first && marks_fit p field.marks)

-- static fields come first
abbrev pub fields_in_order : Field × Field → Bool
fields_in_order pair = in_groups (is_static pair.0.flags) (is_static pair.1.flags) (nat_lt pair.0.name pair.1.name)

unfoldable pub fields_fit : Program → ℕ → List Field → Bool
fields_fit p class fields = list_all (field_fits p class) fields
    && (list_all fields_in_order (neighbours fields) && all_differ own_field_key fields)

-- ---- methods

abbrev pub class_of_method : Option MethodName → Option ℕ
class_of_method None = None
class_of_method (Some method) = Some method.class

abbrev pub name_of_method : Program → Option MethodName → List ℕ
name_of_method p None = []
name_of_method p (Some method) = string_text p method.name

-- a method is direct where it is static or private, or its name begins with <
unfoldable pub is_direct : Program → Method → Bool
is_direct p method = (is_static method.flags || is_private method.flags)
    || first_unit (name_of_method p (slice_get p.methods method.name)) == 60

-- the registers of a parameter, and of a receiver and parameters
abbrev pub words_of : Program → ℕ → ℕ
words_of p kind = if is_wide (letter_of p kind) then 2 else 1

abbrev pub receiver_words : Flags → ℕ
receiver_words flags = if is_static flags then 0 else 1

abbrev pub proto_of : Program → ℕ → Option Proto
proto_of p method = option_and_then (λ m. slice_get p.protos m.proto) (slice_get p.methods method)

abbrev pub takes_words : Program → Flags → Option Proto → ℕ → Bool
takes_words p flags None words = false
takes_words p flags (Some proto) words = nat_eq words (receiver_words flags + sum_by (words_of p) proto.parameters)

-- the arguments of a body are the receiver and the parameters of the method, and it has room for them
unfoldable pub frame_fits : Program → Method → Body → Bool
frame_fits p method body = takes_words p method.flags (proto_of p method.name) body.ins && nat_le body.ins body.registers

-- a method has a body where it is neither abstract nor native
abbrev pub code_fits : Program → Method → Option Body → Bool
code_fits p method None = lacks_code method.flags && lines_fit 0 method.lines
code_fits p method (Some body) = not (lacks_code method.flags)
    && (frame_fits p method body && (body_fits p body && lines_fit (length body.insns) method.lines))

-- a method is one of its class
unfoldable pub method_fits : Program → ℕ → Method → Bool
method_fits p class method = (is_class_number (class_of_method (slice_get p.methods method.name)) class && code_fits p method method.body)
    && (marks_fit p method.marks && list_all (marks_fit p) method.parameter_marks)

-- direct methods come first
abbrev pub methods_in_order : Program → Method × Method → Bool
methods_in_order p pair = in_groups (is_direct p pair.0) (is_direct p pair.1) (nat_lt pair.0.name pair.1.name)

unfoldable pub methods_fit : Program → ℕ → List Method → Bool
methods_fit p class methods = list_all (method_fits p class) methods
    && (list_all (methods_in_order p) (neighbours methods) && all_differ own_method_key methods)

-- ---- classes

abbrev pub is_class_type : Program → ℕ → Bool
is_class_type p kind = has_type p kind && is_class (letter_of p kind)

abbrev pub is_object : List ℕ → Bool
is_object text = pointwise nat_eq text (codes "Ljava/lang/Object;")

-- a class is not the root, and it, its superclass and its interfaces are class types
unfoldable pub types_of_class_fit : Program → Class → Bool
types_of_class_fit p class = (is_class_type p class.name && not (is_object (type_text p class.name)))
    && (is_class_type p class.superclass && list_all (is_class_type p) class.interfaces)

abbrev pub source_fits : Program → Option ℕ → Bool
source_fits p None = true
source_fits p (Some string) = has_string p string

unfoldable pub class_fits : Program → Class → Bool
class_fits p class = (types_of_class_fit p class && (source_fits p class.source && marks_fit p class.marks))
    && (fields_fit p class.name class.fields && methods_fit p class.name class.methods)
