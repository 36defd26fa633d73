-- What classes define, by number (Dalvik executable format, "class_data_item").
use Rattle.std.specs.Prelude.{ℕ, ◌&&◌, ◌||◌, not, Bool, true, false, List, [], ◌∷◌, Option, Some, None, nat_eq, slice_get, position, cond, codes, is_some}
use Rattle.std.specs.Option.{option_map}
use Rattle.std.specs.Cmp.Lexicographic.{pointwise}
use Rattle.program_model.specs.declared.pools.Proto.{Proto}
use Rattle.program_model.specs.declared.pools.FieldName.{FieldName}
use Rattle.program_model.specs.declared.pools.MethodName.{MethodName}
use Rattle.program_model.specs.declared.program.Field.{Field}
use Rattle.program_model.specs.declared.program.Method.{Method}
use Rattle.program_model.specs.declared.program.MethodAt.{MethodAt}
use Rattle.program_model.specs.declared.program.Class.{Class}
use Rattle.program_model.specs.declared.program.Program.{Program}
use Rattle.program_model.specs.Lookups.{method_at}
use Rattle.program_model.specs.MemberRules.{has_flag, is_direct}
use Rattle.program_model.specs.Texts.{string_text, type_text}

-- ---- methods

-- whether the entry has this name and this proto
abbrev pub names_method : ℕ → ℕ → Option MethodName → Bool
names_method name proto None = false
names_method name proto (Some q) = nat_eq q.name name && nat_eq q.proto proto

abbrev pub is_method : Program → ℕ → ℕ → Method → Bool
is_method p name proto m = names_method name proto (slice_get p.methods m.name)

abbrev pub method_of_class : Program → ℕ → ℕ → ℕ → Option Class → Option MethodAt
method_of_class p name proto c None = None
method_of_class p name proto c (Some k) = option_map (λ i. record { class = c; place = i }) (position (is_method p name proto) k.methods)

-- the method of a name and a proto that the class at a place defines
abbrev pub own_method : Program → ℕ → ℕ → ℕ → Option MethodAt
own_method p name proto c = method_of_class p name proto c (slice_get p.classes c)

-- whether calls find it by the class of their receiver: it is neither static, private, nor named with a leading <
abbrev pub is_virtual : Program → Option Method → Bool
is_virtual p None = false
is_virtual p (Some m) = not (is_direct p m)

abbrev pub virtual_only : Program → Option MethodAt → Option MethodAt
virtual_only p None = None
virtual_only p (Some at) = cond (is_virtual p (method_at p at)) (Some at) None

abbrev pub own_virtual : Program → ℕ → ℕ → ℕ → Option MethodAt
own_virtual p name proto c = virtual_only p (own_method p name proto c)

-- whether the method has code
abbrev pub has_code : Option Method → Bool
has_code None = false
has_code (Some m) = is_some m.body

-- whether the class at a place is an interface
abbrev pub is_interface : Option Class → Bool
is_interface None = false
is_interface (Some k) = has_flag k.flags 512

-- ---- names that mean something by themselves

abbrev pub string_is : Program → ℕ → List ℕ → Bool
string_is p n text = pointwise nat_eq (string_text p n) text

abbrev pub type_is : Program → ℕ → List ℕ → Bool
type_is p k text = pointwise nat_eq (type_text p k) text

-- whether types have these descriptors, one for each
abbrev pub types_are : Program → List ℕ → List (List ℕ) → Bool
types_are p [] [] = true
types_are p [] (t ∷ ts) = false
types_are p (k ∷ ks) [] = false
types_are p (k ∷ ks) (t ∷ ts) = type_is p k t && types_are p ks ts

-- whether a proto takes and gives types of these descriptors
abbrev pub proto_is : Program → List (List ℕ) → List ℕ → Option Proto → Bool
proto_is p parameters result None = false
proto_is p parameters result (Some q) = type_is p q.result result && types_are p q.parameters parameters

abbrev pub is_named : Program → ℕ → ℕ → List ℕ → List (List ℕ) → List ℕ → Bool
is_named p name proto text parameters result = string_is p name text && proto_is p parameters result (slice_get p.protos proto)

-- the methods that every object answers to, also where its classes are all the program's
abbrev pub is_common : Program → ℕ → ℕ → Bool
is_common p name proto = is_named p name proto (codes "equals") (codes "Ljava/lang/Object;" ∷ []) (codes "Z")
    || is_named p name proto (codes "hashCode") [] (codes "I")
    || is_named p name proto (codes "toString") [] (codes "Ljava/lang/String;")
    || is_named p name proto (codes "clone") [] (codes "Ljava/lang/Object;")
    || is_named p name proto (codes "finalize") [] (codes "V")

-- ---- fields

-- whether the entry has this name and this type
abbrev pub names_field : ℕ → ℕ → Option FieldName → Bool
names_field name kind None = false
names_field name kind (Some q) = nat_eq q.name name && nat_eq q.kind kind

abbrev pub is_field : Program → ℕ → ℕ → Field → Bool
is_field p name kind f = names_field name kind (slice_get p.fields f.name)

abbrev pub field_of_class : Program → ℕ → ℕ → ℕ → Option Class → Option (ℕ × ℕ)
field_of_class p name kind c None = None
field_of_class p name kind c (Some k) = option_map (λ i. (c, i)) (position (is_field p name kind) k.fields)

-- the class and the place of the field of a name and a type that the class at a place defines
abbrev pub own_field : Program → ℕ → ℕ → ℕ → Option (ℕ × ℕ)
own_field p name kind c = field_of_class p name kind c (slice_get p.classes c)
