-- Texts, and what a descriptor says (Dalvik executable format, "TypeDescriptor").
use Rattle.std.specs.Prelude.{ℕ, Bool, true, false, ◌&&◌, ◌||◌, List, [], ◌∷◌, ◌++◌, nat_eq, codes}
use Rattle.std.specs.Cmp.Lexicographic.{pointwise}
use Rattle.std.specs.List.{concat, list_any}
use Rattle.dalvik_defs.specs.declared.names.Signature.{Signature}
use Rattle.dalvik_defs.specs.declared.names.MethodKey.{MethodKey}
use Rattle.dalvik_defs.specs.declared.names.FieldKey.{FieldKey}

abbrev pub Text : Type 0
Text = List ℕ

abbrev pub text_eq : Text → Text → Bool
text_eq = pointwise nat_eq

abbrev pub texts_eq : List Text → List Text → Bool
texts_eq = pointwise text_eq

abbrev pub signature_eq : Signature → Signature → Bool
signature_eq a b = text_eq a.result b.result && texts_eq a.parameters b.parameters

abbrev pub method_eq : MethodKey → MethodKey → Bool
method_eq a b = text_eq a.class b.class && text_eq a.name b.name && signature_eq a.signature b.signature

abbrev pub field_eq : FieldKey → FieldKey → Bool
field_eq a b = text_eq a.class b.class && text_eq a.name b.name && text_eq a.kind b.kind

-- a signature as scripts and events spell it
abbrev pub proto_text : Signature → Text
proto_text s = 40 ∷ (concat s.parameters ++ 41 ∷ s.result)

-- a name and a signature, wherever the method stands
abbrev pub same_name : Text → Signature → Text → Signature → Bool
same_name n s n' s' = text_eq n n' && signature_eq s s'

-- long and double
abbrev pub is_wide : Text → Bool
is_wide [] = false
is_wide (u ∷ us) = nat_eq u 74 || nat_eq u 68

-- a class or an array
abbrev pub is_reference : Text → Bool
is_reference [] = false
is_reference (u ∷ us) = nat_eq u 76 || nat_eq u 91

abbrev pub is_class_type : Text → Bool
is_class_type [] = false
is_class_type (u ∷ us) = nat_eq u 76

abbrev pub is_array : Text → Bool
is_array [] = false
is_array (u ∷ us) = nat_eq u 91

abbrev pub is_void : Text → Bool
is_void [] = false
is_void (u ∷ us) = nat_eq u 86

-- a primitive type that is no wide
abbrev pub is_word : Text → Bool
is_word [] = false
is_word (u ∷ us) = list_any (nat_eq u) (codes "ZBSCIF")

-- the item type of an array type
abbrev pub item_of : Text → Text
item_of [] = []
item_of (u ∷ us) = us

abbrev pub array_of : Text → Text
array_of t = 91 ∷ t

-- a type without its brackets
abbrev pub base_of : Text → Text
base_of [] = []
base_of (u ∷ us) = elim (nat_eq u 91) [ true ↦ base_of us | false ↦ u ∷ us ]

-- the names that the machine itself knows
abbrev pub object_type : Text
object_type = codes "Ljava/lang/Object;"

abbrev pub string_type : Text
string_type = codes "Ljava/lang/String;"

abbrev pub class_type : Text
class_type = codes "Ljava/lang/Class;"

abbrev pub throwable_type : Text
throwable_type = codes "Ljava/lang/Throwable;"

abbrev pub error_type : Text
error_type = codes "Ljava/lang/Error;"

abbrev pub no_parameters : Text → Signature
no_parameters result = record { parameters = []; result = result }

abbrev pub void : Signature
void = no_parameters (codes "V")

abbrev pub initialiser_name : Text
initialiser_name = codes "<clinit>"

abbrev pub constructor_name : Text
constructor_name = codes "<init>"

-- the constructor of Object, which does nothing
abbrev pub object_constructor : MethodKey
object_constructor = record { class = object_type; name = constructor_name; signature = void }

-- the methods that every object answers to, also where its classes are all the program's
abbrev pub is_common : Text → Signature → Bool
is_common n s =
    same_name n s (codes "equals") (record { parameters = object_type ∷ []; result = codes "Z" })
    || same_name n s (codes "hashCode") (no_parameters (codes "I"))
    || same_name n s (codes "toString") (no_parameters string_type)
    || same_name n s (codes "clone") (no_parameters object_type)
    || same_name n s (codes "finalize") void
