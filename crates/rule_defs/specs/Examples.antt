-- Small rules and programs for the examples of `examples.rt`.
use Rattle.std.specs.Prelude.{ℕ, false, List, [], ◌∷◌, Some, None, codes}
use Rattle.rule_text.specs.declared.rules.Access.TheVariants as access
use Rattle.rule_text.specs.declared.rules.ClassKind.{ClassKind}
use Rattle.rule_text.specs.declared.rules.ClassKind.TheVariants as class
use Rattle.rule_text.specs.declared.rules.KeepKind.{KeepKind}
use Rattle.rule_text.specs.declared.rules.KeepKind.TheVariants as keep
use Rattle.program_model.specs.declared.program.Version.TheVariants.{V035}
use Rattle.dalvik_defs.specs.Names.{Text, object_type, string_type, no_parameters}
use Rattle.dalvik_defs.specs.declared.names.Signature.{Signature}
use Rattle.dalvik_defs.specs.declared.names.MethodKey.{MethodKey}
use Rattle.dalvik_defs.specs.declared.names.FieldKey.{FieldKey}
use Rattle.dalvik_defs.specs.declared.program.NamedField.{NamedField}
use Rattle.dalvik_defs.specs.declared.program.NamedMethod.{NamedMethod}
use Rattle.dalvik_defs.specs.declared.program.NamedClass.{NamedClass}
use Rattle.dalvik_defs.specs.declared.program.NamedProgram.{NamedProgram}
use Rattle.rule_text.specs.Tokens.{Word}
use Rattle.rule_text.specs.Rules.{Condition, Has, These, What, All, Field, Method, MemberRule, ClassRule, Entry, Keep, Assume}

-- ---- rules

abbrev pub line : List Condition → What → MemberRule
line conditions what = record { conditions = conditions; what = what }

abbrev pub classes : ClassKind → Word → List MemberRule → ClassRule
classes kind name members = record { conditions = []; negated = false; kind = kind; names = name ∷ []; above = None; members = Some members }

abbrev pub keep_rule : KeepKind → ClassRule → Entry
keep_rule kind rule = Keep (record { kind = kind; modifiers = []; class = rule })

-- `-keepclassmembers class B { int x; }`
abbrev pub keeps_x : Entry
keeps_x = keep_rule keep.ClassMembers (classes class.Class (codes "B") (line [] (Field (codes "int") (codes "x")) ∷ []))

abbrev pub public_static : List Condition
public_static = Has false access.Public ∷ Has false access.Static ∷ []

-- `public static **[] values();`
abbrev pub values_line : MemberRule
values_line = line public_static (Method (codes "**[]") (codes "values") (These []))

-- `public static ** valueOf(java.lang.String);`
abbrev pub value_of_line : MemberRule
value_of_line = line public_static (Method (codes "**") (codes "valueOf") (These (codes "java.lang.String" ∷ [])))

abbrev pub keeps_enums : Entry
keeps_enums = keep_rule keep.ClassMembers (classes class.Enum (codes "*") (values_line ∷ value_of_line ∷ []))

-- `-assumenosideeffects class Log { *; }`
abbrev pub quiet_log : Entry
quiet_log = Assume (record { names = codes "Log" ∷ []; members = line [] All ∷ [] })

-- ---- a program

abbrev pub b_type : Text
b_type = codes "LB;"

abbrev pub mode_type : Text
mode_type = codes "LMode;"

abbrev pub int_field : Text → NamedField
int_field name = record { name = name; kind = codes "I"; flags = 8; first = None; marks = [] }

abbrev pub declared : Text → Signature → ℕ → NamedMethod
declared name signature flags = record { name = name; signature = signature; flags = flags; marks = []; parameter_marks = []; body = None; lines = [] }

abbrev pub values_signature : Signature
values_signature = no_parameters (codes "[LMode;")

abbrev pub value_of_signature : Signature
value_of_signature = record { parameters = string_type ∷ []; result = mode_type }

abbrev pub class_of : Text → ℕ → List NamedField → List NamedMethod → NamedClass
class_of name flags fields methods = record { name = name; flags = flags; superclass = object_type; interfaces = []; source = None; marks = []; fields = fields; methods = methods }

-- B with the static fields x and y, and an enum with `values` and `valueOf`, which are public and static, and a private `values`
abbrev pub two_classes : NamedProgram
two_classes = record {
  version = V035;
  classes =
      class_of b_type 1 (int_field (codes "x") ∷ int_field (codes "y") ∷ []) []
      ∷ class_of mode_type 16385 [] (declared (codes "values") values_signature 9 ∷ declared (codes "valueOf") value_of_signature 9 ∷ declared (codes "other") values_signature 9 ∷ [])
      ∷ [];
}

abbrev pub b_field : Text → FieldKey
b_field name = record { class = b_type; name = name; kind = codes "I" }

abbrev pub mode_method : Text → Signature → MethodKey
mode_method name signature = record { class = mode_type; name = name; signature = signature }

abbrev pub log_method : MethodKey
log_method = record { class = codes "LLog;"; name = codes "i"; signature = no_parameters (codes "V") }
