-- Which members and classes the lines of a rule match (ProGuard manual, "Class specifications"; Dalvik executable format,
-- "access_flags Definitions").
use Rattle.std.specs.Prelude.{ℕ, Bool, true, false, ◌&&◌, ◌||◌, not, if◌then◌else◌, nat_eq, List, filter, length, codes}
use Rattle.std.specs.List.{list_any, list_all}
use Rattle.rule_text.specs.declared.rules.Access.{Access}
use Rattle.rule_text.specs.declared.rules.Access.TheVariants as access
use Rattle.dalvik_defs.specs.Names.{Text, text_eq}
use Rattle.dalvik_defs.specs.Flags.{has_bit}
use Rattle.dalvik_defs.specs.declared.names.Signature.{Signature}
use Rattle.dalvik_defs.specs.declared.encoded.NamedMark.{NamedMark}
use Rattle.dalvik_defs.specs.declared.encoded.NamedNote.{NamedNote, fold-NamedNote}
use Rattle.dalvik_defs.specs.declared.program.NamedField.{NamedField}
use Rattle.dalvik_defs.specs.declared.program.NamedMethod.{NamedMethod}
use Rattle.rule_text.specs.Tokens.{Word}
use Rattle.rule_text.specs.Rules.{Condition, Mark, Has, What, All, Fields, Methods, Init, Field, Method, MemberRule}
use Rattle.rule_defs.specs.Patterns.{class_name_fits, member_name_fits, type_fits, arguments_fit}

-- ---- access words

pub data Role : Type 0 where
  OfClass : Role
  OfField : Role
  OfMethod : Role

abbrev pub common_holds : Access → ℕ → Bool
common_holds access.Public flags = has_bit 1 flags
common_holds access.Private flags = has_bit 2 flags
common_holds access.Protected flags = has_bit 4 flags
common_holds access.Static flags = has_bit 8 flags
common_holds access.Final flags = has_bit 16 flags
common_holds access.Abstract flags = has_bit 1024 flags
common_holds access.Synthetic flags = has_bit 4096 flags
common_holds a flags = false

-- words of methods; `synchronized` is also one that was declared so
abbrev pub method_holds : Access → ℕ → Bool
method_holds access.Synchronized flags = has_bit 32 flags || has_bit 131072 flags
method_holds access.Bridge flags = has_bit 64 flags
method_holds access.Varargs flags = has_bit 128 flags
method_holds access.Native flags = has_bit 256 flags
method_holds access.Strict flags = has_bit 2048 flags
method_holds a flags = common_holds a flags

abbrev pub field_holds : Access → ℕ → Bool
field_holds access.Volatile flags = has_bit 64 flags
field_holds access.Transient flags = has_bit 128 flags
field_holds a flags = common_holds a flags

abbrev pub access_holds : Role → Access → ℕ → Bool
access_holds OfClass a flags = common_holds a flags
access_holds OfField a flags = field_holds a flags
access_holds OfMethod a flags = method_holds a flags

abbrev pub is_visibility : Access → Bool
is_visibility access.Public = true
is_visibility access.Private = true
is_visibility access.Protected = true
is_visibility a = false

-- Of public, private and protected one that stands without `!` must hold, where there are any.
abbrev pub asks_visibility : Condition → Bool
asks_visibility (Has negated a) = is_visibility a && not negated
asks_visibility (Mark name) = false

abbrev pub type_of_note : NamedNote → Text
type_of_note n = fold-NamedNote ℕ ℕ Text (λ v. 0) (λ e. 0) (λ m. m.class) n

-- an annotation of a type that matches
abbrev pub has_mark : Word → List NamedMark → Bool
has_mark name marks = list_any (λ m. class_name_fits name (type_of_note m.note)) marks

abbrev pub condition_holds : Role → ℕ → List NamedMark → Condition → Bool
condition_holds role flags marks (Has negated a) = if negated then not (access_holds role a flags) else access_holds role a flags
condition_holds role flags marks (Mark name) = has_mark name marks

abbrev pub some_holds : List Condition → (Condition → Bool) → Bool
some_holds cs holds = nat_eq (length cs) 0 || list_any holds cs

-- all others must hold, each
abbrev pub conditions_hold : Role → ℕ → List NamedMark → List Condition → Bool
conditions_hold role flags marks cs =
    some_holds (filter asks_visibility cs) (condition_holds role flags marks)
    && list_all (λ c. asks_visibility c || condition_holds role flags marks c) cs

-- ---- members

abbrev pub names_method : What → Text → Signature → Bool
names_method All name s = true
names_method Methods name s = true
names_method (Init arguments) name s = text_eq name (codes "<init>") && arguments_fit arguments s.parameters
names_method (Method result word arguments) name s = member_name_fits word name && type_fits result s.result && arguments_fit arguments s.parameters
names_method what name s = false

abbrev pub names_field : What → Text → Text → Bool
names_field All name kind = true
names_field Fields name kind = true
names_field (Field type word) name kind = member_name_fits word name && type_fits type kind
names_field what name kind = false

abbrev pub matches_method : MemberRule → NamedMethod → Bool
matches_method line m = names_method line.what m.name m.signature && conditions_hold OfMethod m.flags m.marks line.conditions

abbrev pub matches_field : MemberRule → NamedField → Bool
matches_field line f = names_field line.what f.name f.kind && conditions_hold OfField f.flags f.marks line.conditions
