-- What is asked of a descriptor and of conditions, part by part.
use Rattle.std.specs.Prelude.{ℕ, map, length, nat_lt, slice_get, zero, suc, Bool, true, false, ◌&&◌, ◌||◌, not, List, [], Option, Some, None}
use Rattle.std.specs.List.{list_all, list_any}
use Rattle.dalvik_defs.specs.Names.{Text, is_array, item_of}
use Rattle.dalvik_defs.specs.Naming.{type_at}
use Rattle.dalvik_defs.specs.declared.names.Signature.{Signature}
use Rattle.program_model.specs.declared.pools.Proto.{Proto}
use Rattle.dalvik_defs.specs.declared.encoded.NamedMark.{NamedMark}
use Rattle.program_model.specs.declared.pools.MethodName.{MethodName}
use Rattle.program_model.specs.declared.program.Field.{Field}
use Rattle.program_model.specs.declared.program.Method.{Method}
use Rattle.program_model.specs.declared.program.Class.{Class}
use Rattle.program_model.specs.declared.program.Program.{Program}
use Rattle.rule_text.specs.Rules.{Condition, Mark, Has}
use Rattle.rule_defs.specs.Members.{Role, OfClass, OfField, OfMethod, asks_visibility, has_mark, condition_holds}
use Rattle.keep_rules.specs.declared.access.Role.{Role as Part}
use Rattle.keep_rules.specs.declared.access.Role.TheVariants as part

-- a type behind so many brackets, if it has them
abbrev pub behind_of : ℕ → Text → Option Text
behind_of zero t = Some t
behind_of (suc n) t = elim (is_array t) [ true ↦ behind_of n (item_of t) | false ↦ None ]

abbrev pub role_of : Part → Role
role_of part.Class = OfClass
role_of part.Field = OfField
role_of part.Method = OfMethod

abbrev pub is_mark : Condition → Bool
is_mark (Mark name) = true
is_mark (Has negated access) = false

-- a word that says who may see the member, which holds
abbrev pub sees : Role → ℕ → Condition → Bool
sees role flags c = asks_visibility c && condition_holds role flags [] c

-- one of these words holds, where there are any
abbrev pub is_seen : Role → ℕ → List Condition → Bool
is_seen role flags cs = list_any (sees role flags) cs || not (list_any asks_visibility cs)

-- a word that doesn't say who may see the member holds
abbrev pub other_holds : Role → ℕ → Condition → Bool
other_holds role flags c = asks_visibility c || (is_mark c || condition_holds role flags [] c)

abbrev pub others_hold : Role → ℕ → List Condition → Bool
others_hold role flags cs = list_all (other_holds role flags) cs

-- the access words hold
abbrev pub words_hold : Role → ℕ → List Condition → Bool
words_hold role flags cs = is_seen role flags cs && others_hold role flags cs

abbrev pub mark_holds : List NamedMark → Condition → Bool
mark_holds marks (Mark name) = has_mark name marks
mark_holds marks (Has negated access) = true

-- the annotations are there
abbrev pub marks_hold : List NamedMark → List Condition → Bool
marks_hold marks cs = list_all (mark_holds marks) cs

-- the signature of a proto
abbrev pub signature_of : Program → Proto → Signature
signature_of p q = record { parameters = map (type_at p) q.parameters; result = type_at p q.result }

-- ---- members whose names stand in the tables

abbrev pub has_signature : Program → Option MethodName → Bool
has_signature p None = false
has_signature p (Some q) = nat_lt q.proto (length p.protos)

abbrev pub has_method_name : Program → Method → Bool
has_method_name p m = has_signature p (slice_get p.methods m.name)

abbrev pub has_field_name : Program → Field → Bool
has_field_name p f = nat_lt f.name (length p.fields)

abbrev pub has_names : Program → Class → Bool
has_names p c = list_all (has_method_name p) c.methods && list_all (has_field_name p) c.fields
