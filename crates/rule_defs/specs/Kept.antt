-- What rules keep of a program, by names (ProGuard manual, "Keep options"; this project's profile), and the closed table
-- in which no condition is left.
use Rattle.std.specs.Prelude.{ℕ, zero, suc, Bool, true, false, ◌&&◌, ◌||◌, not, if◌then◌else◌, List, [], ◌∷◌, ◌++◌, map, filter, length, Option, Some, None}
use Rattle.std.specs.List.{flat_map, list_any, list_all}
use Rattle.rule_text.specs.declared.rules.ClassKind.{ClassKind}
use Rattle.rule_text.specs.declared.rules.ClassKind.TheVariants as class
use Rattle.rule_text.specs.declared.rules.KeepKind.{KeepKind}
use Rattle.rule_text.specs.declared.rules.KeepKind.TheVariants as keep
use Rattle.rule_text.specs.declared.rules.Modifier.{Modifier}
use Rattle.rule_text.specs.declared.rules.Modifier.TheVariants as modifier
use Rattle.rule_text.specs.declared.rules.SettingName.{SettingName}
use Rattle.rule_text.specs.declared.rules.SettingName.TheVariants as setting
use Rattle.dalvik_defs.specs.Names.{Text, text_eq, base_of, method_eq, field_eq, constructor_name}
use Rattle.dalvik_defs.specs.Flags.{has_bit}
use Rattle.dalvik_defs.specs.Under.{class_named, defines, own_above}
use Rattle.dalvik_defs.specs.Outer.{Outer}
use Rattle.dalvik_defs.specs.Silence.{key_in}
use Rattle.dalvik_defs.specs.declared.names.MethodKey.{MethodKey}
use Rattle.dalvik_defs.specs.declared.names.FieldKey.{FieldKey}
use Rattle.dalvik_defs.specs.declared.program.NamedField.{NamedField}
use Rattle.dalvik_defs.specs.declared.program.NamedMethod.{NamedMethod}
use Rattle.dalvik_defs.specs.declared.program.NamedClass.{NamedClass}
use Rattle.dalvik_defs.specs.declared.program.NamedProgram.{NamedProgram}
use Rattle.rule_text.specs.Rules.{MemberRule, Above, ClassRule, KeepRule, Entry, Setting, Keep, Assume}
use Rattle.rule_text.specs.Spelling.{word_eq, modifier_word, setting_word}
use Rattle.rule_defs.specs.Patterns.{some_name_fits, class_name_fits}
use Rattle.rule_defs.specs.Members.{OfClass, conditions_hold, has_mark, names_method, matches_method, matches_field}

-- ---- which classes a rule matches

abbrev pub is_of_kind : ClassKind → ℕ → Bool
is_of_kind class.Class flags = true
is_of_kind class.Interface flags = has_bit 512 flags
is_of_kind class.Enum flags = has_bit 16384 flags
is_of_kind class.Annotation flags = has_bit 8192 flags

-- the types above one: through program classes to the first names that the program doesn't define
abbrev pub types_above : ℕ → NamedProgram → Text → List Text
types_above zero p t = []
types_above (suc n) p t = own_above p t ++ flat_map (types_above n p) (own_above p t)

-- only a program class has annotations
abbrev pub is_asked_above : NamedProgram → Above → Text → Bool
is_asked_above p a t = class_name_fits a.name t && elim a.mark [
  | Some name ↦ elim (class_named p t) [ Some c ↦ has_mark name c.marks | None ↦ false ]
  | None ↦ true
]

abbrev pub stands_below : NamedProgram → Option Above → Text → Bool
stands_below p (Some a) t = list_any (is_asked_above p a) (types_above (length p.classes) p t)
stands_below p None t = true

abbrev pub is_of_rule_kind : ClassRule → ℕ → Bool
is_of_rule_kind r flags = if r.negated then not (is_of_kind r.kind flags) else is_of_kind r.kind flags

abbrev pub matches_class : NamedProgram → ClassRule → NamedClass → Bool
matches_class p r c = is_of_rule_kind r c.flags && conditions_hold OfClass c.flags c.marks r.conditions && some_name_fits r.names c.name && stands_below p r.above c.name

-- ---- which members

abbrev pub lines_of : ClassRule → List MemberRule
lines_of r = elim r.members [ Some lines ↦ lines | None ↦ [] ]

abbrev pub has_match : NamedClass → MemberRule → Bool
has_match c line = list_any (matches_method line) c.methods || list_any (matches_field line) c.fields

abbrev pub some_line_of_method : ClassRule → NamedMethod → Bool
some_line_of_method r m = list_any (λ line. matches_method line m) (lines_of r)

abbrev pub some_line_of_field : ClassRule → NamedField → Bool
some_line_of_field r f = list_any (λ line. matches_field line f) (lines_of r)

-- ---- which rules keep

abbrev pub has_modifier : Modifier → List Modifier → Bool
has_modifier m ms = list_any (λ n. word_eq (modifier_word n) (modifier_word m)) ms

abbrev pub is_keeping : KeepKind → Bool
is_keeping keep.Keep = true
is_keeping keep.ClassMembers = true
is_keeping keep.ClassesWithMembers = true
is_keeping k = false

-- a rule about names alone keeps nothing, nor does one that allows shrinking
abbrev pub keeps : KeepRule → Bool
keeps r = is_keeping r.kind && not (has_modifier modifier.AllowShrinking r.modifiers)

-- whether the classes themselves are kept, or members where their class is live
abbrev pub is_conditional : KeepKind → Bool
is_conditional keep.ClassMembers = true
is_conditional k = false

-- every line has a match
abbrev pub is_complete : KeepRule → NamedClass → Bool
is_complete r c = elim r.kind [ keep.ClassesWithMembers ↦ list_all (has_match c) (lines_of r.class) | _ ↦ true ]

abbrev pub applies : NamedProgram → KeepRule → NamedClass → Bool
applies p r c = keeps r && matches_class p r.class c && is_complete r c

-- the rules that keep, or keep under the condition that a class is live
abbrev pub rules_of : Bool → List Entry → List KeepRule
rules_of conditional [] = []
rules_of conditional (Keep r ∷ es) = (if is_conditional r.kind then (if conditional then r ∷ [] else []) else (if conditional then [] else r ∷ [])) ++ rules_of conditional es
rules_of conditional (Setting name words ∷ es) = rules_of conditional es
rules_of conditional (Assume r ∷ es) = rules_of conditional es

-- ---- what is kept

abbrev pub keeps_method : NamedProgram → List KeepRule → NamedClass → NamedMethod → Bool
keeps_method p rs c m = list_any (λ r. applies p r c && some_line_of_method r.class m) rs

abbrev pub keeps_field : NamedProgram → List KeepRule → NamedClass → NamedField → Bool
keeps_field p rs c f = list_any (λ r. applies p r c && some_line_of_field r.class f) rs

abbrev pub keeps_class : NamedProgram → List KeepRule → NamedClass → Bool
keeps_class p rs c = list_any (λ r. applies p r c) rs

-- the rules that also keep the classes in the descriptors of the members that they keep
abbrev pub describing : List KeepRule → List KeepRule
describing rs = filter (λ r. has_modifier modifier.IncludeDescriptorClasses r.modifiers) rs

abbrev pub names_base : Text → List Text → Bool
names_base t ts = list_any (λ u. text_eq (base_of u) t) ts

-- whether the descriptor of a member of the class that such a rule keeps names the type
abbrev pub describes : NamedProgram → List KeepRule → NamedClass → Text → Bool
describes p rs c t =
    list_any (λ m. keeps_method p (describing rs) c m && names_base t (m.signature.result ∷ m.signature.parameters)) c.methods
    || list_any (λ f. keeps_field p (describing rs) c f && names_base t (f.kind ∷ [])) c.fields

pub record Table : Type 0 where
  -- kept whatever is live
  pub classes : Text → Bool
  pub methods : MethodKey → Bool
  pub fields : FieldKey → Bool
  -- members kept where their class is live, and classes kept where another, the owner, is
  pub methods_if : MethodKey → Bool
  pub fields_if : FieldKey → Bool
  pub classes_if : Text → Text → Bool
  pub shrink : Bool
  pub optimise : Bool
  pub silent : MethodKey → Bool

abbrev pub some_class : NamedProgram → (NamedClass → Bool) → Bool
some_class p test = list_any test p.classes

abbrev pub some_method : NamedProgram → (NamedClass → NamedMethod → Bool) → MethodKey → Bool
some_method p test k = some_class p (λ c. list_any (λ m. method_eq (key_in c m) k && test c m) c.methods)

abbrev pub field_in : NamedClass → NamedField → FieldKey
field_in c f = record { class = c.name; name = f.name; kind = f.kind }

abbrev pub some_field : NamedProgram → (NamedClass → NamedField → Bool) → FieldKey → Bool
some_field p test k = some_class p (λ c. list_any (λ f. field_eq (field_in c f) k && test c f) c.fields)

-- ---- options, and methods that are assumed to do nothing

abbrev pub is_setting : SettingName → Entry → Bool
is_setting name (Setting other words) = word_eq (setting_word other) (setting_word name)
is_setting name e = false

abbrev pub is_assumed : MethodKey → Entry → Bool
is_assumed k (Assume r) = some_name_fits r.names k.class && list_any (λ line. names_method line.what k.name k.signature) r.members
is_assumed k e = false

-- the table of some rules on a program
abbrev pub table_of : NamedProgram → List Entry → Table
table_of p es = let kept : List KeepRule = rules_of false es in let under : List KeepRule = rules_of true es in record {
  classes = λ t. defines p t && some_class p (λ c. (text_eq c.name t && keeps_class p kept c) || describes p kept c t);
  methods = some_method p (keeps_method p kept);
  fields = some_field p (keeps_field p kept);
  methods_if = some_method p (keeps_method p under);
  fields_if = some_field p (keeps_field p under);
  classes_if = λ t owner. defines p t && some_class p (λ c. text_eq c.name owner && describes p under c t);
  shrink = not (list_any (is_setting setting.DontShrink) es);
  optimise = not (list_any (is_setting setting.DontOptimize) es);
  silent = λ k. not (defines p k.class) && list_any (is_assumed k) es;
}

-- Each conditional class whose owner is live, and each conditional member of a live class, has become a kept one.
abbrev pub kept_method : Table → (Text → Bool) → MethodKey → Bool
kept_method t live k = t.methods k || (t.methods_if k && live k.class)

abbrev pub closed : NamedProgram → Table → (Text → Bool) → Outer
closed p t live = record {
  classes = λ u. t.classes u || some_class p (λ c. t.classes_if u c.name && live c.name);
  methods = kept_method t live;
  constructed = λ u. some_class p (λ c. text_eq c.name u && list_any (λ m. text_eq m.name constructor_name && kept_method t live (key_in c m)) c.methods);
  keepers = λ n s. map (λ c. c.name) (filter (λ c. kept_method t live (record { class = c.name; name = n; signature = s })) p.classes);
  fields = λ k. t.fields k || (t.fields_if k && live k.class);
  silent = t.silent;
  shut = λ k. false;
}
