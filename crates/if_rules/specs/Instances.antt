-- The instances of a rule with a condition (ProGuard manual, "Keep options", -if): for each live class that the condition matches, and where
-- it has lines of members for live members that match them, the keep rule with what the wildcards matched in place of the references.
use Rattle.std.specs.Prelude.{◌≡◌, ℕ, ◌+◌, ◌-◌, ◌*◌, ◌/◌, ◌%◌, Bool, true, false, if◌then◌else◌, nat_lt, List, [], ◌∷◌, ◌++◌, slice_index_or, Contains}
use Rattle.std.specs.List.{flat_map, list_any}
use Rattle.call_graph.specs.declared.live_set.LiveSet.{LiveSet}
use Rattle.dalvik_defs.specs.Names.{Text}
use Rattle.dalvik_defs.specs.Naming.{type_at, field_at, method_at, named, named_class, named_field, named_method}
use Rattle.program_model.specs.declared.program.Class.{Class}
use Rattle.program_model.specs.declared.program.Field.{Field as OwnField}
use Rattle.program_model.specs.declared.program.Method.{Method as OwnMethod}
use Rattle.program_model.specs.declared.program.Program.{Program}
use Rattle.rule_defs.specs.Kept.{lines_of, matches_class}
use Rattle.rule_defs.specs.Members.{matches_field, matches_method}
use Rattle.rule_text.specs.Glob.{begins_pair}
use Rattle.rule_text.specs.Rules.{ClassRule, MemberRule}
use Rattle.if_text.specs.Items.{IfRule}
use Rattle.if_text.specs.Parts.{parts_of}
use Rattle.if_text.specs.Wildcards.{slots, source_in}
use Rattle.if_text.specs.declared.parts.Part.{Part}
use Rattle.if_text.specs.declared.parts.Part.TheVariants.{Byte, Ref}
use Rattle.if_text.specs.declared.slots.Source.{Source}
use Rattle.if_text.specs.declared.slots.Source.TheVariants.{Nothing, Name, Line}
use Rattle.if_rules.specs.Matched.{class_texts, field_texts, method_texts}

-- ---- the words of an instance

-- a unit, and a character of two units, in UTF-8
abbrev pub unit_bytes : ℕ → List ℕ
unit_bytes u =
    if nat_lt u 128 then u ∷ []
    else if nat_lt u 2048 then (192 + u / 64) ∷ (128 + u % 64) ∷ []
    else (224 + u / 4096) ∷ (128 + u / 64 % 64) ∷ (128 + u % 64) ∷ []

abbrev pub code_of : ℕ → ℕ → ℕ
code_of u v = 65536 + (u - 55296) * 1024 + (v - 56320)

abbrev pub code_bytes : ℕ → List ℕ
code_bytes c = (240 + c / 262144) ∷ (128 + c / 4096 % 64) ∷ (128 + c / 64 % 64) ∷ (128 + c % 64) ∷ []

abbrev pub utf8 : Text → List ℕ
utf8 [] = []
utf8 (u ∷ []) = unit_bytes u
utf8 (u ∷ v ∷ us) = if begins_pair (u ∷ v ∷ us) then code_bytes (code_of u v) ++ utf8 us else unit_bytes u ++ utf8 (v ∷ us)

-- what the wildcards of the class's name, and those of what the line names, matched
pub record Texts : Type 0 where
  pub name : List Text
  pub line : List Text

abbrev pub text_of : Texts → Source → Text
text_of x Nothing = []
text_of x (Name i) = slice_index_or x.name i []
text_of x (Line i) = slice_index_or x.line i []

abbrev pub part_bytes : List Source → Texts → Part → List ℕ
part_bytes ss x (Byte c) = c ∷ []
part_bytes ss x (Ref n) = utf8 (text_of x (source_in ss n))

abbrev pub parts_bytes : List Source → Texts → List Part → List ℕ
parts_bytes ss x ps = flat_map (part_bytes ss x) ps

-- each word with a blank before it
abbrev pub words_bytes : List Source → Texts → List (List Part) → List ℕ
words_bytes ss x ws = flat_map (λ ps. 32 ∷ parts_bytes ss x ps) ws

-- the text of the keep rule
abbrev pub instance_text : IfRule → Texts → List ℕ
instance_text r x = flat_map (λ w. 32 ∷ parts_bytes (slots r.condition) x (parts_of w)) r.words

-- ---- the classes and members

abbrev pub is_line : Source → Bool
is_line (Line i) = true
is_line s = false

abbrev pub names_line : List Source → Part → Bool
names_line ss (Byte c) = false
names_line ss (Ref n) = is_line (source_in ss n)

-- some reference names a wildcard of the line
abbrev pub uses_line : IfRule → Bool
uses_line r = list_any (λ w. list_any (names_line (slots r.condition)) (parts_of w)) r.words

abbrev pub is_on : List Bool → ℕ → Bool
is_on marks n = slice_index_or marks n false

-- a live class that the condition matches
pub record IsLiveClass (p : Program) (s : LiveSet) (c : ClassRule) (class : Class) : Type 0 where
  pub inside : Contains p.classes class
  pub live : is_on s.classes.items class.name ≡ true
  pub fits : matches_class (named p) c (named_class p class) ≡ true

-- a live method, and a live field, that the line matches
pub record IsLiveMethod (p : Program) (s : LiveSet) (class : Class) (line : MemberRule) (m : OwnMethod) : Type 0 where
  pub inside : Contains class.methods m
  pub live : is_on s.methods.items m.name ≡ true
  pub fits : matches_method line (named_method p m) ≡ true

pub record IsLiveField (p : Program) (s : LiveSet) (class : Class) (line : MemberRule) (f : OwnField) : Type 0 where
  pub inside : Contains class.fields f
  pub live : is_on s.fields.items f.name ≡ true
  pub fits : matches_field line (named_field p f) ≡ true

pub data IsMet (p : Program) (s : LiveSet) (class : Class) (line : MemberRule) : Type 0 where
  ByMethod : (m : OwnMethod) → IsLiveMethod p s class line m → IsMet p s class line
  ByField : (f : OwnField) → IsLiveField p s class line f → IsMet p s class line

abbrev pub names_of : Program → ClassRule → Class → List Text
names_of p c class = class_texts c.names (type_at p class.name)

-- Where these are live, the rule holds with these texts for its references. Where no reference names a wildcard of the line, each line is
-- asked for some live member; otherwise there is one line alone, and each live member that it matches makes an instance.
pub data Holds (p : Program) (s : LiveSet) (r : IfRule) : Texts → Type 0 where
  OfClass : (class : Class) → IsLiveClass p s r.condition class → uses_line r ≡ false → ((line : MemberRule) → Contains (lines_of r.condition) line → IsMet p s class line)
      → Holds p s r (record { name = names_of p r.condition class; line = [] })
  OfMethod : (class : Class) (line : MemberRule) (m : OwnMethod) → IsLiveClass p s r.condition class → uses_line r ≡ true → lines_of r.condition ≡ line ∷ [] → IsLiveMethod p s class line m
      → Holds p s r (record { name = names_of p r.condition class; line = method_texts line.what (method_at p m.name).name (method_at p m.name).signature })
  OfField : (class : Class) (line : MemberRule) (f : OwnField) → IsLiveClass p s r.condition class → uses_line r ≡ true → lines_of r.condition ≡ line ∷ [] → IsLiveField p s class line f
      → Holds p s r (record { name = names_of p r.condition class; line = field_texts line.what (field_at p f.name).name (field_at p f.name).kind })
