-- What rules have marked: by number what was marked before, and what passes a test.
use Rattle.std.specs.Prelude.{◌≡◌, ◌<◌, ℕ, Bool, true, false, ◌&&◌, ◌||◌, not, List, [], ◌∷◌, Some, None, length, nat_eq, slice_get}
use Rattle.std.specs.List.{list_any}
use Rattle.program_model.specs.declared.program.Field.{Field}
use Rattle.program_model.specs.declared.program.Method.{Method}
use Rattle.program_model.specs.declared.program.Class.{Class}
use Rattle.program_model.specs.declared.program.Program.{Program}
use Rattle.program_model.specs.Lookups.{class_place}
use Rattle.dalvik_defs.specs.Under.{defines}
use Rattle.dalvik_defs.specs.Naming.{method_at, named_field, named_method, named_class, named}
use Rattle.rule_text.specs.declared.rules.Modifier.TheVariants as modifier
use Rattle.rule_text.specs.Rules.{KeepRule, Entry}
use Rattle.rule_defs.specs.Kept.{applies, some_line_of_method, some_line_of_field, is_conditional, has_modifier, rules_of, describing, is_assumed}
use Rattle.keep_rules.specs.Marks.{is_on}
use Rattle.keep_rules.specs.declared.marks.MemberMarks.{MemberMarks}
use Rattle.keep_rules.specs.declared.marks.Marks.{Marks}

pub record Grew (test : ℕ → Bool) (old new : List Bool) : Type 0 where
  pub size : length new ≡ length old
  pub is : (n : ℕ) → n < length old → is_on new n ≡ (is_on old n || test n)

-- what is marked so far with what is still to come is what was marked with all
pub record Left (rest all : ℕ → Bool) (old new : List Bool) : Type 0 where
  pub size : length new ≡ length old
  pub is : (n : ℕ) → n < length old → (is_on new n || rest n) ≡ (is_on old n || all n)

-- ---- the lists of marks

-- members that are kept, that are kept where their class is live, and those of either whose descriptor's classes are kept
pub data Part : Type 0 where
  Kept : Part
  Live : Part
  Described : Part
  DescribedLive : Part

abbrev pub marks_in : Part → MemberMarks → List Bool
marks_in Kept m = m.kept.items
marks_in Live m = m.live.items
marks_in Described m = m.described.items
marks_in DescribedLive m = m.described_live.items

-- whether a rule that keeps at all events or not, with the classes of descriptors or not, marks these
abbrev pub is_in : Bool → Bool → Part → Bool
is_in always described Kept = always
is_in always described Live = not always
is_in always described Described = always && described
is_in always described DescribedLive = not always && described

pub data Slot : Type 0 where
  Kinds : Slot
  Fields : Part → Slot
  Methods : Part → Slot
  Silent : Slot

abbrev pub marks_of : Slot → Marks → List Bool
marks_of Kinds m = m.classes.items
marks_of (Fields part) m = marks_in part m.fields
marks_of (Methods part) m = marks_in part m.methods
marks_of Silent m = m.silent.items

abbrev pub GrewMembers : Bool → Bool → (ℕ → Bool) → MemberMarks → MemberMarks → Type 0
GrewMembers always described test old new = (s : Part) → Grew (λ n. is_in always described s && test n) (marks_in s old) (marks_in s new)

abbrev pub LeftMembers : Bool → Bool → (ℕ → Bool) → (ℕ → Bool) → MemberMarks → MemberMarks → Type 0
LeftMembers always described rest all old new = (s : Part) → Left (λ n. is_in always described s && rest n) (λ n. is_in always described s && all n) (marks_in s old) (marks_in s new)

abbrev pub GrewAll : (Slot → ℕ → Bool) → Marks → Marks → Type 0
GrewAll test old new = (s : Slot) → Grew (test s) (marks_of s old) (marks_of s new)

abbrev pub LeftAll : (Slot → ℕ → Bool) → (Slot → ℕ → Bool) → Marks → Marks → Type 0
LeftAll rest all old new = (s : Slot) → Left (rest s) (all s) (marks_of s old) (marks_of s new)

-- ---- what one rule keeps

abbrev pub is_always_of : KeepRule → Bool
is_always_of r = not (is_conditional r.kind)

abbrev pub is_describing : KeepRule → Bool
is_describing r = has_modifier modifier.IncludeDescriptorClasses r.modifiers

-- a field and a method with the number that some line matches
abbrev pub lined_field : Program → KeepRule → ℕ → Field → Bool
lined_field p r n f = nat_eq n f.name && some_line_of_field r.class (named_field p f)

abbrev pub lined_method : Program → KeepRule → ℕ → Method → Bool
lined_method p r n m = nat_eq n m.name && some_line_of_method r.class (named_method p m)

-- of some classes
abbrev pub rule_classes : Program → KeepRule → List Class → ℕ → Bool
rule_classes p r cs n = list_any (λ c. applies (named p) r (named_class p c) && nat_eq n c.name) cs

abbrev pub rule_fields : Program → KeepRule → List Class → ℕ → Bool
rule_fields p r cs n = list_any (λ c. applies (named p) r (named_class p c) && list_any (lined_field p r n) c.fields) cs

abbrev pub rule_methods : Program → KeepRule → List Class → ℕ → Bool
rule_methods p r cs n = list_any (λ c. applies (named p) r (named_class p c) && list_any (lined_method p r n) c.methods) cs

abbrev pub rule_marks : Program → KeepRule → List Class → Slot → ℕ → Bool
rule_marks p r cs Kinds n = is_always_of r && rule_classes p r cs n
rule_marks p r cs (Fields s) n = is_in (is_always_of r) (is_describing r) s && rule_fields p r cs n
rule_marks p r cs (Methods s) n = is_in (is_always_of r) (is_describing r) s && rule_methods p r cs n
rule_marks p r cs Silent n = false

-- the class at a place, the class of a type
abbrev pub class_there : Program → ℕ → List Class
class_there p place = elim (slice_get p.classes place) [ Some c ↦ c ∷ [] | None ↦ [] ]

abbrev pub class_of_kind : Program → ℕ → List Class
class_of_kind p kind = elim (class_place p kind) [ Some place ↦ class_there p place | None ↦ [] ]

-- ---- what all rules keep

abbrev pub some_rule : (KeepRule → Bool) → List KeepRule → Bool
some_rule keeps rs = list_any keeps rs

-- the rules that mark these
abbrev pub rules_in : Part → List Entry → List KeepRule
rules_in Kept es = rules_of false es
rules_in Live es = rules_of true es
rules_in Described es = describing (rules_of false es)
rules_in DescribedLive es = describing (rules_of true es)

abbrev pub is_defined : Program → ℕ → Bool
is_defined p n = defines (named p) (method_at p n).class

abbrev pub all_marks : Program → List Entry → Slot → ℕ → Bool
all_marks p es Kinds n = some_rule (λ r. rule_classes p r p.classes n) (rules_of false es)
all_marks p es (Fields s) n = some_rule (λ r. rule_fields p r p.classes n) (rules_in s es)
all_marks p es (Methods s) n = some_rule (λ r. rule_methods p r p.classes n) (rules_in s es)
all_marks p es Silent n = not (is_defined p n) && list_any (is_assumed (method_at p n)) es

-- ---- tables of the program's sizes

abbrev pub size_of : Program → Slot → ℕ
size_of p Kinds = length p.types
size_of p (Fields s) = length p.fields
size_of p (Methods s) = length p.methods
size_of p Silent = length p.methods

-- nothing is marked
pub record IsClear (count : ℕ) (marks : List Bool) : Type 0 where
  pub size : length marks ≡ count
  pub none : (n : ℕ) → n < count → is_on marks n ≡ false

-- what is marked is just what passes the test
pub record AreMarked (count : ℕ) (test : ℕ → Bool) (marks : List Bool) : Type 0 where
  pub size : length marks ≡ count
  pub are : (n : ℕ) → n < count → is_on marks n ≡ test n
