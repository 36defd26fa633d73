-- The instances that rules may have in a program, whatever is live, are listed.
use Rattle.std.specs.Prelude.{◌≡◌, ◌⊎◌, ◌<◌, ℕ, true, false, List, [], ◌∷◌, ◌++◌, Some, slice_get, Contains}
use Rattle.dalvik_defs.specs.Naming.{field_at, method_at, named, named_class, named_field, named_method}
use Rattle.program_model.specs.declared.program.Class.{Class}
use Rattle.program_model.specs.declared.program.Field.{Field as OwnField}
use Rattle.program_model.specs.declared.program.Method.{Method as OwnMethod}
use Rattle.program_model.specs.declared.program.Program.{Program}
use Rattle.rule_defs.specs.Kept.{lines_of, matches_class}
use Rattle.rule_defs.specs.Members.{matches_field, matches_method}
use Rattle.rule_text.specs.Rules.{MemberRule}
use Rattle.if_text.specs.Items.{IfRule}
use Rattle.if_text.specs.Readings.{IsIfOf}
use Rattle.if_text.specs.declared.rules.IfRule.{IfRule as ReadIf}
use Rattle.if_rules.specs.Instances.{instance_text, names_of, uses_line}
use Rattle.if_rules.specs.Matched.{field_texts, method_texts}
use Rattle.if_rules.specs.declared.instances.Choice.{Choice}
use Rattle.if_rules.specs.declared.instances.Choice.TheVariants as choice
use Rattle.if_rules.specs.declared.instances.Instance.{Instance}

-- what the instance of a rule in a class asks for, and its text
pub data Could (p : Program) (r : IfRule) (class : Class) : Choice → List ℕ → Type 0 where
  OfEach : uses_line r ≡ false → Could p r class choice.Each (instance_text r (record { name = names_of p r.condition class; line = [] }))
  OfMethod : (line : MemberRule) (k : ℕ) (m : OwnMethod) → uses_line r ≡ true → lines_of r.condition ≡ line ∷ [] → slice_get class.methods k ≡ Some m → matches_method line (named_method p m) ≡ true
      → Could p r class (choice.Method k) (instance_text r (record { name = names_of p r.condition class; line = method_texts line.what (method_at p m.name).name (method_at p m.name).signature }))
  OfField : (line : MemberRule) (k : ℕ) (f : OwnField) → uses_line r ≡ true → lines_of r.condition ≡ line ∷ [] → slice_get class.fields k ≡ Some f → matches_field line (named_field p f) ≡ true
      → Could p r class (choice.Field k) (instance_text r (record { name = names_of p r.condition class; line = field_texts line.what (field_at p f.name).name (field_at p f.name).kind }))

-- a rule with a condition stands at the first place, and a class that the condition matches at the second
pub record IsPair (p : Program) (rs : List IfRule) (number place : ℕ) : Type 0 where
  pub rule : IfRule
  pub class : Class
  pub is_rule : slice_get rs number ≡ Some rule
  pub is_class : slice_get p.classes place ≡ Some class
  pub fits : matches_class (named p) rule.condition (named_class p class) ≡ true

pub record IsInstance (p : Program) (rs : List IfRule) (i : Instance) : Type 0 where
  pub pair : IsPair p rs i.rule i.class
  pub could : Could p pair.rule pair.class i.choice i.text.items

-- a rule was read that stands at the first place, and the class stands at the second, which the condition matches
pub record IsGiven (p : Program) (rs : List IfRule) (read : ReadIf) (number place : ℕ) (class : Class) : Type 0 where
  pub rule : IfRule
  pub is_rule : slice_get rs number ≡ Some rule
  pub related : IsIfOf read rule
  pub is_class : slice_get p.classes place ≡ Some class
  pub fits : matches_class (named p) rule.condition (named_class p class) ≡ true

-- one instance was added
pub record PushesOne (number place : ℕ) (c : Choice) (text : List ℕ) (old new : List Instance) : Type 0 where
  pub one : Instance
  pub is : new ≡ old ++ one ∷ []
  pub rule : one.rule ≡ number
  pub class : one.class ≡ place
  pub choice : one.choice ≡ c
  pub says : one.text.items ≡ text

-- an instance with these numbers, this choice and this text is there
pub record HasInstance (out : List Instance) (number place : ℕ) (c : Choice) (text : List ℕ) : Type 0 where
  pub one : Instance
  pub there : Contains out one
  pub rule : one.rule ≡ number
  pub class : one.class ≡ place
  pub choice : one.choice ≡ c
  pub says : one.text.items ≡ text

-- Instances were added: all of those that the test names.
pub record Grew (p : Program) (rs : List IfRule) (named : ℕ → ℕ → Choice → Type 0) (old new : List Instance) : Type 0 where
  pub kept : (i : Instance) → Contains old i → Contains new i
  pub sound : (i : Instance) → Contains new i → Contains old i ⊎ IsInstance p rs i
  pub complete : (number place : ℕ) (c : Choice) (text : List ℕ) (pair : IsPair p rs number place) → named number place c → Could p pair.rule pair.class c text → HasInstance new number place c text

-- All of them, and nothing else, are there.
pub record AreInstances (p : Program) (rs : List IfRule) (out : List Instance) : Type 0 where
  pub sound : (i : Instance) → Contains out i → IsInstance p rs i
  pub complete : (number place : ℕ) (c : Choice) (text : List ℕ) (pair : IsPair p rs number place) → Could p pair.rule pair.class c text → HasInstance out number place c text

-- which instances a step adds: those of a choice, of a class, of a rule
abbrev pub OfChoice : ℕ → ℕ → Choice → ℕ → ℕ → Choice → Type 0
OfChoice number place c n k d = (n ≡ number) × (k ≡ place) × (d ≡ c)

abbrev pub OfMethods : ℕ → ℕ → ℕ → ℕ → ℕ → Choice → Type 0
OfMethods number place past n k d = (n ≡ number) × (k ≡ place) × ((m : ℕ) × (m < past) × (d ≡ choice.Method m))

abbrev pub OfFields : ℕ → ℕ → ℕ → ℕ → ℕ → Choice → Type 0
OfFields number place past n k d = (n ≡ number) × (k ≡ place) × ((f : ℕ) × (f < past) × (d ≡ choice.Field f))

abbrev pub OfPlace : ℕ → ℕ → ℕ → ℕ → Choice → Type 0
OfPlace number place n k d = (n ≡ number) × (k ≡ place)

abbrev pub OfRule : ℕ → ℕ → ℕ → Choice → Type 0
OfRule number n k d = n ≡ number

abbrev pub OfRules : ℕ → ℕ → ℕ → Choice → Type 0
OfRules past n k d = n < past
