-- Rounds: which instances hold where something is live, and what was added.
use Rattle.std.specs.Prelude.{◌≡◌, ◌⊎◌, ◌<◌, ◌≤◌, ℕ, ◌+◌, Bool, true, false, ◌&&◌, ◌||◌, if◌then◌else◌, List, [], ◌∷◌, ◌++◌, Some, None, length, slice_get}
use Rattle.std.specs.List.{list_all, list_any}
use Rattle.call_graph.specs.declared.live_set.LiveSet.{LiveSet}
use Rattle.dalvik_defs.specs.Naming.{named_field, named_method}
use Rattle.program_model.specs.declared.pass.Outside.{Outside}
use Rattle.program_model.specs.declared.program.Class.{Class}
use Rattle.program_model.specs.declared.program.Field.{Field as OwnField}
use Rattle.program_model.specs.declared.program.Method.{Method as OwnMethod}
use Rattle.program_model.specs.declared.program.Program.{Program}
use Rattle.rule_defs.specs.Kept.{lines_of}
use Rattle.rule_defs.specs.Members.{matches_field, matches_method}
use Rattle.rule_text.specs.Faults.{SpellsRules}
use Rattle.rule_text.specs.Related.{AreEntriesOf}
use Rattle.rule_text.specs.Rules.{MemberRule, Entry}
use Rattle.rule_text.specs.declared.rules.Entry.{Entry as ReadEntry}
use Rattle.if_text.specs.Items.{IfRule}
use Rattle.if_rules.specs.Fired.{AreAdded, ComeFrom, Fires, IsLiveBy, SpellsNone}
use Rattle.if_rules.specs.Instances.{is_on}
use Rattle.if_rules.specs.declared.instances.Choice.{Choice}
use Rattle.if_rules.specs.declared.instances.Choice.TheVariants as choice
use Rattle.if_rules.specs.declared.instances.Instance.{Instance}

-- ---- which instances hold

abbrev pub is_live_method : Program → LiveSet → MemberRule → OwnMethod → Bool
is_live_method p s line m = is_on s.methods.items m.name && matches_method line (named_method p m)

abbrev pub is_live_field : Program → LiveSet → MemberRule → OwnField → Bool
is_live_field p s line f = is_on s.fields.items f.name && matches_field line (named_field p f)

abbrev pub is_met : Program → LiveSet → Class → MemberRule → Bool
is_met p s class line = list_any (is_live_method p s line) class.methods || list_any (is_live_field p s line) class.fields

abbrev pub are_live : Program → LiveSet → IfRule → Class → Choice → Bool
are_live p s r class choice.Each = list_all (is_met p s class) (lines_of r.condition)
are_live p s r class (choice.Method k) = elim (slice_get class.methods k) [ Some m ↦ is_on s.methods.items m.name | None ↦ false ]
are_live p s r class (choice.Field k) = elim (slice_get class.fields k) [ Some f ↦ is_on s.fields.items f.name | None ↦ false ]

abbrev pub holds_in : Program → LiveSet → IfRule → Class → Choice → Bool
holds_in p s r class c = is_on s.classes.items class.name && are_live p s r class c

-- of this rule, and of one of these
abbrev pub holds_at : Program → LiveSet → IfRule → Instance → Bool
holds_at p s r i = elim (slice_get p.classes i.class) [ Some class ↦ holds_in p s r class i.choice | None ↦ false ]

abbrev pub holds : Program → LiveSet → List IfRule → Instance → Bool
holds p s rs i = elim (slice_get rs i.rule) [ Some r ↦ holds_at p s r i | None ↦ false ]

-- ---- what is added

-- the rules that a text spells, none where it spells none
pub data AreSpelled (text : List ℕ) : List Entry → Type 0 where
  Rules : (es : List Entry) → SpellsRules text es → AreSpelled text es
  Nothing : SpellsNone text → AreSpelled text []

-- they were read, and added behind others
pub record AddsText (text : List ℕ) (old new : List ReadEntry) : Type 0 where
  pub rules : List Entry
  pub are : AreSpelled text rules
  pub added : (es : List Entry) → AreEntriesOf old es → AreEntriesOf new (es ++ rules)

-- how many instances were not added
abbrev pub left_of : List Bool → ℕ
left_of [] = 0
left_of (b ∷ bs) = (if b then 0 else 1) + left_of bs

-- an instance is done with: its rules are there, or it has none
abbrev pub IsDone : List Entry → List ℕ → Type 0
IsDone es text = AreAdded text es ⊎ SpellsNone text

-- Of the instances before a place those that hold were added to those that were, and their rules behind others.
pub record AddsRound (p : Program) (s : LiveSet) (rs : List IfRule) (instances : List Instance) (past count : ℕ) (old new : List Bool) (before after : List ReadEntry) : Type 0 where
  pub flags : (k : ℕ) (i : Instance) → k < past → slice_get instances k ≡ Some i → is_on new k ≡ (is_on old k || holds p s rs i)
  pub rest : (k : ℕ) → past ≤ k → is_on new k ≡ is_on old k
  pub none : count ≡ 0 → (k : ℕ) → is_on new k ≡ is_on old k
  pub rules : List Entry
  pub come : ComeFrom p s rs rules
  pub added : (es : List Entry) → AreEntriesOf before es → AreEntriesOf after (es ++ rules)
  pub done : (es : List Entry) (k : ℕ) (i : Instance) → slice_get instances k ≡ Some i → is_on old k ≡ false → is_on new k ≡ true → IsDone (es ++ rules) i.text.items

-- the same by a set of what is live by a table
pub record AddsBy (p : Program) (o : Outside) (rs : List IfRule) (instances : List Instance) (old new : List Bool) (before after : List ReadEntry) (count : ℕ) : Type 0 where
  pub live : LiveSet
  pub is_live : IsLiveBy p o live
  pub round : AddsRound p live rs instances (length instances) count old new before after

-- the rules so far, and the instances that were added
pub record IsSoFar (p : Program) (plain : List Entry) (rs : List IfRule) (instances : List Instance) (added : List Bool) (read : List ReadEntry) : Type 0 where
  pub entries : List Entry
  pub fires : Fires p plain rs entries
  pub are : AreEntriesOf read entries
  pub done : (k : ℕ) (i : Instance) → slice_get instances k ≡ Some i → is_on added k ≡ true → IsDone entries i.text.items
