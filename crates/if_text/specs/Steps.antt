-- What is known behind each step of reading a text with conditions.
use Rattle.std.specs.Prelude.{◌≡◌, ◌≤◌, ◌+◌, ℕ, true, false, if◌then◌else◌, List, ◌∷◌, ◌++◌, map, Vec}
use Rattle.std.specs.List.{list_all}
use Rattle.std.specs.declared.alloc.Global.{Global}
use Rattle.rule_text.specs.Halts.{IsRefusedEntry}
use Rattle.rule_text.specs.Places.{is_keep}
use Rattle.rule_text.specs.Steps.{AtSyntax, first_word, words_at}
use Rattle.rule_text.specs.Tokens.{Word}
use Rattle.rule_text.specs.declared.stop.Halt.{Halt}
use Rattle.rule_text.specs.declared.stop.Halt.TheVariants as halt
use Rattle.rule_text.specs.declared.token.Token.{Token as Lexed}
use Rattle.if_text.specs.Faults.{IsKeptTo, IsConditionTo, ItemsTo, begins_item}
use Rattle.if_text.specs.Items.{IfRule, Item, are_good, count_items}
use Rattle.if_text.specs.Parts.{parts_of}
use Rattle.if_text.specs.Readings.{AreRead, IsIfOf}
use Rattle.if_text.specs.Wildcards.{is_good_in}
use Rattle.if_text.specs.declared.parts.Part.{Part}
use Rattle.if_text.specs.declared.slots.Source.{Source}
use Rattle.if_text.specs.declared.rules.IfRule.{IfRule as ReadIf}
use Rattle.if_text.specs.declared.rules.IfRules.{IfRules}

-- the references of these words name what one may name
abbrev pub good_words : List Source → List Word → Type 0
good_words ss ws = list_all (λ w. list_all (is_good_in ss) (parts_of w)) ws ≡ true

-- the words of a keep rule were read
pub record ReadsKept (tokens hidden : List Lexed) (ss : List Source) (at next : ℕ) (read : Vec (Vec Part Global) Global) : Type 0 where
  pub words : List Word
  pub are : IsKeptTo tokens hidden at next words
  pub read_as : map (λ parts. parts.items) read.items ≡ map parts_of words
  pub good : good_words ss words

-- a word with a reference that names nothing, the first in a keep rule
pub record IsBadAt (tokens hidden : List Lexed) (ss : List Source) (at next : ℕ) : Type 0 where
  pub behind : ℕ
  pub front : List Word
  pub word : Word
  pub rest : List Word
  pub are : IsKeptTo tokens hidden at behind (front ++ word ∷ rest)
  pub there : words_at tokens at ≡ front ++ words_at tokens next
  pub good : good_words ss front
  pub bad : list_all (is_good_in ss) (parts_of word) ≡ false

-- why no keep rule was read: none begins, one is not well written, or a reference names nothing
pub data IsNotKept (tokens hidden : List Lexed) (ss : List Source) : ℕ → ℕ → Type 0 where
  NoOption : (at : ℕ) → is_keep (first_word (words_at hidden at)) ≡ false → IsNotKept tokens hidden ss at at
  Refused : (at next : ℕ) → is_keep (first_word (words_at hidden at)) ≡ true → IsRefusedEntry hidden at next → IsNotKept tokens hidden ss at next
  Bad : (at next : ℕ) → IsBadAt tokens hidden ss at next → IsNotKept tokens hidden ss at next

abbrev pub HaltsKept : List Lexed → List Lexed → List Source → ℕ → ℕ → Halt → Type 0
HaltsKept tokens hidden ss at next (halt.Inside s) = AtSyntax (IsNotKept tokens hidden ss at next) s
HaltsKept tokens hidden ss at next halt.Option = ⊥
HaltsKept tokens hidden ss at next halt.TooMany = ⊥

-- a rule with the `-if` at a place was read
pub record ReadsIf (tokens hidden : List Lexed) (at next : ℕ) (read : ReadIf) : Type 0 where
  pub rule : IfRule
  pub mid : ℕ
  pub condition : IsConditionTo tokens at mid rule.condition
  pub kept : IsKeptTo tokens hidden mid next rule.words
  pub good : are_good rule.condition rule.words ≡ true
  pub related : IsIfOf read rule

-- what was read up to a place
pub record ReadsTo (tokens hidden : List Lexed) (at : ℕ) (rules : IfRules) : Type 0 where
  pub items : List Item
  pub are : ItemsTo tokens hidden at items
  pub read : AreRead items rules

-- with so many rules
pub record ReadsCounted (tokens hidden : List Lexed) (at : ℕ) (rules : IfRules) (count : ℕ) : Type 0 where
  pub reads : ReadsTo tokens hidden at rules
  pub counted : count_items reads.items ≡ count

-- one more was read behind others
abbrev pub AddsItem : List Lexed → List Lexed → ℕ → ℕ → IfRules → IfRules → Type 0
AddsItem tokens hidden at next old new =
    (count : ℕ) → ReadsCounted tokens hidden at old count → ReadsCounted tokens hidden next new (count + (if begins_item (first_word (words_at tokens at)) then 1 else 0))

-- no more rules than a text may have
pub record ReadsFew (tokens hidden : List Lexed) (at : ℕ) (rules : IfRules) : Type 0 where
  pub reads : ReadsTo tokens hidden at rules
  pub few : count_items reads.items ≤ 4096
