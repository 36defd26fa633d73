-- Rules with conditions (ProGuard manual, "Keep options", -if): `-if`, a class specification, and a keep rule in whose words a reference
-- may stand wherever a name may. A text spells such rules among rules and options that have no condition.
use Rattle.std.specs.Prelude.{◌≡◌, ◌≤◌, ℕ, ◌+◌, Bool, true, if◌then◌else◌, List, [], ◌∷◌, ◌++◌, map, codes}
use Rattle.std.specs.List.{flat_map, list_all, list_any}
use Rattle.std.specs.Str.{IsUtf8}
use Rattle.rule_text.specs.Places.{is_keep}
use Rattle.rule_text.specs.Rules.{ClassRule, Entry}
use Rattle.rule_text.specs.Spelling.{word_eq, entry_words, class_rule_words, is_entry, is_class_rule, is_rule}
use Rattle.rule_text.specs.Steps.{first_word}
use Rattle.rule_text.specs.Tokens.{Word, words_of}
use Rattle.if_text.specs.Parts.{parts_of, masked}
use Rattle.if_text.specs.Wildcards.{slots, is_good_in}

-- the condition, and the words of the keep rule as they are written
pub record IfRule : Type 0 where
  pub condition : ClassRule
  pub words : List Word

pub data Item : Type 0 where
  Plain : (entry : Entry) → Item
  If : (rule : IfRule) → Item

abbrev pub if_word : Word
if_word = codes "-if"

abbrev pub item_words : Item → List Word
item_words (Plain e) = entry_words e
item_words (If r) = if_word ∷ (class_rule_words r.condition ++ r.words)

-- The words are a keep rule's, where a name is taken for each word with references.
pub record IsKeepRule (ws : List Word) : Type 0 where
  pub option : is_keep (first_word (map masked ws)) ≡ true
  pub entry : Entry
  pub written : is_entry entry ≡ true
  pub words : entry_words entry ≡ map masked ws

-- Each reference names a wildcard that one may name.
abbrev pub are_good : ClassRule → List Word → Bool
are_good c ws = list_all (λ w. list_all (is_good_in (slots c)) (parts_of w)) ws

pub record IsIfRule (r : IfRule) : Type 0 where
  pub condition : is_class_rule r.condition ≡ true
  pub keep : IsKeepRule r.words
  pub good : are_good r.condition r.words ≡ true

abbrev pub IsItem : Item → Type 0
IsItem (Plain e) = is_entry e ≡ true
IsItem (If r) = IsIfRule r

abbrev pub AreItems : List Item → Type 0
AreItems [] = Unit {0}
AreItems (i ∷ is) = IsItem i × AreItems is

-- a rule with its condition is one rule
abbrev pub count_items : List Item → ℕ
count_items [] = 0
count_items (Plain e ∷ is) = (if is_rule e then 1 else 0) + count_items is
count_items (If r ∷ is) = 1 + count_items is

-- a text spells rules and options, some of them with a condition
pub record SpellsItems (text : List ℕ) (items : List Item) : Type 0 where
  pub characters : IsUtf8 text
  pub written : AreItems items
  pub words : flat_map item_words items ≡ words_of text
  pub few : count_items items ≤ 4096

-- ---- the two kinds apart

abbrev pub plain_of : List Item → List Entry
plain_of [] = []
plain_of (Plain e ∷ is) = e ∷ plain_of is
plain_of (If r ∷ is) = plain_of is

abbrev pub ifs_of : List Item → List IfRule
ifs_of [] = []
ifs_of (Plain e ∷ is) = ifs_of is
ifs_of (If r ∷ is) = r ∷ ifs_of is

-- some word of a text is `-if`
abbrev pub has_if : List ℕ → Bool
has_if text = list_any (λ w. word_eq w if_word) (words_of text)
