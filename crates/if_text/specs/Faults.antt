-- The fault of a text with conditions: where going through it from one rule or option to the next can't go on.
use Rattle.std.specs.Prelude.{◌≡◌, ◌⊎◌, ◌<◌, ◌≤◌, ◌+◌, ℕ, suc, Bool, true, false, if◌then◌else◌, ◌||◌, List, [], ◌∷◌, ◌++◌, map, length}
use Rattle.std.specs.Str.{IsUtf8, IsValidUpTo}
use Rattle.rule_text.specs.Fault.{IsFault}
use Rattle.rule_text.specs.Faults.{IsLineOf}
use Rattle.rule_text.specs.Fronts.{token_view, AreTokensOf}
use Rattle.rule_text.specs.Halts.{is_known, IsRefusedEntry}
use Rattle.rule_text.specs.Places.{InHead, Between, is_keep}
use Rattle.rule_text.specs.Refusals.{IsRefused, EndsWhole}
use Rattle.rule_text.specs.Rules.{ClassRule, Entry}
use Rattle.rule_text.specs.Spelling.{word_eq, begins_option, begins_rule, entry_words, class_rule_words, is_entry, is_class_rule}
use Rattle.rule_text.specs.Steps.{AtSyntax, first_word, words_at}
use Rattle.rule_text.specs.Tokens.{Word}
use Rattle.rule_text.specs.declared.fault.RuleFault.{RuleFault}
use Rattle.rule_text.specs.declared.fault.RuleFault.TheVariants as fault
use Rattle.rule_text.specs.declared.stop.Halt.{Halt}
use Rattle.rule_text.specs.declared.stop.Halt.TheVariants as halt
use Rattle.rule_text.specs.declared.token.Token.{Token as Lexed}
use Rattle.rule_text.specs.declared.token.Tokens.{Tokens}
use Rattle.if_text.specs.Items.{IfRule, Item, Plain, If, if_word, are_good, count_items, has_if}
use Rattle.if_text.specs.Parts.{masked}

-- the same tokens as the grammar of rules sees them where references may stand
pub record AreMasked (tokens hidden : List Lexed) : Type 0 where
  pub words : map (λ t. t.word.now) hidden ≡ map (λ t. masked t.word.now) tokens

abbrev pub is_if_at : List Lexed → ℕ → Bool
is_if_at tokens at = word_eq (first_word (words_at tokens at)) if_word

-- Behind the `-if` at a place stands a class specification up to another place, as far as it goes.
pub record IsConditionTo (tokens : List Lexed) (at next : ℕ) (c : ClassRule) : Type 0 where
  pub is_if : is_if_at tokens at ≡ true
  pub written : is_class_rule c ≡ true
  pub words : words_at tokens (suc at) ≡ class_rule_words c ++ words_at tokens next
  pub whole : EndsWhole InHead tokens (suc at) next

-- Between two places stands a keep rule with references, as far as it goes.
pub record IsKeptTo (tokens hidden : List Lexed) (at next : ℕ) (ws : List Word) : Type 0 where
  pub spelled : words_at tokens at ≡ ws ++ words_at tokens next
  pub option : is_keep (first_word (words_at hidden at)) ≡ true
  pub entry : Entry
  pub written : is_entry entry ≡ true
  pub words : words_at hidden at ≡ entry_words entry ++ words_at hidden next
  pub whole : EndsWhole Between hidden at next

-- These rules and options, with and without conditions, stand before a place, each as far as it goes.
pub data ItemsTo (tokens hidden : List Lexed) : ℕ → List Item → Type 0 where
  OfNone : ItemsTo tokens hidden 0 []
  OfEntry : (at next : ℕ) (items : List Item) (e : Entry) → ItemsTo tokens hidden at items → is_entry e ≡ true → words_at tokens at ≡ entry_words e ++ words_at tokens next → EndsWhole Between tokens at next
      → ItemsTo tokens hidden next (items ++ Plain e ∷ [])
  OfIf : (at mid next : ℕ) (items : List Item) (r : IfRule) → ItemsTo tokens hidden at items → IsConditionTo tokens at mid r.condition → IsKeptTo tokens hidden mid next r.words → are_good r.condition r.words ≡ true
      → ItemsTo tokens hidden next (items ++ If r ∷ [])

-- At this word reading stops behind the place where a rule or an option begins.
pub data IsRefusedItem (tokens hidden : List Lexed) : ℕ → ℕ → Type 0 where
  -- in a rule or an option without a condition, or where none begins
  InEntry : (at next : ℕ) → IsRefusedEntry tokens at next → IsRefusedItem tokens hidden at next
  -- in the class specification behind `-if`, where words lead as behind a keep option
  InCondition : (at next : ℕ) → is_if_at tokens at ≡ true → IsRefused InHead tokens (suc at) next → IsRefusedItem tokens hidden at next
  -- behind it, where no keep option stands
  NoRule : (at next : ℕ) (c : ClassRule) → IsConditionTo tokens at next c → is_keep (first_word (words_at hidden next)) ≡ false → IsRefusedItem tokens hidden at next
  -- in the keep rule
  InKept : (at mid next : ℕ) (c : ClassRule) → IsConditionTo tokens at mid c → is_keep (first_word (words_at hidden mid)) ≡ true → IsRefusedEntry hidden mid next → IsRefusedItem tokens hidden at next
  -- at the first reference in it that names no wildcard that one may name
  AtReference : (at mid next behind : ℕ) (c : ClassRule) (front rest : List Word) (w : Word) → IsConditionTo tokens at mid c → IsKeptTo tokens hidden mid behind (front ++ w ∷ rest) → words_at tokens mid ≡ front ++ words_at tokens next
      → are_good c front ≡ true → are_good c (w ∷ []) ≡ false → IsRefusedItem tokens hidden at next

-- a rule begins with the word, `-if` among them
abbrev pub begins_item : Word → Bool
begins_item w = word_eq w if_word || begins_rule w

-- what stands before a place where a rule or an option begins, and how many rules there are with it
pub record StandsBefore (tokens hidden : List Lexed) (at count : ℕ) : Type 0 where
  pub items : List Item
  pub are : ItemsTo tokens hidden at items
  pub inside : at < length tokens
  pub counted : count_items items ≡ count

pub record IsRefusedAt (tokens hidden : List Lexed) (next : ℕ) : Type 0 where
  pub at : ℕ
  pub count : ℕ
  pub front : StandsBefore tokens hidden at count
  pub few : count + (if begins_item (first_word (words_at tokens at)) then 1 else 0) ≤ 4096
  pub refused : IsRefusedItem tokens hidden at next

pub record IsOptionAt (tokens hidden : List Lexed) (next : ℕ) : Type 0 where
  pub count : ℕ
  pub front : StandsBefore tokens hidden next count
  pub few : count ≤ 4096
  pub option : begins_option (first_word (words_at tokens next)) ≡ true
  pub unknown : is_known (first_word (words_at tokens next)) ≡ false
  pub other : is_if_at tokens next ≡ false

pub record IsRuleAt (tokens hidden : List Lexed) (next : ℕ) : Type 0 where
  pub front : StandsBefore tokens hidden next 4096
  pub rule : begins_item (first_word (words_at tokens next)) ≡ true

-- what is known where reading one rule or option, and the whole text, halts
abbrev pub HaltsItem : List Lexed → List Lexed → ℕ → ℕ → Halt → Type 0
HaltsItem tokens hidden at next (halt.Inside s) = AtSyntax (IsRefusedItem tokens hidden at next) s
HaltsItem tokens hidden at next halt.Option = (next ≡ at) × (begins_option (first_word (words_at tokens at)) ≡ true) × (is_known (first_word (words_at tokens at)) ≡ false) × (is_if_at tokens at ≡ false)
HaltsItem tokens hidden at next halt.TooMany = ⊥

abbrev pub HaltsItems : List Lexed → List Lexed → ℕ → Halt → Type 0
HaltsItems tokens hidden next (halt.Inside s) = AtSyntax (IsRefusedAt tokens hidden next) s
HaltsItems tokens hidden next halt.Option = IsOptionAt tokens hidden next
HaltsItems tokens hidden next halt.TooMany = IsRuleAt tokens hidden next

-- the line of the token, or the last line where the text ends too early
abbrev pub IsAtLine : Tokens → ℕ → ℕ → Type 0
IsAtLine tokens next line = ((next < length tokens.items.items) × IsLineOf (map token_view tokens.items.items) next line) ⊎ ((length tokens.items.items ≤ next) × (line ≡ suc tokens.ends))

pub record IsSyntaxBy (tokens : Tokens) (hidden : List Lexed) (line : ℕ) : Type 0 where
  pub next : ℕ
  pub refused : IsRefusedAt tokens.items.items hidden next
  pub tells : IsAtLine tokens next line

pub record IsOptionBy (tokens : Tokens) (hidden : List Lexed) (line : ℕ) : Type 0 where
  pub next : ℕ
  pub option : IsOptionAt tokens.items.items hidden next
  pub tells : IsLineOf (map token_view tokens.items.items) next line

pub record IsCrowded (tokens : Tokens) (hidden : List Lexed) (count : ℕ) : Type 0 where
  pub is : count ≡ 4097
  pub next : ℕ
  pub rule : IsRuleAt tokens.items.items hidden next

-- of want of memory nothing is known
abbrev pub IsItemFault : Tokens → List Lexed → RuleFault → Type 0
IsItemFault tokens hidden fault.NoMemory = Unit {0}
IsItemFault tokens hidden (fault.Syntax line) = IsSyntaxBy tokens hidden line
IsItemFault tokens hidden (fault.Option line) = IsOptionBy tokens hidden line
IsItemFault tokens hidden (fault.NotUtf8 at) = ⊥
IsItemFault tokens hidden (fault.TooMany count) = IsCrowded tokens hidden count

-- the fault of the tokens of a text
pub record IsFaultIn (text : List ℕ) (found : RuleFault) : Type 0 where
  pub characters : IsUtf8 text
  pub tokens : Tokens
  pub are : AreTokensOf text tokens
  pub hidden : List Lexed
  pub same : AreMasked tokens.items.items hidden
  pub by : IsItemFault tokens hidden found

-- Bytes that are no UTF-8 come before all else.
abbrev pub HasIfFault : List ℕ → RuleFault → Type 0
HasIfFault text fault.NoMemory = Unit {0}
HasIfFault text (fault.Syntax line) = IsFaultIn text (fault.Syntax line)
HasIfFault text (fault.Option line) = IsFaultIn text (fault.Option line)
HasIfFault text (fault.NotUtf8 at) = IsValidUpTo text at
HasIfFault text (fault.TooMany count) = IsFaultIn text (fault.TooMany count)

-- A text without `-if` has the fault that it has without conditions.
abbrev pub IsIfFault : List ℕ → RuleFault → Type 0
IsIfFault text found = ((has_if text ≡ false) × IsFault text found) ⊎ ((has_if text ≡ true) × HasIfFault text found)
