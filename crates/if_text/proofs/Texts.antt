-- The fault of a text, and whether it has conditions.
use Rattle.std.proofs.Common.{◌≡◌, inl, inr, ◌<◌, ℕ, Bool, true, false, ◌||◌, List, [], ◌∷◌, map, length, refl, sym, ap, subst, ◌∙◌, arith}
use Rattle.std.specs.List.{list_any}
use Rattle.std.specs.Str.{IsUtf8}
use Rattle.rule_text.specs.Fault.{IsFault}
use Rattle.rule_text.specs.Fronts.{AreTokensOf}
use Rattle.rule_text.specs.Spelling.{word_eq}
use Rattle.rule_text.specs.Tokens.{Word}
use Rattle.rule_text.specs.declared.fault.RuleFault.{RuleFault}
use Rattle.rule_text.specs.declared.fault.RuleFault.TheVariants as fault
use Rattle.rule_text.specs.declared.token.Token.{Token as Lexed}
use Rattle.rule_text.specs.declared.token.Tokens.{Tokens}
use Rattle.rule_text.proofs.EntryLemmas.{words_from}
use Rattle.rule_text.proofs.FaultLemmas.{few_ends}
use Rattle.if_text.specs.Faults.{AreMasked, IsItemFault, HasIfFault, IsIfFault}
use Rattle.if_text.specs.Items.{if_word, has_if}
use Rattle.if_text.proofs.Items.{word_of}

-- ---- whether there is a condition

any_word : (f : Word → Bool) (ts : List Lexed) → list_any (λ t. f t.word.now) ts ≡ list_any f (map word_of ts)
any_word f [] = refl
any_word f (t ∷ ts) = ap (λ b. f t.word.now || b) (any_word f ts)

pub has_same : (text : List ℕ) (tokens : Tokens) → AreTokensOf text tokens → list_any (λ t. word_eq t.word.now if_word) tokens.items.items ≡ has_if text
has_same text tokens are = any_word (λ w. word_eq w if_word) tokens.items.items ∙ ap (list_any (λ w. word_eq w if_word)) (words_from text tokens are)

pub some_token : (ts : List Lexed) → list_any (λ t. word_eq t.word.now if_word) ts ≡ true → 0 < length ts
some_token [] is = cc
some_token (t ∷ ts) is = omega arith

-- ---- faults

-- the fault of the tokens is that of the text
pub fault_in : (text : List ℕ) (tokens : Tokens) (hidden : List Lexed) (found : RuleFault) → IsUtf8 text → AreTokensOf text tokens → AreMasked tokens.items.items hidden → IsItemFault tokens hidden found → HasIfFault text found
fault_in text tokens hidden fault.NoMemory characters are same by = tt
fault_in text tokens hidden (fault.Syntax line) characters are same by = record { characters = characters; tokens = tokens; are = are; hidden = hidden; same = same; by = by }
fault_in text tokens hidden (fault.Option line) characters are same by = record { characters = characters; tokens = tokens; are = are; hidden = hidden; same = same; by = by }
fault_in text tokens hidden (fault.NotUtf8 at) characters are same by = absurd by
fault_in text tokens hidden (fault.TooMany count) characters are same by = record { characters = characters; tokens = tokens; are = are; hidden = hidden; same = same; by = by }

pub no_memory_in : (text : List ℕ) (found : RuleFault) → found ≡ fault.NoMemory → HasIfFault text found
no_memory_in text found is = subst (HasIfFault text) (sym is) tt

no_memory_by : (text : List ℕ) (b : Bool) → has_if text ≡ b → IsIfFault text fault.NoMemory
no_memory_by text true is = inr (is, tt)
no_memory_by text false is = inl (is, tt)

pub no_memory : (text : List ℕ) (found : RuleFault) → found ≡ fault.NoMemory → IsIfFault text found
no_memory text found is = subst (IsIfFault text) (sym is) (no_memory_by text (has_if text) refl)

pub plain_fault : (text : List ℕ) (found : RuleFault) → has_if text ≡ false → IsFault text found → IsIfFault text found
plain_fault text found none is = inl (none, is)

pub if_fault : (text : List ℕ) (found : RuleFault) → has_if text ≡ true → HasIfFault text found → IsIfFault text found
if_fault text found has is = inr (has, is)

pub few_lines : (text : List ℕ) (tokens : Tokens) → AreTokensOf text tokens → list_any (λ t. word_eq t.word.now if_word) tokens.items.items ≡ true → tokens.ends < length text
few_lines text tokens are has = few_ends text tokens are (some_token tokens.items.items has)
