-- A text that spells rules and options without conditions has no fault.
use Rattle.std.proofs.Common.{◌≡◌, ◌<◌, ℕ, suc, take, drop, length, List, refl, sym, ap, subst, ◌∙◌, arith, take-append-drop}
use Rattle.std.specs.Str.{IsUtf8, IsValidUpTo}
use Rattle.std.proofs.lemmas.List.{take_all}
use Rattle.rule_text.specs.Tokens.{Word, words_of}
use Rattle.rule_text.specs.Rules.{Entry}
use Rattle.rule_text.specs.Spelling.{count_rules}
use Rattle.rule_text.specs.Fault.{IsFault}
use Rattle.rule_text.specs.Faults.{SpellsRules, IsBeginning, StopsAt, IsCrowdedAt, IsReadable, Whole, Front, HasRuleFault, AtWord, AtOption, AtRule, AtByte, AtEnd}
use Rattle.rule_text.specs.declared.fault.RuleFault.{RuleFault}
use Rattle.rule_text.specs.declared.fault.RuleFault.TheVariants as fault
use Rattle.rule_text.proofs.OptionLemmas.{rules_in, spelled_rules, begins_before}

-- ---- bytes

-- Where all bytes are UTF-8, none are bad.
pub no_bad_byte : (text : List ℕ) (at : ℕ) → IsUtf8 text → IsValidUpTo text at → ⊥
no_bad_byte text at characters valid = valid.longest (length text) valid.short (subst IsUtf8 (sym (take_all (length text) text (omega arith))) characters)

all_read : (text front : List ℕ) → IsUtf8 text → IsReadable text front → front ≡ text
all_read _ _ characters (Whole text is) = refl
all_read _ _ characters (Front text front run at valid split inside outside) = absurd (no_bad_byte text at characters valid)

-- ---- words

-- The front of words of rules is a beginning.
begins_all : (text : List ℕ) (es : List Entry) (k : ℕ) → SpellsRules text es → IsBeginning (take k (words_of text))
begins_all text es k s = record {
  entries = es;
  rest = drop k (words_of text);
  words = record { written = s.words.written; words = s.words.words ∙ sym (take-append-drop k (words_of text)) };
}

goes_on : (text : List ℕ) (es : List Entry) (k : ℕ) → SpellsRules text es → StopsAt (words_of text) k → ⊥
goes_on text es k s stops = stops.behind (begins_all text es (suc k) s)

-- No rule is one too many.
not_crowded : (text : List ℕ) (es : List Entry) (k : ℕ) → SpellsRules text es → IsCrowdedAt (words_of text) k → ⊥
not_crowded text es k s crowded =
    let ws : List Word = words_of text in
    let front : rules_in (take k ws) ≡ 4096 = ap rules_in (sym crowded.words.words) ∙ spelled_rules crowded.entries crowded.words.written ∙ crowded.full in
    let whole : rules_in (take (length ws) ws) ≡ count_rules es = ap rules_in (take_all (length ws) ws (omega arith) ∙ sym s.words.words) ∙ spelled_rules es s.words.written in
    let more : rules_in (take k ws) < rules_in (take (length ws) ws) = begins_before ws k (length ws) crowded.inside crowded.inside crowded.rule in
    omega (arith, front, whole, more, s.few)

no_rule_fault : (text : List ℕ) (es : List Entry) (found : RuleFault) → SpellsRules text es → HasRuleFault text found → ⊥
no_rule_fault _ es _ s (AtWord text front k line readable stops few other tells) = goes_on text es k s (subst (λ t. StopsAt (words_of t) k) (all_read text front s.characters readable) stops)
no_rule_fault _ es _ s (AtOption text front k line readable stops few unknown tells) = goes_on text es k s (subst (λ t. StopsAt (words_of t) k) (all_read text front s.characters readable) stops)
no_rule_fault _ es _ s (AtRule text front k readable crowded few) = not_crowded text es k s (subst (λ t. IsCrowdedAt (words_of t) k) (all_read text front s.characters readable) crowded)
no_rule_fault _ es _ s (AtByte text front at readable valid short begins few) = no_bad_byte text at s.characters valid
no_rule_fault _ es _ s (AtEnd text characters early few) = early.unfinished (record { entries = es; words = s.words })

pub no_plain_fault : (text : List ℕ) (es : List Entry) → SpellsRules text es → (found : RuleFault) → (found ≡ fault.NoMemory → ⊥) → IsFault text found → ⊥
no_plain_fault text es s fault.NoMemory other is = other refl
no_plain_fault text es s (fault.Syntax line) other is = no_rule_fault text es (fault.Syntax line) s is
no_plain_fault text es s (fault.Option line) other is = no_rule_fault text es (fault.Option line) s is
no_plain_fault text es s (fault.NotUtf8 at) other is = no_rule_fault text es (fault.NotUtf8 at) s is
no_plain_fault text es s (fault.TooMany count) other is = no_rule_fault text es (fault.TooMany count) s is
