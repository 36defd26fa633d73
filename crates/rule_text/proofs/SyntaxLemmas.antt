-- A word that rules don't go on with, and an end inside a rule.
use Rattle.std.proofs.Common.{◌≡◌, inl, inr, ◌<◌, ◌≤◌, ◌+◌, ◌-◌, ℕ, zero, suc, true, false, if◌then◌else◌, take, drop, length, List, [], ◌∷◌, ◌++◌, Option, Some, None, refl, sym, ap, subst, ◌∙◌, arith, length-append, length-drop}
use Rattle.std.specs.Str.{IsUtf8, IsValidUpTo}
use Rattle.std.proofs.lemmas.List.{append-nil, append_assoc, length-map, take_all}
use Rattle.rule_text.specs.Tokens.{Word, words_of, last_line}
use Rattle.rule_text.specs.Fronts.{AreTokensOf}
use Rattle.rule_text.specs.Places.{Place, Between, next_place, follow, is_final, from_option}
use Rattle.rule_text.specs.Faults.{IsReadable, IsBeginning, AreRules, StopsAt, IsUnknownOption, AreFewBefore, IsLineOf, HasRuleFault, AtWord, AtByte, AtEnd}
use Rattle.rule_text.specs.Spelling.{begins_option, begins_rule, spelled, count_rules}
use Rattle.rule_text.specs.Steps.{words_at, first_word}
use Rattle.rule_text.specs.Halts.{IsRefusedEntry, IsRefusedBehind}
use Rattle.rule_text.specs.Fault.{IsWordBy, IsEndBy}
use Rattle.rule_text.specs.declared.fault.RuleFault.TheVariants as fault
use Rattle.rule_text.specs.declared.rules.Entry.{Entry as ReadEntry}
use Rattle.rule_text.specs.ReadEntries.{ReadsFew}
use Rattle.rule_text.specs.declared.token.Token.{Token as Lexed}
use Rattle.rule_text.specs.declared.token.Tokens.{Tokens}
use Rattle.rule_text.proofs.StepLemmas.{end_at}
use Rattle.rule_text.proofs.EntryLemmas.{words_from}
use Rattle.rule_text.proofs.OptionLemmas.{rules_in, rules_append, plain_rules, spelled_rules}
use Rattle.rule_text.proofs.HaltLemmas.{take_front, got_first, few_before}
use Rattle.rule_text.proofs.BeginningLemmas.{begins_there}
use Rattle.rule_text.proofs.PlaceLemmas.{clash, follow_none, behind_all, LeadOn, entries_lead}

-- all words up to the one that is refused
record IsStopped (ws rest : List Word) (next : ℕ) (tokens : List Lexed) : Type 0 where
  words : List Word
  spelled : ws ≡ words ++ rest
  place : Place
  leads : follow (Some Between) words ≡ Some place
  refused : next_place place (first_word rest) ≡ None
  inside : is_final place ≡ true → (next < length tokens) × (begins_option (first_word rest) ≡ false)
  few : rules_in words ≤ 4096

first_rules : (w : Word) (ws : List Word) (n : ℕ) → rules_in ws ≡ 0 → n + (if begins_rule w then 1 else 0) ≤ 4096 → n + rules_in (w ∷ ws) ≤ 4096
first_rules w ws n none few =
    let here : rules_in (w ∷ ws) ≡ (if begins_rule w then 1 else 0) + rules_in ws = refl in
    omega (arith, none, few, here)

whole_rules : (tokens : List Lexed) (next : ℕ) (r : IsRefusedBehind tokens 0 next) → rules_in r.whole.words ≡ count_rules r.front.entries
whole_rules tokens next r =
    let ws : List Word = words_at tokens 0 in
    let inside : r.begin < length ws = subst (λ n. r.begin < n) (sym (length-map tokens (λ t. t.word.now))) r.front.inside in
    let one : r.whole.words ≡ take r.begin ws = take_front r.whole.words ws r.begin r.whole.spelled inside in
    let two : spelled r.front.entries ≡ take r.begin ws = take_front (spelled r.front.entries) ws r.begin r.front.words inside in
    ap rules_in (one ∙ sym two) ∙ spelled_rules r.front.entries r.front.written

stopped_by : (tokens : List Lexed) (begin next : ℕ) (front : List Word) (start : Place) (count : ℕ) → words_at tokens 0 ≡ front ++ words_at tokens begin → follow (Some Between) front ≡ Some start
    → next_place start (first_word (words_at tokens begin)) ≡ from_option (first_word (words_at tokens begin)) → begin < length tokens → rules_in front ≡ count
    → count + (if begins_rule (first_word (words_at tokens begin)) then 1 else 0) ≤ 4096 → IsRefusedEntry tokens begin next → IsStopped (words_at tokens 0) (words_at tokens next) next tokens
stopped_by tokens begin next front start count is e over inside rules few (inl r) = record {
  words = front;
  spelled = is ∙ ap (λ k. front ++ words_at tokens k) (sym r.stays);
  place = start;
  leads = e;
  refused = ap (λ k. next_place start (first_word (words_at tokens k))) r.stays ∙ over ∙ r.none;
  inside = λ final. (subst (λ k. k < length tokens) (sym r.stays) inside, ap (λ k. begins_option (first_word (words_at tokens k))) r.stays ∙ r.plain);
  few = omega (arith, rules, few);
}
stopped_by tokens begin next front start count is e over inside rules few (inr r) =
    let none : rules_in r.refused.words ≡ 0 = plain_rules r.refused.words r.refused.plain in
    let more : count + rules_in (first_word (words_at tokens begin) ∷ r.refused.words) ≤ 4096 = first_rules (first_word (words_at tokens begin)) r.refused.words count none few in
    let all : rules_in (front ++ (first_word (words_at tokens begin) ∷ r.refused.words)) ≡ rules_in front + rules_in (first_word (words_at tokens begin) ∷ r.refused.words) = rules_append front (first_word (words_at tokens begin) ∷ r.refused.words) in
    record {
      words = front ++ (first_word (words_at tokens begin) ∷ r.refused.words);
      spelled = is ∙ ap (λ xs. front ++ xs) (r.first ∙ ap (λ xs. first_word (words_at tokens begin) ∷ xs) r.refused.spelled) ∙ sym (append_assoc front (first_word (words_at tokens begin) ∷ r.refused.words) (words_at tokens next));
      place = r.refused.place;
      leads = behind_all Between start front (first_word (words_at tokens begin) ∷ r.refused.words) e ∙ ap (λ o. follow o r.refused.words) (over ∙ r.leads) ∙ r.refused.leads;
      refused = r.refused.refused;
      inside = r.refused.inside;
      few = omega (arith, rules, more, all);
    }

stopped_at : (tokens : List Lexed) (next : ℕ) → IsRefusedBehind tokens 0 next → IsStopped (words_at tokens 0) (words_at tokens next) next tokens
stopped_at tokens next r = stopped_by tokens r.begin next r.whole.words r.whole.place (count_rules r.front.entries) r.whole.spelled r.whole.leads (r.whole.over r.front.inside) r.front.inside (whole_rules tokens next r) r.few r.entry

-- ---- no rules go on

never_on : (front rest : List Word) (w : Word) (place : Place) → follow (Some Between) front ≡ Some place → next_place place w ≡ None → follow (Some Between) (front ++ w ∷ rest) ≡ None
never_on front rest w place e none = behind_all Between place front (w ∷ rest) e ∙ ap (λ o. follow o rest) none ∙ follow_none rest

taken_on : (front rest more : List Word) (w : Word) → take (suc (length front)) (front ++ w ∷ rest) ++ more ≡ front ++ w ∷ more
taken_on [] rest more w = refl
taken_on (x ∷ xs) rest more w = ap (λ ws. x ∷ ws) (taken_on xs rest more w)

none_on : (ws front rest : List Word) (w : Word) (place : Place) (k : ℕ) → ws ≡ front ++ w ∷ rest → length front ≡ k → follow (Some Between) front ≡ Some place → next_place place w ≡ None → IsBeginning (take (suc k) ws) → ⊥
none_on ws front rest w place k is many e none begins =
    let on : LeadOn Between (spelled begins.entries) = entries_lead begins.entries Between begins.words.written refl in
    let same : spelled begins.entries ≡ front ++ w ∷ begins.rest =
    begins.words.words ∙ ap (λ n. take (suc n) ws ++ begins.rest) (sym many) ∙ ap (λ xs. take (suc (length front)) xs ++ begins.rest) is ∙ taken_on front rest begins.rest w in
    let no : Some on.place ≡ None = sym on.leads ∙ ap (λ xs. follow (Some Between) xs) same ∙ never_on front begins.rest w place e none in
    cc

abbrev place_of : Place → Option Place → Place
place_of p (Some q) = q
place_of p None = p

-- rules lead to a place where they may end
rules_final : (ws : List Word) (place : Place) → AreRules ws → follow (Some Between) ws ≡ Some place → is_final place ≡ true
rules_final ws place rules e =
    let on : LeadOn Between (spelled rules.entries) = entries_lead rules.entries Between rules.words.written refl in
    let same : Some on.place ≡ Some place = sym on.leads ∙ ap (λ xs. follow (Some Between) xs) rules.words.words ∙ e in
    ap (λ o. is_final (place_of place o)) (sym same) ∙ on.final

counted : (ws front : List Word) (k : ℕ) → ws ≡ front ++ drop k ws → k < length ws → length front ≡ k
counted ws front k is inside =
    let many : length ws ≡ length front + length (drop k ws) = ap length is ∙ length-append front (drop k ws) in
    let behind : length (drop k ws) ≡ length ws - k = length-drop k ws in
    omega (arith, many, behind, inside)

step_words : (ws : List Word) (k : ℕ) → k < length ws → drop k ws ≡ first_word (drop k ws) ∷ drop (suc k) ws
step_words [] k inside =
    let no : ⊥ = omega arith in
    absurd no
step_words (x ∷ xs) zero inside = refl
step_words (x ∷ xs) (suc k) inside = step_words xs k (omega arith)

ended : (tokens : List Lexed) (place : ℕ) → place < length tokens → length tokens ≤ place → ⊥
ended tokens place less past = omega (arith, less, past)

pub word_fault : (text front : List ℕ) (tokens : Tokens) (line : ℕ) → IsReadable text front → AreTokensOf front tokens → IsWordBy tokens.items.items line → HasRuleFault text (fault.Syntax line)
word_fault text front tokens line readable are by =
    let ws : List Word = words_at tokens.items.items 0 in
    let same : ws ≡ words_of front = words_from front tokens are in
    let inside : by.place < length ws = subst (λ n. by.place < n) (sym (length-map tokens.items.items (λ t. t.word.now))) by.inside in
    let stop : IsStopped ws (drop by.place ws) by.place tokens.items.items = stopped_at tokens.items.items by.place by.refused in
    let many : length stop.words ≡ by.place = counted ws stop.words by.place stop.spelled inside in
    let taken : stop.words ≡ take by.place ws = take_front stop.words ws by.place stop.spelled inside in
    let split : ws ≡ stop.words ++ (first_word (drop by.place ws) ∷ drop (suc by.place) ws) = stop.spelled ∙ ap (λ xs. stop.words ++ xs) (step_words ws by.place inside) in
    let stops : StopsAt ws by.place = record {
      inside = inside;
      before = begins_there (take by.place ws) stop.place (ap (λ xs. follow (Some Between) xs) (sym taken) ∙ stop.leads);
      behind = none_on ws stop.words (drop (suc by.place) ws) (first_word (drop by.place ws)) stop.place by.place split many stop.leads stop.refused;
    } in
    let few : AreFewBefore ws by.place = few_before ws by.place (subst (λ xs. rules_in xs ≤ 4096) taken stop.few) in
    let other : IsUnknownOption ws by.place → ⊥ = λ unknown. clash (
    sym (stop.inside (rules_final stop.words stop.place (subst AreRules (sym taken) unknown.before) stop.leads)).1 ∙ unknown.option (first_word (drop by.place ws)) (got_first ws by.place inside)
    ) in
    AtWord text front by.place line readable (subst (λ xs. StopsAt xs by.place) same stops) (subst (λ xs. AreFewBefore xs by.place) same few)
    (subst (λ xs. IsUnknownOption xs by.place → ⊥) same other) (subst (λ ts. IsLineOf ts by.place line) are.items by.tells)

-- the words of tokens at whose end reading stops
record IsOpenEnd (ws : List Word) : Type 0 where
  begins : IsBeginning ws
  unfinished : AreRules ws → ⊥
  few : AreFewBefore ws (length ws)

open_end : (tokens : List Lexed) → IsEndBy tokens → IsOpenEnd (words_at tokens 0)
open_end tokens by =
    let ws : List Word = words_at tokens 0 in
    let stop : IsStopped ws (words_at tokens by.place) by.place tokens = stopped_at tokens by.place by.refused in
    let whole : ws ≡ stop.words = stop.spelled ∙ ap (λ xs. stop.words ++ xs) (end_at tokens by.place by.end) ∙ append-nil stop.words in
    let taken : take (length ws) ws ≡ stop.words = take_all (length ws) ws (omega arith) ∙ whole in
    record {
      begins = begins_there ws stop.place (ap (λ xs. follow (Some Between) xs) whole ∙ stop.leads);
      unfinished = λ rules. ended tokens by.place (stop.inside (rules_final stop.words stop.place (subst AreRules whole rules) stop.leads)).0 by.end;
      few = few_before ws (length ws) (subst (λ xs. rules_in xs ≤ 4096) (sym taken) stop.few);
    }

pub end_fault : (text front : List ℕ) (tokens : Tokens) → front ≡ text → IsUtf8 text → AreTokensOf front tokens → IsEndBy tokens.items.items → HasRuleFault text (fault.Syntax (last_line text))
end_fault text front tokens all characters are by =
    let ws : List Word = words_at tokens.items.items 0 in
    let same : ws ≡ words_of text = words_from front tokens are ∙ ap words_of all in
    let opening : IsOpenEnd (words_of text) = subst IsOpenEnd same (open_end tokens.items.items by) in
    AtEnd text characters (record { before = opening.begins; unfinished = opening.unfinished }) opening.few

pub byte_fault : (text front : List ℕ) (tokens : Tokens) (at : ℕ) → IsReadable text front → IsValidUpTo text at → AreTokensOf front tokens → IsEndBy tokens.items.items → HasRuleFault text (fault.NotUtf8 at)
byte_fault text front tokens at readable valid are by =
    let opening : IsOpenEnd (words_of front) = subst IsOpenEnd (words_from front tokens are) (open_end tokens.items.items by) in
    AtByte text front at readable valid valid.short opening.begins opening.few

-- bytes that are no UTF-8 behind whole rules
pub byte_behind : (text front : List ℕ) (tokens : Tokens) (at next : ℕ) (reads : List ReadEntry) → IsReadable text front → IsValidUpTo text at → AreTokensOf front tokens → ReadsFew tokens.items.items 0 next reads → next ≡ length tokens.items.items
    → HasRuleFault text (fault.NotUtf8 at)
byte_behind text front tokens at next reads readable valid are few end =
    let ws : List Word = words_at tokens.items.items 0 in
    let same : ws ≡ words_of front = words_from front tokens are in
    let whole : spelled few.each.thing ≡ ws =
    sym (append-nil (spelled few.each.thing)) ∙ ap (λ xs. spelled few.each.thing ++ xs) (sym (end_at tokens.items.items next (omega (arith, end)))) ∙ sym few.each.spelled in
    let begins : IsBeginning ws = record { entries = few.each.thing; rest = []; words = record { written = few.each.written; words = whole ∙ sym (append-nil ws) } } in
    let count : rules_in (take (length ws) ws) ≡ count_rules few.each.thing = ap rules_in (take_all (length ws) ws (omega arith) ∙ sym whole) ∙ spelled_rules few.each.thing few.each.written in
    let most : AreFewBefore ws (length ws) = few_before ws (length ws) (subst (λ n. n ≤ 4096) (sym count) few.few) in
    AtByte text front at readable valid valid.short (subst IsBeginning same begins) (subst (λ xs. AreFewBefore xs (length xs)) same most)
