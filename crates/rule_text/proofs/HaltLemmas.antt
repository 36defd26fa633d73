-- Where reading a text halts at an option that isn't known or at a rule too many.
use Rattle.std.proofs.Common.{◌≡◌, ◌<◌, ◌≤◌, ◌+◌, ◌-◌, ℕ, zero, suc, Bool, true, false, not, if◌then◌else◌, codes, List, [], ◌∷◌, ◌++◌, map, take, drop, length, slice_index_or, slice_get, Option, Some, None, option_map, refl, sym, ap, subst, ◌∙◌, arith, length-append, length-drop}
use Rattle.std.specs.List.{list_all}
use Rattle.std.proofs.lemmas.List.{append-nil, length-map}
use Rattle.std.proofs.lemmas.Option.{slice_get-map}
use Rattle.rule_text.specs.Tokens.{Word, Token, words_of}
use Rattle.rule_text.specs.Fronts.{token_view, AreTokensOf}
use Rattle.rule_text.specs.Rules.{Entry}
use Rattle.rule_text.specs.Words.{IsNameOf, IsNameAmong}
use Rattle.rule_text.specs.Faults.{IsReadable, IsBeginning, StopsAt, IsUnknownOption, IsCrowdedAt, AreFewBefore, IsLineOf, HasRuleFault, AtOption, AtRule}
use Rattle.rule_text.specs.Spelling.{word_eq, AreWordsOf, begins_option, begins_rule, is_long, keep_word, setting_word, spelled, count_rules}
use Rattle.rule_text.specs.Steps.{words_at, first_word, BeginOtherwise}
use Rattle.rule_text.specs.Halts.{IsNoNameOf, is_known, EndsBefore, IsOptionBehind, HaltsAt, HaltsBefore}
use Rattle.rule_text.specs.Fault.{IsOptionBy, IsRuleBy}
use Rattle.rule_text.specs.declared.fault.RuleFault.TheVariants as fault
use Rattle.rule_text.specs.declared.rules.KeepKind.{KeepKind}
use Rattle.rule_text.specs.declared.rules.KeepKind.TheVariants as keep
use Rattle.rule_text.specs.declared.rules.SettingName.{SettingName}
use Rattle.rule_text.specs.declared.rules.SettingName.TheVariants as setting
use Rattle.rule_text.specs.ReadEntries.{ReadsCounted}
use Rattle.rule_text.specs.Places.{Between}
use Rattle.rule_text.specs.Refusals.{EndsWhole}
use Rattle.rule_text.specs.declared.stop.Stop.TheVariants as stop
use Rattle.rule_text.specs.declared.stop.Halt.{Halt}
use Rattle.rule_text.specs.declared.stop.Halt.TheVariants as halt
use Rattle.rule_text.specs.declared.rules.Entry.{Entry as ReadEntry}
use Rattle.rule_text.specs.declared.token.Token.{Token as Lexed}
use Rattle.rule_text.specs.declared.token.Tokens.{Tokens}
use Rattle.rule_text.proofs.EntryLemmas.{words_from, other_word, no_keep}
use Rattle.rule_text.proofs.OptionLemmas.{clash, fits, spelled_fit, fit_at, rules_in, spelled_rules, begins_before}

-- ---- in the loop

abbrev front_of : (tokens : List Lexed) (at next : ℕ) (reads : List ReadEntry) (rules : ℕ) → ReadsCounted tokens at next reads rules → next < length tokens → EndsBefore tokens at next
front_of tokens at next reads rules counted inside = record { entries = counted.each.thing; written = counted.each.written; words = counted.each.spelled; inside = inside }

pub too_many : (tokens : List Lexed) (at next : ℕ) (reads : List ReadEntry) (rules : ℕ) (w : Word) (h : Halt) → ReadsCounted tokens at next reads rules → next < length tokens → w ≡ first_word (words_at tokens next)
    → h ≡ halt.TooMany → begins_rule w ≡ true → rules ≡ 4096 → HaltsAt tokens at next h
too_many tokens at next reads rules w h counted inside first is begins full = subst (HaltsAt tokens at next) (sym is) (record {
  front = front_of tokens at next reads rules counted inside;
  full = counted.count ∙ full;
  rule = ap begins_rule (sym first) ∙ begins;
})

pub halted : (tokens : List Lexed) (at mid next : ℕ) (reads : List ReadEntry) (rules count : ℕ) (w : Word) (h : Halt) → ReadsCounted tokens at mid reads rules → EndsWhole Between tokens at mid → rules ≤ 4096 → mid < length tokens
    → w ≡ first_word (words_at tokens mid) → count ≡ rules + (if begins_rule w then 1 else 0) → count ≤ 4096 → HaltsBefore tokens mid next h → HaltsAt tokens at next h
halted tokens at mid next reads rules count w (halt.Inside stop.NoMemory) counted whole few inside first is most before = tt
halted tokens at mid next reads rules count w (halt.Inside stop.Syntax) counted whole few inside first is most before =
    let same : count_rules counted.each.thing + (if begins_rule (first_word (words_at tokens mid)) then 1 else 0) ≡ count =
    ap (λ n. n + (if begins_rule (first_word (words_at tokens mid)) then 1 else 0)) counted.count ∙ ap (λ v. rules + (if begins_rule v then 1 else 0)) (sym first) ∙ sym is in
    record { begin = mid; front = front_of tokens at mid reads rules counted inside; whole = whole; few = subst (λ n. n ≤ 4096) (sym same) most; entry = before }
halted tokens at mid next reads rules count w halt.Option counted whole few inside first is most before = subst (λ k. IsOptionBehind tokens at k) (sym before.0) (record {
  front = front_of tokens at mid reads rules counted inside;
  few = subst (λ n. n ≤ 4096) (sym counted.count) few;
  option = before.1;
  unknown = before.2;
})
halted tokens at mid next reads rules count w halt.TooMany counted whole few inside first is most before = absurd before

-- ---- options that aren't known

pub no_among : {K : Type 0} (among : K → Bool) (spell : K → Word) (w v : Word) (found : Option K) → IsNameAmong among spell w found → found ≡ None → w ≡ v → IsNoNameOf among spell v
no_among among spell w v (Some name) named is same = cc
no_among among spell w v None named is same = record { none = λ name passes spelled. named name passes (spelled ∙ sym same) }

pub no_name_of : {K : Type 0} (spell : K → Word) (w v : Word) (found : Option K) → IsNameOf spell w found → found ≡ None → w ≡ v → IsNoNameOf (λ _. true) spell v
no_name_of spell w v (Some name) named is same = cc
no_name_of spell w v None named is same = record { none = λ name passes spelled. named name (spelled ∙ sym same) }

pub no_rule_begins : (ws : List Word) → BeginOtherwise (codes "-assumenosideeffects") ws → IsNoNameOf (λ _. true) keep_word (first_word ws) → begins_rule (first_word ws) ≡ false
no_rule_begins [] other none = refl
no_rule_begins (w ∷ ws) other none =
    let keeps : (kind : KeepKind) → word_eq w (keep_word kind) ≡ false = λ kind. no_keep w (λ k e. none.none k refl e) kind in
    rw (
      other_word w (codes "-assumenosideeffects") (word_eq w (codes "-assumenosideeffects")) refl (λ e. other ws (ap (λ v. v ∷ ws) e)),
      keeps keep.Keep,
      keeps keep.ClassMembers,
      keeps keep.ClassesWithMembers,
      keeps keep.Names,
      keeps keep.ClassMemberNames,
      keeps keep.ClassesWithMemberNames,
    ) refl

no_setting_by : (w : Word) (name : SettingName) (long : Bool) → is_long name ≡ long → IsNoNameOf (λ name. not (is_long name)) setting_word w → IsNoNameOf is_long setting_word w → setting_word name ≡ w → ⊥
no_setting_by w name true e lone long is = long.none name e is
no_setting_by w name false e lone long is = lone.none name (ap not e) is

pub no_setting : (w : Word) → IsNoNameOf (λ name. not (is_long name)) setting_word w → IsNoNameOf is_long setting_word w → (name : SettingName) → word_eq w (setting_word name) ≡ false
no_setting w lone long name = other_word w (setting_word name) (word_eq w (setting_word name)) refl (λ e. no_setting_by w name (is_long name) refl lone long (sym e))

pub unknown : (w : Word) → begins_rule w ≡ false → IsNoNameOf (λ name. not (is_long name)) setting_word w → IsNoNameOf is_long setting_word w → is_known w ≡ false
unknown w rule lone long = rw (
  rule,
  no_setting w lone long setting.DontOptimize,
  no_setting w lone long setting.DontShrink,
  no_setting w lone long setting.Verbose,
  no_setting w lone long setting.DontObfuscate,
  no_setting w lone long setting.DontPreverify,
  no_setting w lone long setting.DontUseMixedCaseClassNames,
  no_setting w lone long setting.DontSkipNonPublicLibraryClasses,
  no_setting w lone long setting.AllowAccessModification,
  no_setting w lone long setting.IgnoreWarnings,
  no_setting w lone long setting.KeepAttributes,
  no_setting w lone long setting.DontWarn,
  no_setting w lone long setting.DontNote,
  no_setting w lone long setting.Optimizations,
  no_setting w lone long setting.OptimizationPasses,
  no_setting w lone long setting.RenameSourceFileAttribute,
  no_setting w lone long setting.RepackageClasses,
) refl

pub option_before : (tokens : List Lexed) (at mid next : ℕ) (w : Word) → begins_rule (first_word (words_at tokens at)) ≡ false → mid ≡ at → next ≡ mid → IsNoNameOf (λ name. not (is_long name)) setting_word (first_word (words_at tokens at))
    → IsNoNameOf is_long setting_word (first_word (words_at tokens mid)) → w ≡ first_word (words_at tokens next) → begins_option w ≡ true → HaltsBefore tokens at next halt.Option
option_before tokens at mid next w rule first second lone long is begins =
    let same : next ≡ at = second ∙ first in (
      same,
      subst (λ k. begins_option (first_word (words_at tokens k)) ≡ true) same (ap begins_option (sym is) ∙ begins),
      unknown (first_word (words_at tokens at)) rule lone (subst (λ k. IsNoNameOf is_long setting_word (first_word (words_at tokens k))) first long),
    )

-- ---- the line of a token

got : (xs : List Lexed) (k : ℕ) (t : Lexed) → k < length xs → slice_index_or xs k t ≡ t → slice_get xs k ≡ Some t
got [] k t inside is =
    let no : ⊥ = omega arith in
    absurd no
got (x ∷ xs) zero t inside is = ap (λ y. Some y) is
got (x ∷ xs) (suc k) t inside is = got xs k t (omega arith) is

abbrev line_or : Option Token → ℕ
line_or (Some t) = t.line
line_or None = 0

pub line_at : (xs : List Lexed) (k : ℕ) (t : Lexed) → k < length xs → slice_index_or xs k t ≡ t → IsLineOf (map token_view xs) k t.line
line_at xs k t inside is u found =
    let same : Some u ≡ Some (token_view t) = sym found ∙ slice_get-map token_view xs k ∙ ap (option_map token_view) (got xs k t inside is) in
    ap line_or same

pub option_by : (xs : List Lexed) (k : ℕ) (t : Lexed) → k < length xs → slice_index_or xs k t ≡ t → IsOptionBehind xs 0 k → IsOptionBy xs t.line
option_by xs k t inside is behind = record { place = k; behind = behind; tells = line_at xs k t inside is }

-- ---- of the text

taken : (A B : List Word) → take (length A) (A ++ B) ≡ A
taken [] B = refl
taken (w ∷ ws) B = ap (λ xs. w ∷ xs) (taken ws B)

pub take_front : (A ws : List Word) (k : ℕ) → ws ≡ A ++ drop k ws → k < length ws → A ≡ take k ws
take_front A ws k is inside =
    let many : length ws ≡ length A + length (drop k ws) = ap length is ∙ length-append A (drop k ws) in
    let behind : length (drop k ws) ≡ length ws - k = length-drop k ws in
    let same : length A ≡ k = omega (arith, many, behind, inside) in
    sym (taken A (drop k ws)) ∙ ap (λ n. take n (A ++ drop k ws)) same ∙ ap (take k) (sym is)

abbrev word_or : Option Word → Word
word_or (Some w) = w
word_or None = []

pub first_drop : (ws : List Word) (k : ℕ) (w : Word) → slice_get ws k ≡ Some w → first_word (drop k ws) ≡ w
first_drop [] k w is = cc
first_drop (x ∷ xs) zero w is = ap word_or is
first_drop (x ∷ xs) (suc k) w is = first_drop xs k w is

pub got_first : (ws : List Word) (k : ℕ) → k < length ws → slice_get ws k ≡ Some (first_word (drop k ws))
got_first [] k inside =
    let no : ⊥ = omega arith in
    absurd no
got_first (x ∷ xs) zero inside = refl
got_first (x ∷ xs) (suc k) inside = got_first xs k (omega arith)

got_taken : (ws : List Word) (k : ℕ) (w : Word) (rest : List Word) → slice_get ws k ≡ Some w → slice_get (take (suc k) ws ++ rest) k ≡ Some w
got_taken [] k w rest is = cc
got_taken (x ∷ xs) zero w rest is = is
got_taken (x ∷ xs) (suc k) w rest is = got_taken xs k w rest is

unfit : (w : Word) → begins_option w ≡ true → is_known w ≡ false → fits w ≡ true → ⊥
unfit w option other fit =
    let none : fits w ≡ false = rw (option, other) refl in
    clash (sym none ∙ fit)

-- no rules go on with an option that isn't known
none_behind : (ws : List Word) (k : ℕ) (w : Word) → slice_get ws k ≡ Some w → begins_option w ≡ true → is_known w ≡ false → IsBeginning (take (suc k) ws) → ⊥
none_behind ws k w found option other begins =
    let all : list_all fits (take (suc k) ws ++ begins.rest) ≡ true = subst (λ xs. list_all fits xs ≡ true) begins.words.words (spelled_fit begins.entries begins.words.written) in
    unfit w option other (fit_at (take (suc k) ws ++ begins.rest) k w all (got_taken ws k w begins.rest found))

pub few_before : (ws : List Word) (k : ℕ) → rules_in (take k ws) ≤ 4096 → AreFewBefore ws k
few_before ws k few j less crowded =
    let count : rules_in (spelled crowded.entries) ≡ count_rules crowded.entries = spelled_rules crowded.entries crowded.words.written in
    let there : rules_in (take j ws) ≡ 4096 = ap rules_in (sym crowded.words.words) ∙ count ∙ crowded.full in
    let more : rules_in (take j ws) < rules_in (take k ws) = begins_before ws j k less crowded.inside crowded.rule in
    omega (arith, there, more, few)

-- the rules and options before a place, in the words of the tokens
record IsFront (ws : List Word) (k rules : ℕ) : Type 0 where
  entries : List Entry
  words : AreWordsOf (take k ws) entries
  count : rules_in (take k ws) ≡ rules

front_words : (tokens : List Lexed) (k : ℕ) (front : EndsBefore tokens 0 k) → IsFront (words_at tokens 0) k (count_rules front.entries)
front_words tokens k front =
    let ws : List Word = words_at tokens 0 in
    let inside : k < length ws = subst (λ n. k < n) (sym (length-map tokens (λ t. t.word.now))) front.inside in
    let same : spelled front.entries ≡ take k ws = take_front (spelled front.entries) ws k front.words inside in
    record { entries = front.entries; words = record { written = front.written; words = same }; count = ap rules_in (sym same) ∙ spelled_rules front.entries front.written }

pub option_fault : (text front : List ℕ) (tokens : Tokens) (line : ℕ) → IsReadable text front → AreTokensOf front tokens → IsOptionBy tokens.items.items line → HasRuleFault text (fault.Option line)
option_fault text front tokens line readable are by =
    let ws : List Word = words_at tokens.items.items 0 in
    let same : ws ≡ words_of front = words_from front tokens are in
    let inside : by.place < length ws = subst (λ n. by.place < n) (sym (length-map tokens.items.items (λ t. t.word.now))) by.behind.front.inside in
    let before : IsFront ws by.place (count_rules by.behind.front.entries) = front_words tokens.items.items by.place by.behind.front in
    let found : slice_get ws by.place ≡ Some (first_word (drop by.place ws)) = got_first ws by.place inside in
    let unknown_there : IsUnknownOption ws by.place = record {
      before = record { entries = before.entries; words = before.words };
      option = λ w is. ap begins_option (sym (first_drop ws by.place w is)) ∙ by.behind.option;
    } in
    let begins : IsBeginning (take by.place ws) = record { entries = before.entries; rest = []; words = record { written = before.words.written; words = before.words.words ∙ sym (append-nil (take by.place ws)) } } in
    let stops : StopsAt ws by.place = record { inside = inside; before = begins; behind = none_behind ws by.place (first_word (drop by.place ws)) found by.behind.option by.behind.unknown } in
    let few : AreFewBefore ws by.place = few_before ws by.place (subst (λ n. n ≤ 4096) (sym before.count) by.behind.few) in
    AtOption text front by.place line readable (subst (λ xs. StopsAt xs by.place) same stops) (subst (λ xs. AreFewBefore xs by.place) same few)
    (subst (λ xs. IsUnknownOption xs by.place) same unknown_there) (subst (λ ts. IsLineOf ts by.place line) are.items by.tells)

pub rule_fault : (text front : List ℕ) (tokens : Tokens) (count : ℕ) → IsReadable text front → AreTokensOf front tokens → IsRuleBy tokens.items.items count → HasRuleFault text (fault.TooMany count)
rule_fault text front tokens count readable are by =
    let ws : List Word = words_at tokens.items.items 0 in
    let same : ws ≡ words_of front = words_from front tokens are in
    let inside : by.place < length ws = subst (λ n. by.place < n) (sym (length-map tokens.items.items (λ t. t.word.now))) by.behind.front.inside in
    let before : IsFront ws by.place (count_rules by.behind.front.entries) = front_words tokens.items.items by.place by.behind.front in
    let crowded : IsCrowdedAt ws by.place = record {
      entries = by.behind.front.entries;
      words = record { written = by.behind.front.written; words = take_front (spelled by.behind.front.entries) ws by.place by.behind.front.words inside };
      full = by.behind.full;
      rule = λ w found. ap begins_rule (sym (first_drop ws by.place w found)) ∙ by.behind.rule;
      inside = inside;
    } in
    let rules : rules_in (take by.place ws) ≡ 4096 = before.count ∙ by.behind.full in
    let few : AreFewBefore ws by.place = few_before ws by.place (omega (arith, rules)) in
    subst (λ n. HasRuleFault text (fault.TooMany n)) (sym by.is) (AtRule text front by.place readable (subst (λ xs. IsCrowdedAt xs by.place) same crowded) (subst (λ xs. AreFewBefore xs by.place) same few))
