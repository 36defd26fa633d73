-- Where rules and options stop.
use Rattle.std.proofs.Common.{◌≡◌, inl, inr, ◌<◌, ℕ, Bool, true, false, not, ◌||◌, if◌then◌else◌, List, [], ◌∷◌, ◌++◌, Option, Some, None, Result, Ok, Err, IsErrAnd, IfErr, length, refl, sym, ap, subst, ◌∙◌, codes}
use Rattle.std.specs.List.{list_all}
use Rattle.std.proofs.lemmas.List.{append_assoc}
use Rattle.rule_text.specs.Tokens.{Word}
use Rattle.rule_text.specs.Spelling.{word_eq, modifier_word, modifier_words, setting_word, is_long, begins_option, begins_rule, are_names, separated, is_assumed_rule, braces}
use Rattle.rule_text.specs.Words.{IsNameAmong}
use Rattle.rule_text.specs.Places.{Place, Between, InWords, BehindKeep, BehindComma, InHead, BeforeClass, BeforeName, BehindName, BeforeBrace, InBraces, next_place, follow, is_final, from_option, from_head, leads, or_else, is_modifier, is_keep, is_lone_option, is_long_option}
use Rattle.rule_text.specs.Refusals.{IsRefused, EndsWhole}
use Rattle.rule_text.specs.Steps.{words_at, first_word, AtSyntax, BeginOtherwise, BeginWithNone}
use Rattle.rule_text.specs.Halts.{IsNoNameOf, IsRefusedEntry, HaltsBefore}
use Rattle.rule_text.specs.ReadEntries.{AreWordsBehind}
use Rattle.rule_text.specs.Reads.{Reads}
use Rattle.rule_text.specs.Related.{AreEach, IsPatternOf, IsMemberOf}
use Rattle.rule_text.specs.declared.pattern.NamePattern.{NamePattern}
use Rattle.rule_text.specs.declared.rules.Modifier.{Modifier}
use Rattle.rule_text.specs.declared.rules.Modifier.TheVariants as modifier
use Rattle.rule_text.specs.declared.rules.SettingName.{SettingName}
use Rattle.rule_text.specs.declared.rules.SettingName.TheVariants as setting
use Rattle.rule_text.specs.declared.rules.MemberRule.{MemberRule as ReadMember}
use Rattle.rule_text.specs.declared.stop.Stop.{Stop}
use Rattle.rule_text.specs.declared.stop.Halt.{Halt}
use Rattle.rule_text.specs.declared.stop.Halt.TheVariants as halt
use Rattle.rule_text.specs.declared.token.Token.{Token as Lexed}
use Rattle.rule_text.proofs.OptionLemmas.{modifiers_plain}
use Rattle.rule_text.proofs.HaltLemmas.{no_setting}
use Rattle.rule_text.proofs.PlaceLemmas.{clash, behind_all, behind_one, modifiers_back, keep_head, name_words, brace_words, plain_words, not_true, place_setting, setting_leads}
use Rattle.rule_text.proofs.RefusalLemmas.{leads_off, or_none, other_word, not_first, here, begun, expected, from_same, stopped}

-- ---- keep rules

modifier_by : (w : Word) → ((m : Modifier) → word_eq w (modifier_word m) ≡ false) → is_modifier w ≡ false
modifier_by w lack = rw (lack modifier.AllowShrinking, lack modifier.AllowOptimization, lack modifier.AllowObfuscation, lack modifier.IncludeDescriptorClasses) refl

no_modifier_word : (ws : List Word) → BeginWithNone modifier_word ws → is_modifier (first_word ws) ≡ false
no_modifier_word [] none = refl
no_modifier_word (w ∷ ws) none = modifier_by w (λ m. other_word w (modifier_word m) (word_eq w (modifier_word m)) refl (λ e. none m ws (ap (λ v. v ∷ ws) e)))

pub no_modifier : (tokens : List Lexed) (at mid behind next : ℕ) (ms : List Modifier) → words_at tokens at ≡ modifier_words ms ++ words_at tokens mid → words_at tokens mid ≡ codes "," ∷ words_at tokens behind
    → next ≡ behind → BeginWithNone modifier_word (words_at tokens behind) → IsRefused BehindKeep tokens at next
no_modifier tokens at mid behind next ms each comma stays none =
    let off : next_place BehindComma (first_word (words_at tokens behind)) ≡ None = leads_off (is_modifier (first_word (words_at tokens behind))) BehindKeep None (no_modifier_word (words_at tokens behind) none) in
    let more : IsRefused BehindKeep tokens mid next = begun BehindKeep BehindComma tokens mid behind next (codes "," ∷ []) comma refl refl (here BehindComma tokens behind next stays off refl) in
    begun BehindKeep BehindKeep tokens at mid next (modifier_words ms) each (modifiers_plain ms) (modifiers_back ms) more

keep_same : (w : Word) → word_eq w (codes ",") ≡ false → next_place BehindKeep w ≡ next_place InHead w
keep_same w comma = ap (λ o. or_else (from_head w) o) (leads_off (word_eq w (codes ",")) BehindComma None comma) ∙ or_none (from_head w)

pub in_class : (tokens : List Lexed) (at mid next : ℕ) (ms : List Modifier) → words_at tokens at ≡ modifier_words ms ++ words_at tokens mid → BeginOtherwise (codes ",") (words_at tokens mid) → IsRefused InHead tokens mid next → IsRefused BehindKeep tokens at next
in_class tokens at mid next ms each comma r =
    let inner : IsRefused BehindKeep tokens mid next = from_same InHead BehindKeep tokens mid next (keep_same (first_word (words_at tokens mid)) (not_first (codes ",") (words_at tokens mid) refl comma)) (λ e. e) r in
    begun BehindKeep BehindKeep tokens at mid next (modifier_words ms) each (modifiers_plain ms) (modifiers_back ms) inner

head_unfinished : (p : Place) → is_final p ≡ true → InHead ≡ p → ⊥
head_unfinished p final e = clash (ap is_final e ∙ final)

pub keep_whole : (tokens : List Lexed) (at mid next : ℕ) (ms : List Modifier) → words_at tokens at ≡ modifier_words ms ++ words_at tokens mid → EndsWhole InHead tokens mid next → EndsWhole BehindKeep tokens at next
keep_whole tokens at mid next ms each r = record {
  words = modifier_words ms ++ r.words;
  spelled = each ∙ ap (λ ws. modifier_words ms ++ ws) r.spelled ∙ sym (append_assoc (modifier_words ms) r.words (words_at tokens next));
  place = r.place;
  leads = behind_all BehindKeep BehindKeep (modifier_words ms) r.words (modifiers_back ms) ∙ keep_head r.words r.place (head_unfinished r.place r.final) r.leads;
  final = r.final;
  over = r.over;
}

-- ---- rules of methods that do nothing

class_only : (w : Word) → word_eq w (codes "class") ≡ false → next_place BeforeClass w ≡ None
class_only w e = leads_off (word_eq w (codes "class")) (BeforeName true) None e

pub no_class_word : (tokens : List Lexed) (at next : ℕ) → next ≡ at → BeginOtherwise (codes "class") (words_at tokens at) → IsRefused BeforeClass tokens at next
no_class_word tokens at next stays other = expected BeforeClass (codes "class") tokens at next class_only refl refl stays other

pub in_names : (tokens : List Lexed) (at mid next : ℕ) → words_at tokens at ≡ codes "class" ∷ words_at tokens mid → IsRefused (BeforeName true) tokens mid next → IsRefused BeforeClass tokens at next
in_names tokens at mid next is r = begun BeforeClass (BeforeName true) tokens at mid next (codes "class" ∷ []) is refl refl r

names_same : (w : Word) → word_eq w (codes ",") ≡ false → next_place (BehindName true) w ≡ next_place (BeforeBrace true) w
names_same w comma = leads_off (word_eq w (codes ",")) (BeforeName true) (leads (word_eq w (codes "{")) (InBraces true) None) comma

pub in_members : (tokens : List Lexed) (mid next : ℕ) → BeginOtherwise (codes ",") (words_at tokens mid) → IsRefused (BeforeBrace true) tokens mid next → IsRefused (BehindName true) tokens mid next
in_members tokens mid next comma r = from_same (BeforeBrace true) (BehindName true) tokens mid next (names_same (first_word (words_at tokens mid)) (not_first (codes ",") (words_at tokens mid) refl comma)) (λ e. e) r

pub assume_whole : (tokens : List Lexed) (at first second next : ℕ) (names : List NamePattern) (members : List ReadMember) → words_at tokens at ≡ codes "class" ∷ words_at tokens first
    → Reads (AreEach IsPatternOf) are_names separated tokens first second names → Reads (AreEach IsMemberOf) (list_all is_assumed_rule) braces tokens second next members → EndsWhole BeforeClass tokens at next
assume_whole tokens at first second next names members is each lines = record {
  words = codes "class" ∷ (separated each.thing ++ braces lines.thing);
  spelled = is ∙ ap (λ ws. codes "class" ∷ ws) (each.spelled ∙ ap (λ ws. separated each.thing ++ ws) lines.spelled ∙ sym (append_assoc (separated each.thing) (braces lines.thing) (words_at tokens next)));
  place = Between;
  leads = behind_all (BeforeName true) (BehindName true) (separated each.thing) (braces lines.thing) (name_words true each.thing each.written) ∙ brace_words true lines.thing (BehindName true) lines.written refl;
  final = refl;
  over = λ inside. refl;
}

-- ---- options

lone_place : (name : SettingName) → is_long name ≡ false → next_place Between (setting_word name) ≡ Some Between
lone_place name lone = setting_leads name ∙ ap (λ b. Some (place_setting b)) lone

long_place : (name : SettingName) → is_long name ≡ true → next_place Between (setting_word name) ≡ Some InWords
long_place name long = setting_leads name ∙ ap (λ b. Some (place_setting b)) long

pub lone_name : (w : Word) (found : Option SettingName) (name : SettingName) → IsNameAmong (λ name. not (is_long name)) setting_word w found → found ≡ Some name → is_long name ≡ false
lone_name w (Some other) name named is =
    let same : other ≡ name = cc in
    subst (λ n. is_long n ≡ false) same (not_true (is_long other) named.0)
lone_name w None name named is = cc

pub lone_whole : (tokens : List Lexed) (at next : ℕ) (name : SettingName) → words_at tokens at ≡ setting_word name ∷ words_at tokens next → is_long name ≡ false → EndsWhole Between tokens at next
lone_whole tokens at next name is lone = record { words = setting_word name ∷ []; spelled = is; place = Between; leads = lone_place name lone; final = refl; over = λ inside. refl }

words_over : (w : Word) → begins_option w ≡ true → next_place InWords w ≡ from_option w
words_over w begins = ap (λ b. if b then from_option w else Some InWords) begins

pub long_whole : (tokens : List Lexed) (at same mid next : ℕ) (name : SettingName) (read : List ℕ) → same ≡ at → words_at tokens same ≡ setting_word name ∷ words_at tokens mid → is_long name ≡ true → AreWordsBehind tokens mid next read
    → (next < length tokens → begins_option (first_word (words_at tokens next)) ≡ true) → EndsWhole Between tokens at next
long_whole tokens at same mid next name read stays is long words begins = record {
  words = setting_word name ∷ words.words;
  spelled = ap (words_at tokens) (sym stays) ∙ is ∙ ap (λ ws. setting_word name ∷ ws) words.spelled;
  place = InWords;
  leads = behind_one Between InWords (setting_word name) words.words (long_place name long) ∙ plain_words words.words words.written;
  final = refl;
  over = λ inside. words_over (first_word (words_at tokens next)) (begins inside);
}

first_false : (a b : Bool) → (a || b) ≡ false → a ≡ false
first_false true b e = e
first_false false b e = refl

second_false : (a b : Bool) → (a || b) ≡ false → b ≡ false
second_false true b e = absurd (clash (sym e))
second_false false b e = e

lone_by : (w : Word) → ((name : SettingName) → word_eq w (setting_word name) ≡ false) → is_lone_option w ≡ false
lone_by w lack = rw (
  lack setting.DontOptimize,
  lack setting.DontShrink,
  lack setting.Verbose,
  lack setting.DontObfuscate,
  lack setting.DontPreverify,
  lack setting.DontUseMixedCaseClassNames,
  lack setting.DontSkipNonPublicLibraryClasses,
  lack setting.AllowAccessModification,
  lack setting.IgnoreWarnings,
) refl

long_by : (w : Word) → ((name : SettingName) → word_eq w (setting_word name) ≡ false) → is_long_option w ≡ false
long_by w lack = rw (
  lack setting.KeepAttributes,
  lack setting.DontWarn,
  lack setting.DontNote,
  lack setting.Optimizations,
  lack setting.OptimizationPasses,
  lack setting.RenameSourceFileAttribute,
  lack setting.RepackageClasses,
) refl

option_none : (w : Word) → word_eq w (codes "-assumenosideeffects") ≡ false → is_keep w ≡ false → is_lone_option w ≡ false → is_long_option w ≡ false → from_option w ≡ None
option_none w assume keep lone long = leads_off (word_eq w (codes "-assumenosideeffects")) BeforeClass (leads (is_keep w) BehindKeep (leads (is_lone_option w) Between (leads (is_long_option w) InWords None))) assume
    ∙ leads_off (is_keep w) BehindKeep (leads (is_lone_option w) Between (leads (is_long_option w) InWords None)) keep
    ∙ leads_off (is_lone_option w) Between (leads (is_long_option w) InWords None) lone
    ∙ leads_off (is_long_option w) InWords None long

pub begins_none : (tokens : List Lexed) (at mid next : ℕ) (w : Word) → begins_rule (first_word (words_at tokens at)) ≡ false → mid ≡ at → next ≡ mid → IsNoNameOf (λ name. not (is_long name)) setting_word (first_word (words_at tokens at))
    → IsNoNameOf is_long setting_word (first_word (words_at tokens mid)) → w ≡ first_word (words_at tokens next) → begins_option w ≡ false → IsRefusedEntry tokens at next
begins_none tokens at mid next w rule first second lone long is begins =
    let longs : IsNoNameOf is_long setting_word (first_word (words_at tokens at)) = subst (λ k. IsNoNameOf is_long setting_word (first_word (words_at tokens k))) first long in
    let lack : (name : SettingName) → word_eq (first_word (words_at tokens at)) (setting_word name) ≡ false = no_setting (first_word (words_at tokens at)) lone longs in
    inl (record {
      stays = second ∙ first;
      none = option_none (first_word (words_at tokens at)) (first_false (word_eq (first_word (words_at tokens at)) (codes "-assumenosideeffects")) (is_keep (first_word (words_at tokens at))) rule)
          (second_false (word_eq (first_word (words_at tokens at)) (codes "-assumenosideeffects")) (is_keep (first_word (words_at tokens at))) rule)
          (lone_by (first_word (words_at tokens at)) lack) (long_by (first_word (words_at tokens at)) lack);
      plain = ap (λ k. begins_option (first_word (words_at tokens k))) (sym (second ∙ first)) ∙ ap begins_option (sym is) ∙ begins;
    })

-- ---- rules and options

pub passed_halt : {T P : Type 0} (r : Result T Halt) (s : Stop) (tokens : List Lexed) (at next : ℕ) → IsErrAnd r (λ e. e ≡ halt.Inside s) → (P → IsRefusedEntry tokens at next) → AtSyntax P s → IfErr r (HaltsBefore tokens at next)
passed_halt (Ok x) s tokens at next is f p = absurd is
passed_halt (Err e) s tokens at next is f p = subst (HaltsBefore tokens at next) (sym is) (stopped s f p)

pub inside_one : (tokens : List Lexed) (at same mid next : ℕ) (w : Word) (p : Place) → same ≡ at → words_at tokens same ≡ w ∷ words_at tokens mid → from_option w ≡ Some p → IsRefused p tokens mid next → IsRefusedEntry tokens at next
inside_one tokens at same mid next w p stays is e r =
    let all : words_at tokens at ≡ w ∷ words_at tokens mid = ap (words_at tokens) (sym stays) ∙ is in
    let first : first_word (words_at tokens at) ≡ w = ap first_word all in
    inr (record { behind = mid; place = p; first = all ∙ ap (λ v. v ∷ words_at tokens mid) (sym first); leads = ap from_option first ∙ e; refused = r })

pub entry_whole : (tokens : List Lexed) (at same mid next : ℕ) (w : Word) (p : Place) → same ≡ at → words_at tokens same ≡ w ∷ words_at tokens mid → from_option w ≡ Some p → EndsWhole p tokens mid next → EndsWhole Between tokens at next
entry_whole tokens at same mid next w p stays is e r = record {
  words = w ∷ r.words;
  spelled = ap (words_at tokens) (sym stays) ∙ is ∙ ap (λ ws. w ∷ ws) r.spelled;
  place = r.place;
  leads = behind_one Between p w r.words e ∙ r.leads;
  final = r.final;
  over = r.over;
}

pub none_whole : (tokens : List Lexed) (at : ℕ) → EndsWhole Between tokens at at
none_whole tokens at = record { words = []; spelled = refl; place = Between; leads = refl; final = refl; over = λ inside. refl }

more_by : (tokens : List Lexed) (at mid next : ℕ) → mid < length tokens → (front : EndsWhole Between tokens at mid) → (ws : List Word) (place : Place) → words_at tokens mid ≡ ws ++ words_at tokens next → follow (Some Between) ws ≡ Some place → is_final place ≡ true
    → (next < length tokens → next_place place (first_word (words_at tokens next)) ≡ from_option (first_word (words_at tokens next))) → EndsWhole Between tokens at next
more_by tokens at mid next inside front [] place is e final over = record {
  words = front.words;
  spelled = front.spelled ∙ ap (λ ws. front.words ++ ws) is;
  place = front.place;
  leads = front.leads;
  final = front.final;
  over = λ more. ap (λ ws. next_place front.place (first_word ws)) (sym is) ∙ front.over inside ∙ ap (λ ws. from_option (first_word ws)) is;
}
more_by tokens at mid next inside front (w ∷ ws) place is e final over =
    let first : first_word (words_at tokens mid) ≡ w = ap first_word is in
    let step : next_place front.place w ≡ from_option w = ap (next_place front.place) (sym first) ∙ front.over inside ∙ ap from_option first in
    record {
      words = front.words ++ w ∷ ws;
      spelled = front.spelled ∙ ap (λ xs. front.words ++ xs) is ∙ sym (append_assoc front.words (w ∷ ws) (words_at tokens next));
      place = place;
      leads = behind_all Between front.place front.words (w ∷ ws) front.leads ∙ ap (λ o. follow o ws) step ∙ e;
      final = final;
      over = over;
    }

pub more_whole : (tokens : List Lexed) (at mid next : ℕ) → mid < length tokens → EndsWhole Between tokens at mid → EndsWhole Between tokens mid next → EndsWhole Between tokens at next
more_whole tokens at mid next inside front one = more_by tokens at mid next inside front one.words one.place one.spelled one.leads one.final one.over
