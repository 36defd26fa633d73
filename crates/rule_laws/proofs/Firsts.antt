-- The first word of a rule or an option, and the words behind it.
use Rattle.std.proofs.Common.{◌≡◌, inl, inr, ◌<◌, ◌+◌, ℕ, zero, suc, true, not, ◌||◌, nat_eq, map, drop, length, List, [], ◌∷◌, ◌++◌, Some, refl, sym, ap, subst, ◌∙◌, arith}
use Rattle.std.specs.List.{list_all}
use Rattle.std.proofs.lemmas.List.{append_cancel_right, length-map}
use Rattle.rule_text.specs.Tokens.{Word}
use Rattle.rule_text.specs.Rules.{ClassRule, Entry, Setting, Keep, Assume}
use Rattle.rule_text.specs.Spelling.{setting_word, keep_word, is_long, begins_option, begins_rule, separated, braces, modifier_words, class_rule_words, are_names, is_assumed_rule, is_class_rule, is_entry, entry_words, is_rule}
use Rattle.rule_text.specs.Halts.{is_known, IsRefusedEntry}
use Rattle.rule_text.specs.Steps.{first_word, words_at}
use Rattle.rule_text.specs.ReadEntries.{behind}
use Rattle.rule_text.specs.Places.{Place, Between, BehindKeep, BeforeClass, InHead, follow, from_option}
use Rattle.rule_text.specs.Refusals.{IsRefused, EndsWhole}
use Rattle.rule_text.specs.declared.rules.KeepKind.{KeepKind}
use Rattle.rule_text.specs.declared.rules.KeepKind.TheVariants as keep
use Rattle.rule_text.specs.declared.rules.SettingName.{SettingName}
use Rattle.rule_text.specs.declared.rules.SettingName.TheVariants as setting
use Rattle.rule_text.specs.declared.token.Token.{Token as Lexed}
use Rattle.rule_text.proofs.EntryLemmas.{keep_begins, setting_begins}
use Rattle.rule_text.proofs.OptionLemmas.{ArePlain, both_plain, modifiers_plain, class_plain, names_plain, braces_plain, assumed_line_plain}
use Rattle.rule_text.proofs.PlaceLemmas.{first_true, second_true, clash, class_words_in, class_final, place_setting, setting_leads, keep_leads, place_entry, entry_leads, entry_final, entry_word, words_in, entry_split, entry_option}
use Rattle.rule_text.proofs.StepLemmas.{step_first}
use Rattle.rule_laws.proofs.Stretches.{Stretch, Ends, Refuses, begins, same_end, not_refused}

-- ---- the words of a rule or an option

pub first_entry : (e : Entry) (rest : List Word) → first_word (entry_words e ++ rest) ≡ entry_word e
first_entry (Setting name ws) rest = refl
first_entry (Keep rule) rest = refl
first_entry (Assume rule) rest = refl

pub behind_entry : (e : Entry) (rest : List Word) → behind (entry_words e ++ rest) ≡ words_in e ++ rest
behind_entry (Setting name ws) rest = refl
behind_entry (Keep rule) rest = refl
behind_entry (Assume rule) rest = refl

in_plain : (e : Entry) → is_entry e ≡ true → ArePlain (words_in e)
in_plain (Setting name ws) e = first_true (list_all (λ w. not (begins_option w)) ws) (is_long name || nat_eq (length ws) 0) e
in_plain (Keep rule) e = both_plain (modifier_words rule.modifiers) (class_rule_words rule.class) (modifiers_plain rule.modifiers) (class_plain rule.class e)
in_plain (Assume rule) e = both_plain (separated rule.names) (braces rule.members) (names_plain rule.names (first_true (are_names rule.names) (list_all is_assumed_rule rule.members) e))
    (braces_plain is_assumed_rule assumed_line_plain rule.members (second_true (are_names rule.names) (list_all is_assumed_rule rule.members) e))

abbrev pub place_first : Entry → Place
place_first (Setting name ws) = place_setting (is_long name)
place_first (Keep rule) = BehindKeep
place_first (Assume rule) = BeforeClass

pub entry_from : (e : Entry) → from_option (entry_word e) ≡ Some (place_first e)
entry_from (Setting name ws) = setting_leads name
entry_from (Keep rule) = keep_leads rule.kind
entry_from (Assume rule) = refl

pub word_rule : (e : Entry) → begins_rule (entry_word e) ≡ is_rule e
word_rule (Setting name ws) = setting_begins name
word_rule (Keep rule) = keep_begins rule.kind
word_rule (Assume rule) = refl

setting_known : (name : SettingName) → is_known (setting_word name) ≡ true
setting_known setting.DontOptimize = refl
setting_known setting.DontShrink = refl
setting_known setting.Verbose = refl
setting_known setting.DontObfuscate = refl
setting_known setting.DontPreverify = refl
setting_known setting.DontUseMixedCaseClassNames = refl
setting_known setting.DontSkipNonPublicLibraryClasses = refl
setting_known setting.AllowAccessModification = refl
setting_known setting.IgnoreWarnings = refl
setting_known setting.KeepAttributes = refl
setting_known setting.DontWarn = refl
setting_known setting.DontNote = refl
setting_known setting.Optimizations = refl
setting_known setting.OptimizationPasses = refl
setting_known setting.RenameSourceFileAttribute = refl
setting_known setting.RepackageClasses = refl

keep_known : (kind : KeepKind) → is_known (keep_word kind) ≡ true
keep_known keep.Keep = refl
keep_known keep.ClassMembers = refl
keep_known keep.ClassesWithMembers = refl
keep_known keep.Names = refl
keep_known keep.ClassMemberNames = refl
keep_known keep.ClassesWithMemberNames = refl

pub word_known : (e : Entry) → is_known (entry_word e) ≡ true
word_known (Setting name ws) = setting_known name
word_known (Keep rule) = keep_known rule.kind
word_known (Assume rule) = refl

-- ---- words of tokens

left : (ws : List Word) (n : ℕ) → (drop n ws ≡ [] → ⊥) → n < length ws
left [] zero some = absurd (some refl)
left [] (suc n) some = absurd (some refl)
left (w ∷ ws) zero some = omega arith
left (w ∷ ws) (suc n) some =
    let more : n < length ws = left ws n some in
    omega (arith, more)

pub some_left : (tokens : List Lexed) (at : ℕ) → (words_at tokens at ≡ [] → ⊥) → at < length tokens
some_left tokens at some = subst (λ n. at < n) (length-map tokens (λ t. t.word.now)) (left (map (λ t. t.word.now) tokens) at some)

no_words : (w : Word) (ws xs : List Word) → xs ≡ w ∷ ws → xs ≡ [] → ⊥
no_words w ws xs one none =
    let no : [] ≡ w ∷ ws = sym none ∙ one in
    cc

pub some_there : (tokens : List Lexed) (at : ℕ) → at < length tokens → words_at tokens at ≡ [] → ⊥
some_there tokens at inside none = no_words (first_word (words_at tokens at)) (words_at tokens (at + 1)) (words_at tokens at) (step_first tokens at inside) none

refuses : (start : Place) (tokens : List Lexed) (at next : ℕ) → (r : IsRefused start tokens at next) → Refuses start r.words (words_at tokens next)
refuses start tokens at next r = record {
  plain = r.plain;
  place = r.place;
  leads = r.leads;
  refused = r.refused;
  inside = λ final. (some_there tokens next (r.inside final).0, (r.inside final).1);
}

-- Words that lead to an end are refused nowhere.
pub never_refused : (start : Place) (ws rest : List Word) (tokens : List Lexed) (at next : ℕ) → Stretch start ws rest → words_at tokens at ≡ ws ++ rest → IsRefused start tokens at next → ⊥
never_refused start ws rest tokens at next s is r = not_refused start ws rest r.words (words_at tokens next) s (refuses start tokens at next r) (sym is ∙ r.spelled)

-- where it ends for the one who reads, as far as it goes
pub ends : (start : Place) (ws : List Word) (tokens : List Lexed) (at next : ℕ) → ArePlain ws → words_at tokens at ≡ ws ++ words_at tokens next → EndsWhole start tokens at next → Ends start ws (words_at tokens next)
ends start ws tokens at next all is w =
    let same : w.words ≡ ws = append_cancel_right w.words ws (words_at tokens next) (sym w.spelled ∙ is) in
    record { plain = all; place = w.place; leads = ap (λ xs. follow (Some start) xs) (sym same) ∙ w.leads; final = w.final; over = λ some. w.over (some_left tokens next some) }

-- ---- a rule or an option

entry_stretch : (e : Entry) (p : Place) (rest : List Word) → is_entry e ≡ true → from_option (entry_word e) ≡ Some p → begins rest ≡ true → Stretch p (words_in e) rest
entry_stretch e p rest is from next = record {
  plain = in_plain e is;
  place = place_entry e;
  leads = ap (λ o. follow o (words_in e)) (sym from) ∙ ap (λ xs. follow (Some Between) xs) (sym (entry_split e)) ∙ entry_leads e is;
  final = entry_final e;
  next = next;
}

entry_ends : (e : Entry) (p : Place) (tokens : List Lexed) (at next : ℕ) → is_entry e ≡ true → from_option (entry_word e) ≡ Some p → words_at tokens at ≡ entry_words e ++ words_at tokens next → EndsWhole Between tokens at next
    → Ends p (words_in e) (words_at tokens next)
entry_ends e p tokens at next is from words w =
    let same : w.words ≡ entry_words e = append_cancel_right w.words (entry_words e) (words_at tokens next) (sym w.spelled ∙ words) in
    record {
      plain = in_plain e is;
      place = w.place;
      leads = ap (λ o. follow o (words_in e)) (sym from) ∙ ap (λ xs. follow (Some Between) xs) (sym (entry_split e)) ∙ ap (λ xs. follow (Some Between) xs) (sym same) ∙ w.leads;
      final = w.final;
      over = λ some. w.over (some_left tokens next some);
    }

-- One stands at a place.
pub entries_same : (e f : Entry) (rest : List Word) (tokens : List Lexed) (at next : ℕ) → is_entry e ≡ true → is_entry f ≡ true → begins rest ≡ true → words_at tokens at ≡ entry_words f ++ rest
    → words_at tokens at ≡ entry_words e ++ words_at tokens next → EndsWhole Between tokens at next → (entry_words f ≡ entry_words e) × (rest ≡ words_at tokens next)
entries_same e f rest tokens at next ise isf begun mine theirs w =
    let first : entry_word f ≡ entry_word e = sym (first_entry f rest) ∙ ap first_word (sym mine ∙ theirs) ∙ first_entry e (words_at tokens next) in
    let more : words_in f ++ rest ≡ words_in e ++ words_at tokens next = sym (behind_entry f rest) ∙ ap behind (sym mine ∙ theirs) ∙ behind_entry e (words_at tokens next) in
    let both : (words_in f ≡ words_in e) × (rest ≡ words_at tokens next) = same_end (place_first e) (words_in f) rest (words_in e) (words_at tokens next)
    (entry_stretch f (place_first e) rest isf (ap from_option first ∙ entry_from e) begun) (entry_ends e (place_first e) tokens at next ise (entry_from e) theirs w) more in
    (entry_split f ∙ ap (λ x. x ∷ words_in f) first ∙ ap (λ xs. entry_word e ∷ xs) both.0 ∙ sym (entry_split e), both.1)

-- None is refused.
pub entry_goes : (e : Entry) (rest : List Word) (tokens : List Lexed) (at next : ℕ) → is_entry e ≡ true → begins rest ≡ true → words_at tokens at ≡ entry_words e ++ rest → IsRefusedEntry tokens at next → ⊥
entry_goes e rest tokens at next is begun mine (inl r) = clash (sym r.plain ∙ ap (λ xs. begins_option (first_word xs)) mine ∙ ap begins_option (first_entry e rest) ∙ entry_option e)
entry_goes e rest tokens at next is begun mine (inr r) =
    let first : first_word (words_at tokens at) ≡ entry_word e = ap first_word mine ∙ first_entry e rest in
    let more : words_at tokens r.behind ≡ words_in e ++ rest = ap behind (sym r.first ∙ mine) ∙ behind_entry e rest in
    never_refused r.place (words_in e) rest tokens r.behind next (entry_stretch e r.place rest is (ap from_option (sym first) ∙ r.leads) begun) more r.refused

-- ---- a class specification

pub class_stretch : (c : ClassRule) (rest : List Word) → is_class_rule c ≡ true → begins rest ≡ true → Stretch InHead (class_rule_words c) rest
class_stretch c rest is next = record { plain = class_plain c is; place = _; leads = class_words_in c is; final = class_final c.above c.members; next = next }
