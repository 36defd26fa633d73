-- Rules can go on from each place of a text: each word that leads on may stand before what follows.
use Rattle.std.proofs.Common.{◌≡◌, inl, inr, ◌⊎◌, Bool, true, false, not, ◌&&◌, ◌||◌, if◌then◌else◌, List, [], ◌∷◌, ◌++◌, length, Option, Some, None, refl, sym, ap, subst, ◌∙◌, codes, nat_eq, eqb-true}
use Rattle.std.specs.List.{list_all, flat_map}
use Rattle.std.proofs.lemmas.List.{append_assoc}
use Rattle.rule_text.specs.Tokens.{Word}
use Rattle.rule_text.specs.Rules.{Condition, Mark, Has, ClassRule, Entry, Setting, Keep, Assume}
use Rattle.rule_text.specs.Spelling.{word_eq, is_name, access_word, kind_word, keep_word, modifier_word, modifier_words, setting_word, is_long, begins_option, bang, marked, condition_words, is_class_condition, separated, member_rule_words, is_assumed_rule, braces, are_names, is_above, above_words, are_members, braces_words, is_entry, entry_words}
use Rattle.rule_text.specs.Places.{Place, Between, InWords, BehindKeep, BehindComma, InHead, BehindBang, BeforeName, BehindName, BeforeClass, BehindAbove, BehindMark, BehindAncestor, BeforeBrace, InBraces, InLine, BehindNot, BehindStar, BehindType, BehindMember, BeforeArguments, InArguments, BehindDots, BeforeArgument, BehindArgument, AtEnd, next_place, follow, from_option, from_head, from_names, is_class_access, is_kind, is_modifier, is_keep, is_lone_option, is_long_option, is_mark, is_class_mark}
use Rattle.rule_text.specs.Faults.{AreRules, IsBeginning}
use Rattle.rule_text.specs.declared.rules.Access.{Access}
use Rattle.rule_text.specs.declared.rules.Access.TheVariants as access
use Rattle.rule_text.specs.declared.rules.ClassKind.{ClassKind}
use Rattle.rule_text.specs.declared.rules.ClassKind.TheVariants as class
use Rattle.rule_text.specs.declared.rules.KeepKind.{KeepKind}
use Rattle.rule_text.specs.declared.rules.KeepKind.TheVariants as keep
use Rattle.rule_text.specs.declared.rules.Modifier.{Modifier}
use Rattle.rule_text.specs.declared.rules.Modifier.TheVariants as modifier
use Rattle.rule_text.specs.declared.rules.SettingName.{SettingName}
use Rattle.rule_text.specs.declared.rules.SettingName.TheVariants as setting
use Rattle.rule_text.proofs.PlaceLemmas.{clash, first_true, second_true, follow_none}
use Rattle.rule_text.proofs.RefusalLemmas.{place_or}
use Rattle.rule_text.proofs.LineFits.{joined, led, led_either, led_last, word_is, any_name, FitsBraces, FitsLine, FitsEnd, FitsDots, FitsArguments, FitsTypes, FitsName, FitsOpen, FitsMembers, FitsAbove, FitsNames, FitsMore, FitsAncestor, FitsMarked, FitsHead, FitsNotAccess, FitsNotKind, FitsKeep, FitsModifier, FitsClass, FitsWords, type_before, arguments_before, star_before, marked_by, line_before, closed_before, argument_step, inside_step, behind_step, opens_step, end_step, member_step, name_step, star_step, not_step, braces_step, open_step, FitsBehind, Fits}

-- ---- options and rules

rules_first : (e : Entry) (ws tail : List Word) → is_entry e ≡ true → ws ≡ entry_words e ++ tail → AreRules tail → AreRules ws
rules_first e ws tail written is rules = record {
  entries = e ∷ rules.entries;
  words = record { written = joined (is_entry e) (list_all is_entry rules.entries) written rules.words.written; words = ap (λ xs. entry_words e ++ xs) rules.words.words ∙ sym is };
}

assume_rules : (tail : List Word) → FitsClass tail → AreRules (codes "-assumenosideeffects" ∷ tail)
assume_rules tail fits =
    let N : List Word = separated (fits.names.first ∷ fits.names.names) in
    let opening : FitsOpen true fits.names.rest = fits.names.behind in
    let F : List Word = flat_map member_rule_words opening.braces.lines in
    let R : List Word = opening.braces.rest in
    rules_first (Assume (record { names = fits.names.first ∷ fits.names.names; members = opening.braces.lines })) (codes "-assumenosideeffects" ∷ tail) opening.braces.rest
    (joined (are_names (fits.names.first ∷ fits.names.names)) (list_all is_assumed_rule opening.braces.lines) fits.names.written opening.braces.written)
    (ap (λ ws. codes "-assumenosideeffects" ∷ ws) (
    fits.split ∙ ap (λ ws. codes "class" ∷ ws) (fits.names.split ∙ ap (λ ws. N ++ ws) (opening.split ∙ ap (λ ws. codes "{" ∷ ws) (opening.braces.split ∙ sym (append_assoc F (codes "}" ∷ []) R))) ∙ sym (append_assoc N (braces opening.braces.lines) R))
    ))
    opening.braces.rules

four : (a b c d : Bool) → a ≡ true → b ≡ true → c ≡ true → d ≡ true → (a && b && c && d) ≡ true
four a b c d ea eb ec ed = rw (ea, eb, ec, ed) refl

keep_rules : (kind : KeepKind) (tail : List Word) → FitsKeep tail → AreRules (keep_word kind ∷ tail)
keep_rules kind tail fits =
    let head : FitsHead fits.rest = fits.head in
    let names : FitsNames false head.rest = head.names in
    let above : FitsAbove names.rest = names.behind in
    let members : FitsMembers above.rest = above.members in
    let D : List Word = modifier_words fits.modifiers in
    let C : List Word = flat_map condition_words head.conditions in
    let B : List Word = bang head.negated in
    let N : List Word = separated (names.first ∷ names.names) in
    let A : List Word = above_words above.above in
    let M : List Word = braces_words members.members in
    let R : List Word = members.rest in
    let K : Word = kind_word head.kind in
    let class : ClassRule = record { conditions = head.conditions; negated = head.negated; kind = head.kind; names = names.first ∷ names.names; above = above.above; members = members.members } in
    let all : fits.rest ≡ C ++ (B ++ (K ∷ (N ++ (A ++ (M ++ R))))) = head.split ∙ ap (λ ws. C ++ (B ++ (K ∷ ws))) (names.split ∙ ap (λ ws. N ++ ws) (above.split ∙ ap (λ ws. A ++ ws) members.split)) in
    let shift : (D ++ (C ++ (B ++ (K ∷ (N ++ (A ++ M)))))) ++ R ≡ D ++ (C ++ (B ++ (K ∷ (N ++ (A ++ (M ++ R)))))) =
    append_assoc D (C ++ (B ++ (K ∷ (N ++ (A ++ M))))) R ∙ ap (λ ws. D ++ ws) (append_assoc C (B ++ (K ∷ (N ++ (A ++ M)))) R
    ∙ ap (λ ws. C ++ ws) (append_assoc B (K ∷ (N ++ (A ++ M))) R ∙ ap (λ ws. B ++ (K ∷ ws)) (append_assoc N (A ++ M) R ∙ ap (λ ws. N ++ ws) (append_assoc A M R)))) in
    rules_first (Keep (record { kind = kind; modifiers = fits.modifiers; class = class })) (keep_word kind ∷ tail) members.rest
    (four (list_all is_class_condition head.conditions) (are_names (names.first ∷ names.names)) (is_above above.above) (are_members members.members) head.written names.written above.written members.written)
    (ap (λ ws. keep_word kind ∷ ws) (fits.split ∙ ap (λ ws. D ++ ws) all ∙ sym shift))
    members.rules

or_true : (a : Bool) → (a || true) ≡ true
or_true true = refl
or_true false = refl

lone_rules : (name : SettingName) (tail : List Word) → AreRules tail → AreRules (setting_word name ∷ tail)
lone_rules name tail rules = rules_first (Setting name []) (setting_word name ∷ tail) tail (or_true (is_long name)) refl rules

long_rules : (name : SettingName) (tail : List Word) → is_long name ≡ true → FitsWords tail → AreRules (setting_word name ∷ tail)
long_rules name tail long fits = rules_first (Setting name fits.words) (setting_word name ∷ tail) fits.rest
    (joined (list_all (λ w. not (begins_option w)) fits.words) (is_long name || nat_eq (length fits.words) 0) fits.written (ap (λ b. b || nat_eq (length fits.words) 0) long)) (ap (λ ws. setting_word name ∷ ws) fits.split) fits.rules

any_keep : (w : Word) → is_keep w ≡ true → (kind : KeepKind) × (keep_word kind ≡ w)
any_keep w e = any_name keep_word w (keep.Keep ∷ keep.ClassMembers ∷ keep.ClassesWithMembers ∷ keep.Names ∷ keep.ClassMemberNames ∷ keep.ClassesWithMemberNames ∷ []) e

any_lone : (w : Word) → is_lone_option w ≡ true → (name : SettingName) × (setting_word name ≡ w)
any_lone w e = any_name setting_word w (
    setting.DontOptimize ∷ setting.DontShrink ∷ setting.Verbose ∷ setting.DontObfuscate ∷ setting.DontPreverify ∷ setting.DontUseMixedCaseClassNames ∷ setting.DontSkipNonPublicLibraryClasses
    ∷ setting.AllowAccessModification ∷ setting.IgnoreWarnings ∷ []
    ) e

any_long : (w : Word) → is_long_option w ≡ true → (name : SettingName) × (setting_word name ≡ w)
any_long w e = any_name setting_word w (setting.KeepAttributes ∷ setting.DontWarn ∷ setting.DontNote ∷ setting.Optimizations ∷ setting.OptimizationPasses ∷ setting.RenameSourceFileAttribute ∷ setting.RepackageClasses ∷ []) e

option_step : (w : Word) (q : Place) (tail : List Word) → from_option w ≡ Some q → Fits q tail → AreRules (w ∷ tail)
option_step w q tail e fits = elim (led (word_eq w (codes "-assumenosideeffects")) BeforeClass q _ e) [
  | inl assume ↦ subst (λ v. AreRules (v ∷ tail)) (word_is w (codes "-assumenosideeffects") assume.0) (assume_rules tail (subst (λ p. Fits p tail) (sym assume.1) fits))
  | inr r1 ↦ elim (led (is_keep w) BehindKeep q _ r1.1) [
    | inl keeps ↦ let found = any_keep w keeps.0 in
        subst (λ v. AreRules (v ∷ tail)) found.1 (keep_rules found.0 tail (subst (λ p. Fits p tail) (sym keeps.1) fits))
    | inr r2 ↦ elim (led (is_lone_option w) Between q _ r2.1) [
      | inl lone ↦ let found = any_lone w lone.0 in
          subst (λ v. AreRules (v ∷ tail)) found.1 (lone_rules found.0 tail (subst (λ p. Fits p tail) (sym lone.1) fits))
      | inr r3 ↦ let last = led_last (is_long_option w) InWords q r3.1 in
          let found = any_long w last.0 in
          subst (λ v. AreRules (v ∷ tail)) found.1 (long_rules found.0 tail (ap is_long_option found.1 ∙ last.0) (subst (λ p. Fits p tail) (sym last.1) fits))
    ]
  ]
]

words_none : (tail : List Word) → AreRules tail → FitsWords tail
words_none tail rules = record { words = []; rest = tail; written = refl; split = refl; rules = rules }

words_by : (w : Word) (q : Place) (tail : List Word) (b : Bool) → begins_option w ≡ b → (if b then from_option w else Some InWords) ≡ Some q → Fits q tail → FitsWords (w ∷ tail)
words_by w q tail true is e fits = words_none (w ∷ tail) (option_step w q tail e fits)
words_by w q tail false is e fits =
    let same : InWords ≡ q = ap (place_or InWords) e in
    let more : FitsWords tail = subst (λ p. Fits p tail) (sym same) fits in
    record { words = w ∷ more.words; rest = more.rest; written = joined (not (begins_option w)) (list_all (λ w. not (begins_option w)) more.words) (ap not is) more.written; split = ap (λ ws. w ∷ ws) more.split; rules = more.rules }

-- ---- classes

more_names : (a : Bool) (w : Word) (tail : List Word) → is_name w ≡ true → FitsMore a tail ⊎ FitsBehind a tail → FitsNames a (w ∷ tail)
more_names a w tail is (inl more) = record {
  first = w;
  names = more.names.first ∷ more.names.names;
  rest = more.names.rest;
  written = joined (is_name w) (list_all is_name (more.names.first ∷ more.names.names)) is more.names.written;
  split = ap (λ ws. w ∷ ws) (more.split ∙ ap (λ ws. codes "," ∷ ws) more.names.split);
  behind = more.names.behind;
}
more_names a w tail is (inr behind) = record { first = w; names = []; rest = tail; written = joined (is_name w) true is refl; split = refl; behind = behind }

no_members : (tail : List Word) → AreRules tail → FitsMembers tail
no_members tail rules = record { members = None; rest = tail; written = refl; split = refl; rules = rules }

some_members : (tail : List Word) → FitsOpen false tail → FitsMembers tail
some_members tail opening = record {
  members = Some opening.braces.lines;
  rest = opening.braces.rest;
  written = opening.braces.written;
  split = opening.split ∙ ap (λ ws. codes "{" ∷ ws) (opening.braces.split ∙ sym (append_assoc (flat_map member_rule_words opening.braces.lines) (codes "}" ∷ []) opening.braces.rest));
  rules = opening.braces.rules;
}

no_above : (tail : List Word) → FitsMembers tail → FitsAbove tail
no_above tail members = record { above = None; rest = tail; written = refl; split = refl; members = members }

some_above : (extends : Bool) (tail : List Word) → FitsAncestor tail ⊎ FitsMarked tail → FitsAbove ((if extends then codes "extends" else codes "implements") ∷ tail)
some_above extends tail (inl fits) = record {
  above = Some (record { extends = extends; mark = None; name = fits.name });
  rest = fits.rest;
  written = joined (is_name fits.name) true fits.named refl;
  split = ap (λ ws. (if extends then codes "extends" else codes "implements") ∷ ws) fits.split;
  members = fits.members;
}
some_above extends tail (inr fits) = record {
  above = Some (record { extends = extends; mark = Some fits.mark; name = fits.ancestor.name });
  rest = fits.ancestor.rest;
  written = joined (is_name fits.ancestor.name) (is_name fits.mark) fits.ancestor.named fits.named;
  split = ap (λ ws. (if extends then codes "extends" else codes "implements") ∷ ws) (fits.split ∙ ap (λ ws. marked fits.mark ∷ ws) fits.ancestor.split);
  members = fits.ancestor.members;
}

above_step : (w : Word) (q : Place) (tail : List Word) → from_names false w ≡ Some q → Fits q tail → FitsAbove (w ∷ tail)
above_step w q tail e fits = elim (led_either (from_option w) _ q e) [
  | inl option ↦ no_above (w ∷ tail) (no_members (w ∷ tail) (option_step w q tail option fits))
  | inr more ↦ elim (led (word_eq w (codes "extends")) BehindAbove q _ more) [
    | inl extends ↦ subst (λ v. FitsAbove (v ∷ tail)) (word_is w (codes "extends") extends.0) (some_above true tail (subst (λ p. Fits p tail) (sym extends.1) fits))
    | inr other ↦ let last = led_last (word_eq w (codes "implements")) BehindAbove q other.1 in
        subst (λ v. FitsAbove (v ∷ tail)) (word_is w (codes "implements") last.0) (some_above false tail (subst (λ p. Fits p tail) (sym last.1) fits))
  ]
]

comma_step : (a : Bool) (w : Word) (q : Place) (tail : List Word) → (word_eq w (codes ",") ≡ true) × (BeforeName a ≡ q) → Fits q tail → FitsMore a (w ∷ tail)
comma_step a w q tail is fits = record { rest = tail; split = ap (λ v. v ∷ tail) (sym (word_is w (codes ",") is.0)); names = subst (λ p. Fits p tail) (sym is.1) fits }

names_step : (a : Bool) (w : Word) (q : Place) (tail : List Word) → next_place (BehindName a) w ≡ Some q → Fits q tail → FitsMore a (w ∷ tail) ⊎ FitsBehind a (w ∷ tail)
names_step true w q tail e fits = elim (led (word_eq w (codes ",")) (BeforeName true) q _ e) [
  | inl comma ↦ inl (comma_step true w q tail comma fits)
  | inr other ↦ inr (open_step true w q tail (led_last (word_eq w (codes "{")) (InBraces true) q other.1) fits)
]
names_step false w q tail e fits = elim (led_either (from_names false w) _ q e) [
  | inl names ↦ inr (above_step w q tail names fits)
  | inr more ↦ elim (led (word_eq w (codes ",")) (BeforeName false) q _ more) [
    | inl comma ↦ inl (comma_step false w q tail comma fits)
    | inr other ↦ inr (no_above (w ∷ tail) (some_members (w ∷ tail) (open_step false w q tail (led_last (word_eq w (codes "{")) (InBraces false) q other.1) fits)))
  ]
]

ancestor_step : (w : Word) (q : Place) (tail : List Word) → (is_name w ≡ true) × (BehindAncestor ≡ q) → Fits q tail → FitsAncestor (w ∷ tail)
ancestor_step w q tail is fits = record { name = w; rest = tail; named = is.0; split = refl; members = subst (λ p. Fits p tail) (sym is.1) fits }

above_behind : (w : Word) (q : Place) (tail : List Word) → next_place BehindAbove w ≡ Some q → Fits q tail → FitsAncestor (w ∷ tail) ⊎ FitsMarked (w ∷ tail)
above_behind w q tail e fits = elim (led (is_name w) BehindAncestor q _ e) [
  | inl named ↦ inl (ancestor_step w q tail named fits)
  | inr other ↦ let last = led_last (is_mark w) BehindMark q other.1 in
      let found : (name : Word) × (64 ∷ name ≡ w) × (is_name name ≡ true) = marked_by w last.0 in
      inr (record { mark = found.0; rest = tail; named = found.2; split = ap (λ v. v ∷ tail) (sym found.1); ancestor = subst (λ p. Fits p tail) (sym last.1) fits })
]

members_step : (w : Word) (q : Place) (tail : List Word) → next_place BehindAncestor w ≡ Some q → Fits q tail → FitsMembers (w ∷ tail)
members_step w q tail e fits = elim (led_either (from_option w) _ q e) [
  | inl option ↦ no_members (w ∷ tail) (option_step w q tail option fits)
  | inr more ↦ some_members (w ∷ tail) (open_step false w q tail (led_last (word_eq w (codes "{")) (InBraces false) q more) fits)
]

-- ---- heads of classes

head_before : (c : Condition) (tail : List Word) → is_class_condition c ≡ true → FitsHead tail → FitsHead (condition_words c ++ tail)
head_before c tail is head = record {
  conditions = c ∷ head.conditions;
  negated = head.negated;
  kind = head.kind;
  rest = head.rest;
  written = joined (is_class_condition c) (list_all is_class_condition head.conditions) is head.written;
  split = ap (λ ws. condition_words c ++ ws) head.split ∙ sym (append_assoc (condition_words c) (flat_map condition_words head.conditions) (bang head.negated ++ (kind_word head.kind ∷ head.rest)));
  names = head.names;
}

any_class_access : (w : Word) → is_class_access w ≡ true → (name : Access) × (access_word name ≡ w)
any_class_access w e = any_name access_word w (access.Public ∷ access.Final ∷ access.Abstract ∷ []) e

any_kind : (w : Word) → is_kind w ≡ true → (kind : ClassKind) × (kind_word kind ≡ w)
any_kind w e = any_name kind_word w (class.Class ∷ class.Interface ∷ class.Enum ∷ class.Annotation ∷ []) e

any_modifier : (w : Word) → is_modifier w ≡ true → (m : Modifier) × (modifier_word m ≡ w)
any_modifier w e = any_name modifier_word w (modifier.AllowShrinking ∷ modifier.AllowOptimization ∷ modifier.AllowObfuscation ∷ modifier.IncludeDescriptorClasses ∷ []) e

class_marked : (w : Word) → is_class_mark w ≡ true → (name : Word) × (64 ∷ name ≡ w) × (is_class_condition (Mark name) ≡ true)
class_marked [] e = absurd (clash e)
class_marked (c ∷ cs) e = (
  cs,
  ap (λ x. x ∷ cs) (sym (eqb-true c 64 (first_true (nat_eq c 64) (is_class_condition (Mark cs)) e))),
  second_true (nat_eq c 64) (is_class_condition (Mark cs)) e,
)

kind_before : (negated : Bool) (kind : ClassKind) (tail : List Word) → FitsNames false tail → FitsHead (bang negated ++ (kind_word kind ∷ tail))
kind_before negated kind tail names = record { conditions = []; negated = negated; kind = kind; rest = tail; written = refl; split = refl; names = names }

bang_before : (tail : List Word) → FitsNotAccess tail ⊎ FitsNotKind tail → FitsHead (codes "!" ∷ tail)
bang_before tail (inl fits) = subst (λ ws. FitsHead (codes "!" ∷ ws)) (sym fits.split) (head_before (Has true fits.access) fits.rest fits.written fits.head)
bang_before tail (inr fits) = subst (λ ws. FitsHead (codes "!" ∷ ws)) (sym fits.split) (kind_before true fits.kind fits.rest fits.names)

head_step : (w : Word) (q : Place) (tail : List Word) → from_head w ≡ Some q → Fits q tail → FitsHead (w ∷ tail)
head_step w q tail e fits = elim (led (is_class_access w) InHead q _ e) [
  | inl access ↦ let found = any_class_access w access.0 in
      subst (λ v. FitsHead (v ∷ tail)) found.1 (head_before (Has false found.0) tail (ap is_class_access found.1 ∙ access.0) (subst (λ p. Fits p tail) (sym access.1) fits))
  | inr r1 ↦ elim (led (is_class_mark w) InHead q _ r1.1) [
    | inl mark ↦ let found = class_marked w mark.0 in
        subst (λ v. FitsHead (v ∷ tail)) found.1 (head_before (Mark found.0) tail found.2 (subst (λ p. Fits p tail) (sym mark.1) fits))
    | inr r2 ↦ elim (led (word_eq w (codes "!")) BehindBang q _ r2.1) [
      | inl bang ↦ subst (λ v. FitsHead (v ∷ tail)) (word_is w (codes "!") bang.0) (bang_before tail (subst (λ p. Fits p tail) (sym bang.1) fits))
      | inr r3 ↦ let last = led_last (is_kind w) (BeforeName false) q r3.1 in
          let found = any_kind w last.0 in
          subst (λ v. FitsHead (v ∷ tail)) found.1 (kind_before false found.0 tail (subst (λ p. Fits p tail) (sym last.1) fits))
    ]
  ]
]

bang_step : (w : Word) (q : Place) (tail : List Word) → next_place BehindBang w ≡ Some q → Fits q tail → FitsNotAccess (w ∷ tail) ⊎ FitsNotKind (w ∷ tail)
bang_step w q tail e fits = elim (led (is_class_access w) InHead q _ e) [
  | inl access ↦ let found = any_class_access w access.0 in
      inl (record { access = found.0; rest = tail; written = ap is_class_access found.1 ∙ access.0; split = ap (λ v. v ∷ tail) (sym found.1); head = subst (λ p. Fits p tail) (sym access.1) fits })
  | inr other ↦ let last = led_last (is_kind w) (BeforeName false) q other.1 in
      let found = any_kind w last.0 in
      inr (record { kind = found.0; rest = tail; split = ap (λ v. v ∷ tail) (sym found.1); names = subst (λ p. Fits p tail) (sym last.1) fits })
]

modifier_before : (tail : List Word) → FitsModifier tail → FitsKeep (codes "," ∷ tail)
modifier_before tail fits = record { modifiers = fits.modifier ∷ fits.keep.modifiers; rest = fits.keep.rest; split = ap (λ ws. codes "," ∷ ws) (fits.split ∙ ap (λ ws. modifier_word fits.modifier ∷ ws) fits.keep.split); head = fits.keep.head }

keep_step : (w : Word) (q : Place) (tail : List Word) → next_place BehindKeep w ≡ Some q → Fits q tail → FitsKeep (w ∷ tail)
keep_step w q tail e fits = elim (led_either (from_head w) _ q e) [
  | inl head ↦ record { modifiers = []; rest = w ∷ tail; split = refl; head = head_step w q tail head fits }
  | inr more ↦ let last = led_last (word_eq w (codes ",")) BehindComma q more in
      subst (λ v. FitsKeep (v ∷ tail)) (word_is w (codes ",") last.0) (modifier_before tail (subst (λ p. Fits p tail) (sym last.1) fits))
]

modifier_step : (w : Word) (q : Place) (tail : List Word) → next_place BehindComma w ≡ Some q → Fits q tail → FitsModifier (w ∷ tail)
modifier_step w q tail e fits =
    let last = led_last (is_modifier w) BehindKeep q e in
    let found = any_modifier w last.0 in
    record { modifier = found.0; rest = tail; split = ap (λ v. v ∷ tail) (sym found.1); keep = subst (λ p. Fits p tail) (sym last.1) fits }

class_step : (w : Word) (q : Place) (tail : List Word) → next_place BeforeClass w ≡ Some q → Fits q tail → FitsClass (w ∷ tail)
class_step w q tail e fits =
    let last = led_last (word_eq w (codes "class")) (BeforeName true) q e in
    record { rest = tail; split = ap (λ v. v ∷ tail) (sym (word_is w (codes "class") last.0)); names = subst (λ p. Fits p tail) (sym last.1) fits }

-- ---- all places

step : (p q : Place) (w : Word) (tail : List Word) → next_place p w ≡ Some q → Fits q tail → Fits p (w ∷ tail)
step Between q w tail e fits = option_step w q tail e fits
step InWords q w tail e fits = words_by w q tail (begins_option w) refl e fits
step BehindKeep q w tail e fits = keep_step w q tail e fits
step BehindComma q w tail e fits = modifier_step w q tail e fits
step InHead q w tail e fits = head_step w q tail e fits
step BehindBang q w tail e fits = bang_step w q tail e fits
step (BeforeName a) q w tail e fits =
    let last = led_last (is_name w) (BehindName a) q e in
    more_names a w tail last.0 (subst (λ p. Fits p tail) (sym last.1) fits)
step (BehindName a) q w tail e fits = names_step a w q tail e fits
step BeforeClass q w tail e fits = class_step w q tail e fits
step BehindAbove q w tail e fits = above_behind w q tail e fits
step BehindMark q w tail e fits = ancestor_step w q tail (led_last (is_name w) BehindAncestor q e) fits
step BehindAncestor q w tail e fits = members_step w q tail e fits
step (BeforeBrace a) q w tail e fits = open_step a w q tail (led_last (word_eq w (codes "{")) (InBraces a) q e) fits
step (InBraces a) q w tail e fits = braces_step a w q tail e fits
step (InLine a) q w tail e fits = line_before a w q tail e fits
step (BehindNot a) q w tail e fits = not_step a w q tail e fits
step (BehindStar a) q w tail e fits = star_step a w q tail e fits
step (BehindType a) q w tail e fits = name_step a w q tail (led_last (is_name w) (BehindMember a) q e) fits
step (BehindMember a) q w tail e fits = member_step a w q tail e fits
step (BeforeArguments a) q w tail e fits = opens_step a w q tail (led_last (word_eq w (codes "(")) (InArguments a) q e) fits
step (InArguments a) q w tail e fits = inside_step a w q tail e fits
step (BehindDots a) q w tail e fits =
    let last = led_last (word_eq w (codes ")")) (AtEnd a) q e in
    record { rest = tail; split = ap (λ v. v ∷ tail) (sym (word_is w (codes ")") last.0)); end = subst (λ p. Fits p tail) (sym last.1) fits }
step (BeforeArgument a) q w tail e fits = argument_step a w q tail e fits
step (BehindArgument a) q w tail e fits = behind_step a w q tail e fits
step (AtEnd a) q w tail e fits = end_step a w q tail (led_last (word_eq w (codes ";")) (InBraces a) q e) fits

steps_by : (p q : Place) (w : Word) (ws tail : List Word) (o : Option Place) → next_place p w ≡ o → follow o ws ≡ Some q → ((r : Place) → follow (Some r) ws ≡ Some q → Fits r (ws ++ tail)) → Fits p (w ∷ (ws ++ tail))
steps_by p q w ws tail (Some r) is e more = step p r w (ws ++ tail) is (more r e)
steps_by p q w ws tail None is e more =
    let no : None ≡ Some q = sym (follow_none ws) ∙ e in
    cc

steps : (p q : Place) (ws tail : List Word) → follow (Some p) ws ≡ Some q → Fits q tail → Fits p (ws ++ tail)
steps p q [] tail e fits = subst (λ r. Fits r tail) (sym (ap (place_or p) e)) fits
steps p q (w ∷ ws) tail e fits = steps_by p q w ws tail (next_place p w) refl e (λ r more. steps r q ws tail more fits)

-- ---- something may follow each place

none_left : AreRules []
none_left = record { entries = []; words = record { written = refl; words = refl } }

braces_left : (a : Bool) → FitsBraces a (codes "}" ∷ [])
braces_left a = closed_before a [] none_left

end_left : (a : Bool) → FitsEnd a (codes ";" ∷ codes "}" ∷ [])
end_left a = record { rest = codes "}" ∷ []; split = refl; braces = braces_left a }

dots_left : (a : Bool) → FitsDots a (codes ")" ∷ codes ";" ∷ codes "}" ∷ [])
dots_left a = record { rest = codes ";" ∷ codes "}" ∷ []; split = refl; end = end_left a }

arguments_left : (a : Bool) → FitsArguments a (codes "(" ∷ codes ")" ∷ codes ";" ∷ codes "}" ∷ [])
arguments_left a = arguments_before a (codes ")" ∷ codes ";" ∷ codes "}" ∷ []) (inl (dots_left a))

name_left : (a : Bool) → FitsName a (codes "x" ∷ codes "(" ∷ codes ")" ∷ codes ";" ∷ codes "}" ∷ [])
name_left a = record { name = codes "x"; rest = codes "(" ∷ codes ")" ∷ codes ";" ∷ codes "}" ∷ []; named = refl; split = refl; member = inl (arguments_left a) }

line_left : (a : Bool) → FitsLine a (codes "*" ∷ codes ";" ∷ codes "}" ∷ [])
line_left a = star_before a (codes ";" ∷ codes "}" ∷ []) (inr (end_left a))

open_left : (a : Bool) → FitsOpen a (codes "{" ∷ codes "}" ∷ [])
open_left a = record { rest = codes "}" ∷ []; split = refl; braces = braces_left a }

behind_left : (a : Bool) → FitsBehind a (codes "{" ∷ codes "}" ∷ [])
behind_left true = open_left true
behind_left false = no_above (codes "{" ∷ codes "}" ∷ []) (some_members (codes "{" ∷ codes "}" ∷ []) (open_left false))

names_left : (a : Bool) → FitsNames a (codes "x" ∷ codes "{" ∷ codes "}" ∷ [])
names_left a = more_names a (codes "x") (codes "{" ∷ codes "}" ∷ []) refl (inr (behind_left a))

head_left : FitsHead (codes "class" ∷ codes "x" ∷ codes "{" ∷ codes "}" ∷ [])
head_left = kind_before false class.Class (codes "x" ∷ codes "{" ∷ codes "}" ∷ []) (names_left false)

keep_left : FitsKeep (codes "class" ∷ codes "x" ∷ codes "{" ∷ codes "}" ∷ [])
keep_left = record { modifiers = []; rest = codes "class" ∷ codes "x" ∷ codes "{" ∷ codes "}" ∷ []; split = refl; head = head_left }

ancestor_left : FitsAncestor (codes "x" ∷ [])
ancestor_left = record { name = codes "x"; rest = []; named = refl; split = refl; members = no_members [] none_left }

type_left : (a : Bool) → FitsTypes a (codes "x" ∷ codes ")" ∷ codes ";" ∷ codes "}" ∷ [])
type_left a = type_before a (codes "x") (codes ")" ∷ codes ";" ∷ codes "}" ∷ []) refl (inl (dots_left a))

left : (p : Place) → (tail : List Word) × Fits p tail
left Between = ([], none_left)
left InWords = ([], words_none [] none_left)
left BehindKeep = (_, keep_left)
left BehindComma = (_, record { modifier = modifier.AllowShrinking; rest = codes "class" ∷ codes "x" ∷ codes "{" ∷ codes "}" ∷ []; split = refl; keep = keep_left })
left InHead = (_, head_left)
left BehindBang = (_, inr (record { kind = class.Class; rest = codes "x" ∷ codes "{" ∷ codes "}" ∷ []; split = refl; names = names_left false }))
left (BeforeName a) = (_, names_left a)
left (BehindName a) = (_, inr (behind_left a))
left BeforeClass = (_, record { rest = codes "x" ∷ codes "{" ∷ codes "}" ∷ []; split = refl; names = names_left true })
left BehindAbove = (_, inl ancestor_left)
left BehindMark = (_, ancestor_left)
left BehindAncestor = ([], no_members [] none_left)
left (BeforeBrace a) = (_, open_left a)
left (InBraces a) = (_, braces_left a)
left (InLine a) = (_, line_left a)
left (BehindNot a) = (_, record { access = access.Public; rest = codes "*" ∷ codes ";" ∷ codes "}" ∷ []; split = refl; line = line_left a })
left (BehindStar a) = (_, inr (end_left a))
left (BehindType a) = (_, name_left a)
left (BehindMember a) = (_, inl (arguments_left a))
left (BeforeArguments a) = (_, arguments_left a)
left (InArguments a) = (_, inl (dots_left a))
left (BehindDots a) = (_, dots_left a)
left (BeforeArgument a) = (_, type_left a)
left (BehindArgument a) = (_, inl (dots_left a))
left (AtEnd a) = (_, end_left a)

-- some rules begin with words that lead to a place
pub begins_there : (ws : List Word) (p : Place) → follow (Some Between) ws ≡ Some p → IsBeginning ws
begins_there ws p e =
    let more : (tail : List Word) × Fits p tail = left p in
    let rules : AreRules (ws ++ more.0) = steps Between p ws more.0 e more.1 in
    record { entries = rules.entries; rest = more.0; words = rules.words }
