-- Only the first word of a rule or an option begins an option, so the words tell how many rules there are.
use Rattle.std.proofs.Common.{◌≡◌, ◌<◌, ◌+◌, ℕ, zero, suc, Bool, true, false, not, ◌&&◌, ◌||◌, if◌then◌else◌, nat_eq, length, take, slice_get, List, [], ◌∷◌, ◌++◌, Option, Some, None, refl, sym, ap, subst, ◌∙◌, codes, eqb-true, arith}
use Rattle.std.specs.List.{list_all, flat_map}
use Rattle.rule_text.specs.Tokens.{Word}
use Rattle.rule_text.specs.Rules.{Condition, Mark, Has, Arguments, Any, These, What, All, Fields, Methods, Init, Field, Method, MemberRule, Above, ClassRule, Entry, Setting, Keep, Assume}
use Rattle.rule_text.specs.Spelling.{is_name, is_argument, is_other, member_words, is_first_type, access_word, kind_word, keep_word, modifier_word, modifier_words, setting_word, is_long, begins_option, begins_rule, bang, condition_words, separated, are_arguments, argument_words, is_what, what_words, is_assumed_what, is_member_condition, is_plain_condition, is_member_rule, is_assumed_rule, member_rule_words, braces, are_names, is_above, above_words, are_members, braces_words, is_class_condition, is_class_rule, class_rule_words, is_rule, count_rules, is_entry, entry_words, spelled}
use Rattle.rule_text.specs.Halts.{is_known}
use Rattle.rule_text.specs.declared.rules.Access.{Access}
use Rattle.rule_text.specs.declared.rules.Access.TheVariants as access
use Rattle.rule_text.specs.declared.rules.ClassKind.{ClassKind}
use Rattle.rule_text.specs.declared.rules.ClassKind.TheVariants as class
use Rattle.rule_text.specs.declared.rules.KeepKind.{KeepKind}
use Rattle.rule_text.specs.declared.rules.KeepKind.TheVariants as keep
use Rattle.rule_text.specs.declared.rules.Modifier.{Modifier}
use Rattle.rule_text.specs.declared.rules.Modifier.TheVariants as modifier
use Rattle.rule_text.specs.declared.rules.SettingName.{SettingName}
use Rattle.rule_text.specs.declared.rules.SettingName.TheVariants as setting
use Rattle.rule_text.proofs.EntryLemmas.{keep_begins, setting_begins}

-- ---- tests

pub clash : false ≡ true → ⊥
clash e = cc

first_true : (a b : Bool) → (a && b) ≡ true → a ≡ true
first_true true b e = refl
first_true false b e = e

second_true : (a b : Bool) → (a && b) ≡ true → b ≡ true
second_true true b e = e
second_true false b e = absurd (clash e)

not_true : (a : Bool) → not a ≡ true → a ≡ false
not_true true e = absurd (clash e)
not_true false e = refl

-- ---- words that begin no option

abbrev pub plain : Word → Bool
plain w = not (begins_option w)

abbrev pub ArePlain : List Word → Type 0
ArePlain ws = list_all plain ws ≡ true

joined : (a b : Bool) → a ≡ true → b ≡ true → (a && b) ≡ true
joined true true ea eb = refl
joined true false ea eb = eb
joined false b ea eb = ea

pub more_plain : (w : Word) (ws : List Word) → plain w ≡ true → ArePlain ws → ArePlain (w ∷ ws)
more_plain w ws one all = joined (plain w) (list_all plain ws) one all

pub both_plain : (a b : List Word) → ArePlain a → ArePlain b → ArePlain (a ++ b)
both_plain [] b ea eb = eb
both_plain (w ∷ ws) b ea eb = more_plain w (ws ++ b) (first_true (plain w) (list_all plain ws) ea) (both_plain ws b (second_true (plain w) (list_all plain ws) ea) eb)

pub each_plain : {S : Type 0} (words : S → List Word) (is : S → Bool) → ((s : S) → is s ≡ true → ArePlain (words s)) → (ss : List S) → list_all is ss ≡ true → ArePlain (flat_map words ss)
each_plain words is one [] e = refl
each_plain words is one (s ∷ ss) e = both_plain (words s) (flat_map words ss) (one s (first_true (is s) (list_all is ss) e)) (each_plain words is one ss (second_true (is s) (list_all is ss) e))

name_by : (c : ℕ) (cs : Word) (dash : Bool) → nat_eq c 45 ≡ dash → is_name (c ∷ cs) ≡ true → not dash ≡ true
name_by c cs true e named =
    let no : false ≡ true = ap (λ x. is_name (x ∷ cs)) (sym (eqb-true c 45 e)) ∙ named in
    absurd (clash no)
name_by c cs false e named = refl

pub name_plain : (w : Word) → is_name w ≡ true → plain w ≡ true
name_plain [] named = refl
name_plain (c ∷ cs) named = name_by c cs (nat_eq c 45) refl named

pub argument_plain : (w : Word) → is_argument w ≡ true → plain w ≡ true
argument_plain w e = name_plain w (first_true (is_name w) (is_other w (codes "..." ∷ [])) e)

pub separated_plain : (is : Word → Bool) → ((w : Word) → is w ≡ true → plain w ≡ true) → (ws : List Word) → list_all is ws ≡ true → ArePlain (separated ws)
separated_plain is one [] e = refl
separated_plain is one (w ∷ []) e = more_plain w [] (one w (first_true (is w) true e)) refl
separated_plain is one (w ∷ v ∷ vs) e = more_plain w (codes "," ∷ separated (v ∷ vs)) (one w (first_true (is w) (list_all is (v ∷ vs)) e)) (separated_plain is one (v ∷ vs) (second_true (is w) (list_all is (v ∷ vs)) e))

access_plain : (negated : Bool) (a : Access) → ArePlain (bang negated ++ access_word a ∷ [])
access_plain true access.Public = refl
access_plain true access.Private = refl
access_plain true access.Protected = refl
access_plain true access.Static = refl
access_plain true access.Final = refl
access_plain true access.Synchronized = refl
access_plain true access.Native = refl
access_plain true access.Abstract = refl
access_plain true access.Strict = refl
access_plain true access.Volatile = refl
access_plain true access.Transient = refl
access_plain true access.Varargs = refl
access_plain true access.Bridge = refl
access_plain true access.Synthetic = refl
access_plain false access.Public = refl
access_plain false access.Private = refl
access_plain false access.Protected = refl
access_plain false access.Static = refl
access_plain false access.Final = refl
access_plain false access.Synchronized = refl
access_plain false access.Native = refl
access_plain false access.Abstract = refl
access_plain false access.Strict = refl
access_plain false access.Volatile = refl
access_plain false access.Transient = refl
access_plain false access.Varargs = refl
access_plain false access.Bridge = refl
access_plain false access.Synthetic = refl

condition_plain : (c : Condition) → ArePlain (condition_words c)
condition_plain (Mark name) = refl
condition_plain (Has negated a) = access_plain negated a

pub conditions_plain : (is : Condition → Bool) (cs : List Condition) → list_all is cs ≡ true → ArePlain (flat_map condition_words cs)
conditions_plain is cs e = each_plain condition_words is (λ c _. condition_plain c) cs e

-- ---- lines of members

pub arguments_plain : (a : Arguments) → are_arguments a ≡ true → ArePlain (argument_words a)
arguments_plain Any e = refl
arguments_plain (These ws) e = both_plain (separated ws) (codes ")" ∷ []) (separated_plain is_argument argument_plain ws e) refl

what_plain : (w : What) → is_what w ≡ true → ArePlain (what_words w)
what_plain All e = refl
what_plain Fields e = refl
what_plain Methods e = refl
what_plain (Init a) e = arguments_plain a e
what_plain (Field kind name) e = more_plain kind (name ∷ []) (name_plain kind (first_true (is_name kind) (is_other kind member_words) (first_true (is_first_type kind) (is_name name) e)))
    (more_plain name [] (name_plain name (second_true (is_first_type kind) (is_name name) e)) refl)
what_plain (Method result name a) e =
    let two : (is_first_type result && is_name name) ≡ true = first_true (is_first_type result && is_name name) (are_arguments a) e in
    more_plain result (name ∷ argument_words a) (name_plain result (first_true (is_name result) (is_other result member_words) (first_true (is_first_type result) (is_name name) two)))
    (more_plain name (argument_words a) (name_plain name (second_true (is_first_type result) (is_name name) two)) (arguments_plain a (second_true (is_first_type result && is_name name) (are_arguments a) e)))

assumed_plain : (w : What) → is_assumed_what w ≡ true → ArePlain (what_words w)
assumed_plain All e = refl
assumed_plain Fields e = absurd (clash e)
assumed_plain Methods e = refl
assumed_plain (Init a) e = absurd (clash e)
assumed_plain (Field kind name) e = absurd (clash e)
assumed_plain (Method result name a) e = what_plain (Method result name a) e

pub line_plain : (m : MemberRule) → is_member_rule m ≡ true → ArePlain (member_rule_words m)
line_plain m e = both_plain (flat_map condition_words m.conditions) (what_words m.what ++ codes ";" ∷ []) (conditions_plain is_member_condition m.conditions (first_true (list_all is_member_condition m.conditions) (is_what m.what) e))
    (both_plain (what_words m.what) (codes ";" ∷ []) (what_plain m.what (second_true (list_all is_member_condition m.conditions) (is_what m.what) e)) refl)

pub assumed_line_plain : (m : MemberRule) → is_assumed_rule m ≡ true → ArePlain (member_rule_words m)
assumed_line_plain m e = both_plain (flat_map condition_words m.conditions) (what_words m.what ++ codes ";" ∷ []) (conditions_plain is_plain_condition m.conditions (first_true (list_all is_plain_condition m.conditions) (is_assumed_what m.what) e))
    (both_plain (what_words m.what) (codes ";" ∷ []) (assumed_plain m.what (second_true (list_all is_plain_condition m.conditions) (is_assumed_what m.what) e)) refl)

pub braces_plain : (is : MemberRule → Bool) → ((m : MemberRule) → is m ≡ true → ArePlain (member_rule_words m)) → (ms : List MemberRule) → list_all is ms ≡ true → ArePlain (braces ms)
braces_plain is one ms e = both_plain (flat_map member_rule_words ms) (codes "}" ∷ []) (each_plain member_rule_words is one ms e) refl

-- ---- classes

pub kind_plain : (negated : Bool) (kind : ClassKind) (ws : List Word) → ArePlain ws → ArePlain (bang negated ++ (kind_word kind ∷ ws))
kind_plain true class.Class ws e = e
kind_plain true class.Interface ws e = e
kind_plain true class.Enum ws e = e
kind_plain true class.Annotation ws e = e
kind_plain false class.Class ws e = e
kind_plain false class.Interface ws e = e
kind_plain false class.Enum ws e = e
kind_plain false class.Annotation ws e = e

pub names_plain : (ws : List Word) → are_names ws ≡ true → ArePlain (separated ws)
names_plain [] e = refl
names_plain (w ∷ ws) e = separated_plain is_name name_plain (w ∷ ws) e

above_by : (extends : Bool) (mark : Option Word) (name : Word) → is_above (Some (record { extends = extends; mark = mark; name = name })) ≡ true → ArePlain (above_words (Some (record { extends = extends; mark = mark; name = name })))
above_by true (Some m) name e = more_plain name [] (name_plain name (first_true (is_name name) (is_name m) e)) refl
above_by true None name e = more_plain name [] (name_plain name (first_true (is_name name) true e)) refl
above_by false (Some m) name e = more_plain name [] (name_plain name (first_true (is_name name) (is_name m) e)) refl
above_by false None name e = more_plain name [] (name_plain name (first_true (is_name name) true e)) refl

pub above_plain : (above : Option Above) → is_above above ≡ true → ArePlain (above_words above)
above_plain (Some a) e = above_by a.extends a.mark a.name e
above_plain None e = refl

pub members_plain : (members : Option (List MemberRule)) → are_members members ≡ true → ArePlain (braces_words members)
members_plain (Some ms) e = braces_plain is_member_rule line_plain ms e
members_plain None e = refl

pub class_plain : (c : ClassRule) → is_class_rule c ≡ true → ArePlain (class_rule_words c)
class_plain c e =
    let r1 : (list_all is_class_condition c.conditions && are_names c.names && is_above c.above) ≡ true = first_true (list_all is_class_condition c.conditions && are_names c.names && is_above c.above) (are_members c.members) e in
    let r2 : (list_all is_class_condition c.conditions && are_names c.names) ≡ true = first_true (list_all is_class_condition c.conditions && are_names c.names) (is_above c.above) r1 in
    both_plain (flat_map condition_words c.conditions) (bang c.negated ++ (kind_word c.kind ∷ (separated c.names ++ (above_words c.above ++ braces_words c.members))))
    (conditions_plain is_class_condition c.conditions (first_true (list_all is_class_condition c.conditions) (are_names c.names) r2))
    (kind_plain c.negated c.kind (separated c.names ++ (above_words c.above ++ braces_words c.members))
    (both_plain (separated c.names) (above_words c.above ++ braces_words c.members) (names_plain c.names (second_true (list_all is_class_condition c.conditions) (are_names c.names) r2))
    (both_plain (above_words c.above) (braces_words c.members) (above_plain c.above (second_true (list_all is_class_condition c.conditions && are_names c.names) (is_above c.above) r1))
    (members_plain c.members (second_true (list_all is_class_condition c.conditions && are_names c.names && is_above c.above) (are_members c.members) e)))))

modifier_plain : (m : Modifier) → ArePlain (codes "," ∷ modifier_word m ∷ [])
modifier_plain modifier.AllowShrinking = refl
modifier_plain modifier.AllowOptimization = refl
modifier_plain modifier.AllowObfuscation = refl
modifier_plain modifier.IncludeDescriptorClasses = refl

pub modifiers_plain : (ms : List Modifier) → ArePlain (modifier_words ms)
modifiers_plain [] = refl
modifiers_plain (m ∷ ms) = both_plain (codes "," ∷ modifier_word m ∷ []) (modifier_words ms) (modifier_plain m) (modifiers_plain ms)

-- ---- rules and options

abbrev pub entry_word : Entry → Word
entry_word (Setting name ws) = setting_word name
entry_word (Keep rule) = keep_word rule.kind
entry_word (Assume rule) = codes "-assumenosideeffects"

abbrev pub words_behind : Entry → List Word
words_behind (Setting name ws) = ws
words_behind (Keep rule) = modifier_words rule.modifiers ++ class_rule_words rule.class
words_behind (Assume rule) = codes "class" ∷ (separated rule.names ++ braces rule.members)

entry_split : (e : Entry) → entry_words e ≡ entry_word e ∷ words_behind e
entry_split (Setting name ws) = refl
entry_split (Keep rule) = refl
entry_split (Assume rule) = refl

behind_plain : (e : Entry) → is_entry e ≡ true → ArePlain (words_behind e)
behind_plain (Setting name ws) e = first_true (list_all (λ w. not (begins_option w)) ws) (is_long name || nat_eq (length ws) 0) e
behind_plain (Keep rule) e = both_plain (modifier_words rule.modifiers) (class_rule_words rule.class) (modifiers_plain rule.modifiers) (class_plain rule.class e)
behind_plain (Assume rule) e = both_plain (separated rule.names) (braces rule.members) (names_plain rule.names (first_true (are_names rule.names) (list_all is_assumed_rule rule.members) e))
    (braces_plain is_assumed_rule assumed_line_plain rule.members (second_true (are_names rule.names) (list_all is_assumed_rule rule.members) e))

-- ---- each word that begins an option is known

abbrev pub fits : Word → Bool
fits w = plain w || is_known w

setting_fits : (name : SettingName) → fits (setting_word name) ≡ true
setting_fits setting.DontOptimize = refl
setting_fits setting.DontShrink = refl
setting_fits setting.Verbose = refl
setting_fits setting.DontObfuscate = refl
setting_fits setting.DontPreverify = refl
setting_fits setting.DontUseMixedCaseClassNames = refl
setting_fits setting.DontSkipNonPublicLibraryClasses = refl
setting_fits setting.AllowAccessModification = refl
setting_fits setting.IgnoreWarnings = refl
setting_fits setting.KeepAttributes = refl
setting_fits setting.DontWarn = refl
setting_fits setting.DontNote = refl
setting_fits setting.Optimizations = refl
setting_fits setting.OptimizationPasses = refl
setting_fits setting.RenameSourceFileAttribute = refl
setting_fits setting.RepackageClasses = refl

keep_fits : (kind : KeepKind) → fits (keep_word kind) ≡ true
keep_fits keep.Keep = refl
keep_fits keep.ClassMembers = refl
keep_fits keep.ClassesWithMembers = refl
keep_fits keep.Names = refl
keep_fits keep.ClassMemberNames = refl
keep_fits keep.ClassesWithMemberNames = refl

word_fits : (e : Entry) → fits (entry_word e) ≡ true
word_fits (Setting name ws) = setting_fits name
word_fits (Keep rule) = keep_fits rule.kind
word_fits (Assume rule) = refl

plain_fits : (w : Word) (b : Bool) → plain w ≡ b → b ≡ true → fits w ≡ true
plain_fits w true e is = rw e refl
plain_fits w false e is = absurd (clash is)

all_fit : (ws : List Word) → ArePlain ws → list_all fits ws ≡ true
all_fit [] e = refl
all_fit (w ∷ ws) e = joined (fits w) (list_all fits ws) (plain_fits w (plain w) refl (first_true (plain w) (list_all plain ws) e)) (all_fit ws (second_true (plain w) (list_all plain ws) e))

both_fit : (a b : List Word) → list_all fits a ≡ true → list_all fits b ≡ true → list_all fits (a ++ b) ≡ true
both_fit [] b ea eb = eb
both_fit (w ∷ ws) b ea eb = joined (fits w) (list_all fits (ws ++ b)) (first_true (fits w) (list_all fits ws) ea) (both_fit ws b (second_true (fits w) (list_all fits ws) ea) eb)

entry_fits : (e : Entry) → is_entry e ≡ true → list_all fits (entry_words e) ≡ true
entry_fits e is = subst (λ ws. list_all fits ws ≡ true) (sym (entry_split e)) (joined (fits (entry_word e)) (list_all fits (words_behind e)) (word_fits e) (all_fit (words_behind e) (behind_plain e is)))

pub spelled_fit : (es : List Entry) → list_all is_entry es ≡ true → list_all fits (spelled es) ≡ true
spelled_fit [] e = refl
spelled_fit (x ∷ xs) e = both_fit (entry_words x) (spelled xs) (entry_fits x (first_true (is_entry x) (list_all is_entry xs) e)) (spelled_fit xs (second_true (is_entry x) (list_all is_entry xs) e))

pub fit_at : (ws : List Word) (k : ℕ) (w : Word) → list_all fits ws ≡ true → slice_get ws k ≡ Some w → fits w ≡ true
fit_at [] k w e is = cc
fit_at (x ∷ xs) zero w e is =
    let same : x ≡ w = cc in
    subst (λ v. fits v ≡ true) same (first_true (fits x) (list_all fits xs) e)
fit_at (x ∷ xs) (suc k) w e is = fit_at xs k w (second_true (fits x) (list_all fits xs) e) is

-- ---- how many rules begin

abbrev pub rules_in : List Word → ℕ
rules_in [] = 0
rules_in (w ∷ ws) = (if begins_rule w then 1 else 0) + rules_in ws

pub rules_append : (a b : List Word) → rules_in (a ++ b) ≡ rules_in a + rules_in b
rules_append [] b = omega arith
rules_append (w ∷ ws) b =
    let more : rules_in (ws ++ b) ≡ rules_in ws + rules_in b = rules_append ws b in
    omega (arith, more)

no_rule : (w : Word) → plain w ≡ true → begins_rule w ≡ false
no_rule [] e = refl
no_rule (c ∷ cs) e =
    let dash : nat_eq c 45 ≡ false = not_true (nat_eq c 45) e in
    rw dash refl

pub plain_rules : (ws : List Word) → ArePlain ws → rules_in ws ≡ 0
plain_rules [] e = refl
plain_rules (w ∷ ws) e =
    let more : rules_in ws ≡ 0 = plain_rules ws (second_true (plain w) (list_all plain ws) e) in
    let here : rules_in (w ∷ ws) ≡ 0 + rules_in ws = ap (λ b. (if b then 1 else 0) + rules_in ws) (no_rule w (first_true (plain w) (list_all plain ws) e)) in
    omega (arith, more, here)

word_rule : (e : Entry) → begins_rule (entry_word e) ≡ is_rule e
word_rule (Setting name ws) = setting_begins name
word_rule (Keep rule) = keep_begins rule.kind
word_rule (Assume rule) = refl

entry_rules : (e : Entry) → is_entry e ≡ true → rules_in (entry_words e) ≡ (if is_rule e then 1 else 0)
entry_rules e is =
    let none : rules_in (words_behind e) ≡ 0 = plain_rules (words_behind e) (behind_plain e is) in
    let here : rules_in (entry_word e ∷ words_behind e) ≡ (if is_rule e then 1 else 0) + rules_in (words_behind e) = ap (λ b. (if b then 1 else 0) + rules_in (words_behind e)) (word_rule e) in
    let all : rules_in (entry_words e) ≡ rules_in (entry_word e ∷ words_behind e) = ap rules_in (entry_split e) in
    omega (arith, none, here, all)

pub spelled_rules : (es : List Entry) → list_all is_entry es ≡ true → rules_in (spelled es) ≡ count_rules es
spelled_rules [] e = refl
spelled_rules (x ∷ xs) e =
    let one : rules_in (entry_words x) ≡ (if is_rule x then 1 else 0) = entry_rules x (first_true (is_entry x) (list_all is_entry xs) e) in
    let more : rules_in (spelled xs) ≡ count_rules xs = spelled_rules xs (second_true (is_entry x) (list_all is_entry xs) e) in
    let both : rules_in (entry_words x ++ spelled xs) ≡ rules_in (entry_words x) + rules_in (spelled xs) = rules_append (entry_words x) (spelled xs) in
    both ∙ ap (λ n. n + rules_in (spelled xs)) one ∙ ap (λ n. (if is_rule x then 1 else 0) + n) more

-- a rule that begins before a place counts there
pub begins_before : (ws : List Word) (j k : ℕ) → j < k → j < length ws → ((w : Word) → slice_get ws j ≡ Some w → begins_rule w ≡ true) → rules_in (take j ws) < rules_in (take k ws)
begins_before [] j k less inside rule =
    let no : ⊥ = omega arith in
    absurd no
begins_before (x ∷ xs) zero zero less inside rule =
    let no : ⊥ = omega arith in
    absurd no
begins_before (x ∷ xs) (suc j) zero less inside rule =
    let no : ⊥ = omega arith in
    absurd no
begins_before (x ∷ xs) zero (suc k) less inside rule =
    let here : rules_in (take (suc k) (x ∷ xs)) ≡ 1 + rules_in (take k xs) = ap (λ b. (if b then 1 else 0) + rules_in (take k xs)) (rule x refl) in
    omega (arith, here)
begins_before (x ∷ xs) (suc j) (suc k) less inside rule =
    let more : rules_in (take j xs) < rules_in (take k xs) = begins_before xs j k (omega arith) (omega arith) rule in
    omega (arith, more)
