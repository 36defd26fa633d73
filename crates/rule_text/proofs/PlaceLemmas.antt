-- Words of rules and options lead from place to place.
use Rattle.std.proofs.Common.{◌≡◌, Bool, true, false, not, ◌&&◌, ◌||◌, List, [], ◌∷◌, ◌++◌, Option, Some, None, nat_eq, length, refl, sym, ap, ◌∙◌, codes, suc, eqb-true, arith}
use Rattle.std.specs.List.{list_all, flat_map}
use Rattle.rule_text.specs.Tokens.{Word}
use Rattle.rule_text.specs.Rules.{Condition, Mark, Has, Arguments, Any, These, What, All, Fields, Methods, Init, Field, Method, MemberRule, Above, ClassRule, Entry, Setting, Keep, Assume}
use Rattle.rule_text.specs.Spelling.{word_eq, is_name, is_argument, is_first_type, access_word, kind_word, keep_word, modifier_word, modifier_words, setting_word, is_long, begins_option, bang, marked, condition_words, is_class_condition, is_member_condition, is_plain_condition, separated, are_arguments, argument_words, is_what, is_assumed_what, what_words, is_member_rule, is_assumed_rule, member_rule_words, braces, are_names, is_above, above_words, are_members, braces_words, is_class_rule, class_rule_words, is_entry, entry_words, spelled}
use Rattle.rule_text.specs.declared.rules.Access.{Access}
use Rattle.rule_text.specs.declared.rules.Access.TheVariants as access
use Rattle.rule_text.specs.declared.rules.ClassKind.{ClassKind}
use Rattle.rule_text.specs.declared.rules.ClassKind.TheVariants as class
use Rattle.rule_text.specs.declared.rules.KeepKind.{KeepKind}
use Rattle.rule_text.specs.declared.rules.KeepKind.TheVariants as keep
use Rattle.rule_text.specs.declared.rules.Modifier.{Modifier}
use Rattle.rule_text.specs.declared.rules.Modifier.TheVariants as modifier
use Rattle.rule_text.specs.declared.rules.SettingName.{SettingName}
use Rattle.rule_text.specs.declared.rules.SettingName.TheVariants as setting
use Rattle.rule_text.specs.Places.{Place, Between, InWords, BehindKeep, BehindComma, InHead, BehindBang, BeforeName, BehindName, BeforeClass, BehindAbove, BehindMark, BehindAncestor, BeforeBrace, InBraces, InLine, BehindNot, BehindStar, BehindType, BehindMember, BeforeArguments, InArguments, BehindDots, BeforeArgument, BehindArgument, AtEnd, is_access, next_place, or_else, follow, is_final, from_option, from_head, from_line, from_argument, leads, is_mark}

-- ---- tests

pub first_true : (a b : Bool) → (a && b) ≡ true → a ≡ true
first_true true b e = refl
first_true false b e = e

pub second_true : (a b : Bool) → (a && b) ≡ true → b ≡ true
second_true true b e = e
second_true false b e = cc

pub clash : false ≡ true → ⊥
clash e = cc

pub not_true : (a : Bool) → not a ≡ true → a ≡ false
not_true true e = cc
not_true false e = refl

pub leads_on : (b : Bool) (p : Place) (o : Option Place) → b ≡ true → leads b p o ≡ Some p
leads_on true p o e = refl
leads_on false p o e = absurd (clash e)

-- ---- words one behind the other

pub follow_none : (ws : List Word) → follow None ws ≡ None
follow_none [] = refl
follow_none (w ∷ ws) = refl

pub follow_append : (o : Option Place) (a b : List Word) → follow o (a ++ b) ≡ follow (follow o a) b
follow_append o [] b = refl
follow_append None (w ∷ ws) b = sym (follow_none b)
follow_append (Some p) (w ∷ ws) b = follow_append (next_place p w) ws b

pub behind_all : (p q : Place) (a b : List Word) → follow (Some p) a ≡ Some q → follow (Some p) (a ++ b) ≡ follow (Some q) b
behind_all p q a b e = follow_append (Some p) a b ∙ ap (λ o. follow o b) e

pub behind_one : (p q : Place) (w : Word) (ws : List Word) → next_place p w ≡ Some q → follow (Some p) (w ∷ ws) ≡ follow (Some q) ws
behind_one p q w ws e = ap (λ o. follow o ws) e

-- things that lead back to where they begin
pub each_back : {S : Type 0} (words : S → List Word) (is : S → Bool) (p : Place) → ((s : S) → is s ≡ true → follow (Some p) (words s) ≡ Some p)
    → (ss : List S) → list_all is ss ≡ true → follow (Some p) (flat_map words ss) ≡ Some p
each_back words is p one [] e = refl
each_back words is p one (s ∷ ss) e = behind_all p p (words s) (flat_map words ss) (one s (first_true (is s) (list_all is ss) e)) ∙ each_back words is p one ss (second_true (is s) (list_all is ss) e)

wider_by : (o more : Option Place) (ws : List Word) (r : Place) → follow o ws ≡ Some r → follow (or_else o more) ws ≡ Some r
wider_by (Some p) more ws r e = e
wider_by None more ws r e =
    let no : None ≡ Some r = sym (follow_none ws) ∙ e in
    cc

-- ---- heads of classes

class_condition : (c : Condition) → is_class_condition c ≡ true → follow (Some InHead) (condition_words c) ≡ Some InHead
class_condition (Mark name) e = rw e refl
class_condition (Has true a) e = rw e refl
class_condition (Has false a) e = rw e refl

pub class_conditions : (cs : List Condition) → list_all is_class_condition cs ≡ true → follow (Some InHead) (flat_map condition_words cs) ≡ Some InHead
class_conditions = each_back condition_words is_class_condition InHead class_condition

pub kind_words : (negated : Bool) (kind : ClassKind) (ws : List Word) → follow (Some InHead) (bang negated ++ (kind_word kind ∷ ws)) ≡ follow (Some (BeforeName false)) ws
kind_words true class.Class ws = refl
kind_words true class.Interface ws = refl
kind_words true class.Enum ws = refl
kind_words true class.Annotation ws = refl
kind_words false class.Class ws = refl
kind_words false class.Interface ws = refl
kind_words false class.Enum ws = refl
kind_words false class.Annotation ws = refl

pub head_words : (cs : List Condition) (negated : Bool) (kind : ClassKind) (ws : List Word) → list_all is_class_condition cs ≡ true
    → follow (Some InHead) (flat_map condition_words cs ++ (bang negated ++ (kind_word kind ∷ ws))) ≡ follow (Some (BeforeName false)) ws
head_words cs negated kind ws e = behind_all InHead InHead (flat_map condition_words cs) (bang negated ++ (kind_word kind ∷ ws)) (class_conditions cs e) ∙ kind_words negated kind ws

-- ---- names

pub name_words : (assumed : Bool) (ws : List Word) → are_names ws ≡ true → follow (Some (BeforeName assumed)) (separated ws) ≡ Some (BehindName assumed)
name_words assumed [] e = absurd (clash e)
name_words assumed (w ∷ []) e = leads_on (is_name w) (BehindName assumed) None (first_true (is_name w) true e)
name_words true (w ∷ v ∷ vs) e = behind_one (BeforeName true) (BehindName true) w (codes "," ∷ separated (v ∷ vs)) (leads_on (is_name w) (BehindName true) None (first_true (is_name w) (list_all is_name (v ∷ vs)) e))
    ∙ name_words true (v ∷ vs) (second_true (is_name w) (list_all is_name (v ∷ vs)) e)
name_words false (w ∷ v ∷ vs) e = behind_one (BeforeName false) (BehindName false) w (codes "," ∷ separated (v ∷ vs)) (leads_on (is_name w) (BehindName false) None (first_true (is_name w) (list_all is_name (v ∷ vs)) e))
    ∙ name_words false (v ∷ vs) (second_true (is_name w) (list_all is_name (v ∷ vs)) e)

-- ---- ancestors

abbrev pub place_above : Option Above → Place
place_above (Some a) = BehindAncestor
place_above None = BehindName false

ancestor : (extends : Bool) (mark : Option Word) (name : Word) → is_above (Some (record { extends = extends; mark = mark; name = name })) ≡ true
    → follow (Some (BehindName false)) (above_words (Some (record { extends = extends; mark = mark; name = name }))) ≡ Some BehindAncestor
ancestor true (Some m) name e = behind_one BehindAbove BehindMark (marked m) (name ∷ []) (leads_on (is_name m) BehindMark None (second_true (is_name name) (is_name m) e)) ∙ leads_on (is_name name) BehindAncestor None (first_true (is_name name) (is_name m) e)
ancestor true None name e = leads_on (is_name name) BehindAncestor (leads (is_mark name) BehindMark None) (first_true (is_name name) true e)
ancestor false (Some m) name e = behind_one BehindAbove BehindMark (marked m) (name ∷ []) (leads_on (is_name m) BehindMark None (second_true (is_name name) (is_name m) e)) ∙ leads_on (is_name name) BehindAncestor None (first_true (is_name name) (is_name m) e)
ancestor false None name e = leads_on (is_name name) BehindAncestor (leads (is_mark name) BehindMark None) (first_true (is_name name) true e)

pub ancestor_words : (above : Option Above) → is_above above ≡ true → follow (Some (BehindName false)) (above_words above) ≡ Some (place_above above)
ancestor_words (Some a) e = ancestor a.extends a.mark a.name e
ancestor_words None e = refl

-- ---- arguments

pub argument_list : (assumed : Bool) (w : Word) (ws : List Word) → list_all is_argument (w ∷ ws) ≡ true → follow (Some (BeforeArgument assumed)) (separated (w ∷ ws)) ≡ Some (BehindArgument assumed)
argument_list assumed w [] e = leads_on (is_argument w) (BehindArgument assumed) None (first_true (is_argument w) true e)
argument_list assumed w (v ∷ vs) e = behind_one (BeforeArgument assumed) (BehindArgument assumed) w (codes "," ∷ separated (v ∷ vs)) (leads_on (is_argument w) (BehindArgument assumed) None (first_true (is_argument w) (list_all is_argument (v ∷ vs)) e))
    ∙ argument_list assumed v vs (second_true (is_argument w) (list_all is_argument (v ∷ vs)) e)

pub first_arguments : (assumed : Bool) (w : Word) (ws : List Word) → follow (Some (BeforeArgument assumed)) (w ∷ ws) ≡ Some (BehindArgument assumed) → follow (Some (InArguments assumed)) (w ∷ ws) ≡ Some (BehindArgument assumed)
first_arguments assumed w ws e = wider_by (from_argument assumed w) _ ws (BehindArgument assumed) e

pub argument_types : (assumed : Bool) (ws : List Word) → list_all is_argument ws ≡ true → follow (Some (InArguments assumed)) (separated ws ++ codes ")" ∷ []) ≡ Some (AtEnd assumed)
argument_types assumed [] e = refl
argument_types assumed (w ∷ []) e = behind_all (InArguments assumed) (BehindArgument assumed) (w ∷ []) (codes ")" ∷ []) (first_arguments assumed w [] (argument_list assumed w [] e))
argument_types assumed (w ∷ v ∷ vs) e = behind_all (InArguments assumed) (BehindArgument assumed) (separated (w ∷ v ∷ vs)) (codes ")" ∷ []) (first_arguments assumed w (codes "," ∷ separated (v ∷ vs)) (argument_list assumed w (v ∷ vs) e))

pub all_arguments : (assumed : Bool) (a : Arguments) (p : Place) → are_arguments a ≡ true → next_place p (codes "(") ≡ Some (InArguments assumed) → follow (Some p) (argument_words a) ≡ Some (AtEnd assumed)
all_arguments assumed Any p e opens = behind_one p (InArguments assumed) (codes "(") (codes "..." ∷ codes ")" ∷ []) opens
all_arguments assumed (These ws) p e opens = behind_one p (InArguments assumed) (codes "(") (separated ws ++ codes ")" ∷ []) opens ∙ argument_types assumed ws e

-- ---- lines

pub access_is : (a : Access) → is_access (access_word a) ≡ true
access_is access.Public = refl
access_is access.Private = refl
access_is access.Protected = refl
access_is access.Static = refl
access_is access.Final = refl
access_is access.Synchronized = refl
access_is access.Native = refl
access_is access.Abstract = refl
access_is access.Strict = refl
access_is access.Volatile = refl
access_is access.Transient = refl
access_is access.Varargs = refl
access_is access.Bridge = refl
access_is access.Synthetic = refl

access_line : (assumed negated : Bool) (a : Access) → follow (Some (InLine assumed)) (bang negated ++ access_word a ∷ []) ≡ Some (InLine assumed)
access_line assumed true a = rw (access_is a) refl
access_line assumed false a = rw (access_is a) refl

member_condition : (c : Condition) → is_member_condition c ≡ true → follow (Some (InLine false)) (condition_words c) ≡ Some (InLine false)
member_condition (Mark name) e = rw e refl
member_condition (Has negated a) e = access_line false negated a

plain_condition : (c : Condition) → is_plain_condition c ≡ true → follow (Some (InLine true)) (condition_words c) ≡ Some (InLine true)
plain_condition (Mark name) e = absurd (clash e)
plain_condition (Has negated a) e = access_line true negated a

pub member_conditions : (cs : List Condition) → list_all is_member_condition cs ≡ true → follow (Some (InLine false)) (flat_map condition_words cs) ≡ Some (InLine false)
member_conditions = each_back condition_words is_member_condition (InLine false) member_condition

pub plain_conditions : (cs : List Condition) → list_all is_plain_condition cs ≡ true → follow (Some (InLine true)) (flat_map condition_words cs) ≡ Some (InLine true)
plain_conditions = each_back condition_words is_plain_condition (InLine true) plain_condition

typed_by : (assumed : Bool) (kind name : Word) (rest : List Word) (star : Bool) → word_eq kind (codes "*") ≡ star → is_access kind ≡ false → is_name kind ≡ true → is_name name ≡ true
    → follow (Some (InLine assumed)) (kind ∷ name ∷ rest) ≡ follow (Some (BehindMember assumed)) rest
typed_by assumed kind name rest true is other named member =
    let first : next_place (InLine assumed) kind ≡ Some (BehindStar assumed) = rw (other, is) refl in
    behind_one (InLine assumed) (BehindStar assumed) kind (name ∷ rest) first
    ∙ behind_one (BehindStar assumed) (BehindMember assumed) name rest (leads_on (is_name name) (BehindMember assumed) (leads (word_eq name (codes ";")) (InBraces assumed) None) member)
typed_by assumed kind name rest false is other named member =
    let first : next_place (InLine assumed) kind ≡ Some (BehindType assumed) = rw (other, is, named) refl in
    behind_one (InLine assumed) (BehindType assumed) kind (name ∷ rest) first ∙ behind_one (BehindType assumed) (BehindMember assumed) name rest (leads_on (is_name name) (BehindMember assumed) None member)

pub typed_words : (assumed : Bool) (kind name : Word) (rest : List Word) → is_first_type kind ≡ true → is_name name ≡ true → follow (Some (InLine assumed)) (kind ∷ name ∷ rest) ≡ follow (Some (BehindMember assumed)) rest
typed_words assumed kind name rest typed member = typed_by assumed kind name rest (word_eq kind (codes "*")) refl
    (not_true (is_access kind) (second_true (is_name kind) (not (is_access kind)) typed)) (first_true (is_name kind) (not (is_access kind)) typed) member

ends_line : (assumed : Bool) (p : Place) (ws : List Word) → follow (Some p) ws ≡ Some (AtEnd assumed) → follow (Some p) (ws ++ codes ";" ∷ []) ≡ Some (InBraces assumed)
ends_line assumed p ws e = behind_all p (AtEnd assumed) ws (codes ";" ∷ []) e

method_line : (assumed : Bool) (result name : Word) (a : Arguments) → is_what (Method result name a) ≡ true → follow (Some (InLine assumed)) (what_words (Method result name a) ++ codes ";" ∷ []) ≡ Some (InBraces assumed)
method_line assumed result name a e =
    let two : (is_first_type result && is_name name) ≡ true = first_true (is_first_type result && is_name name) (are_arguments a) e in
    ends_line assumed (InLine assumed) (result ∷ name ∷ argument_words a) (
    typed_words assumed result name (argument_words a) (first_true (is_first_type result) (is_name name) two) (second_true (is_first_type result) (is_name name) two)
    ∙ all_arguments assumed a (BehindMember assumed) (second_true (is_first_type result && is_name name) (are_arguments a) e) refl
    )

what_line : (w : What) → is_what w ≡ true → follow (Some (InLine false)) (what_words w ++ codes ";" ∷ []) ≡ Some (InBraces false)
what_line All e = refl
what_line Fields e = refl
what_line Methods e = refl
what_line (Init a) e = ends_line false (InLine false) (codes "<init>" ∷ argument_words a) (all_arguments false a (BeforeArguments false) e refl)
what_line (Field kind name) e = typed_words false kind name (codes ";" ∷ []) (first_true (is_first_type kind) (is_name name) e) (second_true (is_first_type kind) (is_name name) e)
what_line (Method result name a) e = method_line false result name a e

assumed_line : (w : What) → is_assumed_what w ≡ true → follow (Some (InLine true)) (what_words w ++ codes ";" ∷ []) ≡ Some (InBraces true)
assumed_line All e = refl
assumed_line Fields e = absurd (clash e)
assumed_line Methods e = refl
assumed_line (Init a) e = absurd (clash e)
assumed_line (Field kind name) e = absurd (clash e)
assumed_line (Method result name a) e = method_line true result name a e

in_braces_all : (assumed : Bool) (ws : List Word) → follow (Some (InLine assumed)) ws ≡ Some (InBraces assumed) → follow (Some (InBraces assumed)) ws ≡ Some (InBraces assumed)
in_braces_all assumed [] e = refl
in_braces_all assumed (v ∷ vs) e = wider_by (from_line assumed v) _ vs (InBraces assumed) e

line_words : (m : MemberRule) → is_member_rule m ≡ true → follow (Some (InBraces false)) (member_rule_words m) ≡ Some (InBraces false)
line_words m e = in_braces_all false (member_rule_words m) (
    behind_all (InLine false) (InLine false) (flat_map condition_words m.conditions) (what_words m.what ++ codes ";" ∷ [])
    (each_back condition_words is_member_condition (InLine false) member_condition m.conditions (first_true (list_all is_member_condition m.conditions) (is_what m.what) e))
    ∙ what_line m.what (second_true (list_all is_member_condition m.conditions) (is_what m.what) e)
    )

assumed_words : (m : MemberRule) → is_assumed_rule m ≡ true → follow (Some (InBraces true)) (member_rule_words m) ≡ Some (InBraces true)
assumed_words m e = in_braces_all true (member_rule_words m) (
    behind_all (InLine true) (InLine true) (flat_map condition_words m.conditions) (what_words m.what ++ codes ";" ∷ [])
    (each_back condition_words is_plain_condition (InLine true) plain_condition m.conditions (first_true (list_all is_plain_condition m.conditions) (is_assumed_what m.what) e))
    ∙ assumed_line m.what (second_true (list_all is_plain_condition m.conditions) (is_assumed_what m.what) e)
    )

abbrev pub line_test : Bool → MemberRule → Bool
line_test true = is_assumed_rule
line_test false = is_member_rule

pub lines_words : (assumed : Bool) (ms : List MemberRule) → list_all (line_test assumed) ms ≡ true → follow (Some (InBraces assumed)) (flat_map member_rule_words ms) ≡ Some (InBraces assumed)
lines_words true ms e = each_back member_rule_words is_assumed_rule (InBraces true) assumed_words ms e
lines_words false ms e = each_back member_rule_words is_member_rule (InBraces false) line_words ms e

pub closes : (assumed : Bool) → next_place (InBraces assumed) (codes "}") ≡ Some Between
closes true = refl
closes false = refl

pub brace_words : (assumed : Bool) (ms : List MemberRule) (p : Place) → list_all (line_test assumed) ms ≡ true → next_place p (codes "{") ≡ Some (InBraces assumed) → follow (Some p) (braces ms) ≡ Some Between
brace_words assumed ms p e opens = behind_one p (InBraces assumed) (codes "{") (flat_map member_rule_words ms ++ codes "}" ∷ []) opens
    ∙ behind_all (InBraces assumed) (InBraces assumed) (flat_map member_rule_words ms) (codes "}" ∷ []) (lines_words assumed ms e)
    ∙ closes assumed

-- ---- classes

abbrev pub place_class : Option Above → Option (List MemberRule) → Place
place_class above (Some ms) = Between
place_class above None = place_above above

pub opens_above : (above : Option Above) → next_place (place_above above) (codes "{") ≡ Some (InBraces false)
opens_above (Some a) = refl
opens_above None = refl

member_words_of : (above : Option Above) (members : Option (List MemberRule)) → are_members members ≡ true → follow (Some (place_above above)) (braces_words members) ≡ Some (place_class above members)
member_words_of above (Some ms) e = brace_words false ms (place_above above) e (opens_above above)
member_words_of above None e = refl

pub class_words_in : (c : ClassRule) → is_class_rule c ≡ true → follow (Some InHead) (class_rule_words c) ≡ Some (place_class c.above c.members)
class_words_in c e =
    let r1 : (list_all is_class_condition c.conditions && are_names c.names && is_above c.above) ≡ true = first_true (list_all is_class_condition c.conditions && are_names c.names && is_above c.above) (are_members c.members) e in
    let e4 : are_members c.members ≡ true = second_true (list_all is_class_condition c.conditions && are_names c.names && is_above c.above) (are_members c.members) e in
    let r2 : (list_all is_class_condition c.conditions && are_names c.names) ≡ true = first_true (list_all is_class_condition c.conditions && are_names c.names) (is_above c.above) r1 in
    let e3 : is_above c.above ≡ true = second_true (list_all is_class_condition c.conditions && are_names c.names) (is_above c.above) r1 in
    head_words c.conditions c.negated c.kind (separated c.names ++ (above_words c.above ++ braces_words c.members)) (first_true (list_all is_class_condition c.conditions) (are_names c.names) r2)
    ∙ behind_all (BeforeName false) (BehindName false) (separated c.names) (above_words c.above ++ braces_words c.members) (name_words false c.names (second_true (list_all is_class_condition c.conditions) (are_names c.names) r2))
    ∙ behind_all (BehindName false) (place_above c.above) (above_words c.above) (braces_words c.members) (ancestor_words c.above e3)
    ∙ member_words_of c.above c.members e4

in_head : (above : Option Above) (members : Option (List MemberRule)) → InHead ≡ place_class above members → ⊥
in_head above (Some ms) e = cc
in_head (Some a) None e = cc
in_head None None e = cc

pub keep_head : (ws : List Word) (r : Place) → (InHead ≡ r → ⊥) → follow (Some InHead) ws ≡ Some r → follow (Some BehindKeep) ws ≡ Some r
keep_head [] r other e = absurd (other (ap (λ o. elim o [ Some p ↦ p | None ↦ InHead ]) e))
keep_head (w ∷ ws) r other e = wider_by (from_head w) _ ws r e

-- behind a keep option the head of a class may begin
class_behind : (c : ClassRule) → is_class_rule c ≡ true → follow (Some BehindKeep) (class_rule_words c) ≡ Some (place_class c.above c.members)
class_behind c e = keep_head (class_rule_words c) (place_class c.above c.members) (in_head c.above c.members) (class_words_in c e)

modifier_line : (m : Modifier) → true ≡ true → follow (Some BehindKeep) (codes "," ∷ modifier_word m ∷ []) ≡ Some BehindKeep
modifier_line modifier.AllowShrinking e = refl
modifier_line modifier.AllowOptimization e = refl
modifier_line modifier.AllowObfuscation e = refl
modifier_line modifier.IncludeDescriptorClasses e = refl

all_true : (ms : List Modifier) → list_all (λ m. true) ms ≡ true
all_true [] = refl
all_true (m ∷ ms) = all_true ms

pub modifiers_back : (ms : List Modifier) → follow (Some BehindKeep) (modifier_words ms) ≡ Some BehindKeep
modifiers_back ms = each_back (λ m. codes "," ∷ modifier_word m ∷ []) (λ m. true) BehindKeep modifier_line ms (all_true ms)

-- ---- options

pub plain_words : (ws : List Word) → list_all (λ w. not (begins_option w)) ws ≡ true → follow (Some InWords) ws ≡ Some InWords
plain_words [] e = refl
plain_words (w ∷ ws) e = rw (not_true (begins_option w) (first_true (not (begins_option w)) (list_all (λ w. not (begins_option w)) ws) e)) (plain_words ws (second_true (not (begins_option w)) (list_all (λ w. not (begins_option w)) ws) e))

abbrev pub place_setting : Bool → Place
place_setting true = InWords
place_setting false = Between

pub setting_leads : (name : SettingName) → next_place Between (setting_word name) ≡ Some (place_setting (is_long name))
setting_leads setting.DontOptimize = refl
setting_leads setting.DontShrink = refl
setting_leads setting.Verbose = refl
setting_leads setting.DontObfuscate = refl
setting_leads setting.DontPreverify = refl
setting_leads setting.DontUseMixedCaseClassNames = refl
setting_leads setting.DontSkipNonPublicLibraryClasses = refl
setting_leads setting.AllowAccessModification = refl
setting_leads setting.IgnoreWarnings = refl
setting_leads setting.KeepAttributes = refl
setting_leads setting.DontWarn = refl
setting_leads setting.DontNote = refl
setting_leads setting.Optimizations = refl
setting_leads setting.OptimizationPasses = refl
setting_leads setting.RenameSourceFileAttribute = refl
setting_leads setting.RepackageClasses = refl

pub keep_leads : (kind : KeepKind) → next_place Between (keep_word kind) ≡ Some BehindKeep
keep_leads keep.Keep = refl
keep_leads keep.ClassMembers = refl
keep_leads keep.ClassesWithMembers = refl
keep_leads keep.Names = refl
keep_leads keep.ClassMemberNames = refl
keep_leads keep.ClassesWithMemberNames = refl

setting_rest : (long : Bool) (ws : List Word) → list_all (λ w. not (begins_option w)) ws ≡ true → (long || nat_eq (length ws) 0) ≡ true → follow (Some (place_setting long)) ws ≡ Some (place_setting long)
setting_rest true ws plain few = plain_words ws plain
setting_rest false [] plain few = refl
setting_rest false (w ∷ ws) plain few =
    let none : suc (length ws) ≡ 0 = eqb-true (suc (length ws)) 0 few in
    let no : ⊥ = omega arith in
    absurd no

-- where an entry leads
abbrev pub place_entry : Entry → Place
place_entry (Setting name words) = place_setting (is_long name)
place_entry (Keep rule) = place_class rule.class.above rule.class.members
place_entry (Assume rule) = Between

pub entry_leads : (e : Entry) → is_entry e ≡ true → follow (Some Between) (entry_words e) ≡ Some (place_entry e)
entry_leads (Setting name ws) e = behind_one Between (place_setting (is_long name)) (setting_word name) ws (setting_leads name)
    ∙ setting_rest (is_long name) ws (first_true (list_all (λ w. not (begins_option w)) ws) (is_long name || nat_eq (length ws) 0) e) (second_true (list_all (λ w. not (begins_option w)) ws) (is_long name || nat_eq (length ws) 0) e)
entry_leads (Keep rule) e = behind_one Between BehindKeep (keep_word rule.kind) (modifier_words rule.modifiers ++ class_rule_words rule.class) (keep_leads rule.kind)
    ∙ behind_all BehindKeep BehindKeep (modifier_words rule.modifiers) (class_rule_words rule.class) (modifiers_back rule.modifiers)
    ∙ class_behind rule.class e
entry_leads (Assume rule) e =
    let names : are_names rule.names ≡ true = first_true (are_names rule.names) (list_all is_assumed_rule rule.members) e in
    let lines : list_all is_assumed_rule rule.members ≡ true = second_true (are_names rule.names) (list_all is_assumed_rule rule.members) e in
    behind_all (BeforeName true) (BehindName true) (separated rule.names) (braces rule.members) (name_words true rule.names names) ∙ brace_words true rule.members (BehindName true) lines refl

above_final : (above : Option Above) → is_final (place_above above) ≡ true
above_final (Some a) = refl
above_final None = refl

pub class_final : (above : Option Above) (members : Option (List MemberRule)) → is_final (place_class above members) ≡ true
class_final above (Some ms) = refl
class_final above None = above_final above

setting_final : (long : Bool) → is_final (place_setting long) ≡ true
setting_final true = refl
setting_final false = refl

pub entry_final : (e : Entry) → is_final (place_entry e) ≡ true
entry_final (Setting name ws) = setting_final (is_long name)
entry_final (Keep rule) = class_final rule.class.above rule.class.members
entry_final (Assume rule) = refl

-- ---- behind a whole entry the next may begin

long_begins : (name : SettingName) → begins_option (setting_word name) ≡ true
long_begins setting.DontOptimize = refl
long_begins setting.DontShrink = refl
long_begins setting.Verbose = refl
long_begins setting.DontObfuscate = refl
long_begins setting.DontPreverify = refl
long_begins setting.DontUseMixedCaseClassNames = refl
long_begins setting.DontSkipNonPublicLibraryClasses = refl
long_begins setting.AllowAccessModification = refl
long_begins setting.IgnoreWarnings = refl
long_begins setting.KeepAttributes = refl
long_begins setting.DontWarn = refl
long_begins setting.DontNote = refl
long_begins setting.Optimizations = refl
long_begins setting.OptimizationPasses = refl
long_begins setting.RenameSourceFileAttribute = refl
long_begins setting.RepackageClasses = refl

keep_option : (kind : KeepKind) → begins_option (keep_word kind) ≡ true
keep_option keep.Keep = refl
keep_option keep.ClassMembers = refl
keep_option keep.ClassesWithMembers = refl
keep_option keep.Names = refl
keep_option keep.ClassMemberNames = refl
keep_option keep.ClassesWithMemberNames = refl

-- the word of an entry begins an option
abbrev pub entry_word : Entry → Word
entry_word (Setting name ws) = setting_word name
entry_word (Keep rule) = keep_word rule.kind
entry_word (Assume rule) = codes "-assumenosideeffects"

abbrev pub words_in : Entry → List Word
words_in (Setting name ws) = ws
words_in (Keep rule) = modifier_words rule.modifiers ++ class_rule_words rule.class
words_in (Assume rule) = codes "class" ∷ (separated rule.names ++ braces rule.members)

pub entry_split : (e : Entry) → entry_words e ≡ entry_word e ∷ words_in e
entry_split (Setting name ws) = refl
entry_split (Keep rule) = refl
entry_split (Assume rule) = refl

pub entry_option : (e : Entry) → begins_option (entry_word e) ≡ true
entry_option (Setting name ws) = long_begins name
entry_option (Keep rule) = keep_option rule.kind
entry_option (Assume rule) = refl

-- a word that begins an option leads from each final place where it leads from between entries
pub final_step : (p q : Place) (w : Word) → is_final p ≡ true → begins_option w ≡ true → from_option w ≡ Some q → next_place p w ≡ Some q
final_step Between q w final begins e = e
final_step InWords q w final begins e = rw begins e
final_step (BehindName true) q w final begins e = absurd (clash final)
final_step (BehindName false) q w final begins e = rw e refl
final_step BehindAncestor q w final begins e = rw e refl
final_step BehindKeep q w final begins e = absurd (clash final)
final_step BehindComma q w final begins e = absurd (clash final)
final_step InHead q w final begins e = absurd (clash final)
final_step BehindBang q w final begins e = absurd (clash final)
final_step (BeforeName a) q w final begins e = absurd (clash final)
final_step BeforeClass q w final begins e = absurd (clash final)
final_step BehindAbove q w final begins e = absurd (clash final)
final_step BehindMark q w final begins e = absurd (clash final)
final_step (BeforeBrace a) q w final begins e = absurd (clash final)
final_step (InBraces a) q w final begins e = absurd (clash final)
final_step (InLine a) q w final begins e = absurd (clash final)
final_step (BehindNot a) q w final begins e = absurd (clash final)
final_step (BehindStar a) q w final begins e = absurd (clash final)
final_step (BehindType a) q w final begins e = absurd (clash final)
final_step (BehindMember a) q w final begins e = absurd (clash final)
final_step (BeforeArguments a) q w final begins e = absurd (clash final)
final_step (InArguments a) q w final begins e = absurd (clash final)
final_step (BehindDots a) q w final begins e = absurd (clash final)
final_step (BeforeArgument a) q w final begins e = absurd (clash final)
final_step (BehindArgument a) q w final begins e = absurd (clash final)
final_step (AtEnd a) q w final begins e = absurd (clash final)

abbrev place_first : Entry → Place
place_first (Setting name ws) = place_setting (is_long name)
place_first (Keep rule) = BehindKeep
place_first (Assume rule) = BeforeClass

entry_from : (e : Entry) → from_option (entry_word e) ≡ Some (place_first e)
entry_from (Setting name ws) = setting_leads name
entry_from (Keep rule) = keep_leads rule.kind
entry_from (Assume rule) = refl

entry_first : (e : Entry) (p : Place) → is_final p ≡ true → next_place p (entry_word e) ≡ from_option (entry_word e)
entry_first e p final = final_step p (place_first e) (entry_word e) final (entry_option e) (entry_from e) ∙ sym (entry_from e)

-- Entries lead from a final place to a final place.
pub record LeadOn (p : Place) (ws : List Word) : Type 0 where
  pub place : Place
  pub leads : follow (Some p) ws ≡ Some place
  pub final : is_final place ≡ true

pub entries_lead : (es : List Entry) (p : Place) → list_all is_entry es ≡ true → is_final p ≡ true → LeadOn p (spelled es)
entries_lead [] p e final = record { place = p; leads = refl; final = final }
entries_lead (x ∷ xs) p e final =
    let one : is_entry x ≡ true = first_true (is_entry x) (list_all is_entry xs) e in
    let more : LeadOn (place_entry x) (spelled xs) = entries_lead xs (place_entry x) (second_true (is_entry x) (list_all is_entry xs) e) (entry_final x) in
    let first : follow (Some p) (entry_words x) ≡ Some (place_entry x) =
    ap (λ ws. follow (Some p) ws) (entry_split x) ∙ ap (λ o. follow o (words_in x)) (entry_first x p final) ∙ ap (λ ws. follow (Some Between) ws) (sym (entry_split x)) ∙ entry_leads x one in
    record { place = more.place; leads = behind_all p (place_entry x) (entry_words x) (spelled xs) first ∙ more.leads; final = more.final }
