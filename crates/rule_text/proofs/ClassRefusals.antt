-- Where class rules stop.
use Rattle.std.proofs.Common.{◌≡◌, ℕ, Bool, true, false, List, [], ◌∷◌, ◌++◌, Option, Some, None, Vec, is_some, IfSome, IfNone, IsTrue, IsFalse, nat_eq, refl, sym, ap, ◌∙◌, codes}
use Rattle.std.specs.List.{flat_map}
use Rattle.std.specs.declared.alloc.Global.{Global}
use Rattle.std.proofs.lemmas.List.{append_assoc}
use Rattle.rule_text.specs.Tokens.{Word}
use Rattle.rule_text.specs.Rules.{Condition, Above, MemberRule}
use Rattle.rule_text.specs.Spelling.{word_eq, is_name, access_word, kind_word, bang, marked, are_names, separated, condition_words, is_class_condition, is_above, above_words, are_members, braces_words, is_class_rule, class_rule_words}
use Rattle.rule_text.specs.Words.{IsNameOf, IsNameAmong, is_of_class, above_word}
use Rattle.rule_text.specs.Places.{InHead, BehindBang, BeforeName, BehindName, BehindAbove, BehindMark, BehindAncestor, BeforeBrace, InBraces, next_place, follow, from_names, from_option, leads, or_else, is_class_access, is_class_mark, is_kind, is_mark}
use Rattle.rule_text.specs.Refusals.{IsRefused, EndsWhole, IsNoCondition, IsNoAbove, begins_mark}
use Rattle.rule_text.specs.Steps.{words_at, first_word, BeginOtherwise, BeginWithNone, IsNoName}
use Rattle.rule_text.specs.Stops.{IsNoMark}
use Rattle.rule_text.specs.ReadEntries.{behind}
use Rattle.rule_text.specs.Reads.{Reads, ReadsEach, IsHead}
use Rattle.rule_text.specs.Related.{AreEach, AreBoth, IsPatternOf, IsConditionOf, IsAboveOf, AreMembersOf, IsClassOf}
use Rattle.rule_text.specs.declared.pattern.NamePattern.{NamePattern}
use Rattle.rule_text.specs.declared.rules.Access.{Access}
use Rattle.rule_text.specs.declared.rules.Access.TheVariants as access
use Rattle.rule_text.specs.declared.rules.AboveWord.{AboveWord}
use Rattle.rule_text.specs.declared.rules.AboveWord.TheVariants as above
use Rattle.rule_text.specs.declared.rules.ClassKind.{ClassKind}
use Rattle.rule_text.specs.declared.rules.ClassKind.TheVariants as class
use Rattle.rule_text.specs.declared.rules.Condition.{Condition as ReadCondition}
use Rattle.rule_text.specs.declared.rules.Above.{Above as ReadAbove}
use Rattle.rule_text.specs.declared.rules.MemberRule.{MemberRule as ReadMember}
use Rattle.rule_text.specs.declared.rules.ClassRule.{ClassRule as ReadClass}
use Rattle.rule_text.specs.declared.token.Token.{Token as Lexed}
use Rattle.rule_text.proofs.OptionLemmas.{ArePlain, both_plain, names_plain, kind_plain, conditions_plain, above_plain}
use Rattle.rule_text.proofs.PlaceLemmas.{clash, name_words, class_conditions, head_words, place_above, ancestor_words, opens_above, place_class, class_words_in, class_final}
use Rattle.rule_text.proofs.ClassLemmas.{class_of}
use Rattle.rule_text.proofs.ConditionLemmas.{banged}
use Rattle.rule_text.proofs.RefusalLemmas.{leads_off, or_none, other_word, not_first, no_name, here, begun, from_open}

-- ---- names

name_only : (assumed : Bool) (w : Word) → is_name w ≡ false → next_place (BeforeName assumed) w ≡ None
name_only assumed w e = leads_off (is_name w) (BehindName assumed) None e

pub no_name_here : (assumed : Bool) (tokens : List Lexed) (at next : ℕ) → IsNoName tokens at next → IsRefused (BeforeName assumed) tokens at next
no_name_here assumed tokens at next lack = here (BeforeName assumed) tokens at next lack.stays (name_only assumed (first_word (words_at tokens at)) lack.other) refl

comma_leads : (assumed : Bool) → follow (Some (BehindName assumed)) (codes "," ∷ []) ≡ Some (BeforeName assumed)
comma_leads true = refl
comma_leads false = refl

pub later_name : (assumed : Bool) (tokens : List Lexed) (at mid behind next : ℕ) (names : List NamePattern) → Reads (AreEach IsPatternOf) are_names separated tokens at mid names
    → words_at tokens mid ≡ codes "," ∷ words_at tokens behind → IsNoName tokens behind next → IsRefused (BeforeName assumed) tokens at next
later_name assumed tokens at mid behind next names each comma lack =
    let more : IsRefused (BehindName assumed) tokens mid next = begun (BehindName assumed) (BeforeName assumed) tokens mid behind next (codes "," ∷ []) comma refl (comma_leads assumed) (no_name_here assumed tokens behind next lack) in
    begun (BeforeName assumed) (BehindName assumed) tokens at mid next (separated each.thing) each.spelled (names_plain each.thing each.written) (name_words assumed each.thing each.written) more

-- ---- conditions

class_access_by : (w : Word) → ((name : Access) → is_of_class name ≡ true → word_eq w (access_word name) ≡ false) → is_class_access w ≡ false
class_access_by w lack = rw (lack access.Public refl, lack access.Final refl, lack access.Abstract refl) refl

no_class_access : (w : Word) (found : Option Access) → IsNameAmong is_of_class access_word w found → found ≡ None → is_class_access w ≡ false
no_class_access w (Some name) named is = cc
no_class_access w None named is = class_access_by w (λ name of_class. other_word w (access_word name) (word_eq w (access_word name)) refl (λ e. named name of_class (sym e)))

pub no_access_at : (tokens : List Lexed) (at mid : ℕ) (w : Word) (found : Option Access) (negated : Bool) → IsNameAmong is_of_class access_word w found → found ≡ None → w ≡ first_word (words_at tokens mid)
    → (IsTrue negated → words_at tokens at ≡ codes "!" ∷ words_at tokens mid) → (IsFalse negated → mid ≡ at) → is_class_access (first_word (words_at tokens at)) ≡ false
no_access_at tokens at mid w found true named none is banged bare = ap (λ ws. is_class_access (first_word ws)) (banged refl)
no_access_at tokens at mid w found false named none is banged bare = ap (λ k. is_class_access (first_word (words_at tokens k))) (sym (bare refl)) ∙ ap is_class_access (sym is) ∙ no_class_access w found named none

pub no_access_behind : (tokens : List Lexed) (at mid : ℕ) (w : Word) (found : Option Access) (negated : Bool) → IsNameAmong is_of_class access_word w found → found ≡ None → w ≡ first_word (words_at tokens mid)
    → (IsTrue negated → words_at tokens at ≡ codes "!" ∷ words_at tokens mid) → (IsFalse negated → BeginOtherwise (codes "!") (words_at tokens at))
    → (rest : List Word) → words_at tokens at ≡ codes "!" ∷ rest → is_class_access (first_word rest) ≡ false
no_access_behind tokens at mid w found true named none is banged other rest e =
    let same : rest ≡ words_at tokens mid = ap behind (sym e ∙ banged refl) in
    ap (λ ws. is_class_access (first_word ws)) same ∙ ap is_class_access (sym is) ∙ no_class_access w found named none
no_access_behind tokens at mid w found false named none is banged other rest e = absurd (other refl rest e)

kind_access : (kind : ClassKind) → is_class_access (kind_word kind) ≡ false
kind_access class.Class = refl
kind_access class.Interface = refl
kind_access class.Enum = refl
kind_access class.Annotation = refl

kind_mark : (kind : ClassKind) → is_class_mark (kind_word kind) ≡ false
kind_mark class.Class = refl
kind_mark class.Interface = refl
kind_mark class.Enum = refl
kind_mark class.Annotation = refl

kind_bang : (kind : ClassKind) → word_eq (kind_word kind) (codes "!") ≡ false
kind_bang class.Class = refl
kind_bang class.Interface = refl
kind_bang class.Enum = refl
kind_bang class.Annotation = refl

-- a kind begins no condition
pub kind_follows : (ws : List Word) (w : Word) (found : Option ClassKind) → IsNameOf kind_word w found → w ≡ first_word ws → is_some found ≡ true → IsNoCondition ws
kind_follows ws w (Some kind) named first is =
    let same : kind_word kind ≡ first_word ws = named ∙ first in
    record {
      access = ap is_class_access (sym same) ∙ kind_access kind;
      mark = ap is_class_mark (sym same) ∙ kind_mark kind;
      behind = λ rest e. absurd (clash (sym (kind_bang kind) ∙ ap (λ v. word_eq v (codes "!")) (same ∙ ap first_word e)));
    }
kind_follows ws w None named first is = absurd (clash is)

no_class_mark : (w : Word) → begins_mark w ≡ false → is_class_mark w ≡ false
no_class_mark [] e = refl
no_class_mark (c ∷ cs) e =
    let at : nat_eq c 64 ≡ false = e in
    rw at refl

-- neither a mark nor an access word
pub none_follows : (tokens : List Lexed) (at mid : ℕ) → mid ≡ at → begins_mark (first_word (words_at tokens at)) ≡ false → is_class_access (first_word (words_at tokens mid)) ≡ false
    → ((rest : List Word) → words_at tokens mid ≡ codes "!" ∷ rest → is_class_access (first_word rest) ≡ false) → IsNoCondition (words_at tokens at)
none_follows tokens at mid same mark access bang = record {
  access = ap (λ k. is_class_access (first_word (words_at tokens k))) (sym same) ∙ access;
  mark = no_class_mark (first_word (words_at tokens at)) mark;
  behind = λ rest e. bang rest (ap (words_at tokens) same ∙ e);
}

bad_mark : (name : Word) → is_name name ≡ false → word_eq name (codes "interface") ≡ false → next_place InHead (marked name) ≡ None
bad_mark name other kind = rw (other, kind) refl

pub no_mark_head : (tokens : List Lexed) (at next : ℕ) → IsNoMark tokens at next → IsRefused InHead tokens at next
no_mark_head tokens at next lack = here InHead tokens at next lack.stays (ap (next_place InHead) lack.written ∙ bad_mark lack.name lack.other (no_name lack.name (codes "interface") lack.other refl)) refl

pub behind_class_conditions : (tokens : List Lexed) (at mid next : ℕ) (reads : List ReadCondition) → ReadsEach IsConditionOf is_class_condition condition_words tokens at mid reads → IsRefused InHead tokens mid next → IsRefused InHead tokens at next
behind_class_conditions tokens at mid next reads each r = begun InHead InHead tokens at mid next (flat_map condition_words each.thing) each.spelled (conditions_plain is_class_condition each.thing each.written) (class_conditions each.thing each.written) r

-- ---- kinds

kind_by : (w : Word) → ((kind : ClassKind) → word_eq w (kind_word kind) ≡ false) → is_kind w ≡ false
kind_by w lack = rw (lack class.Class, lack class.Interface, lack class.Enum, lack class.Annotation) refl

no_kind_word : (ws : List Word) → BeginWithNone kind_word ws → is_kind (first_word ws) ≡ false
no_kind_word [] none = refl
no_kind_word (w ∷ ws) none = kind_by w (λ kind. other_word w (kind_word kind) (word_eq w (kind_word kind)) refl (λ e. none kind ws (ap (λ v. v ∷ ws) e)))

head_none : (w : Word) → is_class_access w ≡ false → is_class_mark w ≡ false → word_eq w (codes "!") ≡ false → is_kind w ≡ false → next_place InHead w ≡ None
head_none w access mark bang kind = leads_off (is_class_access w) InHead (leads (is_class_mark w) InHead (leads (word_eq w (codes "!")) BehindBang (leads (is_kind w) (BeforeName false) None))) access
    ∙ leads_off (is_class_mark w) InHead (leads (word_eq w (codes "!")) BehindBang (leads (is_kind w) (BeforeName false) None)) mark
    ∙ leads_off (word_eq w (codes "!")) BehindBang (leads (is_kind w) (BeforeName false) None) bang
    ∙ leads_off (is_kind w) (BeforeName false) None kind

bang_none : (w : Word) → is_class_access w ≡ false → is_kind w ≡ false → next_place BehindBang w ≡ None
bang_none w access kind = leads_off (is_class_access w) InHead (leads (is_kind w) (BeforeName false) None) access ∙ leads_off (is_kind w) (BeforeName false) None kind

kind_refused : (tokens : List Lexed) (mid behind next : ℕ) (negated : Bool) → IsNoCondition (words_at tokens mid) → (IsTrue negated → words_at tokens mid ≡ codes "!" ∷ words_at tokens behind) → (IsFalse negated → behind ≡ mid)
    → (IsFalse negated → BeginOtherwise (codes "!") (words_at tokens mid)) → next ≡ behind → BeginWithNone kind_word (words_at tokens behind) → IsRefused InHead tokens mid next
kind_refused tokens mid behind next true lack banged bare other stays none =
    let off : next_place BehindBang (first_word (words_at tokens behind)) ≡ None = bang_none (first_word (words_at tokens behind)) (lack.behind (words_at tokens behind) (banged refl)) (no_kind_word (words_at tokens behind) none) in
    begun InHead BehindBang tokens mid behind next (codes "!" ∷ []) (banged refl) refl refl (here BehindBang tokens behind next stays off refl)
kind_refused tokens mid behind next false lack banged bare other stays none =
    let kind : is_kind (first_word (words_at tokens mid)) ≡ false = ap (λ k. is_kind (first_word (words_at tokens k))) (sym (bare refl)) ∙ no_kind_word (words_at tokens behind) none in
    here InHead tokens mid next (stays ∙ bare refl) (head_none (first_word (words_at tokens mid)) lack.access lack.mark (not_first (codes "!") (words_at tokens mid) refl (other refl)) kind) refl

pub no_kind_behind : (tokens : List Lexed) (at mid behind next : ℕ) (reads : List ReadCondition) (negated : Bool) → ReadsEach IsConditionOf is_class_condition condition_words tokens at mid reads → IsNoCondition (words_at tokens mid)
    → (IsTrue negated → words_at tokens mid ≡ codes "!" ∷ words_at tokens behind) → (IsFalse negated → behind ≡ mid) → (IsFalse negated → BeginOtherwise (codes "!") (words_at tokens mid))
    → next ≡ behind → BeginWithNone kind_word (words_at tokens behind) → IsRefused InHead tokens at next
no_kind_behind tokens at mid behind next reads negated each lack banged bare other stays none = behind_class_conditions tokens at mid next reads each (kind_refused tokens mid behind next negated lack banged bare other stays none)

-- ---- ancestors

above_leads : (word : AboveWord) → follow (Some (BehindName false)) (above_word word ∷ []) ≡ Some BehindAbove
above_leads above.Extends = refl
above_leads above.Implements = refl

word_plain : (word : AboveWord) → ArePlain (above_word word ∷ [])
word_plain above.Extends = refl
word_plain above.Implements = refl

bad_above_mark : (name : Word) → is_name name ≡ false → next_place BehindAbove (marked name) ≡ None
bad_above_mark name other = rw other refl

pub no_mark_above : (tokens : List Lexed) (at mid next : ℕ) (word : AboveWord) → words_at tokens at ≡ above_word word ∷ words_at tokens mid → IsNoMark tokens mid next → IsRefused (BehindName false) tokens at next
no_mark_above tokens at mid next word first lack =
    begun (BehindName false) BehindAbove tokens at mid next (above_word word ∷ []) first (word_plain word) (above_leads word) (here BehindAbove tokens mid next lack.stays (ap (next_place BehindAbove) lack.written ∙ bad_above_mark lack.name lack.other) refl)

no_plain_mark : (w : Word) → begins_mark w ≡ false → is_mark w ≡ false
no_plain_mark [] e = refl
no_plain_mark (c ∷ cs) e =
    let at : nat_eq c 64 ≡ false = e in
    rw at refl

mark_leads : (name : Word) → is_name name ≡ true → follow (Some BehindAbove) (marked name ∷ []) ≡ Some BehindMark
mark_leads name named = rw named refl

ancestor_refused : (tokens : List Lexed) (mid behind next : ℕ) (read : Option NamePattern) → IfSome read (Reads IsPatternOf is_name (λ name. marked name ∷ []) tokens mid behind) → IfNone read (behind ≡ mid)
    → IfNone read (begins_mark (first_word (words_at tokens mid)) ≡ false) → IsNoName tokens behind next → IsRefused BehindAbove tokens mid next
ancestor_refused tokens mid behind next (Some p) some stays none lack =
    begun BehindAbove BehindMark tokens mid behind next (marked some.thing ∷ []) some.spelled refl (mark_leads some.thing some.written) (here BehindMark tokens behind next lack.stays (leads_off (is_name (first_word (words_at tokens behind))) BehindAncestor None lack.other) refl)
ancestor_refused tokens mid behind next None some stays none lack =
    let named : is_name (first_word (words_at tokens mid)) ≡ false = ap (λ k. is_name (first_word (words_at tokens k))) (sym stays) ∙ lack.other in
    let off : next_place BehindAbove (first_word (words_at tokens mid)) ≡ None = leads_off (is_name (first_word (words_at tokens mid))) BehindAncestor (leads (is_mark (first_word (words_at tokens mid))) BehindMark None) named
    ∙ leads_off (is_mark (first_word (words_at tokens mid))) BehindMark None (no_plain_mark (first_word (words_at tokens mid)) none) in
    here BehindAbove tokens mid next (lack.stays ∙ stays) off refl

pub no_ancestor : (tokens : List Lexed) (at mid behind next : ℕ) (word : AboveWord) (read : Option NamePattern) → words_at tokens at ≡ above_word word ∷ words_at tokens mid
    → IfSome read (Reads IsPatternOf is_name (λ name. marked name ∷ []) tokens mid behind) → IfNone read (behind ≡ mid)
    → IfNone read (begins_mark (first_word (words_at tokens mid)) ≡ false) → IsNoName tokens behind next → IsRefused (BehindName false) tokens at next
no_ancestor tokens at mid behind next word read first some stays none lack =
    begun (BehindName false) BehindAbove tokens at mid next (above_word word ∷ []) first (word_plain word) (above_leads word) (ancestor_refused tokens mid behind next read some stays none lack)

-- ---- whole classes

abbrev head_of : List Condition → Bool → ClassKind → List Word
head_of cs negated kind = flat_map condition_words cs ++ (bang negated ++ kind_word kind ∷ [])

pub behind_head : (tokens : List Lexed) (at mid next : ℕ) (reads : List ReadCondition) (negated : Bool) (kind : ClassKind) → IsHead tokens at mid reads negated kind → IsRefused (BeforeName false) tokens mid next → IsRefused InHead tokens at next
behind_head tokens at mid next reads negated kind head r =
    let spelled : words_at tokens at ≡ head_of head.conditions negated kind ++ words_at tokens mid =
    head.spelled ∙ ap (λ ws. flat_map condition_words head.conditions ++ ws) (banged negated (kind_word kind) (words_at tokens mid)) ∙ sym (append_assoc (flat_map condition_words head.conditions) (bang negated ++ kind_word kind ∷ []) (words_at tokens mid)) in
    let plain : ArePlain (head_of head.conditions negated kind) =
    both_plain (flat_map condition_words head.conditions) (bang negated ++ kind_word kind ∷ []) (conditions_plain is_class_condition head.conditions head.written) (kind_plain negated kind [] refl) in
    begun InHead (BeforeName false) tokens at mid next (head_of head.conditions negated kind) spelled plain (head_words head.conditions negated kind [] head.written) r

pub behind_names : (assumed : Bool) (tokens : List Lexed) (at mid next : ℕ) (names : List NamePattern) → Reads (AreEach IsPatternOf) are_names separated tokens at mid names → IsRefused (BehindName assumed) tokens mid next → IsRefused (BeforeName assumed) tokens at next
behind_names assumed tokens at mid next names each r = begun (BeforeName assumed) (BehindName assumed) tokens at mid next (separated each.thing) each.spelled (names_plain each.thing each.written) (name_words assumed each.thing each.written) r

brace_above : (above : Option Above) (w : Word) → w ≡ codes "{" → next_place (place_above above) w ≡ Some (InBraces false)
brace_above above w is = ap (next_place (place_above above)) is ∙ opens_above above

-- lines of members behind an ancestor or none
pub behind_above : (tokens : List Lexed) (at mid next : ℕ) (read : Option ReadAbove) → Reads (AreBoth IsAboveOf) is_above above_words tokens at mid read → first_word (words_at tokens mid) ≡ codes "{"
    → IsRefused (BeforeBrace false) tokens mid next → IsRefused (BehindName false) tokens at next
behind_above tokens at mid next read above opens r =
    let inner : IsRefused (place_above above.thing) tokens mid next =
    from_open (BeforeBrace false) (place_above above.thing) (InBraces false) tokens mid next (ap (next_place (BeforeBrace false)) opens) (brace_above above.thing (first_word (words_at tokens mid)) opens) r in
    begun (BehindName false) (place_above above.thing) tokens at mid next (above_words above.thing) above.spelled (above_plain above.thing above.written) (ancestor_words above.thing above.written) inner

ancestor_over : (w : Word) → word_eq w (codes "{") ≡ false → next_place BehindAncestor w ≡ from_option w
ancestor_over w brace = ap (λ o. or_else (from_option w) o) (leads_off (word_eq w (codes "{")) (InBraces false) None brace) ∙ or_none (from_option w)

name_over : (w : Word) → word_eq w (codes ",") ≡ false → word_eq w (codes "{") ≡ false → word_eq w (codes "extends") ≡ false → word_eq w (codes "implements") ≡ false → next_place (BehindName false) w ≡ from_option w
name_over w comma brace extends implements =
    let above : leads (word_eq w (codes "extends")) BehindAbove (leads (word_eq w (codes "implements")) BehindAbove None) ≡ None =
    leads_off (word_eq w (codes "extends")) BehindAbove (leads (word_eq w (codes "implements")) BehindAbove None) extends ∙ leads_off (word_eq w (codes "implements")) BehindAbove None implements in
    let names : from_names false w ≡ from_option w = ap (λ o. or_else (from_option w) o) above ∙ or_none (from_option w) in
    let rest : leads (word_eq w (codes ",")) (BeforeName false) (leads (word_eq w (codes "{")) (InBraces false) None) ≡ None =
    leads_off (word_eq w (codes ",")) (BeforeName false) (leads (word_eq w (codes "{")) (InBraces false) None) comma ∙ leads_off (word_eq w (codes "{")) (InBraces false) None brace in
    ap (λ o. or_else (from_names false w) o) rest ∙ or_none (from_names false w) ∙ names

first_other : (q : Word) (tokens : List Lexed) (at next : ℕ) → next ≡ at → word_eq [] q ≡ false → BeginOtherwise q (words_at tokens at) → word_eq (first_word (words_at tokens next)) q ≡ false
first_other q tokens at next same some other = ap (λ k. word_eq (first_word (words_at tokens k)) q) same ∙ not_first q (words_at tokens at) some other

class_over : (tokens : List Lexed) (second third next : ℕ) (ra : Option ReadAbove) (rm : Option (Vec ReadMember Global)) (a : Option Above) (m : Option (List MemberRule)) → AreBoth IsAboveOf ra a → AreBoth AreMembersOf rm m
    → BeginOtherwise (codes ",") (words_at tokens second) → IfNone ra (third ≡ second) → IfNone ra (IsNoAbove (words_at tokens third)) → IfNone rm (next ≡ third) → IfNone rm (BeginOtherwise (codes "{") (words_at tokens next))
    → next_place (place_class a m) (first_word (words_at tokens next)) ≡ from_option (first_word (words_at tokens next))
class_over tokens second third next ra (Some rs) a (Some ms) above members comma stays none same brace = refl
class_over tokens second third next ra (Some rs) a None above members comma stays none same brace = absurd members
class_over tokens second third next ra None a (Some ms) above members comma stays none same brace = absurd members
class_over tokens second third next (Some ra) None (Some a) None above members comma stays none same brace = ancestor_over (first_word (words_at tokens next)) (not_first (codes "{") (words_at tokens next) refl brace)
class_over tokens second third next (Some ra) None None None above members comma stays none same brace = absurd above
class_over tokens second third next None None (Some a) None above members comma stays none same brace = absurd above
class_over tokens second third next None None None None above members comma stays none same brace = name_over (first_word (words_at tokens next)) (first_other (codes ",") tokens second next (same ∙ stays) refl comma)
    (not_first (codes "{") (words_at tokens next) refl brace) (first_other (codes "extends") tokens third next same refl none.extends) (first_other (codes "implements") tokens third next same refl none.implements)

pub class_whole : (tokens : List Lexed) (at first second third next : ℕ) (r : ReadClass) → IsHead tokens at first r.conditions.items r.negated r.kind → Reads (AreEach IsPatternOf) are_names separated tokens first second r.names.items
    → BeginOtherwise (codes ",") (words_at tokens second)
    → Reads (AreBoth IsAboveOf) is_above above_words tokens second third r.above → IfNone r.above (third ≡ second) → IfNone r.above (IsNoAbove (words_at tokens third))
    → Reads (AreBoth AreMembersOf) are_members braces_words tokens third next r.members → IfNone r.members (next ≡ third) → IfNone r.members (BeginOtherwise (codes "{") (words_at tokens next)) → EndsWhole InHead tokens at next
class_whole tokens at first second third next r head names comma above stays none members same brace =
    let whole : Reads IsClassOf is_class_rule class_rule_words tokens at next r = class_of tokens at first second third next r head names above members in
    let both_above : AreBoth IsAboveOf r.above whole.thing.above = whole.related.above in
    let both_members : AreBoth AreMembersOf r.members whole.thing.members = whole.related.members in
    record {
      words = class_rule_words whole.thing;
      spelled = whole.spelled;
      place = place_class whole.thing.above whole.thing.members;
      leads = class_words_in whole.thing whole.written;
      final = class_final whole.thing.above whole.thing.members;
      over = λ inside. class_over tokens second third next r.above r.members whole.thing.above whole.thing.members both_above both_members comma stays none same brace;
    }
