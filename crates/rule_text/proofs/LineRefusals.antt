-- Where lines of members stop.
use Rattle.std.proofs.Common.{◌≡◌, ℕ, Bool, true, false, not, ◌&&◌, List, [], ◌∷◌, ◌++◌, Some, None, refl, sym, ap, subst, ◌∙◌, codes, nat_eq}
use Rattle.std.specs.List.{list_all, flat_map}
use Rattle.std.specs.Cmp.Lexicographic.{bytes_decides}
use Rattle.rule_text.specs.Tokens.{Word}
use Rattle.rule_text.specs.Rules.{MemberRule}
use Rattle.rule_text.specs.Spelling.{word_eq, is_name, is_argument, is_first_type, access_word, marked, are_some, are_arguments, separated, argument_words, condition_words, is_member_condition, is_plain_condition, is_member_rule, is_assumed_rule, member_rule_words}
use Rattle.rule_text.specs.Places.{Place, Between, BeforeArguments, InArguments, BehindDots, BeforeArgument, BehindArgument, AtEnd, InLine, BehindNot, BehindStar, BehindType, BehindMember, BeforeBrace, InBraces, next_place, follow, from_argument, from_line, from_field, from_keep_line, leads, or_else, is_access, is_mark}
use Rattle.rule_text.specs.Refusals.{IsRefused, EndsAt, IsBare, IsNamed, IsTyped, IsTypedLine, begins_mark}
use Rattle.rule_text.specs.Steps.{words_at, first_word, BeginOtherwise, BeginWithNone, IsNoName}
use Rattle.rule_text.specs.Stops.{IsNoMark, IsBareBang, IsNoArgument}
use Rattle.rule_text.specs.Reads.{Reads, ReadsEach, alone}
use Rattle.rule_text.specs.Related.{AreEach, IsPatternOf, IsTypeOf, AreArgumentsOf, IsConditionOf, IsMemberOf}
use Rattle.rule_text.specs.declared.pattern.NamePattern.{NamePattern}
use Rattle.rule_text.specs.declared.rules.Access.{Access}
use Rattle.rule_text.specs.declared.rules.Access.TheVariants as access
use Rattle.rule_text.specs.declared.rules.TypePattern.{TypePattern}
use Rattle.rule_text.specs.declared.rules.Arguments.{Arguments as ReadArguments}
use Rattle.rule_text.specs.declared.rules.Condition.{Condition as ReadCondition}
use Rattle.rule_text.specs.declared.rules.MemberRule.{MemberRule as ReadMember}
use Rattle.rule_text.specs.declared.token.Token.{Token as Lexed}
use Rattle.rule_text.proofs.MemberLemmas.{opened}
use Rattle.rule_text.proofs.OptionLemmas.{ArePlain, more_plain, each_plain, name_plain, argument_plain, separated_plain, conditions_plain, arguments_plain, line_plain, assumed_line_plain}
use Rattle.rule_text.proofs.PlaceLemmas.{clash, argument_list, first_arguments, all_arguments, typed_words, member_conditions, plain_conditions, lines_words, line_test}
use Rattle.rule_text.proofs.RefusalLemmas.{leads_off, leads_both, or_none, other_word, not_first, no_name, here, begun, expected, from_same, ends_here, unended}

-- ---- no option begins with these words

joined : (a b : Bool) → a ≡ true → b ≡ true → (a && b) ≡ true
joined true true ea eb = refl
joined true false ea eb = eb
joined false b ea eb = ea

some_plain : (ws : List Word) → are_some is_argument ws ≡ true → ArePlain (separated ws)
some_plain [] e = refl
some_plain (w ∷ ws) e = separated_plain is_argument argument_plain (w ∷ ws) e

one_plain : (w : Word) → is_name w ≡ true → ArePlain (w ∷ [])
one_plain w named = more_plain w [] (name_plain w named) refl

two_plain : (w v : Word) (ws : List Word) → is_name w ≡ true → is_name v ≡ true → ArePlain ws → ArePlain (w ∷ v ∷ ws)
two_plain w v ws first second rest = more_plain w (v ∷ ws) (name_plain w first) (more_plain v ws (name_plain v second) rest)

lines_plain : (assumed : Bool) (ms : List MemberRule) → list_all (line_test assumed) ms ≡ true → ArePlain (flat_map member_rule_words ms)
lines_plain true ms e = each_plain member_rule_words is_assumed_rule assumed_line_plain ms e
lines_plain false ms e = each_plain member_rule_words is_member_rule line_plain ms e

-- ---- arguments

some_arguments : (assumed : Bool) (ws : List Word) → are_some is_argument ws ≡ true → follow (Some (BeforeArgument assumed)) (separated ws) ≡ Some (BehindArgument assumed)
some_arguments assumed [] e = absurd (clash e)
some_arguments assumed (w ∷ ws) e = argument_list assumed w ws e

types_inside : (assumed : Bool) (ws : List Word) → are_some is_argument ws ≡ true → follow (Some (InArguments assumed)) (separated ws) ≡ Some (BehindArgument assumed)
types_inside assumed [] e = absurd (clash e)
types_inside assumed (w ∷ []) e = first_arguments assumed w [] (argument_list assumed w [] e)
types_inside assumed (w ∷ v ∷ vs) e = first_arguments assumed w (codes "," ∷ separated (v ∷ vs)) (argument_list assumed w (v ∷ vs) e)

pub no_argument_here : (assumed : Bool) (tokens : List Lexed) (at next : ℕ) → IsNoArgument tokens at next → IsRefused (BeforeArgument assumed) tokens at next
no_argument_here assumed tokens at next lack = here (BeforeArgument assumed) tokens at next lack.stays (leads_off (is_argument (first_word (words_at tokens at))) (BehindArgument assumed) None lack.other) refl

pub later_argument : (assumed : Bool) (tokens : List Lexed) (at mid behind next : ℕ) (types : List TypePattern) → Reads (AreEach IsTypeOf) (are_some is_argument) separated tokens at mid types
    → words_at tokens mid ≡ codes "," ∷ words_at tokens behind → IsNoArgument tokens behind next → IsRefused (BeforeArgument assumed) tokens at next
later_argument assumed tokens at mid behind next types each comma lack =
    let more : IsRefused (BehindArgument assumed) tokens mid next = begun (BehindArgument assumed) (BeforeArgument assumed) tokens mid behind next (codes "," ∷ []) comma refl refl (no_argument_here assumed tokens behind next lack) in
    begun (BeforeArgument assumed) (BehindArgument assumed) tokens at mid next (separated each.thing) each.spelled (some_plain each.thing each.written) (some_arguments assumed each.thing each.written) more

only_opens : (assumed : Bool) (w : Word) → word_eq w (codes "(") ≡ false → next_place (BeforeArguments assumed) w ≡ None
only_opens assumed w e = leads_off (word_eq w (codes "(")) (InArguments assumed) None e

only_closes : (assumed : Bool) (w : Word) → word_eq w (codes ")") ≡ false → next_place (BehindDots assumed) w ≡ None
only_closes assumed w e = leads_off (word_eq w (codes ")")) (AtEnd assumed) None e

pub unopened : (assumed : Bool) (tokens : List Lexed) (at next : ℕ) → next ≡ at → BeginOtherwise (codes "(") (words_at tokens at) → IsRefused (BeforeArguments assumed) tokens at next
unopened assumed tokens at next stays other = expected (BeforeArguments assumed) (codes "(") tokens at next (only_opens assumed) refl refl stays other

pub behind_dots : (assumed : Bool) (tokens : List Lexed) (at first mid dots next : ℕ) → words_at tokens at ≡ codes "(" ∷ words_at tokens first → mid ≡ first → words_at tokens mid ≡ codes "..." ∷ words_at tokens dots
    → next ≡ dots → BeginOtherwise (codes ")") (words_at tokens dots) → IsRefused (BeforeArguments assumed) tokens at next
behind_dots assumed tokens at first mid dots next opens same is stays other =
    let both : words_at tokens at ≡ codes "(" ∷ codes "..." ∷ words_at tokens dots = opens ∙ ap (λ k. codes "(" ∷ words_at tokens k) (sym same) ∙ ap (λ ws. codes "(" ∷ ws) is in
    begun (BeforeArguments assumed) (BehindDots assumed) tokens at dots next (codes "(" ∷ codes "..." ∷ []) both refl refl (expected (BehindDots assumed) (codes ")") tokens dots next (only_closes assumed) refl refl stays other)

in_arguments : (assumed : Bool) (w : Word) → word_eq w (codes ")") ≡ false → word_eq w (codes "...") ≡ false → next_place (InArguments assumed) w ≡ next_place (BeforeArgument assumed) w
in_arguments assumed w closes dots =
    let off : leads (word_eq w (codes ")")) (AtEnd assumed) (leads (word_eq w (codes "...")) (BehindDots assumed) None) ≡ None =
    leads_off (word_eq w (codes ")")) (AtEnd assumed) (leads (word_eq w (codes "...")) (BehindDots assumed) None) closes ∙ leads_off (word_eq w (codes "...")) (BehindDots assumed) None dots in
    ap (λ o. or_else (from_argument assumed w) o) off ∙ or_none (from_argument assumed w)

pub in_types : (assumed : Bool) (tokens : List Lexed) (at first mid behind next : ℕ) → words_at tokens at ≡ codes "(" ∷ words_at tokens first → mid ≡ first → behind ≡ mid
    → BeginOtherwise (codes ")") (words_at tokens first) → BeginOtherwise (codes "...") (words_at tokens mid) → IsRefused (BeforeArgument assumed) tokens behind next → IsRefused (BeforeArguments assumed) tokens at next
in_types assumed tokens at first mid behind next opens same more closes dots r =
    let no_close : word_eq (first_word (words_at tokens first)) (codes ")") ≡ false = not_first (codes ")") (words_at tokens first) refl closes in
    let no_dots : word_eq (first_word (words_at tokens first)) (codes "...") ≡ false = ap (λ k. word_eq (first_word (words_at tokens k)) (codes "...")) (sym same) ∙ not_first (codes "...") (words_at tokens mid) refl dots in
    let inner : IsRefused (BeforeArgument assumed) tokens first next = subst (λ k. IsRefused (BeforeArgument assumed) tokens k next) (more ∙ same) r in
    let outer : IsRefused (InArguments assumed) tokens first next =
    from_same (BeforeArgument assumed) (InArguments assumed) tokens first next (in_arguments assumed (first_word (words_at tokens first)) no_close no_dots) (λ e. e) inner in
    begun (BeforeArguments assumed) (InArguments assumed) tokens at first next (codes "(" ∷ []) opens refl refl outer

behind_argument : (assumed : Bool) (w : Word) → word_eq w (codes ",") ≡ false → word_eq w (codes ")") ≡ false → next_place (BehindArgument assumed) w ≡ None
behind_argument assumed w comma closes = leads_off (word_eq w (codes ",")) (BeforeArgument assumed) (leads (word_eq w (codes ")")) (AtEnd assumed) None) comma ∙ leads_off (word_eq w (codes ")")) (AtEnd assumed) None closes

pub unclosed : (assumed : Bool) (tokens : List Lexed) (at first mid behind last next : ℕ) (types : List TypePattern) → words_at tokens at ≡ codes "(" ∷ words_at tokens first → mid ≡ first → behind ≡ mid
    → Reads (AreEach IsTypeOf) (are_some is_argument) separated tokens behind last types → BeginOtherwise (codes ",") (words_at tokens last) → next ≡ last → BeginOtherwise (codes ")") (words_at tokens last)
    → IsRefused (BeforeArguments assumed) tokens at next
unclosed assumed tokens at first mid behind last next types opens same more each comma stays closes =
    let read : Reads (AreEach IsTypeOf) (are_some is_argument) separated tokens first last types = subst (λ k. Reads (AreEach IsTypeOf) (are_some is_argument) separated tokens k last types) (more ∙ same) each in
    let end : IsRefused (BehindArgument assumed) tokens last next =
    here (BehindArgument assumed) tokens last next stays (behind_argument assumed (first_word (words_at tokens last)) (not_first (codes ",") (words_at tokens last) refl comma) (not_first (codes ")") (words_at tokens last) refl closes)) refl in
    let inner : IsRefused (InArguments assumed) tokens first next = begun (InArguments assumed) (BehindArgument assumed) tokens first last next (separated read.thing) read.spelled (some_plain read.thing read.written) (types_inside assumed read.thing read.written) end in
    begun (BeforeArguments assumed) (InArguments assumed) tokens at first next (codes "(" ∷ []) opens refl refl inner

-- ---- conditions

access_by : (w : Word) → ((name : Access) → word_eq w (access_word name) ≡ false) → is_access w ≡ false
access_by w lack = rw (
  lack access.Public,
  lack access.Final,
  lack access.Abstract,
  lack access.Private,
  lack access.Protected,
  lack access.Static,
  lack access.Synchronized,
  lack access.Native,
  lack access.Strict,
  lack access.Volatile,
  lack access.Transient,
  lack access.Varargs,
  lack access.Bridge,
  lack access.Synthetic,
) refl

pub no_access_word : (ws : List Word) → BeginWithNone access_word ws → is_access (first_word ws) ≡ false
no_access_word [] none = refl
no_access_word (w ∷ ws) none = access_by w (λ name. other_word w (access_word name) (word_eq w (access_word name)) refl (λ e. none name ws (ap (λ v. v ∷ ws) e)))

only_access : (assumed : Bool) (w : Word) → is_access w ≡ false → next_place (BehindNot assumed) w ≡ None
only_access assumed w e = leads_off (is_access w) (InLine assumed) None e

bang_leads : (assumed : Bool) → follow (Some (InLine assumed)) (codes "!" ∷ []) ≡ Some (BehindNot assumed)
bang_leads true = refl
bang_leads false = refl

pub bare_bang : (assumed : Bool) (tokens : List Lexed) (at next : ℕ) → IsBareBang tokens at next → IsRefused (InLine assumed) tokens at next
bare_bang assumed tokens at next bare =
    let end : IsRefused (BehindNot assumed) tokens next next = here (BehindNot assumed) tokens next next refl (only_access assumed (first_word (words_at tokens next)) (no_access_word (words_at tokens next) bare.none)) refl in
    begun (InLine assumed) (BehindNot assumed) tokens at next next (codes "!" ∷ []) bare.bang refl (bang_leads assumed) end

bad_mark : (name : Word) → is_name name ≡ false → next_place (InLine false) (marked name) ≡ None
bad_mark name other = rw other refl

pub no_mark_here : (tokens : List Lexed) (at next : ℕ) → IsNoMark tokens at next → IsRefused (InLine false) tokens at next
no_mark_here tokens at next lack = here (InLine false) tokens at next lack.stays (ap (next_place (InLine false)) lack.written ∙ bad_mark lack.name lack.other) refl

pub unnamed : (tokens : List Lexed) (at next : ℕ) → next ≡ at → begins_mark (first_word (words_at tokens at)) ≡ false → IsBare (words_at tokens next) → IsNamed (words_at tokens next)
unnamed tokens at next same mark bare = record { bare = bare; mark = ap (λ k. begins_mark (first_word (words_at tokens k))) same ∙ mark }

-- behind conditions
pub behind_conditions : (tokens : List Lexed) (at mid next : ℕ) (reads : List ReadCondition) → ReadsEach IsConditionOf is_member_condition condition_words tokens at mid reads → IsRefused (InLine false) tokens mid next → IsRefused (InLine false) tokens at next
behind_conditions tokens at mid next reads each r = begun (InLine false) (InLine false) tokens at mid next (flat_map condition_words each.thing) each.spelled (conditions_plain is_member_condition each.thing each.written) (member_conditions each.thing each.written) r

pub behind_accesses : (tokens : List Lexed) (at mid next : ℕ) (reads : List ReadCondition) → ReadsEach IsConditionOf is_plain_condition condition_words tokens at mid reads → IsRefused (InLine true) tokens mid next → IsRefused (InLine true) tokens at next
behind_accesses tokens at mid next reads each r = begun (InLine true) (InLine true) tokens at mid next (flat_map condition_words each.thing) each.spelled (conditions_plain is_plain_condition each.thing each.written) (plain_conditions each.thing each.written) r

-- ---- what a line names

only_end : (assumed : Bool) (w : Word) → word_eq w (codes ";") ≡ false → next_place (AtEnd assumed) w ≡ None
only_end assumed w e = leads_off (word_eq w (codes ";")) (InBraces assumed) None e

-- the words up to the end of a line
pub ends_line_at : (assumed : Bool) (p : Place) (tokens : List Lexed) (at next : ℕ) (ws : List Word) → words_at tokens at ≡ ws ++ words_at tokens next → ArePlain ws → follow (Some p) ws ≡ Some (AtEnd assumed) → EndsAt (codes ";") p tokens at next
ends_line_at assumed p tokens at next ws is plain e = ends_here (codes ";") p (AtEnd assumed) tokens at next ws is plain e refl (only_end assumed (first_word (words_at tokens next)))

star_leads : (assumed : Bool) → follow (Some (InLine assumed)) (codes "*" ∷ []) ≡ Some (BehindStar assumed)
star_leads true = refl
star_leads false = refl

pub behind_star : (assumed : Bool) (tokens : List Lexed) (at next : ℕ) → words_at tokens at ≡ codes "*" ∷ words_at tokens next → first_word (words_at tokens next) ≡ codes ";" → EndsAt (codes ";") (InLine assumed) tokens at next
behind_star assumed tokens at next is ends = ends_here (codes ";") (InLine assumed) (BehindStar assumed) tokens at next (codes "*" ∷ []) is refl (star_leads assumed) refl (λ e. absurd (clash (sym e ∙ ap (λ w. word_eq w (codes ";")) ends)))

methods_lead : (assumed : Bool) → follow (Some (InLine assumed)) (codes "<methods>" ∷ []) ≡ Some (AtEnd assumed)
methods_lead true = refl
methods_lead false = refl

pub behind_methods : (assumed : Bool) (tokens : List Lexed) (at mid next : ℕ) → mid ≡ at → words_at tokens mid ≡ codes "<methods>" ∷ words_at tokens next → EndsAt (codes ";") (InLine assumed) tokens at next
behind_methods assumed tokens at mid next same is = ends_line_at assumed (InLine assumed) tokens at next (codes "<methods>" ∷ []) (ap (words_at tokens) (sym same) ∙ is) refl (methods_lead assumed)

pub behind_fields : (tokens : List Lexed) (at mid next : ℕ) → mid ≡ at → words_at tokens mid ≡ codes "<fields>" ∷ words_at tokens next → EndsAt (codes ";") (InLine false) tokens at next
behind_fields tokens at mid next same is = ends_line_at false (InLine false) tokens at next (codes "<fields>" ∷ []) (ap (words_at tokens) (sym same) ∙ is) refl refl

pub behind_init : (tokens : List Lexed) (at mid first next : ℕ) (read : ReadArguments) → mid ≡ at → words_at tokens mid ≡ codes "<init>" ∷ words_at tokens first → Reads AreArgumentsOf are_arguments argument_words tokens first next read
    → EndsAt (codes ";") (InLine false) tokens at next
behind_init tokens at mid first next read same is of =
    ends_line_at false (InLine false) tokens at next (codes "<init>" ∷ argument_words of.thing) (ap (words_at tokens) (sym same) ∙ is ∙ ap (λ ws. codes "<init>" ∷ ws) of.spelled) (arguments_plain of.thing of.written) (all_arguments false of.thing (BeforeArguments false) of.written refl)

pub in_init : (tokens : List Lexed) (at mid first next : ℕ) → mid ≡ at → words_at tokens mid ≡ codes "<init>" ∷ words_at tokens first → IsRefused (BeforeArguments false) tokens first next → IsRefused (InLine false) tokens at next
in_init tokens at mid first next same is r = begun (InLine false) (BeforeArguments false) tokens at first next (codes "<init>" ∷ []) (ap (words_at tokens) (sym same) ∙ is) refl refl r

line_none : (assumed : Bool) (w : Word) → is_access w ≡ false → word_eq w (codes "*") ≡ false → is_name w ≡ false → word_eq w (codes "!") ≡ false → word_eq w (codes "<methods>") ≡ false → from_keep_line assumed w ≡ None
    → next_place (InLine assumed) w ≡ None
line_none assumed w access star name bang methods keep = rw (access, star, name, bang, methods) keep

untyped_word : (assumed : Bool) (ws : List Word) → IsTyped ws → is_name (first_word ws) ≡ false → from_keep_line assumed (first_word ws) ≡ None → next_place (InLine assumed) (first_word ws) ≡ None
untyped_word assumed ws typed name keep = line_none assumed (first_word ws) (no_access_word ws typed.bare.access) (no_name (first_word ws) (codes "*") name refl) name
    (not_first (codes "!") ws refl typed.bare.bang) (not_first (codes "<methods>") ws refl typed.methods) keep

no_mark_word : (w : Word) → begins_mark w ≡ false → is_mark w ≡ false
no_mark_word [] e = refl
no_mark_word (c ∷ cs) e =
    let at : nat_eq c 64 ≡ false = e in
    rw at refl

keep_line_none : (w : Word) → is_mark w ≡ false → word_eq w (codes "<fields>") ≡ false → word_eq w (codes "<init>") ≡ false → from_keep_line false w ≡ None
keep_line_none w mark fields init = rw (mark, fields, init) refl

no_keep_line : (ws : List Word) → IsTypedLine ws → from_keep_line false (first_word ws) ≡ None
no_keep_line ws line = keep_line_none (first_word ws) (no_mark_word (first_word ws) line.mark) (not_first (codes "<fields>") ws refl line.fields) (not_first (codes "<init>") ws refl line.init)

-- no type
pub untyped : (tokens : List Lexed) (at next : ℕ) → IsTypedLine (words_at tokens at) → IsNoName tokens at next → IsRefused (InLine false) tokens at next
untyped tokens at next line lack = here (InLine false) tokens at next lack.stays (untyped_word false (words_at tokens at) line.typed lack.other (no_keep_line (words_at tokens at) line)) refl

pub untyped_method : (tokens : List Lexed) (at next : ℕ) → IsTyped (words_at tokens at) → IsNoName tokens at next → IsRefused (InLine true) tokens at next
untyped_method tokens at next typed lack = here (InLine true) tokens at next lack.stays (untyped_word true (words_at tokens at) typed lack.other refl) refl

star_type : (assumed : Bool) (kind : Word) → is_access kind ≡ false → word_eq kind (codes "*") ≡ true → next_place (InLine assumed) kind ≡ Some (BehindStar assumed)
star_type assumed kind access star = rw (access, star) refl

other_type : (assumed : Bool) (kind : Word) → is_access kind ≡ false → word_eq kind (codes "*") ≡ false → is_name kind ≡ true → next_place (InLine assumed) kind ≡ Some (BehindType assumed)
other_type assumed kind access star named = rw (access, star, named) refl

kind_access : (ws rest : List Word) (kind : Word) → ws ≡ kind ∷ rest → BeginWithNone access_word ws → is_access kind ≡ false
kind_access ws rest kind is none = ap (λ xs. is_access (first_word xs)) (sym is) ∙ no_access_word ws none

behind_kind : (assumed : Bool) (tokens : List Lexed) (at mid next : ℕ) (kind : Word) (star : Bool) → word_eq kind (codes "*") ≡ star → words_at tokens at ≡ kind ∷ words_at tokens mid → is_name kind ≡ true
    → IsTyped (words_at tokens at) → IsNoName tokens mid next → IsRefused (InLine assumed) tokens at next
behind_kind assumed tokens at mid next kind true is first named typed lack =
    let same : kind ≡ codes "*" = (bytes_decides kind (codes "*")).0 is in
    let other : BeginOtherwise (codes ";") (words_at tokens mid) = typed.star (words_at tokens mid) (first ∙ ap (λ v. v ∷ words_at tokens mid) same) in
    let access : is_access kind ≡ false = kind_access (words_at tokens at) (words_at tokens mid) kind first typed.bare.access in
    let off : next_place (BehindStar assumed) (first_word (words_at tokens mid)) ≡ None =
    leads_off (is_name (first_word (words_at tokens mid))) (BehindMember assumed) (leads (word_eq (first_word (words_at tokens mid)) (codes ";")) (InBraces assumed) None) lack.other
    ∙ leads_off (word_eq (first_word (words_at tokens mid)) (codes ";")) (InBraces assumed) None (not_first (codes ";") (words_at tokens mid) refl other) in
    begun (InLine assumed) (BehindStar assumed) tokens at mid next (kind ∷ []) first (one_plain kind named) (star_type assumed kind access is) (here (BehindStar assumed) tokens mid next lack.stays off refl)
behind_kind assumed tokens at mid next kind false is first named typed lack =
    let access : is_access kind ≡ false = kind_access (words_at tokens at) (words_at tokens mid) kind first typed.bare.access in
    begun (InLine assumed) (BehindType assumed) tokens at mid next (kind ∷ []) first (one_plain kind named) (other_type assumed kind access is named)
    (here (BehindType assumed) tokens mid next lack.stays (leads_off (is_name (first_word (words_at tokens mid))) (BehindMember assumed) None lack.other) refl)

-- no name behind a type
pub unnamed_behind : (assumed : Bool) (tokens : List Lexed) (at mid next : ℕ) (t : TypePattern) → Reads IsTypeOf is_name alone tokens at mid t → IsTyped (words_at tokens at) → IsNoName tokens mid next → IsRefused (InLine assumed) tokens at next
unnamed_behind assumed tokens at mid next t kind typed lack = behind_kind assumed tokens at mid next kind.thing (word_eq kind.thing (codes "*")) refl kind.spelled kind.written typed lack

first_type_by : (kind : Word) → is_name kind ≡ true → is_access kind ≡ false → is_first_type kind ≡ true
first_type_by kind named access = joined (is_name kind) (not (is_access kind)) named (ap not access)

two_words : (tokens : List Lexed) (at mid behind : ℕ) (kind name : Word) → words_at tokens at ≡ kind ∷ words_at tokens mid → words_at tokens mid ≡ name ∷ words_at tokens behind → words_at tokens at ≡ kind ∷ name ∷ words_at tokens behind
two_words tokens at mid behind kind name first second = first ∙ ap (λ ws. kind ∷ ws) second

-- a type and a name lead on
typed_lead : (assumed : Bool) (tokens : List Lexed) (at mid behind : ℕ) (rest : List Word) (t : TypePattern) (p : NamePattern) → (kind : Reads IsTypeOf is_name alone tokens at mid t) → (name : Reads IsPatternOf is_name alone tokens mid behind p)
    → IsBare (words_at tokens at) → follow (Some (InLine assumed)) (kind.thing ∷ name.thing ∷ rest) ≡ follow (Some (BehindMember assumed)) rest
typed_lead assumed tokens at mid behind rest t p kind name bare =
    typed_words assumed kind.thing name.thing rest (first_type_by kind.thing kind.written (kind_access (words_at tokens at) (words_at tokens mid) kind.thing kind.spelled bare.access)) name.written

member_opens : (assumed : Bool) (w : Word) → word_eq w (codes "(") ≡ true → next_place (BehindMember assumed) w ≡ next_place (BeforeArguments assumed) w
member_opens assumed w e = leads_both (word_eq w (codes "(")) (InArguments assumed) (from_field assumed w) None e

pub in_arguments_of : (assumed : Bool) (tokens : List Lexed) (at mid behind next : ℕ) (t : TypePattern) (p : NamePattern) → Reads IsTypeOf is_name alone tokens at mid t → Reads IsPatternOf is_name alone tokens mid behind p → IsBare (words_at tokens at)
    → IsRefused (BehindMember assumed) tokens behind next → IsRefused (InLine assumed) tokens at next
in_arguments_of assumed tokens at mid behind next t p kind name bare r = begun (InLine assumed) (BehindMember assumed) tokens at behind next (kind.thing ∷ name.thing ∷ []) (two_words tokens at mid behind kind.thing name.thing kind.spelled name.spelled)
    (two_plain kind.thing name.thing [] kind.written name.written refl) (typed_lead assumed tokens at mid behind [] t p kind name bare) r

-- arguments, where the bracket opens
pub from_member : (assumed : Bool) (tokens : List Lexed) (at next : ℕ) (w : Word) → w ≡ first_word (words_at tokens at) → w ≡ codes "(" → IsRefused (BeforeArguments assumed) tokens at next → IsRefused (BehindMember assumed) tokens at next
from_member assumed tokens at next w first is r =
    let opens : word_eq (first_word (words_at tokens at)) (codes "(") ≡ true = ap (λ v. word_eq v (codes "(")) (sym first ∙ is) in
    from_same (BeforeArguments assumed) (BehindMember assumed) tokens at next (member_opens assumed (first_word (words_at tokens at)) opens) (λ e. e) r

-- arguments, which methods that do nothing have
pub from_method : (tokens : List Lexed) (at next : ℕ) → IsRefused (BeforeArguments true) tokens at next → IsRefused (BehindMember true) tokens at next
from_method tokens at next r = from_same (BeforeArguments true) (BehindMember true) tokens at next refl (λ e. e) r

only_field : (w : Word) → word_eq w (codes "(") ≡ false → word_eq w (codes ";") ≡ false → next_place (BehindMember false) w ≡ None
only_field w opens e = leads_off (word_eq w (codes "(")) (InArguments false) (from_field false w) opens ∙ leads_off (word_eq w (codes ";")) (InBraces false) None e

pub behind_field : (tokens : List Lexed) (at mid next : ℕ) (t : TypePattern) (p : NamePattern) (w : Word) → Reads IsTypeOf is_name alone tokens at mid t → Reads IsPatternOf is_name alone tokens mid next p → IsBare (words_at tokens at)
    → w ≡ first_word (words_at tokens next) → (w ≡ codes "(" → ⊥) → EndsAt (codes ";") (InLine false) tokens at next
behind_field tokens at mid next t p w kind name bare first other =
    let off : word_eq (first_word (words_at tokens next)) (codes "(") ≡ false = ap (λ v. word_eq v (codes "(")) (sym first) ∙ other_word w (codes "(") (word_eq w (codes "(")) refl other in
    ends_here (codes ";") (InLine false) (BehindMember false) tokens at next (kind.thing ∷ name.thing ∷ []) (two_words tokens at mid next kind.thing name.thing kind.spelled name.spelled)
    (two_plain kind.thing name.thing [] kind.written name.written refl) (typed_lead false tokens at mid next [] t p kind name bare) refl (only_field (first_word (words_at tokens next)) off)

pub behind_method : (assumed : Bool) (tokens : List Lexed) (at mid behind next : ℕ) (t : TypePattern) (p : NamePattern) (read : ReadArguments) → Reads IsTypeOf is_name alone tokens at mid t → Reads IsPatternOf is_name alone tokens mid behind p
    → Reads AreArgumentsOf are_arguments argument_words tokens behind next read → IsBare (words_at tokens at) → EndsAt (codes ";") (InLine assumed) tokens at next
behind_method assumed tokens at mid behind next t p read kind name of bare =
    ends_line_at assumed (InLine assumed) tokens at next (kind.thing ∷ name.thing ∷ argument_words of.thing) (two_words tokens at mid behind kind.thing name.thing kind.spelled name.spelled ∙ ap (λ ws. kind.thing ∷ name.thing ∷ ws) of.spelled)
    (two_plain kind.thing name.thing (argument_words of.thing) kind.written name.written (arguments_plain of.thing of.written)) (typed_lead assumed tokens at mid behind (argument_words of.thing) t p kind name bare ∙ all_arguments assumed of.thing (BehindMember assumed) of.written refl)

-- what isn't named by one word is named by a type
pub typed_behind : (tokens : List Lexed) (at mid next : ℕ) → mid ≡ at → next ≡ mid → IsBare (words_at tokens at) → ((rest : List Word) → words_at tokens at ≡ codes "*" ∷ rest → BeginOtherwise (codes ";") rest)
    → BeginOtherwise (codes "<methods>") (words_at tokens mid) → IsTyped (words_at tokens at)
typed_behind tokens at mid next first second bare star methods = record { bare = bare; star = star; methods = subst (λ k. BeginOtherwise (codes "<methods>") (words_at tokens k)) first methods }

pub line_behind : (tokens : List Lexed) (at mid fields methods next : ℕ) → mid ≡ at → fields ≡ mid → methods ≡ fields → IsNamed (words_at tokens at) → ((rest : List Word) → words_at tokens at ≡ codes "*" ∷ rest → BeginOtherwise (codes ";") rest)
    → BeginOtherwise (codes "<fields>") (words_at tokens mid) → BeginOtherwise (codes "<methods>") (words_at tokens fields) → BeginOtherwise (codes "<init>") (words_at tokens methods) → IsTypedLine (words_at tokens at)
line_behind tokens at mid fields methods next first second third named star no_fields no_methods no_init = record {
  typed = record { bare = named.bare; star = star; methods = subst (λ k. BeginOtherwise (codes "<methods>") (words_at tokens k)) (second ∙ first) no_methods };
  mark = named.mark;
  fields = subst (λ k. BeginOtherwise (codes "<fields>") (words_at tokens k)) first no_fields;
  init = subst (λ k. BeginOtherwise (codes "<init>") (words_at tokens k)) (third ∙ second ∙ first) no_init;
}

-- ---- lines

only_brace : (assumed : Bool) (w : Word) → word_eq w (codes "{") ≡ false → next_place (BeforeBrace assumed) w ≡ None
only_brace assumed w e = leads_off (word_eq w (codes "{")) (InBraces assumed) None e

pub no_brace : (assumed : Bool) (tokens : List Lexed) (at next : ℕ) → next ≡ at → BeginOtherwise (codes "{") (words_at tokens at) → IsRefused (BeforeBrace assumed) tokens at next
no_brace assumed tokens at next stays other = expected (BeforeBrace assumed) (codes "{") tokens at next (only_brace assumed) refl refl stays other

in_braces : (assumed : Bool) (w : Word) → word_eq w (codes "}") ≡ false → next_place (InBraces assumed) w ≡ next_place (InLine assumed) w
in_braces assumed w closes =
    let off : leads (word_eq w (codes "}")) Between None ≡ None = leads_off (word_eq w (codes "}")) Between None closes in
    ap (λ o. or_else (from_line assumed w) o) off ∙ or_none (from_line assumed w)

pub in_line : (assumed : Bool) (tokens : List Lexed) (at mid line next : ℕ) (reads : List ReadMember) → Reads (AreEach IsMemberOf) (list_all (line_test assumed)) opened tokens at mid reads → line ≡ mid → BeginOtherwise (codes "}") (words_at tokens mid)
    → IsRefused (InLine assumed) tokens line next → IsRefused (BeforeBrace assumed) tokens at next
in_line assumed tokens at mid line next reads each same other r =
    let closes : word_eq (first_word (words_at tokens mid)) (codes "}") ≡ false = not_first (codes "}") (words_at tokens mid) refl other in
    let inner : IsRefused (InLine assumed) tokens mid next = subst (λ k. IsRefused (InLine assumed) tokens k next) same r in
    let outer : IsRefused (InBraces assumed) tokens mid next = from_same (InLine assumed) (InBraces assumed) tokens mid next (in_braces assumed (first_word (words_at tokens mid)) closes) (λ e. e) inner in
    begun (BeforeBrace assumed) (InBraces assumed) tokens at mid next (codes "{" ∷ flat_map member_rule_words each.thing) each.spelled (lines_plain assumed each.thing each.written) (lines_words assumed each.thing each.written) outer

pub unended_line : (tokens : List Lexed) (at mid last next : ℕ) (reads : List ReadCondition) → ReadsEach IsConditionOf is_member_condition condition_words tokens at mid reads → EndsAt (codes ";") (InLine false) tokens mid last → next ≡ last
    → BeginOtherwise (codes ";") (words_at tokens last) → IsRefused (InLine false) tokens at next
unended_line tokens at mid last next reads each ends stays other =
    behind_conditions tokens at mid next reads each (unended (codes ";") (InLine false) tokens mid last next stays ends (not_first (codes ";") (words_at tokens last) refl other))

pub unended_assumed : (tokens : List Lexed) (at mid last next : ℕ) (reads : List ReadCondition) → ReadsEach IsConditionOf is_plain_condition condition_words tokens at mid reads → EndsAt (codes ";") (InLine true) tokens mid last → next ≡ last
    → BeginOtherwise (codes ";") (words_at tokens last) → IsRefused (InLine true) tokens at next
unended_assumed tokens at mid last next reads each ends stays other =
    behind_accesses tokens at mid next reads each (unended (codes ";") (InLine true) tokens mid last next stays ends (not_first (codes ";") (words_at tokens last) refl other))
