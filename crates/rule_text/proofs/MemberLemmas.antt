-- Lines of members by their words.
use Rattle.std.proofs.Common.{◌≡◌, ℕ, Bool, true, false, ◌&&◌, List, [], ◌∷◌, ◌++◌, refl, sym, ap, ◌∙◌, codes}
use Rattle.std.specs.List.{list_all, flat_map}
use Rattle.std.proofs.lemmas.List.{append_assoc}
use Rattle.std.specs.Cmp.Lexicographic.{bytes_decides}
use Rattle.rule_text.specs.Tokens.{Word}
use Rattle.rule_text.specs.Rules.{Condition, Mark, Has, What, All, Fields, Methods, Init, Field, Method, MemberRule}
use Rattle.rule_text.specs.Spelling.{word_eq, is_name, marked, bang, access_word, condition_words, is_first_type, is_what, is_assumed_what, what_words, are_arguments, argument_words, is_member_condition, member_rule_words, braces}
use Rattle.rule_text.specs.Steps.{words_at, BeginWithNone}
use Rattle.rule_text.specs.Related.{AreEach, IsPatternOf, IsTypeOf, AreArgumentsOf, IsConditionOf, OfMark, OfAccess, IsWhatOf, OfAll, OfFields, OfMethods, OfInit, OfField, OfMethod, IsMemberOf}
use Rattle.rule_text.specs.Reads.{Reads, ReadsEach, alone}
use Rattle.rule_text.specs.declared.pattern.NamePattern.{NamePattern}
use Rattle.rule_text.specs.declared.rules.Access.{Access}
use Rattle.rule_text.specs.declared.rules.Access.TheVariants as access
use Rattle.rule_text.specs.declared.rules.TypePattern.{TypePattern}
use Rattle.rule_text.specs.declared.rules.Arguments.{Arguments as ReadArguments}
use Rattle.rule_text.specs.declared.rules.Condition.TheVariants as condition
use Rattle.rule_text.specs.declared.rules.What.TheVariants as what
use Rattle.rule_text.specs.declared.rules.MemberRule.{MemberRule as ReadMember}
use Rattle.rule_text.specs.declared.token.Token.{Token as Lexed}
use Rattle.rule_text.proofs.ReadLemmas.{each_more, all_more, spelled_more}
use Rattle.rule_text.proofs.ConditionLemmas.{banged}

-- ---- conditions

pub member_mark : (tokens : List Lexed) (at next : ℕ) (p : NamePattern) → Reads IsPatternOf is_name (λ name. marked name ∷ []) tokens at next p
    → Reads IsConditionOf is_member_condition condition_words tokens at next (condition.Mark p)
member_mark tokens at next p one = record { thing = Mark one.thing; written = one.written; spelled = one.spelled; related = OfMark p one.thing one.related }

-- an access word, of a test that passes each
pub any_access : (is : Condition → Bool) (tokens : List Lexed) (at next : ℕ) (negated : Bool) (access : Access) → is (Has negated access) ≡ true
    → words_at tokens at ≡ bang negated ++ (access_word access ∷ words_at tokens next) → Reads IsConditionOf is condition_words tokens at next (condition.Access negated access)
any_access is tokens at next negated access passes spelled = record {
  thing = Has negated access;
  written = passes;
  spelled = spelled ∙ banged negated (access_word access) (words_at tokens next);
  related = OfAccess negated access;
}

-- ---- what a line names

other_word : (w q : Word) (b : Bool) → word_eq w q ≡ b → (w ≡ q → ⊥) → b ≡ false
other_word w q true e other = absurd (other ((bytes_decides w q).0 e))
other_word w q false e other = refl

no_access : (w : Word) → ((name : Access) → access_word name ≡ w → ⊥) → (name : Access) → word_eq w (access_word name) ≡ false
no_access w none name = other_word w (access_word name) (word_eq w (access_word name)) refl (λ e. none name (sym e))

pub first_type : (w : Word) → is_name w ≡ true → ((name : Access) → access_word name ≡ w → ⊥) → is_first_type w ≡ true
first_type w named none = rw (
  named,
  no_access w none access.Public,
  no_access w none access.Final,
  no_access w none access.Abstract,
  no_access w none access.Private,
  no_access w none access.Protected,
  no_access w none access.Static,
  no_access w none access.Synchronized,
  no_access w none access.Native,
  no_access w none access.Strict,
  no_access w none access.Volatile,
  no_access w none access.Transient,
  no_access w none access.Varargs,
  no_access w none access.Bridge,
  no_access w none access.Synthetic,
) refl

typed : (tokens : List Lexed) (at next : ℕ) (t : TypePattern) → BeginWithNone access_word (words_at tokens at) → (one : Reads IsTypeOf is_name alone tokens at next t) → is_first_type one.thing ≡ true
typed tokens at next t none one = first_type one.thing one.written (λ name e. none name (words_at tokens next) (one.spelled ∙ ap (λ w. w ∷ words_at tokens next) (sym e)))

pub what_all : (tokens : List Lexed) (at next : ℕ) → words_at tokens at ≡ codes "*" ∷ words_at tokens next → Reads IsWhatOf is_what what_words tokens at next what.All
what_all tokens at next is = record { thing = All; written = refl; spelled = is; related = OfAll }

pub what_fields : (tokens : List Lexed) (at next : ℕ) → words_at tokens at ≡ codes "<fields>" ∷ words_at tokens next → Reads IsWhatOf is_what what_words tokens at next what.Fields
what_fields tokens at next is = record { thing = Fields; written = refl; spelled = is; related = OfFields }

pub what_methods : (tokens : List Lexed) (at next : ℕ) → words_at tokens at ≡ codes "<methods>" ∷ words_at tokens next → Reads IsWhatOf is_what what_words tokens at next what.Methods
what_methods tokens at next is = record { thing = Methods; written = refl; spelled = is; related = OfMethods }

pub what_init : (tokens : List Lexed) (at mid next : ℕ) (read : ReadArguments) → words_at tokens at ≡ codes "<init>" ∷ words_at tokens mid → Reads AreArgumentsOf are_arguments argument_words tokens mid next read
    → Reads IsWhatOf is_what what_words tokens at next (what.Init read)
what_init tokens at mid next read is of = record { thing = Init of.thing; written = of.written; spelled = is ∙ ap (λ ws. codes "<init>" ∷ ws) of.spelled; related = OfInit read of.thing of.related }

pub what_field : (tokens : List Lexed) (at mid next : ℕ) (t : TypePattern) (p : NamePattern) → BeginWithNone access_word (words_at tokens at) → Reads IsTypeOf is_name alone tokens at mid t → Reads IsPatternOf is_name alone tokens mid next p
    → Reads IsWhatOf is_what what_words tokens at next (what.Field t p)
what_field tokens at mid next t p none kind name = record {
  thing = Field kind.thing name.thing;
  written = rw (typed tokens at mid t none kind, name.written) refl;
  spelled = kind.spelled ∙ ap (λ ws. kind.thing ∷ ws) name.spelled;
  related = OfField t p kind.thing name.thing kind.related name.related;
}

pub what_method : (tokens : List Lexed) (at mid behind next : ℕ) (t : TypePattern) (p : NamePattern) (read : ReadArguments) → BeginWithNone access_word (words_at tokens at) → Reads IsTypeOf is_name alone tokens at mid t
    → Reads IsPatternOf is_name alone tokens mid behind p → Reads AreArgumentsOf are_arguments argument_words tokens behind next read → Reads IsWhatOf is_what what_words tokens at next (what.Method t p read)
what_method tokens at mid behind next t p read none kind name of = record {
  thing = Method kind.thing name.thing of.thing;
  written = rw (typed tokens at mid t none kind, name.written, of.written) refl;
  spelled = kind.spelled ∙ ap (λ ws. kind.thing ∷ ws) (name.spelled ∙ ap (λ ws. name.thing ∷ ws) of.spelled);
  related = OfMethod t p read kind.thing name.thing of.thing kind.related name.related of.related;
}

pub assumed_all : (tokens : List Lexed) (at next : ℕ) → words_at tokens at ≡ codes "*" ∷ words_at tokens next → Reads IsWhatOf is_assumed_what what_words tokens at next what.All
assumed_all tokens at next is = record { thing = All; written = refl; spelled = is; related = OfAll }

pub assumed_methods : (tokens : List Lexed) (at next : ℕ) → words_at tokens at ≡ codes "<methods>" ∷ words_at tokens next → Reads IsWhatOf is_assumed_what what_words tokens at next what.Methods
assumed_methods tokens at next is = record { thing = Methods; written = refl; spelled = is; related = OfMethods }

pub assumed_method : (tokens : List Lexed) (at mid behind next : ℕ) (t : TypePattern) (p : NamePattern) (read : ReadArguments) → BeginWithNone access_word (words_at tokens at) → Reads IsTypeOf is_name alone tokens at mid t
    → Reads IsPatternOf is_name alone tokens mid behind p → Reads AreArgumentsOf are_arguments argument_words tokens behind next read → Reads IsWhatOf is_assumed_what what_words tokens at next (what.Method t p read)
assumed_method tokens at mid behind next t p read none kind name of = record {
  thing = Method kind.thing name.thing of.thing;
  written = rw (typed tokens at mid t none kind, name.written, of.written) refl;
  spelled = kind.spelled ∙ ap (λ ws. kind.thing ∷ ws) (name.spelled ∙ ap (λ ws. name.thing ∷ ws) of.spelled);
  related = OfMethod t p read kind.thing name.thing of.thing kind.related name.related of.related;
}

-- ---- lines

-- a line, of tests of its conditions and of what it names
pub line_of : (is_condition : Condition → Bool) (is_named : What → Bool) (tokens : List Lexed) (at mid last next : ℕ) (r : ReadMember)
    → ReadsEach IsConditionOf is_condition condition_words tokens at mid r.conditions.items → Reads IsWhatOf is_named what_words tokens mid last r.what
    → words_at tokens last ≡ codes ";" ∷ words_at tokens next → Reads IsMemberOf (λ m. list_all is_condition m.conditions && is_named m.what) member_rule_words tokens at next r
line_of is_condition is_named tokens at mid last next r conditions named ends = record {
  thing = record { conditions = conditions.thing; what = named.thing };
  written = rw (conditions.written, named.written) refl;
  spelled = conditions.spelled ∙ ap (λ ws. flat_map condition_words conditions.thing ++ ws) (named.spelled ∙ ap (λ ws. what_words named.thing ++ ws) ends ∙ sym (append_assoc (what_words named.thing) (codes ";" ∷ []) (words_at tokens next)))
      ∙ sym (append_assoc (flat_map condition_words conditions.thing) (what_words named.thing ++ codes ";" ∷ []) (words_at tokens next));
  related = record { conditions = conditions.related; what = named.related };
}

-- an open brace and lines
abbrev pub opened : List MemberRule → List Word
opened ms = codes "{" ∷ flat_map member_rule_words ms

pub no_lines : (is : MemberRule → Bool) (tokens : List Lexed) (at next : ℕ) (rs : List ReadMember) → rs ≡ [] → words_at tokens at ≡ codes "{" ∷ words_at tokens next → Reads (AreEach IsMemberOf) (list_all is) opened tokens at next rs
no_lines is tokens at next rs none opens = record { thing = []; written = refl; spelled = opens; related = rw none tt }

pub more_lines : (is : MemberRule → Bool) (tokens : List Lexed) (at mid next : ℕ) (rs all : List ReadMember) (r : ReadMember) → all ≡ rs ++ r ∷ []
    → Reads (AreEach IsMemberOf) (list_all is) opened tokens at mid rs → Reads IsMemberOf is member_rule_words tokens mid next r → Reads (AreEach IsMemberOf) (list_all is) opened tokens at next all
more_lines is tokens at mid next rs all r same lines line = record {
  thing = lines.thing ++ line.thing ∷ [];
  written = all_more is lines.thing line.thing lines.written line.written;
  spelled = lines.spelled ∙ ap (λ ws. codes "{" ∷ ws) (spelled_more member_rule_words lines.thing line.thing (words_at tokens mid) (words_at tokens next) line.spelled);
  related = rw same (each_more IsMemberOf rs lines.thing r line.thing lines.related line.related);
}

pub closed : (is : MemberRule → Bool) (tokens : List Lexed) (at mid next : ℕ) (rs : List ReadMember) → Reads (AreEach IsMemberOf) (list_all is) opened tokens at mid rs → words_at tokens mid ≡ codes "}" ∷ words_at tokens next
    → Reads (AreEach IsMemberOf) (list_all is) braces tokens at next rs
closed is tokens at mid next rs lines closes = record {
  thing = lines.thing;
  written = lines.written;
  spelled = lines.spelled ∙ ap (λ ws. codes "{" ∷ ws) (ap (λ ws. flat_map member_rule_words lines.thing ++ ws) closes ∙ sym (append_assoc (flat_map member_rule_words lines.thing) (codes "}" ∷ []) (words_at tokens next)));
  related = lines.related;
}
