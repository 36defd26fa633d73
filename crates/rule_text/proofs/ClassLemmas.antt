-- Class rules by their words.
use Rattle.std.proofs.Common.{◌≡◌, ℕ, Bool, true, false, ◌&&◌, List, [], ◌∷◌, ◌++◌, Option, Some, None, Vec, IsTrue, IsFalse, IfSome, IfNone, if◌then◌else◌, refl, sym, ap, ◌∙◌, codes}
use Rattle.std.specs.List.{list_all, flat_map}
use Rattle.std.specs.declared.alloc.Global.{Global}
use Rattle.std.proofs.lemmas.List.{append_assoc}
use Rattle.rule_text.specs.Tokens.{Word}
use Rattle.rule_text.specs.Spelling.{is_name, marked, bang, kind_word, condition_words, mark_words, is_class_condition, are_names, separated, is_above, above_words, are_members, braces_words, is_member_rule, braces, is_class_rule, class_rule_words}
use Rattle.rule_text.specs.Words.{above_word}
use Rattle.rule_text.specs.Steps.{words_at}
use Rattle.rule_text.specs.Related.{AreEach, AreBoth, IsPatternOf, IsConditionOf, IsMemberOf, is_extends, IsAboveOf, AreMembersOf, IsClassOf}
use Rattle.rule_text.specs.Reads.{Reads, ReadsEach, IsHead, alone}
use Rattle.rule_text.specs.declared.pattern.NamePattern.{NamePattern}
use Rattle.rule_text.specs.declared.rules.ClassKind.{ClassKind}
use Rattle.rule_text.specs.declared.rules.AboveWord.{AboveWord}
use Rattle.rule_text.specs.declared.rules.AboveWord.TheVariants as above
use Rattle.rule_text.specs.declared.rules.Above.{Above as ReadAbove}
use Rattle.rule_text.specs.declared.rules.Condition.{Condition as ReadCondition}
use Rattle.rule_text.specs.declared.rules.MemberRule.{MemberRule as ReadMember}
use Rattle.rule_text.specs.declared.rules.ClassRule.{ClassRule as ReadClass}
use Rattle.rule_text.specs.declared.token.Token.{Token as Lexed}

-- ---- what stands before the names

negation : (tokens : List Lexed) (mid next : ℕ) (negated : Bool) → (IsTrue negated → words_at tokens mid ≡ codes "!" ∷ words_at tokens next) → (IsFalse negated → next ≡ mid) → words_at tokens mid ≡ bang negated ++ words_at tokens next
negation tokens mid next true banged bare = banged refl
negation tokens mid next false banged bare = ap (words_at tokens) (sym (bare refl))

pub head_of : (tokens : List Lexed) (at mid behind next : ℕ) (read : List ReadCondition) (negated : Bool) (kind : ClassKind) → ReadsEach IsConditionOf is_class_condition condition_words tokens at mid read
    → (IsTrue negated → words_at tokens mid ≡ codes "!" ∷ words_at tokens behind) → (IsFalse negated → behind ≡ mid) → words_at tokens behind ≡ kind_word kind ∷ words_at tokens next → IsHead tokens at next read negated kind
head_of tokens at mid behind next read negated kind conditions banged bare is = record {
  conditions = conditions.thing;
  written = conditions.written;
  spelled = conditions.spelled ∙ ap (λ ws. flat_map condition_words conditions.thing ++ ws) (negation tokens mid behind negated banged bare ∙ ap (λ ws. bang negated ++ ws) is);
  related = conditions.related;
}

-- ---- ancestors

pub none_above : (tokens : List Lexed) (at next : ℕ) → next ≡ at → Reads (AreBoth IsAboveOf) is_above above_words tokens at next None
none_above tokens at next same = record { thing = None; written = refl; spelled = ap (words_at tokens) (sym same); related = tt }

abbrev is_marked : Option Word → Bool
is_marked (Some name) = is_name name
is_marked None = true

mark_of : (tokens : List Lexed) (at next : ℕ) (read : Option NamePattern) → IfSome read (Reads IsPatternOf is_name (λ name. marked name ∷ []) tokens at next) → IfNone read (next ≡ at) → Reads (AreBoth IsPatternOf) is_marked mark_words tokens at next read
mark_of tokens at next (Some p) some none = record { thing = Some some.thing; written = some.written; spelled = some.spelled; related = some.related }
mark_of tokens at next None some none = record { thing = None; written = refl; spelled = ap (words_at tokens) (sym none); related = tt }

above_written : (extends : Bool) (mark : Option Word) (name : Word) → is_name name ≡ true → is_marked mark ≡ true → is_above (Some (record { extends = extends; mark = mark; name = name })) ≡ true
above_written extends (Some m) name named is = rw (named, is) refl
above_written extends None name named is = rw named refl

above_spelled : (w : AboveWord) → above_word w ≡ (if is_extends w then codes "extends" else codes "implements")
above_spelled above.Extends = refl
above_spelled above.Implements = refl

above_by : (tokens : List Lexed) (at mid behind next : ℕ) (r : ReadAbove) → words_at tokens at ≡ above_word r.word ∷ words_at tokens mid → Reads (AreBoth IsPatternOf) is_marked mark_words tokens mid behind r.mark
    → Reads IsPatternOf is_name alone tokens behind next r.name → Reads (AreBoth IsAboveOf) is_above above_words tokens at next (Some r)
above_by tokens at mid behind next r first mark name = record {
  thing = Some (record { extends = is_extends r.word; mark = mark.thing; name = name.thing });
  written = above_written (is_extends r.word) mark.thing name.thing name.written mark.written;
  spelled = first ∙ ap (λ w. w ∷ words_at tokens mid) (above_spelled r.word)
      ∙ ap (λ ws. (if is_extends r.word then codes "extends" else codes "implements") ∷ ws)
      (mark.spelled ∙ ap (λ ws. mark_words mark.thing ++ ws) name.spelled ∙ sym (append_assoc (mark_words mark.thing) (name.thing ∷ []) (words_at tokens next)));
  related = record { word = refl; mark = mark.related; name = name.related };
}

pub above_of : (tokens : List Lexed) (at mid behind next : ℕ) (r : ReadAbove) → words_at tokens at ≡ above_word r.word ∷ words_at tokens mid
    → IfSome r.mark (Reads IsPatternOf is_name (λ name. marked name ∷ []) tokens mid behind) → IfNone r.mark (behind ≡ mid)
    → Reads IsPatternOf is_name alone tokens behind next r.name → Reads (AreBoth IsAboveOf) is_above above_words tokens at next (Some r)
above_of tokens at mid behind next r first some none name = above_by tokens at mid behind next r first (mark_of tokens mid behind r.mark some none) name

-- ---- members

pub no_braces : (tokens : List Lexed) (at : ℕ) → Reads (AreBoth AreMembersOf) are_members braces_words tokens at at None
no_braces tokens at = record { thing = None; written = refl; spelled = refl; related = tt }

pub some_braces : (tokens : List Lexed) (at next : ℕ) (rs : Vec ReadMember Global) → Reads (AreEach IsMemberOf) (list_all is_member_rule) braces tokens at next rs.items → Reads (AreBoth AreMembersOf) are_members braces_words tokens at next (Some rs)
some_braces tokens at next rs lines = record { thing = Some lines.thing; written = lines.written; spelled = lines.spelled; related = lines.related }

-- ---- the whole

all_four : (a b c d : Bool) → a ≡ true → b ≡ true → c ≡ true → d ≡ true → (a && b && c && d) ≡ true
all_four a b c d ea eb ec ed = rw (ea, eb, ec, ed) refl

pub class_of : (tokens : List Lexed) (at first second third next : ℕ) (r : ReadClass) → IsHead tokens at first r.conditions.items r.negated r.kind → Reads (AreEach IsPatternOf) are_names separated tokens first second r.names.items
    → Reads (AreBoth IsAboveOf) is_above above_words tokens second third r.above → Reads (AreBoth AreMembersOf) are_members braces_words tokens third next r.members → Reads IsClassOf is_class_rule class_rule_words tokens at next r
class_of tokens at first second third next r head names above members =
    let C : List Word = flat_map condition_words head.conditions in
    let B : List Word = bang r.negated in
    let N : List Word = separated names.thing in
    let A : List Word = above_words above.thing in
    let M : List Word = braces_words members.thing in
    let rest : List Word = words_at tokens next in
    let inner : words_at tokens first ≡ (N ++ (A ++ M)) ++ rest =
    names.spelled ∙ ap (λ ws. N ++ ws) (above.spelled ∙ ap (λ ws. A ++ ws) members.spelled ∙ sym (append_assoc A M rest)) ∙ sym (append_assoc N (A ++ M) rest) in
    record {
      thing = record { conditions = head.conditions; negated = r.negated; kind = r.kind; names = names.thing; above = above.thing; members = members.thing };
      written = all_four (list_all is_class_condition head.conditions) (are_names names.thing) (is_above above.thing) (are_members members.thing) head.written names.written above.written members.written;
      spelled = head.spelled ∙ ap (λ ws. C ++ (B ++ (kind_word r.kind ∷ ws))) inner
          ∙ ap (λ ws. C ++ ws) (sym (append_assoc B (kind_word r.kind ∷ (N ++ (A ++ M))) rest)) ∙ sym (append_assoc C (B ++ (kind_word r.kind ∷ (N ++ (A ++ M)))) rest);
      related = record { conditions = head.related; negated = refl; kind = refl; names = names.related; above = above.related; members = members.related };
    }
