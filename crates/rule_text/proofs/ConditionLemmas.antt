-- Conditions by their words.
use Rattle.std.proofs.Common.{◌≡◌, ℕ, Bool, true, false, Option, Some, None, is_some, List, [], ◌∷◌, ◌++◌, refl, sym, ap, ◌∙◌, codes}
use Rattle.std.specs.Cmp.Lexicographic.{bytes_decides}
use Rattle.rule_text.specs.Tokens.{Word}
use Rattle.rule_text.specs.Rules.{Mark, Has}
use Rattle.rule_text.specs.Spelling.{word_eq, is_name, marked, bang, access_word, kind_word, condition_words, is_class_condition}
use Rattle.rule_text.specs.Words.{is_of_class, IsNameOf}
use Rattle.rule_text.specs.Steps.{words_at, first_word}
use Rattle.rule_text.specs.Related.{IsPatternOf, IsConditionOf, OfMark, OfAccess}
use Rattle.rule_text.specs.Reads.{Reads}
use Rattle.rule_text.specs.declared.pattern.NamePattern.{NamePattern}
use Rattle.rule_text.specs.declared.rules.Access.{Access}
use Rattle.rule_text.specs.declared.rules.ClassKind.{ClassKind}
use Rattle.rule_text.specs.declared.rules.ClassKind.TheVariants as class
use Rattle.rule_text.specs.declared.rules.Condition.TheVariants as condition
use Rattle.rule_text.specs.declared.token.Token.{Token as Lexed}

marks_class : (w : Word) (b : Bool) → word_eq w (codes "interface") ≡ b → is_name w ≡ true → (kind_word class.Annotation ≡ marked w → ⊥) → is_class_condition (Mark w) ≡ true
marks_class w true e named other = absurd (other (ap marked (sym ((bytes_decides w (codes "interface")).0 e))))
marks_class w false e named other = rw (named, e) refl

pub class_mark : (tokens : List Lexed) (at next : ℕ) (p : NamePattern) → Reads IsPatternOf is_name (λ name. marked name ∷ []) tokens at next p
    → (kind_word class.Annotation ≡ first_word (words_at tokens at) → ⊥) → Reads IsConditionOf is_class_condition condition_words tokens at next (condition.Mark p)
class_mark tokens at next p one other = record {
  thing = Mark one.thing;
  written = marks_class one.thing (word_eq one.thing (codes "interface")) refl one.written (λ e. other (e ∙ ap first_word (sym one.spelled)));
  spelled = one.spelled;
  related = OfMark p one.thing one.related;
}

pub banged : (negated : Bool) (w : Word) (ws : List Word) → bang negated ++ (w ∷ ws) ≡ (bang negated ++ w ∷ []) ++ ws
banged true w ws = refl
banged false w ws = refl

pub class_access : (tokens : List Lexed) (at next : ℕ) (negated : Bool) (access : Access) → words_at tokens at ≡ bang negated ++ (access_word access ∷ words_at tokens next)
    → is_of_class access ≡ true → Reads IsConditionOf is_class_condition condition_words tokens at next (condition.Access negated access)
class_access tokens at next negated access spelled of_class = record {
  thing = Has negated access;
  written = of_class;
  spelled = spelled ∙ banged negated (access_word access) (words_at tokens next);
  related = OfAccess negated access;
}

pub no_kind : (tokens : List Lexed) (at : ℕ) (w : Word) (found : Option ClassKind) → IsNameOf kind_word w found → w ≡ first_word (words_at tokens at) → is_some found ≡ false
    → kind_word class.Annotation ≡ first_word (words_at tokens at) → ⊥
no_kind tokens at w (Some kind) named is none same = cc
no_kind tokens at w None named is none same = named class.Annotation (same ∙ sym is)
