-- Arguments by their words.
use Rattle.std.proofs.Common.{◌≡◌, ℕ, Bool, true, false, List, [], ◌∷◌, ◌++◌, refl, sym, ap, ◌∙◌, codes}
use Rattle.std.specs.List.{list_all}
use Rattle.std.proofs.lemmas.List.{append_assoc}
use Rattle.std.specs.Cmp.Lexicographic.{bytes_decides}
use Rattle.rule_text.specs.Tokens.{Word}
use Rattle.rule_text.specs.Rules.{Any, These}
use Rattle.rule_text.specs.Spelling.{word_eq, is_name, is_argument, are_some, are_arguments, argument_words, separated}
use Rattle.rule_text.specs.Steps.{words_at, first_word}
use Rattle.rule_text.specs.Related.{AreEach, IsTypeOf, AreArgumentsOf}
use Rattle.rule_text.specs.Reads.{Reads, alone}
use Rattle.rule_text.specs.declared.rules.TypePattern.{TypePattern}
use Rattle.rule_text.specs.declared.rules.Arguments.{Arguments as ReadArguments}
use Rattle.rule_text.specs.declared.rules.Arguments.TheVariants as arguments
use Rattle.rule_text.specs.declared.token.Token.{Token as Lexed}

no_dots : (w : Word) (b : Bool) → word_eq w (codes "...") ≡ b → is_name w ≡ true → (w ≡ codes "..." → ⊥) → is_argument w ≡ true
no_dots w true e named other = absurd (other ((bytes_decides w (codes "...")).0 e))
no_dots w false e named other = rw (named, e) refl

-- a type that isn't `...`
pub argument_of : (tokens : List Lexed) (at next : ℕ) (w : Word) (t : TypePattern) → Reads IsTypeOf is_name alone tokens at next t → w ≡ first_word (words_at tokens at) → (w ≡ codes "..." → ⊥) → Reads IsTypeOf is_argument alone tokens at next t
argument_of tokens at next w t one is other = record {
  thing = one.thing;
  written = no_dots one.thing (word_eq one.thing (codes "...")) refl one.written (λ e. other (is ∙ ap first_word one.spelled ∙ e));
  spelled = one.spelled;
  related = one.related;
}

some_are : (is : Word → Bool) (ws : List Word) → are_some is ws ≡ true → list_all is ws ≡ true
some_are is [] some = cc
some_are is (w ∷ ws) some = some

pub no_arguments : (tokens : List Lexed) (at start next : ℕ) (read : ReadArguments) → words_at tokens at ≡ codes "(" ∷ words_at tokens start → words_at tokens start ≡ codes ")" ∷ words_at tokens next
    → AreArgumentsOf read (These []) → Reads AreArgumentsOf are_arguments argument_words tokens at next read
no_arguments tokens at start next read opens closes of = record { thing = These []; written = refl; spelled = opens ∙ ap (λ ws. codes "(" ∷ ws) closes; related = of }

pub any_arguments : (tokens : List Lexed) (at start dots next : ℕ) → words_at tokens at ≡ codes "(" ∷ words_at tokens start → words_at tokens start ≡ codes "..." ∷ words_at tokens dots
    → words_at tokens dots ≡ codes ")" ∷ words_at tokens next → Reads AreArgumentsOf are_arguments argument_words tokens at next arguments.Any
any_arguments tokens at start dots next opens any closes = record {
  thing = Any;
  written = refl;
  spelled = opens ∙ ap (λ ws. codes "(" ∷ ws) (any ∙ ap (λ ws. codes "..." ∷ ws) closes);
  related = tt;
}

pub these_arguments : (tokens : List Lexed) (at start last next : ℕ) (types : List TypePattern) (read : ReadArguments) → words_at tokens at ≡ codes "(" ∷ words_at tokens start
    → Reads (AreEach IsTypeOf) (are_some is_argument) separated tokens start last types → words_at tokens last ≡ codes ")" ∷ words_at tokens next
    → ((ws : List Word) → AreEach IsTypeOf types ws → AreArgumentsOf read (These ws)) → Reads AreArgumentsOf are_arguments argument_words tokens at next read
these_arguments tokens at start last next types read opens each closes of = record {
  thing = These each.thing;
  written = some_are is_argument each.thing each.written;
  spelled = opens ∙ ap (λ ws. codes "(" ∷ ws) (each.spelled ∙ ap (λ ws. separated each.thing ++ ws) closes ∙ sym (append_assoc (separated each.thing) (codes ")" ∷ []) (words_at tokens next)));
  related = of each.thing each.related;
}
