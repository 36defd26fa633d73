-- The lines of faults, and the part of a text that can be read.
use Rattle.std.proofs.Common.{◌≡◌, inl, inr, ◌<◌, ◌≤◌, ℕ, suc, Bool, true, false, List, [], ◌∷◌, map, length, take, drop, filter, nat_eq, slice_index_or, Option, Some, None, MatchOption, refl, sym, ap, subst, ◌∙◌, eqb-true, eq-or-lt_of_le, cond, arith}
use Rattle.std.specs.Str.{IsUtf8, IsValidUpTo}
use Rattle.std.proofs.lemmas.List.{take-append-drop}
use Rattle.rule_text.specs.Tokens.{tokens_from, last_line}
use Rattle.rule_text.specs.Faults.{IsReadable, Whole, Front, HasRuleFault}
use Rattle.rule_text.specs.Fronts.{line_ends, token_view, AreTokensOf, IsWholeLen}
use Rattle.rule_text.specs.Fault.{IsWordBy, IsFault, IsFaultBy}
use Rattle.rule_text.specs.Halts.{IsRefusedBehind}
use Rattle.rule_text.specs.declared.fault.RuleFault.{RuleFault}
use Rattle.rule_text.specs.declared.fault.RuleFault.TheVariants as fault
use Rattle.rule_text.specs.declared.token.Token.{Token as Lexed}
use Rattle.rule_text.specs.declared.token.Tokens.{Tokens}
use Rattle.rule_text.proofs.HaltLemmas.{line_at, option_fault, rule_fault}
use Rattle.rule_text.proofs.SyntaxLemmas.{word_fault, end_fault, byte_fault}

pub front_readable : (text : List ℕ) (bad : Option ℕ) (at n : ℕ) → MatchOption bad (IsUtf8 text) (IsValidUpTo text) → bad ≡ Some at → IsWholeLen (take at text) n → IsReadable text (take n (take at text))
front_readable text bad at n known is whole =
    let valid : IsValidUpTo text at = subst (λ o. MatchOption o (IsUtf8 text) (IsValidUpTo text)) is known in
    Front text (take n (take at text)) (drop n (take at text)) at valid (take-append-drop n (take at text)) whole.run whole.front

pub all_readable : (text : List ℕ) (bad : Option ℕ) → MatchOption bad (IsUtf8 text) (IsValidUpTo text) → bad ≡ None → IsReadable text text
all_readable text bad known is = Whole text (subst (λ o. MatchOption o (IsUtf8 text) (IsValidUpTo text)) is known)

pub word_by : (xs : List Lexed) (k : ℕ) (t : Lexed) → k < length xs → slice_index_or xs k t ≡ t → IsRefusedBehind xs 0 k → IsWordBy xs t.line
word_by xs k t inside is refused = record { place = k; refused = refused; inside = inside; tells = line_at xs k t inside is }

-- ---- a text with a token has a byte that ends no line

ends_one : (c : ℕ) (cs : List ℕ) (b : Bool) → nat_eq 10 c ≡ b → line_ends cs ≤ length cs → line_ends (c ∷ cs) ≤ length (c ∷ cs)
ends_one c cs true e h = rw e (omega arith)
ends_one c cs false e h = rw e (omega arith)

ends_most : (text : List ℕ) → line_ends text ≤ length text
ends_most [] = omega arith
ends_most (c ∷ cs) = ends_one c cs (nat_eq 10 c) refl (ends_most cs)

feeds_alone : (c : ℕ) (cs : List ℕ) (b : Bool) → nat_eq 10 c ≡ b → line_ends (c ∷ cs) ≡ length (c ∷ cs)
    → (line_ends cs ≡ length cs → (line : ℕ) → tokens_from line false [] cs ≡ []) → (line : ℕ) → tokens_from line false [] (c ∷ cs) ≡ []
feeds_alone c cs true e all more line =
    let same : suc (line_ends cs) ≡ suc (length cs) = ap (λ b. length (cond b (c ∷ filter (nat_eq 10) cs) (filter (nat_eq 10) cs))) (sym e) ∙ all in
    subst (λ x. tokens_from line false [] (x ∷ cs) ≡ []) (eqb-true 10 c e) (more (omega arith) (suc line))
feeds_alone c cs false e all more line =
    let same : line_ends cs ≡ suc (length cs) = ap (λ b. length (cond b (c ∷ filter (nat_eq 10) cs) (filter (nat_eq 10) cs))) (sym e) ∙ all in
    let most : line_ends cs ≤ length cs = ends_most cs in
    let no : ⊥ = omega arith in
    absurd no

only_feeds : (text : List ℕ) → line_ends text ≡ length text → (line : ℕ) → tokens_from line false [] text ≡ []
only_feeds [] all line = refl
only_feeds (c ∷ cs) all line = feeds_alone c cs (nat_eq 10 c) refl all (only_feeds cs) line

no_items : (xs : List Lexed) → map token_view xs ≡ [] → 0 < length xs → ⊥
no_items [] none some = omega arith
no_items (x ∷ xs) none some = cc

pub few_ends : (text : List ℕ) (tokens : Tokens) → AreTokensOf text tokens → 0 < length tokens.items.items → tokens.ends < length text
few_ends text tokens are some =
    let most : line_ends text ≤ length text = ends_most text in
    let ends : tokens.ends ≡ line_ends text = are.ends in
    let other : line_ends text ≡ length text → ⊥ = λ all. no_items tokens.items.items (are.items ∙ only_feeds text all 1) some in
    let less : line_ends text < length text = elim (eq-or-lt_of_le most) [ inl all ↦ absurd (other all) | inr l ↦ l ] in
    rw ends less

-- what the tokens and the bad bytes tell of the fault is what the text tells
pub faults : (text front : List ℕ) (bad : Option ℕ) (tokens : Tokens) (found : RuleFault)
    → MatchOption bad (IsUtf8 text) (IsValidUpTo text) → IsReadable text front → (bad ≡ None → front ≡ text) → AreTokensOf front tokens
    → IsFaultBy tokens bad found → IsFault text found
faults text front bad tokens fault.NoMemory known readable all are by = tt
faults text front bad tokens (fault.Syntax line) known readable all are (inl by) = word_fault text front tokens line readable are by
faults text front bad tokens (fault.Syntax line) known readable all are (inr ends) =
    let characters : IsUtf8 text = subst (λ o. MatchOption o (IsUtf8 text) (IsValidUpTo text)) ends.0 known in
    let last : line ≡ last_line text = ends.1 ∙ ap suc are.ends ∙ ap last_line (all ends.0) in
    subst (λ l. HasRuleFault text (fault.Syntax l)) (sym last) (end_fault text front tokens (all ends.0) characters are ends.2)
faults text front bad tokens (fault.Option line) known readable all are by = option_fault text front tokens line readable are by
faults text front bad tokens (fault.NotUtf8 at) known readable all are by = byte_fault text front tokens at readable (subst (λ o. MatchOption o (IsUtf8 text) (IsValidUpTo text)) by.0 known) are by.1
faults text front bad tokens (fault.TooMany count) known readable all are by = rule_fault text front tokens count readable are by

-- no token has to be read where memory runs out
pub no_memory : (text : List ℕ) (found : RuleFault) → found ≡ fault.NoMemory → IsFault text found
no_memory text found is = subst (IsFault text) (sym is) tt
