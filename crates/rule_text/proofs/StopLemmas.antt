-- Why a mark or an argument can't be read.
use Rattle.std.proofs.Common.{◌≡◌, ◌<◌, ◌≤◌, ◌-◌, ℕ, Bool, true, false, nat_eq, eqb-true, List, [], ◌∷◌, length, take, drop, slice_index_or, refl, sym, ap, ◌∙◌, codes, arith}
use Rattle.rule_text.specs.Tokens.{Word}
use Rattle.rule_text.specs.Spelling.{is_name, is_argument}
use Rattle.rule_text.specs.Steps.{words_at, first_word, AtSyntax, IsNoName}
use Rattle.rule_text.specs.Refusals.{begins_mark}
use Rattle.rule_text.specs.Stops.{IsNoMark, IsNoArgument}
use Rattle.rule_text.specs.declared.stop.Stop.{Stop}
use Rattle.rule_text.specs.declared.stop.Stop.TheVariants as stop
use Rattle.rule_text.specs.declared.token.Token.{Token as Lexed}
use Rattle.rule_text.proofs.StepLemmas.{first_at, marked_by}

pub no_mark : (tokens : List Lexed) (at : ℕ) (t : Lexed) → at < length tokens → slice_index_or tokens at t ≡ t → 1 ≤ length t.word.now → slice_index_or t.word.now 0 0 ≡ 64
    → is_name (take (length t.word.now - 1) (drop 1 t.word.now)) ≡ false → IsNoMark tokens at at
no_mark tokens at t inside is some first other = record {
  stays = refl;
  name = take (length t.word.now - 1) (drop 1 t.word.now);
  written = sym (first_at tokens at t inside is) ∙ marked_by t.word.now some first;
  other = other;
}

no_byte : (w : Word) → length w < 1 → begins_mark w ≡ false
no_byte [] short = refl
no_byte (c ∷ cs) short =
    let no : ⊥ = omega (arith, short) in
    absurd no

other_byte : (c : ℕ) (cs : List ℕ) (b : Bool) → nat_eq c 64 ≡ b → (c ≡ 64 → ⊥) → begins_mark (c ∷ cs) ≡ false
other_byte c cs true e other = absurd (other (eqb-true c 64 e))
other_byte c cs false e other = e

other_front : (w : Word) → (slice_index_or w 0 0 ≡ 64 → ⊥) → begins_mark w ≡ false
other_front [] other = refl
other_front (c ∷ cs) other = other_byte c cs (nat_eq c 64) refl other

-- a token that doesn't begin with `@`
pub short_mark : (tokens : List Lexed) (at : ℕ) (t : Lexed) → at < length tokens → slice_index_or tokens at t ≡ t → length t.word.now < 1 → begins_mark (first_word (words_at tokens at)) ≡ false
short_mark tokens at t inside is short = ap begins_mark (sym (first_at tokens at t inside is)) ∙ no_byte t.word.now short

pub other_mark : (tokens : List Lexed) (at : ℕ) (t : Lexed) → at < length tokens → slice_index_or tokens at t ≡ t → (slice_index_or t.word.now 0 0 ≡ 64 → ⊥) → begins_mark (first_word (words_at tokens at)) ≡ false
other_mark tokens at t inside is other = ap begins_mark (sym (first_at tokens at t inside is)) ∙ other_front t.word.now other

pub dots : (tokens : List Lexed) (at : ℕ) (w : Word) → w ≡ first_word (words_at tokens at) → w ≡ codes "..." → IsNoArgument tokens at at
dots tokens at w first is = record { stays = refl; other = ap is_argument (sym first ∙ is) }

no_argument : (w : Word) → is_name w ≡ false → is_argument w ≡ false
no_argument w other = rw other refl

pub no_type : (tokens : List Lexed) (at next : ℕ) (s : Stop) → AtSyntax (IsNoName tokens at next) s → AtSyntax (IsNoArgument tokens at next) s
no_type tokens at next stop.NoMemory none = tt
no_type tokens at next stop.Syntax none = record { stays = none.stays; other = no_argument (first_word (words_at tokens at)) none.other }
