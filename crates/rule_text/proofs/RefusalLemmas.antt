-- Refusals of parts are refusals of what they stand in.
use Rattle.std.proofs.Common.{◌≡◌, ◌<◌, ℕ, Bool, true, false, List, [], ◌∷◌, ◌++◌, Option, Some, None, Result, Ok, Err, IsErrAnd, IfErr, length, refl, sym, ap, subst, ◌∙◌}
use Rattle.std.proofs.lemmas.List.{append_assoc}
use Rattle.std.specs.Cmp.Lexicographic.{bytes_decides}
use Rattle.rule_text.specs.Tokens.{Word}
use Rattle.rule_text.specs.Spelling.{word_eq, is_name, begins_option}
use Rattle.rule_text.specs.Places.{Place, next_place, follow, is_final, or_else, leads}
use Rattle.rule_text.specs.Refusals.{IsRefused, EndsAt}
use Rattle.rule_text.specs.Steps.{words_at, first_word, BeginOtherwise, AtSyntax}
use Rattle.rule_text.specs.declared.stop.Stop.{Stop}
use Rattle.rule_text.specs.declared.stop.Stop.TheVariants as stop
use Rattle.rule_text.specs.declared.token.Token.{Token as Lexed}
use Rattle.rule_text.proofs.OptionLemmas.{ArePlain, both_plain}
use Rattle.rule_text.proofs.PlaceLemmas.{clash, behind_all}

pub stopped : {P Q : Type 0} (s : Stop) → (P → Q) → AtSyntax P s → AtSyntax Q s
stopped stop.NoMemory f p = tt
stopped stop.Syntax f p = f p

-- what is known of a stop that is handed on
pub passed : {T : Type 0} {P Q : Type 0} (r : Result T Stop) (s : Stop) → IsErrAnd r (λ e. e ≡ s) → (P → Q) → AtSyntax P s → IfErr r (AtSyntax Q)
passed (Ok x) s is f p = absurd is
passed {T} {P} {Q} (Err e) s is f p = subst (λ e. AtSyntax Q e) (sym is) (stopped s f p)

-- what is known wherever reading stops
pub anyway : {T : Type 0} {P : Type 0} (r : Result T Stop) → P → IfErr r (AtSyntax P)
anyway (Ok x) p = tt
anyway (Err stop.NoMemory) p = tt
anyway (Err stop.Syntax) p = p

pub leads_both : (b : Bool) (p : Place) (o r : Option Place) → b ≡ true → leads b p o ≡ leads b p r
leads_both true p o r e = refl
leads_both false p o r e = absurd (clash e)

pub leads_off : (b : Bool) (p : Place) (o : Option Place) → b ≡ false → leads b p o ≡ o
leads_off true p o e = absurd (clash (sym e))
leads_off false p o e = refl

pub or_none : (o : Option Place) → or_else o None ≡ o
or_none (Some p) = refl
or_none None = refl

-- ---- words that differ

pub other_word : (w q : Word) (b : Bool) → word_eq w q ≡ b → (w ≡ q → ⊥) → b ≡ false
other_word w q true e other = absurd (other ((bytes_decides w q).0 e))
other_word w q false e other = refl

pub not_first : (q : Word) (ws : List Word) → word_eq [] q ≡ false → BeginOtherwise q ws → word_eq (first_word ws) q ≡ false
not_first q [] some other = some
not_first q (w ∷ ws) some other = other_word w q (word_eq w q) refl (λ e. other ws (ap (λ v. v ∷ ws) e))

pub no_name : (w q : Word) → is_name w ≡ false → is_name q ≡ true → word_eq w q ≡ false
no_name w q other named = other_word w q (word_eq w q) refl (λ e. clash (sym other ∙ ap is_name e ∙ named))

-- ---- refusals

pub here : (p : Place) (tokens : List Lexed) (at next : ℕ) → next ≡ at → next_place p (first_word (words_at tokens at)) ≡ None → is_final p ≡ false → IsRefused p tokens at next
here p tokens at next stays refused inner = subst (λ k. IsRefused p tokens at k) (sym stays) (record {
  words = [];
  plain = refl;
  spelled = refl;
  place = p;
  leads = refl;
  refused = refused;
  inside = λ final. absurd (clash (sym inner ∙ final));
})

-- a word that has to stand here
pub expected : (p : Place) (last : Word) (tokens : List Lexed) (at next : ℕ) → ((w : Word) → word_eq w last ≡ false → next_place p w ≡ None) → is_final p ≡ false → word_eq [] last ≡ false → next ≡ at
    → BeginOtherwise last (words_at tokens at) → IsRefused p tokens at next
expected p last tokens at next only inner some stays other = here p tokens at next stays (only (first_word (words_at tokens at)) (not_first last (words_at tokens at) some other)) inner

-- the words up to another place come first
pub begun : (p q : Place) (tokens : List Lexed) (at mid next : ℕ) (ws : List Word) → words_at tokens at ≡ ws ++ words_at tokens mid → ArePlain ws → follow (Some p) ws ≡ Some q → IsRefused q tokens mid next → IsRefused p tokens at next
begun p q tokens at mid next ws is plain e r = record {
  words = ws ++ r.words;
  plain = both_plain ws r.words plain r.plain;
  spelled = is ∙ ap (λ xs. ws ++ xs) r.spelled ∙ sym (append_assoc ws r.words (words_at tokens next));
  place = r.place;
  leads = behind_all p q ws r.words e ∙ r.leads;
  refused = r.refused;
  inside = r.inside;
}

abbrev pub place_or : Place → Option Place → Place
place_or p (Some q) = q
place_or p None = p

same_by : (p q : Place) (tokens : List Lexed) (at next : ℕ) (ws : List Word) (place : Place) → words_at tokens at ≡ ws ++ words_at tokens next → ArePlain ws → follow (Some p) ws ≡ Some place
    → next_place place (first_word (words_at tokens next)) ≡ None → (is_final place ≡ true → (next < length tokens) × (begins_option (first_word (words_at tokens next)) ≡ false))
    → next_place q (first_word (words_at tokens at)) ≡ next_place p (first_word (words_at tokens at)) → (is_final q ≡ true → is_final p ≡ true) → IsRefused q tokens at next
same_by p q tokens at next [] place spelled plain leads refused inside same final =
    let e : p ≡ place = ap (place_or p) leads in
    record {
      words = [];
      plain = refl;
      spelled = spelled;
      place = q;
      leads = refl;
      refused = ap (λ xs. next_place q (first_word xs)) (sym spelled) ∙ same ∙ ap (λ xs. next_place p (first_word xs)) spelled ∙ ap (λ r. next_place r (first_word (words_at tokens next))) e ∙ refused;
      inside = λ f. inside (ap is_final (sym e) ∙ final f);
    }
same_by p q tokens at next (w ∷ ws) place spelled plain leads refused inside same final =
    let first : first_word (words_at tokens at) ≡ w = ap first_word spelled in
    record {
      words = w ∷ ws;
      plain = plain;
      spelled = spelled;
      place = place;
      leads = ap (λ o. follow o ws) (ap (next_place q) (sym first) ∙ same ∙ ap (next_place p) first) ∙ leads;
      refused = refused;
      inside = inside;
    }

-- a place from which the first word leads where it leads from another
pub from_same : (p q : Place) (tokens : List Lexed) (at next : ℕ) → next_place q (first_word (words_at tokens at)) ≡ next_place p (first_word (words_at tokens at)) → (is_final q ≡ true → is_final p ≡ true)
    → IsRefused p tokens at next → IsRefused q tokens at next
from_same p q tokens at next same final r = same_by p q tokens at next r.words r.place r.spelled r.plain r.leads r.refused r.inside same final

-- the same, where the word leads on from both
open_by : (p q o : Place) (tokens : List Lexed) (at next : ℕ) (ws : List Word) (place : Place) → words_at tokens at ≡ ws ++ words_at tokens next → ArePlain ws → follow (Some p) ws ≡ Some place
    → next_place place (first_word (words_at tokens next)) ≡ None → (is_final place ≡ true → (next < length tokens) × (begins_option (first_word (words_at tokens next)) ≡ false))
    → next_place p (first_word (words_at tokens at)) ≡ Some o → next_place q (first_word (words_at tokens at)) ≡ Some o → IsRefused q tokens at next
open_by p q o tokens at next [] place spelled plain leads refused inside first second =
    let e : p ≡ place = ap (place_or p) leads in
    let no : None ≡ Some o = sym refused ∙ ap (λ r. next_place r (first_word (words_at tokens next))) (sym e) ∙ ap (λ xs. next_place p (first_word xs)) (sym spelled) ∙ first in
    cc
open_by p q o tokens at next (w ∷ ws) place spelled plain leads refused inside first second =
    let is : first_word (words_at tokens at) ≡ w = ap first_word spelled in
    record {
      words = w ∷ ws;
      plain = plain;
      spelled = spelled;
      place = place;
      leads = ap (λ r. follow r ws) (ap (next_place q) (sym is) ∙ second ∙ sym first ∙ ap (next_place p) is) ∙ leads;
      refused = refused;
      inside = inside;
    }

pub from_open : (p q o : Place) (tokens : List Lexed) (at next : ℕ) → next_place p (first_word (words_at tokens at)) ≡ Some o → next_place q (first_word (words_at tokens at)) ≡ Some o → IsRefused p tokens at next → IsRefused q tokens at next
from_open p q o tokens at next first second r = open_by p q o tokens at next r.words r.place r.spelled r.plain r.leads r.refused r.inside first second

-- ---- ends

pub unended : (last : Word) (p : Place) (tokens : List Lexed) (at mid next : ℕ) → next ≡ mid → EndsAt last p tokens at mid → word_eq (first_word (words_at tokens mid)) last ≡ false → IsRefused p tokens at next
unended last p tokens at mid next stays ends other = subst (λ k. IsRefused p tokens at k) (sym stays) (record {
  words = ends.words;
  plain = ends.plain;
  spelled = ends.spelled;
  place = ends.place;
  leads = ends.leads;
  refused = ends.only other;
  inside = λ final. absurd (clash (sym ends.unfinished ∙ final));
})

pub ends_behind : (last : Word) (p q : Place) (tokens : List Lexed) (at mid next : ℕ) (ws : List Word) → words_at tokens at ≡ ws ++ words_at tokens mid → ArePlain ws → follow (Some p) ws ≡ Some q → EndsAt last q tokens mid next → EndsAt last p tokens at next
ends_behind last p q tokens at mid next ws is plain e r = record {
  words = ws ++ r.words;
  plain = both_plain ws r.words plain r.plain;
  spelled = is ∙ ap (λ xs. ws ++ xs) r.spelled ∙ sym (append_assoc ws r.words (words_at tokens next));
  place = r.place;
  leads = behind_all p q ws r.words e ∙ r.leads;
  unfinished = r.unfinished;
  only = r.only;
}

pub ends_here : (last : Word) (p q : Place) (tokens : List Lexed) (at next : ℕ) (ws : List Word) → words_at tokens at ≡ ws ++ words_at tokens next → ArePlain ws → follow (Some p) ws ≡ Some q → is_final q ≡ false
    → (word_eq (first_word (words_at tokens next)) last ≡ false → next_place q (first_word (words_at tokens next)) ≡ None) → EndsAt last p tokens at next
ends_here last p q tokens at next ws is plain e inner only = record { words = ws; plain = plain; spelled = is; place = q; leads = e; unfinished = inner; only = only }
