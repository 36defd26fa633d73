-- The places of the classes that a class specification matches, one after the other.
use Rattle.std.proofs.Common.{◌≡◌, ◌⊎◌, inl, inr, ◌<◌, ◌≤◌, ◌+◌, ℕ, true, false, List, [], ◌∷◌, ◌++◌, length, Some, None, Contains, slice_get, sym, ap, subst, ◌∙◌, eq-or-lt_of_le, arith}
use Rattle.std.proofs.lemmas.List.Elements.{Contains-append_left, Contains-push, Contains-push_cases}
use Rattle.std.proofs.lemmas.Option.{slice_get_within}
use Rattle.program_model.specs.declared.program.Class.{Class}
use Rattle.program_model.specs.declared.program.Program.{Program}
use Rattle.dalvik_defs.specs.Naming.{named, named_class}
use Rattle.rule_text.specs.Rules.{ClassRule}
use Rattle.rule_defs.specs.Kept.{matches_class}
use Rattle.if_rules.specs.Matching.{IsMatchedAt, MatchedBefore, AreMatched, AddsPlace}

pub matched_none : (p : Program) (k : ClassRule) (places : List ℕ) → places ≡ [] → MatchedBefore p k 0 places
matched_none p k places none = record {
  sound = λ n c.
      let inside : c.0 < length places = c.1 in
      let empty : length places ≡ 0 = ap length none in
      absurd (omega (arith, inside, empty));
  complete = λ n less m. absurd (omega (arith, less));
}

more_at : (p : Program) (k : ClassRule) (place n : ℕ) (old new : List ℕ) → MatchedBefore p k place old → AddsPlace p k place old new → (n ≡ place) ⊎ (n < place) → IsMatchedAt p k n → Contains new n
more_at p k place n old new before adds (inl same) m = subst (Contains new) (sym same) (adds.complete (subst (IsMatchedAt p k) same m))
more_at p k place n old new before adds (inr less) m = adds.kept n (before.complete n less m)

sound_at : (p : Program) (k : ClassRule) (place n : ℕ) (old : List ℕ) → MatchedBefore p k place old → Contains old n ⊎ IsMatchedAt p k n → IsMatchedAt p k n
sound_at p k place n old before (inl there) = before.sound n there
sound_at p k place n old before (inr m) = m

pub matched_more : (p : Program) (k : ClassRule) (place : ℕ) (old new : List ℕ) → MatchedBefore p k place old → AddsPlace p k place old new → MatchedBefore p k (place + 1) new
matched_more p k place old new before adds = record {
  sound = λ n there. sound_at p k place n old before (adds.sound n there);
  complete = λ n less m.
      let most : n ≤ place = omega (arith, less) in
      more_at p k place n old new before adds (eq-or-lt_of_le most) m;
}

pub matched_all : (p : Program) (k : ClassRule) (past : ℕ) (places : List ℕ) → length p.classes ≤ past → MatchedBefore p k past places → AreMatched p k places
matched_all p k past places end before = record {
  sound = before.sound;
  complete = λ n m.
      let inside : n < length p.classes = slice_get_within p.classes n m.class m.is in
      before.complete n (omega (arith, inside, end)) m;
}

-- a class that isn't matched, and none at all
pub adds_none : (p : Program) (k : ClassRule) (place : ℕ) (old : List ℕ) → (IsMatchedAt p k place → ⊥) → AddsPlace p k place old old
adds_none p k place old other = record { kept = λ n there. there; sound = λ n there. inl there; complete = λ m. absurd (other m) }

pub no_class : (p : Program) (k : ClassRule) (place : ℕ) → slice_get p.classes place ≡ None → IsMatchedAt p k place → ⊥
no_class p k place none m =
    let clash : Some m.class ≡ None = sym m.is ∙ none in
    cc

same_class : (a b : Class) → Some a ≡ Some b → a ≡ b
same_class a b same = cc

pub no_match : (p : Program) (k : ClassRule) (place : ℕ) (class : Class) → slice_get p.classes place ≡ Some class → matches_class (named p) k (named_class p class) ≡ false → IsMatchedAt p k place → ⊥
no_match p k place class there fails m =
    let same : m.class ≡ class = same_class m.class class (sym m.is ∙ there) in
    let clash : true ≡ false = sym m.fits ∙ ap (λ c. matches_class (named p) k (named_class p c)) same ∙ fails in
    cc

one_sound : (p : Program) (k : ClassRule) (place n : ℕ) (class : Class) (old : List ℕ) → slice_get p.classes place ≡ Some class → matches_class (named p) k (named_class p class) ≡ true → Contains old n ⊎ (place ≡ n)
    → Contains old n ⊎ IsMatchedAt p k n
one_sound p k place n class old there fits (inl c) = inl c
one_sound p k place n class old there fits (inr same) = inr (subst (IsMatchedAt p k) same (record { class = class; is = there; fits = fits }))

-- one that is
pub adds_one : (p : Program) (k : ClassRule) (place : ℕ) (class : Class) (old new : List ℕ) → slice_get p.classes place ≡ Some class → matches_class (named p) k (named_class p class) ≡ true → new ≡ old ++ place ∷ []
    → AddsPlace p k place old new
adds_one p k place class old new there fits is = record {
  kept = λ n c. subst (λ xs. Contains xs n) (sym is) (Contains-append_left old (place ∷ []) n c);
  sound = λ n c. one_sound p k place n class old there fits (Contains-push_cases old place n (subst (λ xs. Contains xs n) is c));
  complete = λ m. subst (λ xs. Contains xs place) (sym is) (Contains-push old place);
}
