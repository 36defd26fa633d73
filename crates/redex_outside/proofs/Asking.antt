-- A panel's loops: the advisers before a place have taken the turn, those from it on have not.
use Rattle.std.proofs.Common.{◌≡◌, ℕ, zero, suc, ◌+◌, ◌<◌, Bool, ◌&&◌, List, [], ◌∷◌, ◌++◌, get_or, length, map, ap, sym, ◌∙◌, subst, arith, add-one, append_assoc}
use Rattle.std.proofs.Math.ListN.{set}
use Rattle.std.specs.List.{list_all}
use Rattle.std.proofs.lemmas.List.Folds.{list_all-append}
use Rattle.std.proofs.Math.Bool.{and-true}
use Rattle.redex_outside.specs.declared.adviser.Ask.{Ask}
use Rattle.redex_outside.specs.Voices.{Voice, HasAnswered}
use Rattle.redex_outside.specs.Panels.{AllAnswered, AskedAll}

-- the advisers below i gave these answers, and those from i on are as they were
abbrev pub AnsweredBelow : {A : Type 0} → (A → Voice) → Ask → ℕ → List A → List Bool → List A → Type 0
AnsweredBelow voice ask zero olds [] news = news ≡ olds
AnsweredBelow voice ask zero olds (answer ∷ given) news = ⊥
AnsweredBelow voice ask (suc i) (old ∷ olds) (answer ∷ given) (new ∷ news) =
    HasAnswered ask (voice old) answer (voice new) × AnsweredBelow voice ask i olds given news
AnsweredBelow voice ask (suc i) _ _ _ = ⊥

-- one adviser more
answered_next : {A : Type 0} (voice : A → Voice) (ask : Ask) (i : ℕ) (olds : List A) (given : List Bool) (news : List A) (d y : A) (answer : Bool)
    → AnsweredBelow voice ask i olds given news → i < length news → HasAnswered ask (voice (get_or news i d)) answer (voice y)
    → AnsweredBelow voice ask (suc i) olds (given ++ answer ∷ []) (set news i y)
answered_next voice ask zero olds [] [] d y answer b h r = absurd (omega arith)
answered_next voice ask zero [] [] (n ∷ ns) d y answer b h r = absurd (cc)
answered_next {A = A} voice ask zero (o ∷ os) [] (n ∷ ns) d y answer b h r =
    let same : n ≡ o = cc in
    let P : A → Type 0 = λ a. HasAnswered ask (voice a) answer (voice y) in
    (subst P same r, cc)
answered_next voice ask zero olds (a ∷ given) news d y answer b h r = absurd b
answered_next voice ask (suc i) (o ∷ os) (a ∷ given) (n ∷ ns) d y answer b h r =
    (b.0, answered_next voice ask i os given ns d y answer b.1 (omega arith) r)
answered_next voice ask (suc i) [] given news d y answer b h r = absurd b
answered_next voice ask (suc i) (o ∷ os) [] news d y answer b h r = absurd b
answered_next voice ask (suc i) (o ∷ os) (a ∷ given) [] d y answer b h r = absurd b

-- all of them
answered_all : {A : Type 0} (voice : A → Voice) (ask : Ask) (i : ℕ) (olds : List A) (given : List Bool) (news : List A)
    → AnsweredBelow voice ask i olds given news → i ≡ length news → AllAnswered ask (map voice olds) given (map voice news)
answered_all voice ask zero [] [] [] b e = tt
answered_all voice ask zero (o ∷ os) [] [] b e = absurd (cc)
answered_all voice ask zero olds [] (n ∷ ns) b e = absurd (omega arith)
answered_all voice ask zero olds (a ∷ given) news b e = absurd b
answered_all voice ask (suc i) (o ∷ os) (a ∷ given) (n ∷ ns) b e = (b.0, answered_all voice ask i os given ns b.1 (omega arith))
answered_all voice ask (suc i) [] given news b e = absurd b
answered_all voice ask (suc i) (o ∷ os) [] news b e = absurd b
answered_all voice ask (suc i) (o ∷ os) (a ∷ given) [] b e = absurd b

-- what the loop keeps: these answers were given below i, and stand behind those before
pub record AskedBelow {A : Type 0} (voice : A → Voice) (ask : Ask) (i : ℕ) (olds news : List A) (before after : List Bool) (all : Bool) : Type 0 where
  pub given : List Bool
  pub grown : after ≡ before ++ given
  pub answered : AnsweredBelow voice ask i olds given news
  pub all_yes : all ≡ list_all (λ answer. answer) given

and_last : (given : List Bool) (answer : Bool) → list_all (λ a. a) (given ++ answer ∷ []) ≡ (list_all (λ a. a) given && answer)
and_last given answer = list_all-append (λ a. a) given (answer ∷ []) ∙ ap (λ b. list_all (λ a. a) given && b) (and-true answer)

-- the step of the loop
pub asked_next : {A : Type 0} (voice : A → Voice) (ask : Ask) (i : ℕ) (olds news : List A) (before after after' : List Bool) (all all' : Bool) (d y : A) (answer : Bool)
    → AskedBelow voice ask i olds news before after all → i < length news → HasAnswered ask (voice (get_or news i d)) answer (voice y)
    → after' ≡ after ++ answer ∷ [] → all' ≡ (all && answer)
    → AskedBelow voice ask (i + 1) olds (set news i y) before after' all'
asked_next voice ask i olds news before after after' all all' d y answer k h r more both = record {
  given = k.given ++ answer ∷ [];
  grown = more ∙ ap (λ xs. xs ++ answer ∷ []) k.grown ∙ append_assoc before k.given (answer ∷ []);
  answered = rw add-one (answered_next voice ask i olds k.given news d y answer k.answered h r);
  all_yes = both ∙ ap (λ b. b && answer) k.all_yes ∙ sym (and_last k.given answer);
}

-- the end of the loop
pub asked_all : {A : Type 0} (voice : A → Voice) (ask : Ask) (i : ℕ) (olds news : List A) (before after : List Bool) (all : Bool)
    → AskedBelow voice ask i olds news before after all → i ≡ length news → AskedAll ask (map voice olds) (map voice news) before after all
asked_all voice ask i olds news before after all k e = record {
  given = k.given;
  grown = k.grown;
  answered = answered_all voice ask i olds k.given news k.answered e;
  all_yes = k.all_yes;
}
