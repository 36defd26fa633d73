-- A panel's loop that tells: the advisers before a place have taken the turn, those from it on have not.
use Rattle.std.proofs.Common.{◌≡◌, ℕ, zero, suc, ◌+◌, ◌<◌, List, [], ◌∷◌, get_or, length, map, take, drop, ap, subst, arith, add-one}
use Rattle.std.proofs.Math.ListN.{set}
use Rattle.std.proofs.Common.{Result, Ok, Err, OnErr}
use Rattle.redex_outside.specs.Turns.{Turn}
use Rattle.redex_outside.specs.Voices.{Voice, HasTaken, SameVoice}
use Rattle.redex_outside.specs.Panels.{AllTold, AllUnchanged, SomeTold}

-- the advisers below i have taken the turn, and those from i on are as they were
abbrev pub ToldBelow : {A : Type 0} → (A → Voice) → Turn → ℕ → List A → List A → Type 0
ToldBelow voice turn zero olds news = news ≡ olds
ToldBelow voice turn (suc i) (old ∷ olds) (new ∷ news) = HasTaken turn (voice old) (voice new) × ToldBelow voice turn i olds news
ToldBelow voice turn (suc i) _ _ = ⊥

-- one adviser more
told_suc : {A : Type 0} (voice : A → Voice) (turn : Turn) (i : ℕ) (olds news : List A) (d y : A)
    → ToldBelow voice turn i olds news → i < length news → HasTaken turn (voice (get_or news i d)) (voice y) → ToldBelow voice turn (suc i) olds (set news i y)
told_suc voice turn zero olds [] d y b h r = absurd (omega arith)
told_suc voice turn zero [] (n ∷ ns) d y b h r = absurd (cc)
told_suc {A = A} voice turn zero (o ∷ os) (n ∷ ns) d y b h r =
    let same : n ≡ o = cc in
    let P : A → Type 0 = λ a. HasTaken turn (voice a) (voice y) in
    (subst P same r, cc)
told_suc voice turn (suc i) (o ∷ os) (n ∷ ns) d y b h r = (b.0, told_suc voice turn i os ns d y b.1 (omega arith) r)
told_suc voice turn (suc i) [] news d y b h r = absurd b
told_suc voice turn (suc i) (o ∷ os) [] d y b h r = absurd b

pub told_next : {A : Type 0} (voice : A → Voice) (turn : Turn) (i : ℕ) (olds news : List A) (d y : A)
    → ToldBelow voice turn i olds news → i < length news → HasTaken turn (voice (get_or news i d)) (voice y) → ToldBelow voice turn (i + 1) olds (set news i y)
told_next voice turn i olds news d y b h r = rw add-one (told_suc voice turn i olds news d y b h r)

-- all of them
pub told_all : {A : Type 0} (voice : A → Voice) (turn : Turn) (i : ℕ) (olds news : List A)
    → ToldBelow voice turn i olds news → i ≡ length news → AllTold turn (map voice olds) (map voice news)
told_all voice turn zero [] [] b e = tt
told_all voice turn zero (o ∷ os) [] b e = absurd (cc)
told_all voice turn zero olds (n ∷ ns) b e = absurd (omega arith)
told_all voice turn (suc i) (o ∷ os) (n ∷ ns) b e = (b.0, told_all voice turn i os ns b.1 (omega arith))
told_all voice turn (suc i) [] news b e = absurd b
told_all voice turn (suc i) (o ∷ os) [] b e = absurd b

-- advisers that are the same reply the same
unchanged_same : {A : Type 0} (voice : A → Voice) (olds news : List A) → news ≡ olds → AllUnchanged (map voice olds) (map voice news)
unchanged_same voice [] [] e = tt
unchanged_same voice [] (n ∷ ns) e = absurd (cc)
unchanged_same voice (o ∷ os) [] e = absurd (cc)
unchanged_same voice (o ∷ os) (n ∷ ns) e =
    let same : n ≡ o = cc in
    ((λ turns. ap (λ a. voice a turns) same), unchanged_same voice os ns (cc))

-- the adviser at i refused, and replies as before
some_told : {A : Type 0} (voice : A → Voice) (turn : Turn) (i : ℕ) (olds news : List A) (d y : A)
    → ToldBelow voice turn i olds news → i < length news → SameVoice (voice (get_or news i d)) (voice y)
    → (i < length (map voice olds)) × AllTold turn (take i (map voice olds)) (take i (map voice (set news i y))) × AllUnchanged (drop i (map voice olds)) (drop i (map voice (set news i y)))
some_told voice turn zero olds [] d y b h r = absurd (omega arith)
some_told voice turn zero [] (n ∷ ns) d y b h r = absurd (cc)
some_told {A = A} voice turn zero (o ∷ os) (n ∷ ns) d y b h r =
    let same : n ≡ o = cc in
    let P : A → Type 0 = λ a. SameVoice (voice a) (voice y) in
    (omega arith, tt, (subst P same r, unchanged_same voice os ns (cc)))
some_told voice turn (suc i) (o ∷ os) (n ∷ ns) d y b h r =
    let rest = some_told voice turn i os ns d y b.1 (omega arith) r in
    (omega (arith, rest.0), (b.0, rest.1), rest.2)
some_told voice turn (suc i) [] news d y b h r = absurd b
some_told voice turn (suc i) (o ∷ os) [] d y b h r = absurd b

pub told_some : {A : Type 0} (voice : A → Voice) (turn : Turn) (i : ℕ) (olds news : List A) (d y : A)
    → ToldBelow voice turn i olds news → i < length news → SameVoice (voice (get_or news i d)) (voice y) → SomeTold turn (map voice olds) (map voice (set news i y))
told_some voice turn i olds news d y b h r =
    let parts = some_told voice turn i olds news d y b h r in
    record { place = i; within = parts.0; told = parts.1; untold = parts.2 }

-- what holds anyway holds at an error
pub on_err : {T E P : Type 0} (r : Result T E) → P → OnErr r P
on_err (Ok x) h = tt
on_err (Err e) h = h
