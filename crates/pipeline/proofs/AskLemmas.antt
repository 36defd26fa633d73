-- Asks, one after another.
use Rattle.std.proofs.Common.{◌≡◌, ℕ, zero, suc, ◌+◌, ◌<◌, ◌≤◌, Bool, true, false, if◌then◌else◌, List, [], ◌∷◌, ◌++◌, length, map, flat_map, take, get_or, refl, sym, ap, ◌∙◌, subst, arith, add-one, append-nil, append_assoc}
use Rattle.std.specs.List.{list_all}
use Rattle.std.proofs.lemmas.List.{length-map, take_all}
use Rattle.program_model.specs.declared.program.Method.{Method}
use Rattle.redex_outside.specs.declared.adviser.Ask.{Ask}
use Rattle.redex_outside.specs.Voices.{Voice}
use Rattle.redex_outside.specs.Panels.{AllAnswered, AskedAll}
use Rattle.call_graph.specs.declared.live_set.LiveSet.{LiveSet}
use Rattle.pipeline.specs.Asks.{Verdict, is_asked, asked_one, judged, AreAnswered, NoneLeft, Answered}

-- each adviser has one answer
given_length : (ask : Ask) (olds : List Voice) (given : List Bool) (news : List Voice) → AllAnswered ask olds given news → length given ≡ length olds
given_length ask [] [] [] t = refl
given_length ask (old ∷ olds) (answer ∷ given) (new ∷ news) t = omega (arith, given_length ask olds given news t.1)
given_length ask [] (answer ∷ given) news t = absurd t
given_length ask [] [] (new ∷ news) t = absurd t
given_length ask (old ∷ olds) [] news t = absurd t
given_length ask (old ∷ olds) (answer ∷ given) [] t = absurd t

still_asked : (ask : Ask) (olds : List Voice) (given : List Bool) (news : List Voice) → AllAnswered ask olds given news → length news ≡ length olds
still_asked ask [] [] [] t = refl
still_asked ask (old ∷ olds) (answer ∷ given) (new ∷ news) t = omega (arith, still_asked ask olds given news t.1)
still_asked ask [] (answer ∷ given) news t = absurd t
still_asked ask [] [] (new ∷ news) t = absurd t
still_asked ask (old ∷ olds) [] news t = absurd t
still_asked ask (old ∷ olds) (answer ∷ given) [] t = absurd t

pub as_many : {A : Type 0} (voice : A → Voice) (ask : Ask) (olds news : List A) (before after : List Bool) (all : Bool)
    → AskedAll ask (map voice olds) (map voice news) before after all → length news ≡ length olds
as_many voice ask olds news before after all t = sym (length-map news voice) ∙ still_asked ask (map voice olds) t.given (map voice news) t.answered ∙ length-map olds voice

pub one_answered : {A : Type 0} (voice : A → Voice) (ask : Ask) (olds news : List A) (before after : List Bool) (all : Bool) (n : ℕ) (v w : Verdict)
    → AskedAll ask (map voice olds) (map voice news) before after all → w ≡ judged n all v → AreAnswered (length olds) (n ∷ []) before after v w
one_answered voice ask olds news before after all n v w t e =
    Answered n [] before t.given after v w (given_length ask (map voice olds) t.given (map voice news) t.answered ∙ length-map olds voice)
    (subst (λ x. AreAnswered (length olds) [] (before ++ t.given) x (judged n (list_all (λ yes. yes) t.given) v) w) (sym t.grown)
    (subst (λ x. AreAnswered (length olds) [] (before ++ t.given) (before ++ t.given) (judged n (list_all (λ yes. yes) t.given) v) x) (ap (λ b. judged n b v) (sym t.all_yes) ∙ sym e)
    (NoneLeft (before ++ t.given) (judged n (list_all (λ yes. yes) t.given) v))))

pub more_answered : (count : ℕ) (ns ms : List ℕ) (x y z : List Bool) (u v w : Verdict) → AreAnswered count ns x y u v → AreAnswered count ms y z v w → AreAnswered count (ns ++ ms) x z u w
more_answered count ns ms x y z u v w (NoneLeft given k) b = b
more_answered count ns ms x y z u v w (Answered n rest given row after k l e a) b =
    Answered n (rest ++ ms) given row z k w e (more_answered count rest ms (given ++ row) y z (judged n (list_all (λ yes. yes) row) k) v w a b)

-- a method that isn't asked about
pub not_asked : (count : ℕ) (s : LiveSet) (m : Method) (x : List Bool) (v : Verdict) → is_asked s m ≡ false → AreAnswered count (asked_one s m) x x v v
not_asked count s m x v e = subst (λ b. AreAnswered count (if b then m.name ∷ [] else []) x x v v) (sym e) (NoneLeft x v)

pub is_one : (count : ℕ) (s : LiveSet) (m : Method) (x y : List Bool) (v w : Verdict) → is_asked s m ≡ true → AreAnswered count (m.name ∷ []) x y v w → AreAnswered count (asked_one s m) x y v w
is_one count s m x y v w e a = subst (λ b. AreAnswered count (if b then m.name ∷ [] else []) x y v w) (sym e) a

pub flat_next : {A B : Type 0} (f : A → List B) (xs : List A) (i : ℕ) (d : A) → i < length xs → flat_map f (take (i + 1) xs) ≡ flat_map f (take i xs) ++ f (get_or xs i d)
flat_next f [] i d lt = absurd (omega arith)
flat_next f (x ∷ xs) zero d lt = append-nil (f x)
flat_next f (x ∷ xs) (suc i) d lt = rw add-one (ap (λ l. f x ++ l) (sym (ap (λ n. flat_map f (take n xs)) (add-one i)) ∙ flat_next f xs i d (omega arith)) ∙ sym (append_assoc (f x) (flat_map f (take i xs)) (f (get_or xs i d))))

-- the step of a loop
pub next_answered : {A : Type 0} (f : A → List ℕ) (count k : ℕ) (xs : List A) (i : ℕ) (d : A) (x y z : List Bool) (u v w : Verdict) → i < length xs → k ≡ count
    → AreAnswered count (flat_map f (take i xs)) x y u v → AreAnswered k (f (get_or xs i d)) y z v w → AreAnswered count (flat_map f (take (i + 1) xs)) x z u w
next_answered f count k xs i d x y z u v w lt e a b =
    subst (λ l. AreAnswered count l x z u w) (sym (flat_next f xs i d lt))
    (more_answered count (flat_map f (take i xs)) (f (get_or xs i d)) x y z u v w a (subst (λ n. AreAnswered n (f (get_or xs i d)) y z v w) e b))

-- its end
pub all_answered : {A : Type 0} (f : A → List ℕ) (count : ℕ) (xs : List A) (i : ℕ) (x y : List Bool) (u v : Verdict) → length xs ≤ i
    → AreAnswered count (flat_map f (take i xs)) x y u v → AreAnswered count (flat_map f xs) x y u v
all_answered f count xs i x y u v le a = subst (λ l. AreAnswered count (flat_map f l) x y u v) (take_all i xs le) a

pub none_yet : (count : ℕ) (x : List Bool) (v w : Verdict) → w ≡ v → AreAnswered count [] x x v w
none_yet count x v w e = subst (λ k. AreAnswered count [] x x v k) (sym e) (NoneLeft x v)

pub item_answered : {A : Type 0} (f : A → List ℕ) (count k : ℕ) (xs : List A) (i : ℕ) (d a : A) (x y z : List Bool) (u v w : Verdict) → i < length xs → a ≡ get_or xs i d → k ≡ count
    → AreAnswered count (flat_map f (take i xs)) x y u v → AreAnswered k (f a) y z v w → AreAnswered count (flat_map f (take (i + 1) xs)) x z u w
item_answered f count k xs i d a x y z u v w lt is e so one =
    next_answered f count k xs i d x y z u v w lt e so (subst (λ b. AreAnswered k (f b) y z v w) is one)
