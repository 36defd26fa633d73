-- Which numbers are marked, after some were marked or lost their marks.
use Rattle.std.proofs.Common.{◌≡◌, ℕ, zero, suc, ◌+◌, ◌<◌, ◌≤◌, inl, inr, Bool, true, false, true≢false, nat_eq, List, [], ◌∷◌, ◌++◌, length, replicate, Option, Some, None, refl, sym, ap, subst, ◌∙◌, arith}
use Rattle.std.specs.Prelude.{◌⊎◌, ◌&&◌, ◌||◌, not, cond, slice_get, slice_set, filter}
use Rattle.std.specs.List.{range_with_len}
use Rattle.program_model.specs.declared.program.Class.{Class}
use Rattle.class_defs.proofs.Positions.{number_of, number_test}
use Rattle.stub_library.specs.Marking.{is_on, set_all, up_to}
use Rattle.stub_library.specs.Shut.{each_class, some_class}
use Rattle.stub_library.specs.Lists.{In}
use Rattle.stub_library.proofs.Lists.{in_left, in_right, in_either}
use Rattle.stub_library.proofs.ByText.{before_or_at}

pub same_or : (a b : ℕ) → (a ≡ b) ⊎ (a ≡ b → ⊥)
same_or a b = by (nat_eq a b) refl
  where
    by : (t : Bool) → nat_eq a b ≡ t → (a ≡ b) ⊎ (a ≡ b → ⊥)
    by true e = inl (number_of a b e)
    by false e = inr (λ s. true≢false (sym (number_test a b s) ∙ e))

pub set_off : (ms : List Bool) (n : ℕ) → is_on (slice_set ms n false) n ≡ false
set_off [] n = refl
set_off (m ∷ ms) zero = refl
set_off (m ∷ ms) (suc n) = set_off ms n

pub set_on : (ms : List Bool) (n : ℕ) → n < length ms → is_on (slice_set ms n true) n ≡ true
set_on [] n lt = absurd (omega (arith, lt))
set_on (m ∷ ms) zero lt = refl
set_on (m ∷ ms) (suc n) lt = set_on ms n (omega (arith, lt))

pub set_kept : (on : Bool) (ms : List Bool) (x n : ℕ) → (x ≡ n → ⊥) → is_on (slice_set ms x on) n ≡ is_on ms n
set_kept on [] x n h = refl
set_kept on (m ∷ ms) zero zero h = absurd (h refl)
set_kept on (m ∷ ms) zero (suc n) h = refl
set_kept on (m ∷ ms) (suc x) zero h = refl
set_kept on (m ∷ ms) (suc x) (suc n) h = set_kept on ms x n (λ e. h (ap suc e))

pub set_long : (on : Bool) (ms : List Bool) (x : ℕ) → length (slice_set ms x on) ≡ length ms
set_long on [] x = refl
set_long on (m ∷ ms) zero = refl
set_long on (m ∷ ms) (suc x) = ap suc (set_long on ms x)

pub none_on : (size n : ℕ) → is_on (replicate size false) n ≡ true → ⊥
none_on zero n e = true≢false (sym e)
none_on (suc size) zero e = true≢false (sym e)
none_on (suc size) (suc n) e = none_on size n e

pub replicate_long : (size : ℕ) → length (replicate size false) ≡ size
replicate_long zero = refl
replicate_long (suc size) = ap suc (replicate_long size)

-- ---- marks that are taken

pub record Left (ms : List Bool) (ns : List ℕ) (n : ℕ) : Type 0 where
  pub before : is_on ms n ≡ true
  pub apart : In n ns → ⊥

pub left_from : (ms : List Bool) (ns : List ℕ) (n : ℕ) → is_on (set_all false ms ns) n ≡ true → Left ms ns n
left_from ms [] n e = record { before = e; apart = λ i. i }
left_from ms (x ∷ xs) n e = by (left_from (slice_set ms x false) xs n e) (same_or x n)
  where
    by : Left (slice_set ms x false) xs n → (x ≡ n) ⊎ (x ≡ n → ⊥) → Left ms (x ∷ xs) n
    by r (inl s) = absurd (true≢false (sym r.before ∙ ap (λ y. is_on (slice_set ms y false) n) s ∙ set_off ms n))
    by r (inr h) = record { before = sym (set_kept false ms x n h) ∙ r.before; apart = λ i. elim i [ inl s ↦ h s | inr j ↦ r.apart j ] }

pub left_to : (ms : List Bool) (ns : List ℕ) (n : ℕ) → is_on ms n ≡ true → (In n ns → ⊥) → is_on (set_all false ms ns) n ≡ true
left_to ms [] n e h = e
left_to ms (x ∷ xs) n e h = left_to (slice_set ms x false) xs n (set_kept false ms x n (λ s. h (inl s)) ∙ e) (λ i. h (inr i))

-- ---- marks that are given

pub given_from : (ms : List Bool) (ns : List ℕ) (n : ℕ) → is_on (set_all true ms ns) n ≡ true → (is_on ms n ≡ true) ⊎ In n ns
given_from ms [] n e = inl e
given_from ms (x ∷ xs) n e = by (given_from (slice_set ms x true) xs n e) (same_or x n)
  where
    by : (is_on (slice_set ms x true) n ≡ true) ⊎ In n xs → (x ≡ n) ⊎ (x ≡ n → ⊥) → (is_on ms n ≡ true) ⊎ ((x ≡ n) ⊎ In n xs)
    by r (inl s) = inr (inl s)
    by (inl f) (inr h) = inl (sym (set_kept true ms x n h) ∙ f)
    by (inr i) (inr h) = inr (inr i)

given_stays : (ms : List Bool) (ns : List ℕ) (n : ℕ) → n < length ms → is_on ms n ≡ true → is_on (set_all true ms ns) n ≡ true
given_stays ms [] n lt e = e
given_stays ms (x ∷ xs) n lt e = given_stays (slice_set ms x true) xs n (let z = set_long true ms x in omega (arith, lt, z)) (by (same_or x n))
  where
    by : (x ≡ n) ⊎ (x ≡ n → ⊥) → is_on (slice_set ms x true) n ≡ true
    by (inl s) = ap (λ y. is_on (slice_set ms y true) n) s ∙ set_on ms n lt
    by (inr h) = set_kept true ms x n h ∙ e

pub given_to : (ms : List Bool) (ns : List ℕ) (n : ℕ) → n < length ms → In n ns → is_on (set_all true ms ns) n ≡ true
given_to ms [] n lt i = absurd i
given_to ms (x ∷ xs) n lt (inl s) = given_stays (slice_set ms x true) xs n (let z = set_long true ms x in omega (arith, lt, z)) (ap (λ y. is_on (slice_set ms y true) n) s ∙ set_on ms n lt)
given_to ms (x ∷ xs) n lt (inr i) = given_to (slice_set ms x true) xs n (let z = set_long true ms x in omega (arith, lt, z)) i

-- ---- numbers below a bound

pub record FromOne {A : Type 0} (f : ℕ → List A) (n : ℕ) (y : A) : Type 0 where
  pub one : ℕ
  pub short : one < n
  pub has : In y (f one)

pub from_up : {A : Type 0} (f : ℕ → List A) (n : ℕ) (y : A) → In y (up_to f n) → FromOne f n y
from_up f zero y i = absurd i
from_up f (suc n) y i = elim (in_either (up_to f n) (f n) y i) [
  | inl j ↦ (let r = from_up f n y j in record { one = r.one; short = (let s = r.short in omega (arith, s)); has = r.has })
  | inr j ↦ record { one = n; short = omega arith; has = j }
]

pub in_up : {A : Type 0} (f : ℕ → List A) (n i : ℕ) (y : A) → i < n → In y (f i) → In y (up_to f n)
in_up f zero i y lt j = absurd (omega (arith, lt))
in_up f (suc n) i y lt j = elim (before_or_at i n (omega (arith, lt))) [
  | inl l ↦ in_left (up_to f n) (f n) y (in_up f n i y l j)
  | inr s ↦ in_right (up_to f n) (f n) y (subst (λ k. In y (f k)) s j)
]

-- ---- tests of classes

pub each_is : (test : ℕ → Class → Bool) (s : ℕ) (cs : List Class) (j d : ℕ) (k : Class) → each_class test s cs ≡ true → slice_get cs j ≡ Some k → d ≡ s + j → test d k ≡ true
each_is test s [] j d k e g is = cc
each_is test s (c ∷ cs) j d k e g is = by (test s c) refl j e g is (λ i. each_is test (suc s) cs i d k)
  where
    by : (b : Bool) → test s c ≡ b → (j : ℕ) → (b && each_class test (suc s) cs) ≡ true → slice_get (c ∷ cs) j ≡ Some k → d ≡ s + j
        → ((i : ℕ) → each_class test (suc s) cs ≡ true → slice_get cs i ≡ Some k → d ≡ suc s + i → test d k ≡ true) → test d k ≡ true
    by false f j e g is more = absurd (true≢false (sym e))
    by true f zero e g is more =
        let z : c ≡ k = cc in
        let y : d ≡ s = omega (arith, is) in
        ap (λ n. test n k) y ∙ ap (test s) (sym z) ∙ f
    by true f (suc i) e g is more = more i e g (omega (arith, is))

pub each_to : (test : ℕ → Class → Bool) (s : ℕ) (cs : List Class) → ((j d : ℕ) (k : Class) → slice_get cs j ≡ Some k → d ≡ s + j → test d k ≡ true) → each_class test s cs ≡ true
each_to test s [] h = refl
each_to test s (c ∷ cs) h =
    ap (λ b. b && each_class test (suc s) cs) (h 0 s c refl (omega arith)) ∙ each_to test (suc s) cs (λ j d k g e. h (suc j) d k g (omega (arith, e)))

pub record HasOne (test : ℕ → Class → Bool) (s : ℕ) (cs : List Class) : Type 0 where
  pub place : ℕ
  pub class : Class
  pub is : slice_get cs place ≡ Some class
  pub passes : test (s + place) class ≡ true

pub some_from : (test : ℕ → Class → Bool) (s : ℕ) (cs : List Class) → some_class test s cs ≡ true → HasOne test s cs
some_from test s [] e = absurd (true≢false (sym e))
some_from test s (c ∷ cs) e = by (test s c) refl e (some_from test (suc s) cs)
  where
    by : (b : Bool) → test s c ≡ b → (b || some_class test (suc s) cs) ≡ true → (some_class test (suc s) cs ≡ true → HasOne test (suc s) cs) → HasOne test s (c ∷ cs)
    by true f g more = record { place = 0; class = c; is = refl; passes = ap (λ n. test n c) (let z : s + 0 ≡ s = omega arith in z) ∙ f }
    by false f g more =
        let r = more g in
        record { place = suc r.place; class = r.class; is = r.is; passes = ap (λ n. test n r.class) (let z : s + suc r.place ≡ suc s + r.place = omega arith in z) ∙ r.passes }

pub some_to : (test : ℕ → Class → Bool) (s : ℕ) (cs : List Class) (j : ℕ) (k : Class) → slice_get cs j ≡ Some k → test (s + j) k ≡ true → some_class test s cs ≡ true
some_to test s [] j k g e = cc
some_to test s (c ∷ cs) zero k g e =
    let z : k ≡ c = cc in
    ap (λ b. b || some_class test (suc s) cs) (ap (test s) (sym z) ∙ ap (λ n. test n k) (let y : s ≡ s + 0 = omega arith in y) ∙ e)
some_to test s (c ∷ cs) (suc j) k g e = by (test s c) (some_to test (suc s) cs j k g (ap (λ n. test n k) (let z : suc s + j ≡ s + suc j = omega arith in z) ∙ e))
  where
    by : (b : Bool) → some_class test (suc s) cs ≡ true → (b || some_class test (suc s) cs) ≡ true
    by true f = refl
    by false f = f
