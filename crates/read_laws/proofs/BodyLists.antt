-- Tests of each item of a list with its place, and of each two items side by side; and readings one behind another.
use Rattle.std.proofs.Common.{◌≡◌, ℕ, zero, suc, ◌+◌, ◌<◌, length, Bool, true, false, true≢false, List, [], ◌∷◌, refl, sym, ap, subst, ◌∙◌, arith}
use Rattle.std.specs.Prelude.{◌&&◌, cond, slice_get, Some, None, Result, Ok, Err}
use Rattle.std.specs.List.{list_all, enumerate_from}
use Rattle.lemmas.proofs.Bools.{and_both, and_left, and_right}
use Rattle.lemmas.proofs.Options.{none_some, some_same}
use Rattle.dex_base.specs.Reading.{◌>>=◌}
use Rattle.program_model.specs.Neighbours.{neighbours}

pub none_there : {A : Type 0} (xs : List A) (k : ℕ) → k < length xs → None ≡ slice_get xs k → ⊥
none_there [] k lt e = omega (arith, lt)
none_there (x ∷ xs) zero lt e = none_some x e
none_there (x ∷ xs) (suc k) lt e = none_there xs k (omega (arith, lt)) e

-- ---- readings

abbrev by_value : {A F : Type 0} → A → Result A F → A
by_value x (Ok y) = y
by_value x (Err e) = x

abbrev value : {A F : Type 0} → A → Result A F
value x = Ok x

pub ok_same : {A F : Type 0} (x y : A) → value {F = F} x ≡ Ok y → x ≡ y
ok_same {A} {F} x y e = ap (by_value {A = A} {F = F} x) e

abbrev is_value : {A F : Type 0} → Result A F → Bool
is_value (Ok y) = true
is_value (Err e) = false

pub err_ok : {A F B : Type 0} (e : F) (y : A) → Err e ≡ Ok y → B
err_ok {A} {F} e y h = absurd (true≢false (sym (ap (is_value {A = A} {F = F}) h)))

-- what is read, if anything is, is so
pub record Found {Y F : Type 0} (Is : Y → Type 0) (read : Result Y F) : Type 0 where
  pub found : (y : Y) → read ≡ Ok y → Is y

pub weaker : {Y F : Type 0} {Is Is' : Y → Type 0} (read : Result Y F) → Found Is read → ((y : Y) → Is y → Is' y) → Found Is' read
weaker read d to = record { found = λ y h. to y (d.found y h) }

pub done : {Y F : Type 0} (v : Y) → Found {F = F} (λ y. v ≡ y) (Ok v)
done v = record { found = λ y h. ok_same v y h }

pub failed : {Y F : Type 0} {Is : Y → Type 0} (e : F) → Found Is (Err e)
failed e = record { found = λ y h. err_ok e y h }

pub as_read : {Y F : Type 0} (read : Result Y F) → Found (λ y. read ≡ Ok y) read
as_read read = record { found = λ y h. h }

-- a reading where a test holds, else a fault
pub when : {Y F : Type 0} {Is : Y → Type 0} {b : Bool} {read : Result Y F} (e : F) → Found Is read → Found (λ y. (b ≡ true) × Is y) (cond b read (Err e))
when {b = true} e d = record { found = λ y h. (refl, d.found y h) }
when {b = false} e d = record { found = λ y h. err_ok e y h }

-- one of two readings by a test
pub either : {Y F : Type 0} {Is : Y → Type 0} {b : Bool} {read other : Result Y F} → (b ≡ true → Found Is read) → (b ≡ false → Found Is other) → Found Is (cond b read other)
either {b = true} d g = d refl
either {b = false} d g = g refl

-- one reading behind another
pub next : {X Y F : Type 0} {Is : X → Type 0} {Is' : X → Y → Type 0} {read : Result X F} {f : X → Result Y F} → Found Is read → ((x : X) → Is x → Found (Is' x) (f x))
    → Found (λ y. (x : X) × Is x × Is' x y) (read >>= f)
next {read = Ok x} d g = record { found = λ y h. (x, d.found x refl, (g x (d.found x refl)).found y h) }
next {read = Err e} d g = record { found = λ y h. err_ok e y h }

-- ---- items with their places

pub each_from : {A : Type 0} (f : ℕ × A → Bool) (from : ℕ) (xs : List A) → list_all f (enumerate_from from xs) ≡ true → (k : ℕ) (x : A) → slice_get xs k ≡ Some x → f (from + k, x) ≡ true
each_from f from [] h k x e = none_some x e
each_from {A} f from (y ∷ ys) h zero x e =
    let n : from ≡ from + 0 = omega arith in
    subst (λ (m : ℕ). f (m, x) ≡ true) n (subst (λ (z : A). f (from, z) ≡ true) (some_same y x e) (and_left (f (from, y)) (list_all f (enumerate_from (from + 1) ys)) h))
each_from f from (y ∷ ys) h (suc k) x e =
    let n : (from + 1) + k ≡ from + suc k = omega arith in
    subst (λ (m : ℕ). f (m, x) ≡ true) n (each_from f (from + 1) ys (and_right (f (from, y)) (list_all f (enumerate_from (from + 1) ys)) h) k x e)

pub each : {A : Type 0} (f : ℕ × A → Bool) (xs : List A) → list_all f (enumerate_from 0 xs) ≡ true → (k : ℕ) (x : A) → slice_get xs k ≡ Some x → f (k, x) ≡ true
each f xs h k x e =
    let n : 0 + k ≡ k = omega arith in
    subst (λ (m : ℕ). f (m, x) ≡ true) n (each_from f 0 xs h k x e)

pub all_from_each : {A : Type 0} (f : ℕ × A → Bool) (from : ℕ) (xs : List A) → ((k : ℕ) (x : A) → slice_get xs k ≡ Some x → f (from + k, x) ≡ true) → list_all f (enumerate_from from xs) ≡ true
all_from_each f from [] h = refl
all_from_each f from (y ∷ ys) h =
    let n : from + 0 ≡ from = omega arith in
    and_both (f (from, y)) (list_all f (enumerate_from (from + 1) ys)) (subst (λ (m : ℕ). f (m, y) ≡ true) n (h zero y refl))
    (all_from_each f (from + 1) ys (λ k x e.
    let n : from + suc k ≡ (from + 1) + k = omega arith in
    subst (λ (m : ℕ). f (m, x) ≡ true) n (h (suc k) x e)))

pub all_each : {A : Type 0} (f : ℕ × A → Bool) (xs : List A) → ((k : ℕ) (x : A) → slice_get xs k ≡ Some x → f (k, x) ≡ true) → list_all f (enumerate_from 0 xs) ≡ true
all_each f xs h = all_from_each f 0 xs (λ k x e.
    let n : k ≡ 0 + k = omega arith in
    subst (λ (m : ℕ). f (m, x) ≡ true) n (h k x e))

-- ---- items alone

pub item_of : {A : Type 0} (f : A → Bool) (xs : List A) → list_all f xs ≡ true → (k : ℕ) (x : A) → slice_get xs k ≡ Some x → f x ≡ true
item_of f [] h k x e = none_some x e
item_of f (y ∷ ys) h zero x e = ap f (sym (some_same y x e)) ∙ and_left (f y) (list_all f ys) h
item_of f (y ∷ ys) h (suc k) x e = item_of f ys (and_right (f y) (list_all f ys) h) k x e

pub all_items : {A : Type 0} (f : A → Bool) (xs : List A) → ((k : ℕ) (x : A) → slice_get xs k ≡ Some x → f x ≡ true) → list_all f xs ≡ true
all_items f [] h = refl
all_items f (y ∷ ys) h = and_both (f y) (list_all f ys) (h zero y refl) (all_items f ys (λ k x e. h (suc k) x e))

-- each two side by side
pub pairs_of : {A : Type 0} (f : A × A → Bool) (xs : List A) → ((k : ℕ) (x y : A) → slice_get xs k ≡ Some x → slice_get xs (suc k) ≡ Some y → f (x, y) ≡ true) → list_all f (neighbours xs) ≡ true
pairs_of f [] h = refl
pairs_of f (x ∷ []) h = refl
pairs_of f (x ∷ (y ∷ ys)) h = and_both (f (x, y)) (list_all f (neighbours (y ∷ ys))) (h zero x y refl refl) (pairs_of f (y ∷ ys) (λ k a b d e. h (suc k) a b d e))

-- a test that follows from another, of each item
