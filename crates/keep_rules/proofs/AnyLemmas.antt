-- Tests on lists by their entries.
use Rattle.std.proofs.Common.{◌≡◌, ℕ, zero, suc, ◌+◌, ◌<◌, ◌≤◌, ◌⊎◌, inl, inr, Bool, true, false, true≢false, nat_eq, List, [], ◌∷◌, ◌++◌, length, drop, get_or, Some, None, refl, sym, ap, ◌∙◌, arith}
use Rattle.std.specs.Prelude.{◌||◌, slice_get}
use Rattle.std.specs.List.{list_any}
use Rattle.class_defs.proofs.Positions.{number_of, number_test, same_test}
use Rattle.std.proofs.lemmas.List.{drop_more, drop_all}
use Rattle.keep_rules.specs.Table.{has}

-- an entry that passes
pub record Found {A : Type 0} (t : A → Bool) (xs : List A) : Type 0 where
  pub at : ℕ
  pub one : A
  pub is : slice_get xs at ≡ Some one
  pub passes : t one ≡ true

pub find_any : {A : Type 0} (t : A → Bool) (xs : List A) → list_any t xs ≡ true → Found t xs
find_any t [] e = absurd (true≢false (sym e))
find_any t (x ∷ xs) e = step (t x) refl e (find_any t xs)
  where
    step : (b : Bool) → t x ≡ b → (b || list_any t xs) ≡ true → (list_any t xs ≡ true → Found t xs) → Found t (x ∷ xs)
    step true h g r = record { at = 0; one = x; is = refl; passes = h }
    step false h g r = let f = r g in record { at = suc f.at; one = f.one; is = f.is; passes = f.passes }

pub or_behind : (a b : Bool) → b ≡ true → (a || b) ≡ true
or_behind true b g = refl
or_behind false b g = g

pub or_front : (a b : Bool) → a ≡ true → (a || b) ≡ true
or_front a b g = ap (λ x. x || b) g

pub or_cases : (a b : Bool) → (a || b) ≡ true → (a ≡ true) ⊎ (b ≡ true)
or_cases true b e = inl refl
or_cases false b e = inr e

pub any_at : {A : Type 0} (t : A → Bool) (xs : List A) (i : ℕ) (x : A) → slice_get xs i ≡ Some x → t x ≡ true → list_any t xs ≡ true
any_at t [] i x e h = cc
any_at t (y ∷ ys) zero x e h = let s : y ≡ x = cc in or_front (t y) (list_any t ys) (ap t s ∙ h)
any_at t (y ∷ ys) (suc i) x e h = or_behind (t y) (list_any t ys) (any_at t ys i x e h)

pub get_at : {A : Type 0} (xs : List A) (i : ℕ) (x : A) → i < length xs → x ≡ get_or xs i x → slice_get xs i ≡ Some x
get_at [] i x l e = absurd (omega arith)
get_at (y ∷ ys) zero x l e = ap (λ z. Some z) (sym e)
get_at (y ∷ ys) (suc i) x l e = get_at ys i x (omega arith) e

pub below_length : {A : Type 0} (xs : List A) (i : ℕ) (x : A) → slice_get xs i ≡ Some x → i < length xs
below_length [] i x e = cc
below_length (y ∷ ys) zero x e = omega arith
below_length (y ∷ ys) (suc i) x e = let l = below_length ys i x e in omega (arith, l)

-- what is had of a number
pub has_front : (ks ls : List ℕ) (n : ℕ) → has ks n ≡ true → has (ks ++ ls) n ≡ true
has_front [] ls n e = absurd (true≢false (sym e))
has_front (k ∷ ks) ls n e = step (nat_eq n k) e (has_front ks ls n)
  where
    step : (b : Bool) → (b || has ks n) ≡ true → (has ks n ≡ true → has (ks ++ ls) n ≡ true) → (b || has (ks ++ ls) n) ≡ true
    step true g r = refl
    step false g r = r g

pub has_behind : (ks ls : List ℕ) (n : ℕ) → has ls n ≡ true → has (ks ++ ls) n ≡ true
has_behind [] ls n e = e
has_behind (k ∷ ks) ls n e = or_behind (nat_eq n k) (has (ks ++ ls) n) (has_behind ks ls n e)

pub has_either : (ks ls : List ℕ) (n : ℕ) → has (ks ++ ls) n ≡ true → (has ks n ≡ true) ⊎ (has ls n ≡ true)
has_either [] ls n e = inr e
has_either (k ∷ ks) ls n e = step (nat_eq n k) e (has_either ks ls n)
  where
    step : (b : Bool) → (b || has (ks ++ ls) n) ≡ true → (has (ks ++ ls) n ≡ true → (has ks n ≡ true) ⊎ (has ls n ≡ true)) → ((b || has ks n) ≡ true) ⊎ (has ls n ≡ true)
    step true g r = inl refl
    step false g r = r g

pub has_one : (n k : ℕ) → has (k ∷ []) n ≡ true → n ≡ k
has_one n k e = number_of n k (last (nat_eq n k) e)
  where
    last : (b : Bool) → (b || false) ≡ true → b ≡ true
    last true g = refl
    last false g = g

pub has_self : (n k : ℕ) → n ≡ k → has (k ∷ []) n ≡ true
has_self n k e = or_front (nat_eq n k) false (number_test n k e)

pub has_last : (ks : List ℕ) (k n : ℕ) → has (ks ++ k ∷ []) n ≡ (has ks n || nat_eq n k)
has_last [] k n = last (nat_eq n k)
  where
    last : (b : Bool) → (b || false) ≡ b
    last true = refl
    last false = refl
has_last (j ∷ ks) k n = ap (λ b. nat_eq n j || b) (has_last ks k n) ∙ moved (nat_eq n j) (has ks n) (nat_eq n k)
  where
    moved : (a b c : Bool) → (a || (b || c)) ≡ ((a || b) || c)
    moved true b c = refl
    moved false b c = refl

pub has_at : (ks : List ℕ) (i k : ℕ) → slice_get ks i ≡ Some k → has ks k ≡ true
has_at ks i k e = any_at (nat_eq k) ks i k e (number_test k k refl)

-- a number that is had has a place
pub record PlaceOf (ks : List ℕ) (n : ℕ) : Type 0 where
  pub at : ℕ
  pub is : slice_get ks at ≡ Some n

pub place_in : (ks : List ℕ) (n : ℕ) → has ks n ≡ true → PlaceOf ks n
place_in ks n e = let f = find_any (nat_eq n) ks e in record { at = f.at; is = f.is ∙ ap (λ z. Some z) (sym (number_of n f.one f.passes)) }

pub get_front : {A : Type 0} (xs ys : List A) (i : ℕ) (x : A) → slice_get xs i ≡ Some x → slice_get (xs ++ ys) i ≡ Some x
get_front [] ys i x e = cc
get_front (z ∷ xs) ys zero x e = e
get_front (z ∷ xs) ys (suc i) x e = get_front xs ys i x e

pub get_in_front : {A : Type 0} (xs ys : List A) (i : ℕ) (x : A) → i < length xs → slice_get (xs ++ ys) i ≡ Some x → slice_get xs i ≡ Some x
get_in_front [] ys i x l e = absurd (omega arith)
get_in_front (z ∷ xs) ys zero x l e = e
get_in_front (z ∷ xs) ys (suc i) x l e = get_in_front xs ys i x (omega arith) e

-- tests that agree
pub any_congr : {A : Type 0} (f g : A → Bool) (xs : List A) → ((x : A) → f x ≡ g x) → list_any f xs ≡ list_any g xs
any_congr f g [] e = refl
any_congr f g (x ∷ xs) e = ap (λ b. b || list_any f xs) (e x) ∙ ap (λ b. g x || b) (any_congr f g xs e)

pub any_congr_in : {A : Type 0} (f g : A → Bool) (xs : List A) → ((i : ℕ) (x : A) → slice_get xs i ≡ Some x → f x ≡ g x) → list_any f xs ≡ list_any g xs
any_congr_in f g [] e = refl
any_congr_in f g (x ∷ xs) e = ap (λ b. b || list_any f xs) (e 0 x refl) ∙ ap (λ b. g x || b) (any_congr_in f g xs (λ i y d. e (suc i) y d))

pub any_never : {A : Type 0} (f : A → Bool) (xs : List A) → ((x : A) → f x ≡ false) → list_any f xs ≡ false
any_never f [] e = refl
any_never f (x ∷ xs) e = ap (λ b. b || list_any f xs) (e x) ∙ any_never f xs e

-- from a test to another, entry by entry
pub any_same_by : {A B : Type 0} (f : A → Bool) (g : B → Bool) (xs : List A) (ys : List B)
    → ((i : ℕ) (x : A) → slice_get xs i ≡ Some x → f x ≡ true → list_any g ys ≡ true) → ((i : ℕ) (y : B) → slice_get ys i ≡ Some y → g y ≡ true → list_any f xs ≡ true) → list_any f xs ≡ list_any g ys
any_same_by f g xs ys to from = same_test (list_any f xs) (list_any g ys)
    (λ e. let w = find_any f xs e in to w.at w.one w.is w.passes) (λ e. let w = find_any g ys e in from w.at w.one w.is w.passes)

-- ---- a loop that looks for one that passes a test

module _ {R : Type 0} (t : R → Bool) (rs : List R) (i : ℕ) (r : R) (b : Bool) (h : i < length rs) (e : r ≡ get_or rs i r) (says : b ≡ t r) where
  one_here : list_any t (drop i rs) ≡ list_any t rs → (b || list_any t (drop (i + 1) rs)) ≡ list_any t rs
  one_here inv = ap (λ x. x || list_any t (drop (i + 1) rs)) (says ∙ ap t e) ∙ ap (list_any t) (sym (drop_more rs i r h)) ∙ inv

  pub one_found : b ≡ true → list_any t (drop i rs) ≡ list_any t rs → true ≡ list_any t rs
  one_found v inv = ap (λ x. x || list_any t (drop (i + 1) rs)) (sym v) ∙ one_here inv

  pub one_passed : b ≡ false → list_any t (drop i rs) ≡ list_any t rs → list_any t (drop (i + 1) rs) ≡ list_any t rs
  one_passed v inv = ap (λ x. x || list_any t (drop (i + 1) rs)) (sym v) ∙ one_here inv

pub one_end : {R : Type 0} (t : R → Bool) (rs : List R) (i : ℕ) → length rs ≤ i → list_any t (drop i rs) ≡ list_any t rs → false ≡ list_any t rs
one_end t rs i h inv = ap (list_any t) (sym (drop_all i rs h)) ∙ inv

-- what is read at a place, whatever stands for none
pub read_here : {A : Type 0} (xs : List A) (i : ℕ) (d : A) → i < length xs → get_or xs i d ≡ get_or xs i (get_or xs i d)
read_here [] i d h = absurd (omega arith)
read_here (x ∷ xs) zero d h = refl
read_here (x ∷ xs) (suc i) d h = other xs i d (get_or xs i d) (omega arith)
  where
    other : {A : Type 0} (ls : List A) (j : ℕ) (a b : A) → j < length ls → get_or ls j a ≡ get_or ls j b
    other [] j a b h = absurd (omega arith)
    other (l ∷ ls) zero a b h = refl
    other (l ∷ ls) (suc j) a b h = other ls j a b (omega arith)

pub none_past : {A : Type 0} (xs : List A) (i : ℕ) → slice_get xs i ≡ None → length xs ≤ i
none_past [] i e = omega arith
none_past (x ∷ xs) zero e = cc
none_past (x ∷ xs) (suc i) e = let l = none_past xs i e in omega (arith, l)
