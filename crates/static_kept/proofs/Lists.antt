-- Lists: what stands at a place, entries that differ, and lists in another order.
use Rattle.std.proofs.Common.{◌≡◌, ℕ, zero, suc, ◌+◌, ◌<◌, ◌≤◌, Bool, true, false, nat_eq, List, [], ◌∷◌, ◌++◌, map, length, get_or, Some, refl, sym, ap, ap₂, ◌∙◌, arith}
use Rattle.std.specs.Prelude.{◌||◌, cond, count_by, slice_get, slice_index_or, sum_by, All, if◌then◌else◌}
use Rattle.std.specs.List.{list_all, list_any}
use Rattle.std.specs.List.Sorted.{IsPermutation}
use Rattle.std.specs.Cmp.Lexicographic.{bytes_decides}
use Rattle.std.proofs.lemmas.List.Folds.{list_any-append}
use Rattle.std.proofs.lemmas.List.Sorted.{All-permutation}
use Rattle.std.proofs.lemmas.List.Sums.{sum_by-cons}
use Rattle.std.proofs.lemmas.Option.{slice_get-get_or}
use Rattle.lemmas.proofs.Bools.{and_left, and_right, and_both, none_or, untrue}
use Rattle.lemmas.proofs.Lists.{all_at, got_short}
use Rattle.lemmas.proofs.Options.{none_some, some_same}
use Rattle.program_model.specs.Distinct.{all_differ, differ_from, same_entry}
use Rattle.class_defs.proofs.Positions.{number_test}

-- ---- places

pub long_first : {A : Type 0} (xs ys : List A) → length xs ≤ length (xs ++ ys)
long_first [] ys = omega arith
long_first (x ∷ xs) ys = let l = long_first xs ys in omega (arith, l)

pub index_first : (xs ys : List (List ℕ)) (n : ℕ) → n < length xs → slice_index_or (xs ++ ys) n [] ≡ slice_index_or xs n []
index_first [] ys n lt = absurd (omega (arith, lt))
index_first (x ∷ xs) ys zero lt = refl
index_first (x ∷ xs) ys (suc n) lt = index_first xs ys n (omega (arith, lt))

-- what is there is what the index gives
pub index_there : (xs : List (List ℕ)) (n : ℕ) (x : List ℕ) → slice_get xs n ≡ Some x → slice_index_or xs n [] ≡ x
index_there [] n x e = none_some x e
index_there (y ∷ xs) zero x e = some_same y x e
index_there (y ∷ xs) (suc n) x e = index_there xs n x e

-- ---- tests of all

pub all_each : {A : Type 0} (t : A → Bool) (xs : List A) → ((n : ℕ) (x : A) → slice_get xs n ≡ Some x → t x ≡ true) → list_all t xs ≡ true
all_each t [] h = refl
all_each t (x ∷ xs) h = and_both (t x) (list_all t xs) (h 0 x refl) (all_each t xs (λ n y e. h (suc n) y e))

pub all_map : {A : Type 0} (f : A → A) (s t : A → Bool) → ((x : A) → s x ≡ true → t (f x) ≡ true) → (xs : List A) → list_all s xs ≡ true → list_all t (map f xs) ≡ true
all_map f s t h [] e = refl
all_map f s t h (x ∷ xs) e = and_both (t (f x)) (list_all t (map f xs)) (h x (and_left (s x) (list_all s xs) e)) (all_map f s t h xs (and_right (s x) (list_all s xs) e))

pub all_permuted : {A : Type 0} (t : A → Bool) (xs ys : List A) → IsPermutation xs ys → list_all t xs ≡ true → list_all t ys ≡ true
all_permuted {A} t xs ys perm e = all_each t ys each
  where
    first : All (λ x. t x ≡ true) xs
    first = λ k d lt. all_at t xs k (get_or xs k d) e (slice_get-get_or xs k d lt)

    second : All (λ x. t x ≡ true) ys
    second = All-permutation (λ x. t x ≡ true) xs ys perm first

    each : (n : ℕ) (x : A) → slice_get ys n ≡ Some x → t x ≡ true
    each n x h = let l = got_short ys n x h in ap t (some_same x (get_or ys n x) (sym h ∙ slice_get-get_or ys n x l)) ∙ second n x l

-- ---- entries that differ

module _ {A : Type 0} (key : A → List ℕ) where
  differ_so : (before xs : List A) → ((j : ℕ) (y : A) → slice_get xs j ≡ Some y → list_any (λ b. same_entry key b y) before ≡ false)
      → ((i j : ℕ) (x y : A) → i < j → slice_get xs i ≡ Some x → slice_get xs j ≡ Some y → same_entry key x y ≡ false) → differ_from key before xs ≡ true
  differ_so before [] a h = refl
  differ_so before (x ∷ xs) a h =
      ap (λ b. if b then false else differ_from key (before ++ x ∷ []) xs) (a 0 x refl)
      ∙ differ_so (before ++ x ∷ []) xs
      (λ j y e. list_any-append (λ b. same_entry key b y) before (x ∷ [])
      ∙ none_or (list_any (λ b. same_entry key b y) before) (same_entry key x y || false) (a (suc j) y e) (ap (λ b. b || false) (h 0 (suc j) x y (omega arith) refl e)))
      (λ i j y z lt e f. h (suc i) (suc j) y z (omega (arith, lt)) e f)

  -- where no two of them have one key
  pub differ_each : (xs : List A) → ((i j : ℕ) (x y : A) → i < j → slice_get xs i ≡ Some x → slice_get xs j ≡ Some y → key x ≡ key y → ⊥) → all_differ key xs ≡ true
  differ_each xs h = differ_so [] xs (λ j y e. refl) (λ i j x y lt e f. untrue (same_entry key x y) (λ s. h i j x y lt e f ((bytes_decides (key x) (key y)).0 s)))

-- ---- numbers that stand once

module _ {A : Type 0} (number : A → ℕ) where
  abbrev flag : Bool → ℕ
  flag b = cond b 1 0

  abbrev counted : ℕ → List A → ℕ
  counted n xs = count_by (λ x. nat_eq (number x) n) xs

  one_counted : (xs : List A) (i n : ℕ) (x : A) → slice_get xs i ≡ Some x → number x ≡ n → 1 ≤ counted n xs
  one_counted [] i n x e s = none_some x e
  one_counted (y ∷ xs) zero n x e s =
      let a : flag (nat_eq (number y) n) ≡ 1 = ap flag (number_test (number y) n (ap number (some_same y x e) ∙ s)) in
      let b = sum_by-cons (λ z. cond (nat_eq (number z) n) 1 0) y xs in
      omega (arith, a, b)
  one_counted (y ∷ xs) (suc i) n x e s =
      let a = one_counted xs i n x e s in
      let b = sum_by-cons (λ z. cond (nat_eq (number z) n) 1 0) y xs in
      omega (arith, a, b)

  two_counted : (xs : List A) (i j n : ℕ) (x y : A) → i < j → slice_get xs i ≡ Some x → slice_get xs j ≡ Some y → number x ≡ n → number y ≡ n → 2 ≤ counted n xs
  two_counted [] i j n x y lt e f s r = none_some x e
  two_counted (z ∷ xs) i zero n x y lt e f s r = absurd (omega (arith, lt))
  two_counted (z ∷ xs) zero (suc j) n x y lt e f s r =
      let a : flag (nat_eq (number z) n) ≡ 1 = ap flag (number_test (number z) n (ap number (some_same z x e) ∙ s)) in
      let b = sum_by-cons (λ w. cond (nat_eq (number w) n) 1 0) z xs in
      let c = one_counted xs j n y f r in
      omega (arith, a, b, c)
  two_counted (z ∷ xs) (suc i) (suc j) n x y lt e f s r =
      let a = two_counted xs i j n x y (omega (arith, lt)) e f s r in
      let b = sum_by-cons (λ w. cond (nat_eq (number w) n) 1 0) z xs in
      omega (arith, a, b)

  pub once_differ : (xs : List A) → ((n : ℕ) → counted n xs ≤ 1) → all_differ (λ x. number x ∷ []) xs ≡ true
  once_differ xs h = differ_each (λ x. number x ∷ []) xs (λ i j x y lt e f k. let c = h (number y) in let d = two_counted xs i j (number y) x y lt e f (head k) refl in omega (arith, c, d))
    where
      head : {a b : ℕ} → a ∷ [] ≡ b ∷ [] → a ≡ b
      head k = cc

-- ---- sums

pub sum_map : {A : Type 0} (f : A → A) (g h : A → ℕ) → ((x : A) → g (f x) ≡ h x) → (xs : List A) → sum_by g (map f xs) ≡ sum_by h xs
sum_map f g h e [] = refl
sum_map f g h e (x ∷ xs) = sum_by-cons g (f x) (map f xs) ∙ ap₂ (λ m n. m + n) (e x) (sum_map f g h e xs) ∙ sym (sum_by-cons h x xs)

pub sum_both : {A : Type 0} (g h : A → ℕ) (xs : List A) → sum_by (λ x. g x + h x) xs ≡ sum_by g xs + sum_by h xs
sum_both g h [] = refl
sum_both g h (x ∷ xs) =
    let a = sum_by-cons (λ y. g y + h y) x xs in
    let b = sum_by-cons g x xs in
    let c = sum_by-cons h x xs in
    let d = sum_both g h xs in
    a ∙ (ap (λ n. (g x + h x) + n) d ∙ omega (arith, b, c))

pub sum_end : {A : Type 0} (g : A → ℕ) (xs : List A) (x : A) → sum_by g (xs ++ x ∷ []) ≡ sum_by g xs + g x
sum_end g [] x = let a = sum_by-cons g x [] in a ∙ omega arith
sum_end g (y ∷ xs) x =
    let a = sum_by-cons g y (xs ++ x ∷ []) in
    let b = sum_by-cons g y xs in
    let c = sum_end g xs x in
    a ∙ (ap (λ n. g y + n) c ∙ omega (arith, b))
