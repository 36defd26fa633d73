-- Tests and sums over lists whose items are related one by one.
use Rattle.std.proofs.Common.{◌≡◌, ℕ, suc, ◌+◌, ◌≤◌, Bool, true, false, List, [], ◌∷◌, ◌++◌, length, refl, ap, ap₂, arith}
use Rattle.std.specs.Prelude.{◌&&◌, ◌||◌, if◌then◌else◌, nat_eq, sum_by}
use Rattle.std.specs.Cmp.Lexicographic.{pointwise}
use Rattle.std.specs.List.{list_all, list_any}
use Rattle.std.proofs.lemmas.List.Sums.{sum_by-cons}
use Rattle.lemmas.proofs.Bools.{and_right}
use Rattle.program_model.specs.Neighbours.{neighbours}
use Rattle.program_model.specs.Distinct.{same_entry, differ_from}
use Rattle.program_laws.proofs.ChangedLists.{and_left, and_both}
use Rattle.program_laws.specs.Others.{Pairwise}

module _ {A : Type 0} (R : A → A → Type 0) where
  pub length_pairs : (xs ys : List A) → Pairwise R xs ys → length ys ≡ length xs
  length_pairs [] [] r = refl
  length_pairs [] (y ∷ ys) r = absurd r
  length_pairs (x ∷ xs) [] r = absurd r
  length_pairs (x ∷ xs) (y ∷ ys) r = ap suc (length_pairs xs ys r.1)

  pub all_pairs : (t u : A → Bool) → ((x y : A) → R x y → t x ≡ true → u y ≡ true) → (xs ys : List A) → Pairwise R xs ys → list_all t xs ≡ true → list_all u ys ≡ true
  all_pairs t u h [] [] r e = refl
  all_pairs t u h [] (y ∷ ys) r e = absurd r
  all_pairs t u h (x ∷ xs) [] r e = absurd r
  all_pairs t u h (x ∷ xs) (y ∷ ys) r e = and_both (u y) (list_all u ys) (h x y r.0 (and_left (t x) (list_all t xs) e)) (all_pairs t u h xs ys r.1 (and_right (t x) (list_all t xs) e))

  pub order_pairs : (f : A × A → Bool) → ((x y a b : A) → R x a → R y b → f (a, b) ≡ f (x, y)) → (xs ys : List A) → Pairwise R xs ys → list_all f (neighbours ys) ≡ list_all f (neighbours xs)
  order_pairs f h [] [] r = refl
  order_pairs f h [] (y ∷ ys) r = absurd r
  order_pairs f h (x ∷ xs) [] r = absurd r
  order_pairs f h (x ∷ []) (a ∷ []) r = refl
  order_pairs f h (x ∷ []) (a ∷ (b ∷ bs)) r = absurd r.1
  order_pairs f h (x ∷ (y ∷ ys)) (a ∷ []) r = absurd r.1
  order_pairs f h (x ∷ (y ∷ ys)) (a ∷ (b ∷ bs)) r = ap₂ (λ c d. c && d) (h x y a b r.0 r.1.0) (order_pairs f h (y ∷ ys) (b ∷ bs) r.1)

  pub sum_pairs : (g : A → ℕ) → ((x y : A) → R x y → g y ≤ g x) → (xs ys : List A) → Pairwise R xs ys → sum_by g ys ≤ sum_by g xs
  sum_pairs g h [] [] r = omega arith
  sum_pairs g h [] (y ∷ ys) r = absurd r
  sum_pairs g h (x ∷ xs) [] r = absurd r
  sum_pairs g h (x ∷ xs) (y ∷ ys) r = added g x y xs ys (h x y r.0) (sum_pairs g h xs ys r.1)
    where
      added : (g : A → ℕ) (x y : A) (xs ys : List A) → g y ≤ g x → sum_by g ys ≤ sum_by g xs → sum_by g (y ∷ ys) ≤ sum_by g (x ∷ xs)
      added g x y xs ys l m = omega (arith, l, m, sum_by-cons g y ys, sum_by-cons g x xs)

  module _ (key : A → List ℕ) (same : (x y : A) → R x y → key y ≡ key x) where
    any_pairs : (x y : A) → R x y → (xs ys : List A) → Pairwise R xs ys → list_any (λ z. same_entry key z y) ys ≡ list_any (λ z. same_entry key z x) xs
    any_pairs x y e [] [] r = refl
    any_pairs x y e [] (b ∷ bs) r = absurd r
    any_pairs x y e (a ∷ zs) [] r = absurd r
    any_pairs x y e (a ∷ zs) (b ∷ bs) r = ap₂ (λ c d. c || d) (ap₂ (λ k l. pointwise nat_eq k l) (same a b r.0) (same x y e)) (any_pairs x y e zs bs r.1)

    pairs_behind : (xs ys : List A) (x y : A) → Pairwise R xs ys → R x y → Pairwise R (xs ++ x ∷ []) (ys ++ y ∷ [])
    pairs_behind [] [] x y r e = (e, tt)
    pairs_behind [] (b ∷ bs) x y r e = absurd r
    pairs_behind (a ∷ zs) [] x y r e = absurd r
    pairs_behind (a ∷ zs) (b ∷ bs) x y r e = (r.0, pairs_behind zs bs x y r.1 e)

    pub differ_pairs : (xs ys zs bs : List A) → Pairwise R xs ys → Pairwise R zs bs → differ_from key bs ys ≡ differ_from key zs xs
    differ_pairs [] [] zs bs r e = refl
    differ_pairs [] (y ∷ ys) zs bs r e = absurd r
    differ_pairs (x ∷ xs) [] zs bs r e = absurd r
    differ_pairs (x ∷ xs) (y ∷ ys) zs bs r e = ap₂ (λ c d. if c then false else d) (any_pairs x y r.0 zs bs e) (differ_pairs xs ys (zs ++ x ∷ []) (bs ++ y ∷ []) r.1 (pairs_behind zs bs x y e r.0))
