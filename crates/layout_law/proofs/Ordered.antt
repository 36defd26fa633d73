-- Lists of texts and of numbers that ascend.
use Rattle.std.proofs.Common.{◌≡◌, ℕ, zero, suc, ◌+◌, ◌<◌, ◌≤◌, Bool, true, List, [], ◌∷◌, ◌++◌, Some, refl, sym, ap, ◌∙◌, subst, arith}
use Rattle.std.specs.Prelude.{nat_lt, slice_get}
use Rattle.std.specs.List.{AllByRecursion}
use Rattle.std.specs.Ordering.{nat_cmp, ordering_reverse}
use Rattle.std.specs.Cmp.Lexicographic.{slice_cmp}
use Rattle.std.specs.declared.cmp.Ordering.{Ordering}
use Rattle.std.specs.declared.cmp.Ordering.TheVariants.{Less, Equal, Greater}
use Rattle.std.proofs.lemmas.Bool.{lt-ltb, ltb-true}
use Rattle.std.proofs.lemmas.Cmp.{nat_list_cmp_total}
use Rattle.lemmas.proofs.Options.{none_some, some_same}
use Rattle.dex_pools.specs.Finds.{Ascends}
use Rattle.dex_pools.specs.Order.{is_less, list_below}
use Rattle.dex_defs.specs.Written.{one_entry, entries}
use Rattle.write_laws.specs.Used.{AllIn}
use Rattle.write_laws.proofs.Carried.{Stands, entry}

-- ---- texts

abbrev pub Text : Type 0
Text = List ℕ

is_less_so : (o : Ordering) → is_less o ≡ true → o ≡ Less
is_less_so Less e = refl
is_less_so Equal e = cc
is_less_so Greater e = cc

pub less : (x y : Text) → list_below x y ≡ true → slice_cmp nat_cmp x y ≡ Less
less x y e = is_less_so (slice_cmp nat_cmp x y) e

pub never_both : (x y : Text) → slice_cmp nat_cmp x y ≡ Less → slice_cmp nat_cmp y x ≡ Less → ⊥
never_both x y e d =
    let turned : slice_cmp nat_cmp x y ≡ Greater = nat_list_cmp_total.antisymm x y ∙ ap ordering_reverse d in
    let no : Less ≡ Greater = sym e ∙ turned in
    absurd cc

first_less : (x : Text) (xs : List Text) → Ascends list_below (x ∷ xs) → (m : ℕ) (y : Text) → slice_get xs m ≡ Some y → slice_cmp nat_cmp x y ≡ Less
first_less x [] a m y e = none_some y e
first_less x (z ∷ xs) a zero y e = subst (λ (w : Text). slice_cmp nat_cmp x w ≡ Less) (some_same z y e) (less x z a.0)
first_less x (z ∷ xs) a (suc m) y e = nat_list_cmp_total.trans x z y (less x z a.0) (first_less z xs a.1 m y e)

behind : (x : Text) (xs : List Text) → Ascends list_below (x ∷ xs) → Ascends list_below xs
behind x [] a = tt
behind x (y ∷ xs) a = a.1

-- each text is less than all behind it
pub texts_less : (xs : List Text) → Ascends list_below xs → (n m : ℕ) (x y : Text) → n < m → slice_get xs n ≡ Some x → slice_get xs m ≡ Some y → slice_cmp nat_cmp x y ≡ Less
texts_less [] a n m x y l e d = none_some x e
texts_less (z ∷ xs) a zero zero x y l e d = absurd (omega (arith, l))
texts_less (z ∷ xs) a zero (suc m) x y l e d = subst (λ (w : Text). slice_cmp nat_cmp w y ≡ Less) (some_same z x e) (first_less z xs a m y d)
texts_less (z ∷ xs) a (suc n) zero x y l e d = absurd (omega (arith, l))
texts_less (z ∷ xs) a (suc n) (suc m) x y l e d = texts_less xs (behind z xs a) n m x y (omega (arith, l)) e d

-- ---- numbers

abbrev AtLeast : ℕ → List ℕ → Type 0
AtLeast k [] = Unit {0}
AtLeast k (x ∷ xs) = k ≤ x

at_least_none : (ns : List ℕ) → AtLeast 0 ns
at_least_none [] = tt
at_least_none (n ∷ ns) = omega arith

low_from : (from : ℕ) (ns : List ℕ) → Ascends nat_lt ns → AtLeast from ns → (k n : ℕ) → slice_get ns k ≡ Some n → from + k ≤ n
low_from from [] a l k n e = none_some n e
low_from from (x ∷ xs) a l zero n e = omega (arith, l, some_same x n e)
low_from from (x ∷ []) a l (suc k) n e = none_some n e
low_from from (x ∷ y ∷ ys) a l (suc k) n e =
    let h = ltb-true x y a.0 in
    let r = low_from (suc from) (y ∷ ys) a.1 (omega (arith, l, h)) k n e in
    omega (arith, r)

-- numbers that ascend are no lower than their places
pub place_low : (ns : List ℕ) → Ascends nat_lt ns → (k n : ℕ) → slice_get ns k ≡ Some n → k ≤ n
place_low ns a k n e = let r = low_from 0 ns a (at_least_none ns) k n e in omega (arith, r)

-- entries that ascend have numbers that do
module _ {X Y : Type 0} (f : X → Y) (table : List X) (below : Y → Y → Bool) (P : ℕ → Type 0)
    (before : (n m : ℕ) (x y : X) → slice_get table n ≡ Some x → slice_get table m ≡ Some y → P n → P m → below (f x) (f y) ≡ true → n < m) where
  pub order_rises : (order : List ℕ) → AllIn table order → AllByRecursion P order → Ascends below (entries f table order) → Ascends nat_lt order
  order_rises [] fit all a = tt
  order_rises (n ∷ []) fit all a = tt
  order_rises (n ∷ m ∷ rest) fit all a =
      let s : Stands table n = entry table n fit.0 in
      let t : Stands table m = entry table m fit.1.0 in
      let b : Ascends below (f s.x ∷ (one_entry f (slice_get table m) ++ entries f table rest)) = subst (λ o. Ascends below (one_entry f o ++ (one_entry f (slice_get table m) ++ entries f table rest))) s.is a in
      let c : Ascends below (f s.x ∷ (f t.x ∷ entries f table rest)) = subst (λ o. Ascends below (f s.x ∷ (one_entry f o ++ entries f table rest))) t.is b in (
        lt-ltb n m (before n m s.x t.x s.is t.is all.0 all.1.0 c.0),
        order_rises (m ∷ rest) fit.1 all.1 (subst (λ o. Ascends below (one_entry f o ++ entries f table rest)) (sym t.is) c.1),
      )
