-- Members of lists of numbers, by test.
use Rattle.std.proofs.Common.{◌≡◌, inl, inr, ℕ, Bool, true, false, true≢false, nat_eq, List, [], ◌∷◌, Some, None, Contains, refl, sym, ap, subst, eqb-true, eq-eqb}
use Rattle.std.specs.Prelude.{◌||◌}
use Rattle.std.specs.List.{list_any}
use Rattle.std.proofs.lemmas.Bool.{or_left, or_right}
use Rattle.body_graph.proofs.Members.{none, first, there, split}

pub some_same : {A : Type 0} (x y : A) → Some x ≡ Some y → x ≡ y
some_same x y e = ap (λ o. elim o as (λ o. _) [ Some z ↦ z | None ↦ x ]) e

pub no_some : {A : Type 0} {X : Type 0} (x : A) → None ≡ Some x → X
no_some x e = absurd (true≢false (ap (λ o. elim o as (λ o. Bool) [ Some z ↦ false | None ↦ true ]) e))

pub untrue : (b : Bool) → (b ≡ true → ⊥) → b ≡ false
untrue true h = absurd (h refl)
untrue false h = refl

pub either : {X : Type 0} (a b : Bool) → (a || b) ≡ true → (a ≡ true → X) → (b ≡ true → X) → X
either true b e f g = f refl
either false b e f g = g e

-- a member passes the test
pub is_in : (x : ℕ) (xs : List ℕ) → Contains xs x → list_any (nat_eq x) xs ≡ true
is_in x [] c = absurd (none x c)
is_in x (y ∷ ys) c = elim (split y ys x c) [
  | inl e ↦ or_left (nat_eq x y) (list_any (nat_eq x) ys) (eq-eqb x y (sym e))
  | inr d ↦ or_right (nat_eq x y) (list_any (nat_eq x) ys) (is_in x ys d)
]

-- and what passes it is one
pub in_it : (x : ℕ) (xs : List ℕ) → list_any (nat_eq x) xs ≡ true → Contains xs x
in_it x [] e = absurd (true≢false (sym e))
in_it x (y ∷ ys) e = either (nat_eq x y) (list_any (nat_eq x) ys) e
    (λ i. subst (λ z. Contains (y ∷ ys) z) (sym (eqb-true x y i)) (first y ys))
    (λ i. there y ys x (in_it x ys i))
