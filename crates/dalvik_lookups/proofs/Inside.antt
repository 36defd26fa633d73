-- What lists contain.
use Rattle.std.proofs.Common.{◌≡◌, ◌⊎◌, inl, inr, Bool, true, false, true≢false, List, [], ◌∷◌, sym, ap, ◌∙◌, arith}
use Rattle.std.specs.Prelude.{◌||◌, Contains}
use Rattle.std.specs.List.{list_any}
use Rattle.std.proofs.lemmas.List.Elements.{Contains-push, Contains-push_cases, Contains-append_left, Contains-append_right, Contains-append_cases}

pub none_in : {X : Type 0} (x : X) → Contains [] x → ⊥
none_in x c = let l = c.1 in omega (arith, l)

pub first_in : {X : Type 0} (x : X) (xs : List X) → Contains (x ∷ xs) x
first_in x xs = Contains-append_left (x ∷ []) xs x (Contains-push [] x)

pub later_in : {X : Type 0} (x : X) (xs : List X) (y : X) → Contains xs y → Contains (x ∷ xs) y
later_in x xs y c = Contains-append_right (x ∷ []) xs y c

pub only_in : {X : Type 0} (x y : X) → Contains (x ∷ []) y → x ≡ y
only_in x y c = elim (Contains-push_cases [] x y c) [ inl e ↦ absurd (none_in y e) | inr e ↦ e ]

pub first_or : {X : Type 0} (x : X) (xs : List X) (y : X) → Contains (x ∷ xs) y → (x ≡ y) ⊎ Contains xs y
first_or x xs y c = elim (Contains-append_cases (x ∷ []) xs y c) [ inl e ↦ inl (only_in x y e) | inr e ↦ inr e ]

-- ---- tests of some element

or_left : (a b : Bool) → a ≡ true → (a || b) ≡ true
or_left true b e = e
or_left false b e = absurd (true≢false (sym e))

or_right : (a b : Bool) → b ≡ true → (a || b) ≡ true
or_right true b e = or_left true b (let r : true ≡ true = λ i. true in r)
or_right false b e = e

or_either : (a b : Bool) → (a || b) ≡ true → (a ≡ true) ⊎ (b ≡ true)
or_either true b e = inl e
or_either false b e = inr e

-- an element that passes
pub record Passing {X : Type 0} (t : X → Bool) (xs : List X) : Type 0 where
  pub one : X
  pub is_in : Contains xs one
  pub passes : t one ≡ true

pub any_of : {X : Type 0} (t : X → Bool) (xs : List X) → list_any t xs ≡ true → Passing t xs
any_of t [] e = absurd (true≢false (sym e))
any_of t (x ∷ xs) e = elim (or_either (t x) (list_any t xs) e) [
  | inl f ↦ record { one = x; is_in = first_in x xs; passes = f }
  | inr f ↦ let r = any_of t xs f in record { one = r.one; is_in = later_in x xs r.one r.is_in; passes = r.passes }
]

pub any_in : {X : Type 0} (t : X → Bool) (xs : List X) (x : X) → Contains xs x → t x ≡ true → list_any t xs ≡ true
any_in t [] x c e = absurd (none_in x c)
any_in t (y ∷ ys) x c e = elim (first_or y ys x c) [
  | inl f ↦ or_left (t y) (list_any t ys) (ap t f ∙ e)
  | inr f ↦ or_right (t y) (list_any t ys) (any_in t ys x f e)
]
