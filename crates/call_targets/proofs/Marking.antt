-- Marks on the numbers of a list.
use Rattle.std.proofs.Common.{◌≡◌, ◌∙◌, ℕ, zero, suc, ◌+◌, ◌<◌, Bool, true, false, List, [], ◌∷◌, ◌++◌, length, take, get_or, nat_eq, refl, sym, ap, arith}
use Rattle.std.specs.Prelude.{◌||◌, slice_set}
use Rattle.std.specs.List.{list_any}
use Rattle.std.proofs.Math.Dec.{eqb-suc-zero, eqb-zero-suc, eqb-suc-suc}
use Rattle.std.proofs.lemmas.List.{take_more}
use Rattle.call_targets.specs.Targeted.{is_on}

or_nil : (a : Bool) → (a || false) ≡ a
or_nil true = refl
or_nil false = refl

or_true : (a : Bool) → (a || true) ≡ true
or_true true = refl
or_true false = refl

or_assoc : (a b c : Bool) → ((a || b) || c) ≡ (a || (b || c))
or_assoc true b c = refl
or_assoc false b c = refl

-- the mark of a number once another one is set
set_is : (l : List Bool) (x n : ℕ) → n < length l → is_on (slice_set l x true) n ≡ (is_on l n || nat_eq n x)
set_is [] x n lt = absurd (omega (arith, lt))
set_is (b ∷ bs) zero zero lt = sym (or_true b)
set_is (b ∷ bs) zero (suc n) lt = sym (ap (λ z. is_on bs n || z) (eqb-suc-zero n) ∙ or_nil (is_on bs n))
set_is (b ∷ bs) (suc x) zero lt = sym (ap (λ z. b || z) (eqb-zero-suc x) ∙ or_nil b)
set_is (b ∷ bs) (suc x) (suc n) lt = set_is bs x n (omega (arith, lt)) ∙ ap (λ z. is_on bs n || z) (sym (eqb-suc-suc n x))

any_snoc : {X : Type 0} (t : X → Bool) (xs : List X) (x : X) → list_any t (xs ++ x ∷ []) ≡ (list_any t xs || t x)
any_snoc t [] x = or_nil (t x)
any_snoc t (y ∷ ys) x = ap (λ b. t y || b) (any_snoc t ys x) ∙ sym (or_assoc (t y) (list_any t ys) (t x))

-- one more of a list is marked
pub marks_at : {X : Type 0} (key : X → ℕ) (first old new : List Bool) (xs : List X) (i : ℕ) (d : X) (n : ℕ) → length old ≡ length first → n < length first → i < length xs
    → is_on old n ≡ (is_on first n || list_any (λ x. nat_eq n (key x)) (take i xs)) → new ≡ slice_set old (key (get_or xs i d)) true → is_on new n ≡ (is_on first n || list_any (λ x. nat_eq n (key x)) (take (i + 1) xs))
marks_at key first old new xs i d n long short lt so_far e =
    ap (λ l. is_on l n) e ∙ set_is old (key (get_or xs i d)) n (omega (arith, long, short)) ∙ ap (λ b. b || nat_eq n (key (get_or xs i d))) so_far
    ∙ or_assoc (is_on first n) (list_any (λ x. nat_eq n (key x)) (take i xs)) (nat_eq n (key (get_or xs i d)))
    ∙ ap (λ b. is_on first n || b) (sym (ap (list_any (λ x. nat_eq n (key x))) (take_more xs i d lt) ∙ any_snoc (λ x. nat_eq n (key x)) (take i xs) (get_or xs i d)))
