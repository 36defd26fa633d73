-- Sums over the items of two lists, each like the one at its place in the other.
use Rattle.std.proofs.Common.{◌≡◌, ℕ, suc, List, [], ◌∷◌, length, Some, refl, sym, subst, arith}
use Rattle.std.specs.Prelude.{cond, slice_get, sum_by}
use Rattle.std.proofs.lemmas.List.Sums.{sum_by-cons}
use Rattle.lemmas.proofs.Options.{some_same}
use Rattle.program_model.specs.declared.program.Method.{Method}
use Rattle.staticise.specs.Left.{has_receiver_word}

-- 1 for a method with a receiver, which `receivers_in` adds up
abbrev pub word_of : Method → ℕ
word_of m = cond (has_receiver_word m) 1 0

pub each_sum : {A : Type 0} (R : A → A → Type 0) (f : A → ℕ) → ((x y : A) → R x y → f y ≡ f x) → (xs ys : List A) → length ys ≡ length xs
    → ((k : ℕ) (x : A) → slice_get xs k ≡ Some x → (y : A) × (slice_get ys k ≡ Some y) × R x y) → sum_by f ys ≡ sum_by f xs
each_sum R f h [] [] long each = refl
each_sum R f h [] (y ∷ ys) long each = absurd (omega (arith, long))
each_sum R f h (x ∷ xs) [] long each = absurd (omega (arith, long))
each_sum R f h (x ∷ xs) (y ∷ ys) long each =
    let one = each 0 x refl in
    let a = sum_by-cons f y ys in
    let b = sum_by-cons f x xs in
    let c : f y ≡ f x = h x y (subst (R x) (sym (some_same y one.0 one.1)) one.2) in
    let d = each_sum R f h xs ys (omega (arith, long)) (λ k z e. each (suc k) z e) in
    omega (arith, a, b, c, d)
