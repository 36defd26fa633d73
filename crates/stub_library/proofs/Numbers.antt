-- The marked numbers ascend and are below the size.
use Rattle.std.proofs.Common.{◌≡◌, sym, subst, ℕ, zero, suc, ◌+◌, ◌<◌, ◌≤◌, List, [], ◌∷◌, ◌++◌, length, Bool, true, false, get_or, refl, arith, if◌then◌else◌}
use Rattle.std.specs.List.{All, AllPairs}
use Rattle.std.proofs.lemmas.List.Elements.{All-push, All-weaker, All-get_or}
use Rattle.std.proofs.lemmas.List.{append-nil}
use Rattle.std.proofs.lemmas.List.Quantifiers.{all_pairs_push}
use Rattle.stub_library.specs.Narrowed.{numbers_of, AreNumbers}

wider : (n : ℕ) (xs : List ℕ) → AreNumbers n xs → AreNumbers (suc n) xs
wider n xs are = record {
  below = All-weaker (λ k. k < n) (λ k. k < suc n) (λ k h. omega arith) xs are.below;
  ascend = are.ascend;
}

one_more : (n : ℕ) (xs : List ℕ) → AreNumbers n xs → AreNumbers (suc n) (xs ++ n ∷ [])
one_more n xs are =
    let least : n < suc n = omega arith in
    record {
      below = All-push (λ k. k < suc n) xs n ((wider n xs are).below) least;
      ascend = all_pairs_push (λ a b. a < b) xs n are.ascend (λ k d h. All-get_or (λ j. j < n) xs k d h are.below);
    }

by_mark : (n : ℕ) (xs : List ℕ) → AreNumbers n xs → (b : Bool) → AreNumbers (suc n) (xs ++ (if b then n ∷ [] else []))
by_mark n xs are true = one_more n xs are
by_mark n xs are false = rw append-nil (wider n xs are)

pub numbers_are : (marks : List Bool) (n : ℕ) → AreNumbers n (numbers_of marks n)
numbers_are marks zero = record { below = λ k d h. absurd (omega (arith, h)); ascend = λ i j d h g. absurd (omega (arith, h, g)) }
numbers_are marks (suc n) = by_mark n (numbers_of marks n) (numbers_are marks n) (get_or marks n false)

-- the same for a size that is no greater than another
pub numbers_within : (marks : List Bool) (size whole : ℕ) (xs : List ℕ) → xs ≡ numbers_of marks size → size ≤ whole → AreNumbers whole xs
numbers_within marks size whole xs e le =
    let here : AreNumbers size xs = subst (λ (ys : List ℕ). AreNumbers size ys) (sym e) (numbers_are marks size) in
    record { below = All-weaker (λ k. k < size) (λ k. k < whole) (λ k h. omega arith) xs here.below; ascend = here.ascend }
