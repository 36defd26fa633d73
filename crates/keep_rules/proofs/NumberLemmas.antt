-- The marked numbers ascend and are below the size.
use Rattle.std.proofs.Common.{◌≡◌, sym, subst, ℕ, zero, suc, ◌<◌, List, [], ◌∷◌, ◌++◌, Bool, true, false, get_or, arith, if◌then◌else◌}
use Rattle.std.specs.List.{All}
use Rattle.std.proofs.lemmas.List.Elements.{All-push, All-weaker, All-get_or}
use Rattle.std.proofs.lemmas.List.{append-nil}
use Rattle.std.proofs.lemmas.List.Quantifiers.{all_pairs_push}
use Rattle.program_model.specs.declared.pass.ClassIf.{ClassIf}
use Rattle.keep_rules.specs.Marks.{numbers_of}
use Rattle.keep_rules.specs.Outside.{AreNumbers}

wider : (n : ℕ) (xs : List ℕ) → AreNumbers n xs → AreNumbers (suc n) xs
wider n xs are = record {
  below = All-weaker (λ k. k < n) (λ k. k < suc n) (λ k h. omega arith) xs are.below;
  ascend = are.ascend;
}

one_more : (n : ℕ) (xs : List ℕ) → AreNumbers n xs → AreNumbers (suc n) (xs ++ n ∷ [])
one_more n xs are =
    let least : n < suc n = omega arith in
    record {
      below = All-push (λ k. k < suc n) xs n ((wider n xs are).below) least;
      ascend = all_pairs_push (λ a b. a < b) xs n are.ascend (λ k d h. All-get_or (λ j. j < n) xs k d h are.below);
    }

by_mark : (n : ℕ) (xs : List ℕ) → AreNumbers n xs → (b : Bool) → AreNumbers (suc n) (xs ++ (if b then n ∷ [] else []))
by_mark n xs are true = one_more n xs are
by_mark n xs are false = rw append-nil (wider n xs are)

pub numbers_are : (marks : List Bool) (n : ℕ) → AreNumbers n (numbers_of marks n)
numbers_are marks zero = record { below = λ k d h. absurd (omega (arith, h)); ascend = λ i j d h g. absurd (omega (arith, h, g)) }
numbers_are marks (suc n) = by_mark n (numbers_of marks n) (numbers_are marks n) (get_or marks n false)

-- the same for a list and a size that are equal to these
pub are_numbers : (marks : List Bool) (size whole : ℕ) (xs : List ℕ) → xs ≡ numbers_of marks size → size ≡ whole → AreNumbers whole xs
are_numbers marks size whole xs e s =
    let here : AreNumbers size xs = subst (λ (ys : List ℕ). AreNumbers size ys) (sym e) (numbers_are marks size) in
    subst (λ (n : ℕ). AreNumbers n xs) s here

pub all_classes : (size whole : ℕ) (pairs : List ClassIf) → All (λ pair. pair.class < size) pairs → size ≡ whole → All (λ pair. pair.class < whole) pairs
all_classes size whole pairs all s = subst (λ (n : ℕ). All (λ pair. pair.class < n) pairs) s all

pub all_owners : (size whole : ℕ) (pairs : List ClassIf) → All (λ pair. pair.owner < size) pairs → size ≡ whole → All (λ pair. pair.owner < whole) pairs
all_owners size whole pairs all s = subst (λ (n : ℕ). All (λ pair. pair.owner < n) pairs) s all
