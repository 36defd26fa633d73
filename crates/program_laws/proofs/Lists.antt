-- Options, and where lists contain.
use Rattle.std.proofs.Common.{◌≡◌, suc, Bool, true, false, true≢false, List, [], ◌∷◌, refl, sym, ap, subst, arith}
use Rattle.std.specs.Prelude.{Some, None, Contains, find}
use Rattle.lemmas.proofs.Lists.{contains_here, contains_there}
use Rattle.lemmas.proofs.Options.{none_some, some_same}
use mathlib.Core.Bool.{cond}

-- what is found is there
pub find_in : {X : Type 0} (test : X → Bool) (xs : List X) (x : X) → find test xs ≡ Some x → Contains xs x
find_in test [] x e = none_some x e
find_in {X} test (y ∷ xs) x e = by (test y) e (find_in test xs x)
  where
    by : (b : Bool) → cond b (Some y) (find test xs) ≡ Some x → (find test xs ≡ Some x → Contains xs x) → Contains (y ∷ xs) x
    by true i k = subst (λ z. Contains (y ∷ xs) z) (some_same y x i) (contains_here y xs)
    by false i k = contains_there y xs x (k i)
