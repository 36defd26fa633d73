-- Words of a table.
use Rattle.std.proofs.Common.{◌≡◌, ℕ, zero, suc, ◌≤◌, List, [], ◌∷◌, Some, refl, sym, subst, arith}
use Rattle.std.specs.Prelude.{length, slice_get, slice_index_or}
use Rattle.domains.specs.Values.{Parts, any_value}
use Rattle.dom_frame.specs.Steps.{receiver}
use Rattle.closed_facts.specs.Tables.{IsBelow}
use Rattle.facts_check.specs.Tables.{AreAny}

-- what is read past words that may be anything may be anything too
pub any_words : (xs : List Parts) (d : Parts) → AreAny xs → d ≡ any_value → (i : ℕ) → IsBelow any_value (slice_index_or xs i d)
any_words [] d h e i = subst (λ (v : Parts). IsBelow any_value v) (sym e) (λ m z. z)
any_words (x ∷ xs) d h e zero = h 0 x refl
any_words (x ∷ xs) d h e (suc i) = any_words xs d (λ j v t. h (suc j) v t) e i

-- the first of some registers is the receiver's
pub first_receiver : (args : List ℕ) → 1 ≤ length args → slice_get args 0 ≡ Some (receiver args)
first_receiver [] lt = absurd (omega arith)
first_receiver (r ∷ rs) lt = refl
