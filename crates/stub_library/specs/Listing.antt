-- Numbers by text.
use Rattle.std.specs.Prelude.{◌≡◌, ◌<◌, ◌^◌, ℕ, zero, suc, Bool, List, [], ◌∷◌, length, Option, Some, None, nat_eq, slice_get, cond}
use Rattle.std.specs.Cmp.Lexicographic.{pointwise}
use Rattle.std.specs.HashMap.{HashMap}
use Rattle.std.proofs.Common.{Bor}
use Rattle.indexmap.specs.IndexMap.{get_by}
use Rattle.stub_library.specs.declared.listed.Listed.{Listed}

abbrev pub same_text : List ℕ → List ℕ → Bool
same_text = pointwise nat_eq

-- what a table of numbers by texts has for a text
abbrev pub number_of : {S : Type 0} → HashMap (Bor (List ℕ)) ℕ S → List ℕ → Option ℕ
number_of m t = get_by (λ u. same_text t u.now) m

-- the last number below a bound that has the text, and all of them, the last first
abbrev pub last_below : (ℕ → List ℕ) → List ℕ → ℕ → Option ℕ
last_below texts t zero = None
last_below texts t (suc n) = cond (same_text (texts n) t) (Some n) (last_below texts t n)

abbrev pub all_below : (ℕ → List ℕ) → List ℕ → ℕ → List ℕ
all_below texts t zero = []
all_below texts t (suc n) = cond (same_text (texts n) t) (n ∷ all_below texts t n) (all_below texts t n)

-- so many numbers are listed by their texts
pub record AreListed (texts : ℕ → List ℕ) (n : ℕ) (listed : Listed) : Type 0 where
  pub last : (t : List ℕ) → number_of listed.last t ≡ last_below texts t n
  pub size : length listed.before.items ≡ n
  pub before : (i : ℕ) → i < n → slice_get listed.before.items i ≡ Some (last_below texts (texts i) i)
