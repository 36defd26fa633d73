-- Arguments, one after the other.
use Rattle.std.proofs.Common.{◌≡◌, ℕ, zero, suc, ◌+◌, ◌<◌, ◌≤◌, Bool, false, List, [], ◌∷◌, length, get_or, drop, refl, sym, ap, ◌∙◌, subst, arith, add-one, drop-cons, Option, Some, None}
use Rattle.std.specs.Prelude.{nat_eq}
use Rattle.program_model.specs.Texts.{letter_of, is_wide}
use Rattle.program_model.specs.declared.program.Program.{Program}
use Rattle.inline_calls.specs.Candidates.{arg_behind, args_fit}

module _ (p : Program) where
  goes_on : List ℕ → Option (List ℕ) → Bool
  goes_on kinds o = elim o as (λ o. Bool) [ Some behind ↦ args_fit p kinds behind | None ↦ false ]

  here : (kinds : List ℕ) (i d : ℕ) (rest : List ℕ) → i < length kinds → args_fit p (drop i kinds) rest ≡ goes_on (drop (suc i) kinds) (arg_behind (is_wide (letter_of p (get_or kinds i d))) rest)
  unfolding goes_on
  here [] i d rest lt = absurd (omega (arith, lt))
  here (k ∷ kinds) zero d rest lt = refl
  here (k ∷ kinds) (suc i) d rest lt = here kinds i d rest (omega arith)

  pub arg_next : (kinds : List ℕ) (i d : ℕ) (rest behind : List ℕ) (o : Option (List ℕ)) (all : Bool) → i < length kinds → o ≡ arg_behind (is_wide (letter_of p (get_or kinds i d))) rest → o ≡ Some behind
      → args_fit p (drop i kinds) rest ≡ all → args_fit p (drop (i + 1) kinds) behind ≡ all
  unfolding goes_on
  arg_next kinds i d rest behind o all lt is some was =
      ap (λ (n : ℕ). args_fit p (drop n kinds) behind) (add-one i) ∙ sym (ap (goes_on (drop (suc i) kinds)) (sym is ∙ some)) ∙ sym (here kinds i d rest lt) ∙ was

  pub arg_none : (kinds : List ℕ) (i d : ℕ) (rest : List ℕ) (o : Option (List ℕ)) (all : Bool) → i < length kinds → o ≡ arg_behind (is_wide (letter_of p (get_or kinds i d))) rest → o ≡ None
      → args_fit p (drop i kinds) rest ≡ all → false ≡ all
  unfolding goes_on
  arg_none kinds i d rest o all lt is none was = sym (ap (goes_on (drop (suc i) kinds)) (sym is ∙ none)) ∙ sym (here kinds i d rest lt) ∙ was

  drop_all : (kinds : List ℕ) (i : ℕ) → length kinds ≤ i → drop i kinds ≡ []
  drop_all [] zero le = refl
  drop_all [] (suc i) le = refl
  drop_all (k ∷ kinds) zero le = absurd (omega (arith, le))
  drop_all (k ∷ kinds) (suc i) le = drop_all kinds i (omega arith)

  pub args_end : (kinds : List ℕ) (i : ℕ) (rest : List ℕ) (all : Bool) → length kinds ≤ i → args_fit p (drop i kinds) rest ≡ all → nat_eq (length rest) 0 ≡ all
  args_end kinds i rest all le was = sym (ap (λ (l : List ℕ). args_fit p l rest) (drop_all kinds i le)) ∙ was
