-- Sizes that have room lie above least ones.
use Rattle.std.proofs.Common.{◌≡◌, ◌⊎◌, inl, inr, ℕ, zero, suc, ◌≤◌, Bool, true, false, List, length, refl, sym, ◌∙◌, arith}
use Rattle.std.specs.Prelude.{nat_eq}
use Rattle.std.specs.Cmp.Lexicographic.{pointwise, same_text, other_text}
use Rattle.relax.specs.declared.step.Step.{Step}
use Rattle.relax.specs.Sizes.{HasRoom, Below, IsLeast, grown, firsts}
use Rattle.relax.proofs.Least.{grown_below, settled_room, slack, slack_falls, length_grown, firsts_below, length_firsts}

same_or_not : (xs ys : List ℕ) → (xs ≡ ys) ⊎ (xs ≡ ys → ⊥)
same_or_not xs ys = by (pointwise nat_eq xs ys) refl
  where
    by : (b : Bool) → pointwise nat_eq xs ys ≡ b → (xs ≡ ys) ⊎ (xs ≡ ys → ⊥)
    by true e = inl (same_text xs ys (sym e))
    by false e = inr (other_text xs ys (sym e))

module _ (steps : List Step) where
  abbrev AreUnder : List ℕ → Type 0
  AreUnder ss = (others : List ℕ) → HasRoom steps others → Below ss others

  -- round after round, so many at most
  climb : (n : ℕ) (ss : List ℕ) → slack steps ss ≤ n → length steps ≡ length ss → AreUnder ss → (ts : List ℕ) × IsLeast steps ts
  climb zero ss few long under = elim (same_or_not (grown ss 0 steps ss) ss) [
    | inl e ↦ (ss, record { room = settled_room ss 0 steps ss long e; least = under })
    | inr d ↦ absurd (omega (arith, few, slack_falls ss 0 steps ss long d))
  ]
  climb (suc n) ss few long under = elim (same_or_not (grown ss 0 steps ss) ss) [
    | inl e ↦ (ss, record { room = settled_room ss 0 steps ss long e; least = under })
    | inr d ↦ climb n (grown ss 0 steps ss) (omega (arith, few, slack_falls ss 0 steps ss long d)) (long ∙ sym (length_grown ss 0 steps ss long))
        (λ others room. grown_below ss others 0 steps ss others (under others room) room (under others room))
  ]

  pub least_ones : (ts : List ℕ) × IsLeast steps ts
  least_ones = climb (slack steps (firsts steps)) (firsts steps) (omega arith) (sym (length_firsts steps)) (λ others room. firsts_below others 0 steps others room)

pub least_under : (steps : List Step) (sizes : List ℕ) → HasRoom steps sizes → (least : List ℕ) × IsLeast steps least × Below least sizes
least_under steps sizes room = let l = least_ones steps in (l.0, l.1, l.1.least sizes room)
