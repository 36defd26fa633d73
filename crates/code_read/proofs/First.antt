-- Where no place is found at which a test fails, each element passes it.
use Rattle.std.proofs.Common.{◌≡◌, ℕ, ◌≤◌, ◌<◌, ◌+◌, suc, List, [], ◌∷◌, length, refl, sym, ◌∙◌, arith, inl, inr}
use Rattle.std.specs.Prelude.{Bool, true, false, not, ◌&&◌, cond, nat_lt, position, replicate, IsTrue, Option, Some, None}
use Rattle.std.specs.List.{list_all, prefix_len, position_or_len, enumerate_from}
use Rattle.std.proofs.lemmas.Bool.{cases_lt, cond-true, lt-ltb}
use Rattle.insn_set.specs.declared.form.Insn.{Insn}
use Rattle.program_model.specs.declared.body.Region.{Region}
use Rattle.code_read.specs.Code.{first_astray}
use Rattle.code_read.specs.Marks.{set_targets, set_regions}
use Rattle.code_read.specs.Order.{stands, all_placed}

no_place : (i n : ℕ) → cond (nat_lt i n) (Some i) None ≡ None → n ≤ i
no_place i n h = elim (cases_lt i n) [
  | inl lt ↦ let e : cond (nat_lt i n) (Some i) None ≡ Some i = cond-true (nat_lt i n) (Some i) None (lt-ltb i n lt) in absurd (let bad : Some i ≡ None = sym e ∙ h in cc)
  | inr le ↦ le
]

all_prefix : {X : Type 0} (test : X → Bool) (xs : List X) → length xs ≤ prefix_len (λ x. not (not (test x))) xs → list_all test xs ≡ true
all_prefix test [] h = refl
all_prefix test (x ∷ xs) h =
    (elim (test x) as (λ b. suc (length xs) ≤ cond (not (not b)) (1 + prefix_len (λ x. not (not (test x))) xs) 0 → (b && list_all test xs) ≡ true) [
      | true ↦ λ le. all_prefix test xs (omega (arith, le))
      | false ↦ λ le. absurd (omega (arith, le))
    ]) h

pub none_fails : {X : Type 0} (test : X → Bool) (xs : List X) → position (λ x. not (test x)) xs ≡ None → list_all test xs ≡ true
none_fails test xs h = all_prefix test xs (no_place (position_or_len (λ x. not (test x)) xs) (length xs) h)

-- where nothing stands astray, all are placed
pub placed_all : (insns : List Insn) (regions : List Region) (known : Bool) → None ≡ first_astray insns regions known → IsTrue known → IsTrue (all_placed insns regions)
placed_all insns regions true h k = none_fails (λ p. stands insns (set_targets (replicate (length insns) false) insns) (set_regions (replicate (length insns) false) regions) true p) (enumerate_from 0 insns) (sym h)
placed_all insns regions false h k = absurd cc
