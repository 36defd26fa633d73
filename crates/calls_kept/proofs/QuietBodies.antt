-- What is written over a body are nops for just the marked instructions.
use Rattle.std.proofs.Common.{◌≡◌, ◌⊎◌, inl, inr, ℕ, zero, suc, ◌+◌, ◌<◌, ◌≤◌, Bool, true, false, List, [], ◌∷◌, ◌++◌, length, Option, Some, None, refl, sym, ap, ◌∙◌, subst, arith}
use Rattle.std.specs.Prelude.{slice_get, slice_set}
use Rattle.std.specs.Option.{option_map}
use Rattle.std.proofs.lemmas.Bool.{cases_eq, cases_lt}
use Rattle.insn_set.specs.declared.form.Insn.{Insn}
use Rattle.insn_set.specs.declared.form.Insn.TheVariants as insn
use Rattle.program_model.specs.declared.body.Body.{Body}
use Rattle.rewrite_pass.specs.declared.edit.Edit.{Edit}
use Rattle.rewrite_pass.specs.Plans.{edited, body_edited}
use Rattle.quiet_code.specs.Quiet.{nop_if}
use Rattle.quiet_code.specs.Quieted.{nops_upto}
use Rattle.calls_kept.specs.Nopped.{nop_for, nopped, body_nopped}

-- ---- lists

some_is : {A : Type 0} (x y : A) → Some x ≡ Some y → x ≡ y
some_is x y e = cc

same_items : {A : Type 0} (xs ys : List A) → ((n : ℕ) → slice_get xs n ≡ slice_get ys n) → xs ≡ ys
same_items [] [] h = refl
same_items [] (y ∷ ys) h = let e : None ≡ Some y = h 0 in absurd (cc)
same_items (x ∷ xs) [] h = let e : Some x ≡ None = h 0 in absurd (cc)
same_items (x ∷ xs) (y ∷ ys) h =
    let e : x ≡ y = some_is x y (h 0) in
    let t : xs ≡ ys = same_items xs ys (λ n. h (suc n)) in cc

nothing_past : {A : Type 0} (xs : List A) (n : ℕ) → length xs ≤ n → slice_get xs n ≡ None
nothing_past [] n l = refl
nothing_past (x ∷ xs) zero l = absurd (omega (arith, l))
nothing_past (x ∷ xs) (suc n) l = nothing_past xs n (omega (arith, l))

set_here : (is : List Insn) (n : ℕ) → slice_get (slice_set is n insn.Nop) n ≡ option_map (nop_for true) (slice_get is n)
set_here [] n = refl
set_here (i ∷ is) zero = refl
set_here (i ∷ is) (suc n) = set_here is n

set_away : (is : List Insn) (k n : ℕ) (g : Insn) → (n ≡ k → ⊥) → slice_get (slice_set is k g) n ≡ slice_get is n
set_away [] k n g d = refl
set_away (i ∷ is) zero zero g d = absurd (d refl)
set_away (i ∷ is) zero (suc n) g d = refl
set_away (i ∷ is) (suc k) zero g d = refl
set_away (i ∷ is) (suc k) (suc n) g d = set_away is k n g (λ e. d (ap suc e))

behind : (es fs : List Edit) (is : List Insn) → edited (es ++ fs) is ≡ edited fs (edited es is)
behind [] fs is = refl
behind (e ∷ es) fs is = behind es fs (slice_set is e.position e.insn)

map_same : (o : Option Insn) → option_map (nop_for false) o ≡ o
map_same None = refl
map_same (Some i) = refl

-- ---- one position

one_here : (t : Bool) (k : ℕ) (is : List Insn) → slice_get (edited (nop_if t k) is) k ≡ option_map (nop_for t) (slice_get is k)
one_here true k is = set_here is k
one_here false k is = sym (map_same (slice_get is k))

one_away : (t : Bool) (k n : ℕ) (is : List Insn) → (n ≡ k → ⊥) → slice_get (edited (nop_if t k) is) n ≡ slice_get is n
one_away true k n is d = set_away is k n insn.Nop d
one_away false k n is d = refl

module _ (idle : ℕ → Bool) (is : List Insn) where
  stays_above : (k n : ℕ) → k ≤ n → slice_get (edited (nops_upto idle k) is) n ≡ slice_get is n
  stays_above zero n l = refl
  stays_above (suc k) n l =
      let apart : n ≡ k → ⊥ = λ e. omega (arith, l, e) in
      ap (λ js. slice_get js n) (behind (nops_upto idle k) (nop_if (idle k) k) is) ∙ one_away (idle k) k n (edited (nops_upto idle k) is) apart ∙ stays_above k n (omega (arith, l))

  nops_below : (k n : ℕ) → n < k → slice_get (edited (nops_upto idle k) is) n ≡ option_map (nop_for (idle n)) (slice_get is n)
  nops_below zero n l = absurd (omega (arith, l))
  nops_below (suc k) n l = ap (λ js. slice_get js n) (behind (nops_upto idle k) (nop_if (idle k) k) is) ∙ elim (cases_eq n k) [
    | inl e ↦ subst (λ j. slice_get (edited (nop_if (idle k) k) (edited (nops_upto idle k) is)) j ≡ option_map (nop_for (idle j)) (slice_get is j)) (sym e)
        (one_here (idle k) k (edited (nops_upto idle k) is) ∙ ap (option_map (nop_for (idle k))) (stays_above k k (omega arith)))
    | inr d ↦ one_away (idle k) k n (edited (nops_upto idle k) is) d ∙ nops_below k n (omega (arith, l, d))
  ]

-- ---- all positions

pub nopped_at : (idle : ℕ → Bool) (is : List Insn) (k n : ℕ) → slice_get (nopped idle k is) n ≡ option_map (nop_for (idle (k + n))) (slice_get is n)
nopped_at idle [] k n = refl
nopped_at idle (i ∷ is) k zero = let e : k ≡ k + 0 = omega arith in ap (λ j. Some (nop_for (idle j) i)) e
nopped_at idle (i ∷ is) k (suc n) = let e : suc k + n ≡ k + suc n = omega arith in nopped_at idle is (suc k) n ∙ ap (λ j. option_map (nop_for (idle j)) (slice_get is n)) e

-- what stands at a position
pub nop_at : (idle : ℕ → Bool) (is : List Insn) (n : ℕ) → slice_get (nopped idle 0 is) n ≡ option_map (nop_for (idle n)) (slice_get is n)
nop_at idle is n = let e : 0 + n ≡ n = omega arith in nopped_at idle is 0 n ∙ ap (λ j. option_map (nop_for (idle j)) (slice_get is n)) e

pub written_nopped : (idle : ℕ → Bool) (is : List Insn) → edited (nops_upto idle (length is)) is ≡ nopped idle 0 is
written_nopped idle is = same_items (edited (nops_upto idle (length is)) is) (nopped idle 0 is) at
  where
    at : (n : ℕ) → slice_get (edited (nops_upto idle (length is)) is) n ≡ slice_get (nopped idle 0 is) n
    at n = elim (cases_lt n (length is)) [
      | inl l ↦ nops_below idle is (length is) n l ∙ sym (nop_at idle is n)
      | inr l ↦ (let none : slice_get is n ≡ None = nothing_past is n l in
          stays_above idle is (length is) n l ∙ none ∙ sym (nop_at idle is n ∙ ap (option_map (nop_for (idle n))) none))
    ]

pub body_written : (idle : ℕ → Bool) (b : Body) → body_edited (nops_upto idle (length b.insns)) b ≡ body_nopped idle b
body_written idle b = ap (λ is. record b { insns = is }) (written_nopped idle b.insns)
