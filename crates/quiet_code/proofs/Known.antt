-- What is told of a method number is so.
use Rattle.std.proofs.Common.{◌≡◌, ◌<◌, ◌≤◌, ◌^◌, ◌+◌, inl, inr, ℕ, zero, suc, min, Bool, List, [], ◌∷◌, ◌++◌, length, Option, Some, None, refl, ap, ◌∙◌, subst, arith}
use Rattle.std.specs.Prelude.{slice_get}
use Rattle.std.proofs.lemmas.Option.{slice_get_past}
use Rattle.std.proofs.lemmas.List.{length-append}
use Rattle.std.proofs.lemmas.Bool.{cases_lt}
use Rattle.hierarchy.proofs.Placed.{got_left, got_middle}
use Rattle.insn_set.specs.declared.ops.InvokeKind.{InvokeKind}
use Rattle.insn_set.specs.declared.ops.InvokeKind.TheVariants as call
use Rattle.program_model.specs.declared.program.Program.{Program}
use Rattle.dom_frame.specs.declared.frames.Frame.{Frame}
use Rattle.quiet_code.specs.declared.told.Idle.{Idle}
use Rattle.quiet_code.specs.Calls.{is_idle_call}
use Rattle.quiet_code.specs.Told.{idle_of, idles_upto, AreTold, told, told_at, is_idle_by}

module _ (p : Program) (quiet : List Bool) where
  long : (k : ℕ) → length (idles_upto p quiet k) ≡ k
  long zero = refl
  long (suc k) =
      let e : length (idles_upto p quiet k ++ idle_of p quiet (min k 4294967295) ∷ []) ≡ length (idles_upto p quiet k) + 1 = length-append (idles_upto p quiet k) (idle_of p quiet (min k 4294967295) ∷ []) in
      let l = long k in
      omega (arith, e, l)

  last : (k : ℕ) → slice_get (idles_upto p quiet (suc k)) k ≡ Some (idle_of p quiet (min k 4294967295))
  last k = subst (λ (n : ℕ). slice_get (idles_upto p quiet (suc k)) n ≡ Some (idle_of p quiet (min k 4294967295))) (long k) (got_middle (idles_upto p quiet k) (idle_of p quiet (min k 4294967295)) [])

  got : (k n : ℕ) → n < k → slice_get (idles_upto p quiet k) n ≡ Some (idle_of p quiet (min n 4294967295))
  got zero n lt = absurd (omega (arith, lt))
  got (suc k) n lt = elim (cases_lt n k) [
    | inl low ↦ got_left (idles_upto p quiet k) (idle_of p quiet (min k 4294967295) ∷ []) n (idle_of p quiet (min n 4294967295)) (got k n low)
    | inr high ↦ (let same : k ≡ n = omega (arith, lt, high) in subst (λ (m : ℕ). slice_get (idles_upto p quiet (suc k)) m ≡ Some (idle_of p quiet (min m 4294967295))) same (last k))
  ]

  past : (n : ℕ) → length p.methods ≤ n → told None ≡ idle_of p quiet n
  past n le = let none = slice_get_past p.methods n le in rw none refl

  pub told_is : (idles : List Idle) (n : ℕ) → AreTold p quiet idles → n < 2 ^ 32 → told_at idles n ≡ idle_of p quiet n
  told_is idles n are lt =
      let same : min n 4294967295 ≡ n = omega (arith, lt) in
      ap (λ l. told_at l n) are.all ∙ elim (cases_lt n (length p.methods)) [
        | inl low ↦ ap told (got (length p.methods) n low) ∙ ap (idle_of p quiet) same
        | inr high ↦ (let le : length (idles_upto p quiet (length p.methods)) ≤ n = (let l = long (length p.methods) in omega (arith, l, high)) in
            ap told (slice_get_past (idles_upto p quiet (length p.methods)) n le) ∙ past n high)
      ]

  by_kind : (o : Option Frame) (kind : InvokeKind) (n : ℕ) (args : List ℕ) → is_idle_by (idle_of p quiet n) o kind args ≡ is_idle_call p quiet o kind n args
  by_kind o call.Static n args = refl
  by_kind o call.Direct n args = refl
  by_kind o call.Virtual n args = refl
  by_kind o call.Super n args = refl
  by_kind o call.Interface n args = refl

-- a call by what is told of its method number
pub idle_is : (p : Program) (quiet : List Bool) (idles : List Idle) (o : Option Frame) (kind : InvokeKind) (n : ℕ) (args : List ℕ) → AreTold p quiet idles → n < 2 ^ 32
    → is_idle_by (told_at idles n) o kind args ≡ is_idle_call p quiet o kind n args
idle_is p quiet idles o kind n args are lt = ap (λ i. is_idle_by i o kind args) (told_is p quiet idles n are lt) ∙ by_kind p quiet o kind n args
