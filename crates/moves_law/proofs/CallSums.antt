-- Weights that are the same for each call add up to the same.
use Rattle.std.proofs.Common.{◌≡◌, ℕ, ◌+◌, List, [], ◌∷◌, Option, Some, None, refl, ap, ap₂, ◌∙◌, arith}
use Rattle.std.specs.Prelude.{sum_by}
use Rattle.std.proofs.lemmas.List.Sums.{sum_by-cons}
use Rattle.insn_set.specs.declared.ops.InvokeKind.{InvokeKind}
use Rattle.insn_set.specs.declared.form.Insn.{Insn}
use Rattle.insn_set.specs.declared.form.Insn.TheVariants as insn
use Rattle.program_model.specs.declared.body.Body.{Body}
use Rattle.program_model.specs.declared.program.Class.{Class}
use Rattle.program_model.specs.declared.program.Method.{Method}
use Rattle.program_model.specs.declared.program.Program.{Program}
use Rattle.devirt.specs.Measure.{insn_weight, insns_weight, code_weight, method_weight, class_weight, calls_by}

sums_same : {A : Type 0} (f g : A → ℕ) → ((x : A) → f x ≡ g x) → (xs : List A) → sum_by f xs ≡ sum_by g xs
sums_same f g h [] = refl
sums_same f g h (x ∷ xs) =
    let e : f x ≡ g x = h x in
    let r : sum_by f xs ≡ sum_by g xs = sums_same f g h xs in
    omega (arith, e, r, sum_by-cons f x xs, sum_by-cons g x xs)

module _ (u v : InvokeKind → ℕ → ℕ) (same : (kind : InvokeKind) (method : ℕ) → u kind method ≡ v kind method) where
  insn_same : (i : Insn) → insn_weight u i ≡ insn_weight v i
  insn_same (insn.Invoke kind method args) = same kind method
  insn_same i = refl

  insns_same : (is : List Insn) → insns_weight u is ≡ insns_weight v is
  insns_same [] = refl
  insns_same (i ∷ is) = ap₂ (λ x y. x + y) (insn_same i) (insns_same is)

  code_same : (o : Option Body) → code_weight u o ≡ code_weight v o
  code_same None = refl
  code_same (Some b) = insns_same b.insns

  class_same : (c : Class) → class_weight u c ≡ class_weight v c
  class_same c = sums_same (method_weight u) (method_weight v) (λ m. code_same m.body) c.methods

  pub weighed_same : (p : Program) → calls_by u p ≡ calls_by v p
  weighed_same p = sums_same (class_weight u) (class_weight v) class_same p.classes
