-- A propagated program has as many members, and instructions that weigh as much.
use Rattle.std.proofs.Common.{◌≡◌, ℕ, suc, ◌+◌, Bool, true, false, List, [], ◌∷◌, length, Option, Some, None, refl, sym, ap, ap₂, ◌∙◌, subst, arith}
use Rattle.std.specs.Prelude.{sum_by, slice_get}
use Rattle.std.proofs.lemmas.List.Sums.{sum_by-cons}
use Rattle.insn_set.specs.declared.form.Insn.{Insn}
use Rattle.insn_set.specs.declared.form.Insn.TheVariants as insn
use Rattle.program_model.specs.declared.body.Body.{Body}
use Rattle.program_model.specs.declared.program.Method.{Method}
use Rattle.program_model.specs.declared.program.Class.{Class}
use Rattle.program_model.specs.declared.program.Program.{Program}
use Rattle.insn_regs.specs.Remade.{remade}
use Rattle.insn_regs.specs.Wides.{widths_of}
use Rattle.walk_marks.specs.Walks.{is_on}
use Rattle.reach.specs.Kept.{class_size, size_of}
use Rattle.thin_pass.specs.Weights.{weight, insns_weight, code_weight, method_weight, class_weight, weight_of}
use Rattle.copy_prop.specs.Rereading.{substituted}
use Rattle.copy_prop.specs.Propagated.{AreEach, IsPropagated, RewritesBody, IsPropagatedMethod, IsPropagatedClass, IsPropagatedProgram}

same_weight : (g h : ℕ → ℕ) (i : Insn) → weight (remade g h i) ≡ weight i
same_weight g h insn.Nop = refl
same_weight g h i = refl

-- each instruction of a list weighs as much as the one at its place in another list
abbrev WeighAlike : List Insn → List Insn → Type 0
WeighAlike is js = (n : ℕ) (i : Insn) → slice_get is n ≡ Some i → (j : Insn) × ((slice_get js n ≡ Some j) × (weight j ≡ weight i))

all_weigh : (is js : List Insn) → length js ≡ length is → WeighAlike is js → insns_weight js ≡ insns_weight is
all_weigh [] [] e h = refl
all_weigh [] (j ∷ js) e h = absurd (omega (arith, e))
all_weigh (i ∷ is) [] e h = absurd (omega (arith, e))
all_weigh (i ∷ is) (j ∷ js) e h =
    let u = h 0 i refl in
    let same : Some j ≡ Some u.0 = u.1.0 in
    let is_first : j ≡ u.0 = cc in
    ap₂ (λ x y. x + y) (ap weight is_first ∙ u.1.1) (all_weigh is js (let f : suc (length js) ≡ suc (length is) = e in omega (arith, f)) (λ n k g. h (suc n) k g))

body_weighs : (w : List (List Bool)) (b d : Body) → IsPropagated w b d → insns_weight d.insns ≡ insns_weight b.insns
body_weighs w b d r = all_weigh b.insns d.insns r.long (λ n i e. let u = r.insns n i e in (u.0, (u.1, ap weight u.2.form ∙ same_weight (substituted u.2.copies) (λ x. x) i)))

module _ {A : Type 0} (R : A → A → Type 0) (g : A → ℕ) (one : (x y : A) → R x y → g y ≡ g x) where
  added : (x y : A) (xs ys : List A) → g y ≡ g x → sum_by g ys ≡ sum_by g xs → sum_by g (y ∷ ys) ≡ sum_by g (x ∷ xs)
  added x y xs ys e f = omega (arith, e, f, sum_by-cons g y ys, sum_by-cons g x xs)

  same_sums : (xs ys : List A) → AreEach R xs ys → sum_by g ys ≡ sum_by g xs
  same_sums [] [] a = refl
  same_sums [] (y ∷ ys) a = absurd (let e : length (y ∷ ys) ≡ 0 = a.long in omega (arith, e))
  same_sums (x ∷ xs) [] a = absurd (let e : 0 ≡ length (x ∷ xs) = a.long in omega (arith, e))
  same_sums (x ∷ xs) (y ∷ ys) a =
      let u : (z : A) × (slice_get (y ∷ ys) 0 ≡ Some z) × R x z = a.each 0 x refl in
      let same : Some y ≡ Some u.0 = u.1 in
      let is : y ≡ u.0 = cc in
      added x y xs ys (one x y (subst (λ z. R x z) (sym is) u.2))
      (same_sums xs ys (record { long = (let e : suc (length ys) ≡ suc (length xs) = a.long in omega (arith, e)); each = λ k z h. a.each (suc k) z h }))

module _ (w : List (List Bool)) (admitted : List Bool) where
  code_weighs : (t : Bool) (a o : Option Body) → RewritesBody w t a o → code_weight o ≡ code_weight a
  code_weighs true (Some b) (Some d) r = body_weighs w b d r
  code_weighs true (Some b) None r = absurd r
  code_weighs true None (Some d) r = ap code_weight r
  code_weighs true None None r = refl
  code_weighs false (Some b) (Some d) r = ap code_weight r
  code_weighs false (Some b) None r = ap code_weight r
  code_weighs false None (Some d) r = ap code_weight r
  code_weighs false None None r = refl

  method_weighs : (m n : Method) → IsPropagatedMethod w admitted m n → method_weight n ≡ method_weight m
  method_weighs m n i = code_weighs (is_on admitted m.name) m.body n.body i.body

  class_weighs : (c d : Class) → IsPropagatedClass w admitted c d → class_weight d ≡ class_weight c
  class_weighs c d i = same_sums (IsPropagatedMethod w admitted) method_weight method_weighs c.methods d.methods i.methods

  class_sized : (c d : Class) → IsPropagatedClass w admitted c d → class_size d ≡ class_size c
  class_sized c d i = let long : length d.methods ≡ length c.methods = i.methods.long in ap class_size i.rest ∙ ap (λ n. 1 + length c.fields + n) long

module _ (admitted : List Bool) (p q : Program) (i : IsPropagatedProgram admitted p q) where
  pub propagated_weight : weight_of q ≡ weight_of p
  propagated_weight = same_sums (IsPropagatedClass (widths_of p) admitted) class_weight (class_weighs (widths_of p) admitted) p.classes q.classes i.classes

  pub propagated_size : size_of q ≡ size_of p
  propagated_size = same_sums (IsPropagatedClass (widths_of p) admitted) class_size (class_sized (widths_of p) admitted) p.classes q.classes i.classes
