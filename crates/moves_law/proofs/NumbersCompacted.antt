-- A compacted program has as many members, and instructions that weigh as much.
use Rattle.std.proofs.Common.{◌≡◌, ℕ, suc, ◌+◌, Bool, true, false, List, [], ◌∷◌, length, map, Option, Some, None, refl, sym, ap, ap₂, ◌∙◌, subst, arith}
use Rattle.std.specs.Prelude.{sum_by, slice_get}
use Rattle.std.proofs.lemmas.List.Sums.{sum_by-cons}
use Rattle.insn_set.specs.declared.form.Insn.{Insn}
use Rattle.insn_set.specs.declared.form.Insn.TheVariants as insn
use Rattle.program_model.specs.declared.body.Body.{Body}
use Rattle.program_model.specs.declared.program.Method.{Method}
use Rattle.program_model.specs.declared.program.Class.{Class}
use Rattle.program_model.specs.declared.program.Program.{Program}
use Rattle.insn_regs.specs.Remade.{remade}
use Rattle.insn_regs.specs.Wides.{widths_of}
use Rattle.walk_marks.specs.Walks.{is_on}
use Rattle.reach.specs.Kept.{class_size, size_of}
use Rattle.thin_pass.specs.Weights.{weight, insns_weight, code_weight, method_weight, class_weight, weight_of}
use Rattle.compact.specs.Renamed.{AreEach, RewritesBody, IsCompactedMethod, IsCompactedClass, IsCompactedProgram}

same_weight : (g : ℕ → ℕ) (i : Insn) → weight (remade g g i) ≡ weight i
same_weight g insn.Nop = refl
same_weight g i = refl

all_weigh : (g : ℕ → ℕ) (is : List Insn) → insns_weight (map (remade g g) is) ≡ insns_weight is
all_weigh g [] = refl
all_weigh g (i ∷ is) = ap₂ (λ x y. x + y) (same_weight g i) (all_weigh g is)

module _ {A : Type 0} (R : A → A → Type 0) (g : A → ℕ) (one : (x y : A) → R x y → g y ≡ g x) where
  added : (x y : A) (xs ys : List A) → g y ≡ g x → sum_by g ys ≡ sum_by g xs → sum_by g (y ∷ ys) ≡ sum_by g (x ∷ xs)
  added x y xs ys e f = omega (arith, e, f, sum_by-cons g y ys, sum_by-cons g x xs)

  same_sums : (xs ys : List A) → AreEach R xs ys → sum_by g ys ≡ sum_by g xs
  same_sums [] [] a = refl
  same_sums [] (y ∷ ys) a = absurd (let e : length (y ∷ ys) ≡ 0 = a.long in omega (arith, e))
  same_sums (x ∷ xs) [] a = absurd (let e : 0 ≡ length (x ∷ xs) = a.long in omega (arith, e))
  same_sums (x ∷ xs) (y ∷ ys) a =
      let u : (z : A) × (slice_get (y ∷ ys) 0 ≡ Some z) × R x z = a.each 0 x refl in
      let same : Some y ≡ Some u.0 = u.1 in
      let is : y ≡ u.0 = cc in
      added x y xs ys (one x y (subst (λ z. R x z) (sym is) u.2))
      (same_sums xs ys (record { long = (let e : suc (length ys) ≡ suc (length xs) = a.long in omega (arith, e)); each = λ k z h. a.each (suc k) z h }))

module _ (w : List (List Bool)) (admitted : List Bool) where
  code_weighs : (t : Bool) (a o : Option Body) → RewritesBody w t a o → code_weight o ≡ code_weight a
  code_weighs true (Some b) (Some d) r = ap insns_weight r.insns ∙ all_weigh r.new b.insns
  code_weighs true (Some b) None r = absurd r
  code_weighs true None (Some d) r = ap code_weight r
  code_weighs true None None r = refl
  code_weighs false (Some b) (Some d) r = ap code_weight r
  code_weighs false (Some b) None r = ap code_weight r
  code_weighs false None (Some d) r = ap code_weight r
  code_weighs false None None r = refl

  method_weighs : (m n : Method) → IsCompactedMethod w admitted m n → method_weight n ≡ method_weight m
  method_weighs m n i = code_weighs (is_on admitted m.name) m.body n.body i.body

  class_weighs : (c d : Class) → IsCompactedClass w admitted c d → class_weight d ≡ class_weight c
  class_weighs c d i = same_sums (IsCompactedMethod w admitted) method_weight method_weighs c.methods d.methods i.methods

  class_sized : (c d : Class) → IsCompactedClass w admitted c d → class_size d ≡ class_size c
  class_sized c d i = let long : length d.methods ≡ length c.methods = i.methods.long in ap class_size i.rest ∙ ap (λ n. 1 + length c.fields + n) long

module _ (admitted : List Bool) (p q : Program) (i : IsCompactedProgram admitted p q) where
  pub compacted_weight : weight_of q ≡ weight_of p
  compacted_weight = same_sums (IsCompactedClass (widths_of p) admitted) class_weight (class_weighs (widths_of p) admitted) p.classes q.classes i.classes

  pub compacted_size : size_of q ≡ size_of p
  compacted_size = same_sums (IsCompactedClass (widths_of p) admitted) class_size (class_sized (widths_of p) admitted) p.classes q.classes i.classes
