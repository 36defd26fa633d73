-- A propagated program has as many instructions other than constants, gotos and nops.
use Rattle.std.proofs.Common.{◌≡◌, ℕ, suc, ◌+◌, Bool, true, false, List, [], ◌∷◌, length, Option, Some, None, refl, sym, ap, ap₂, ◌∙◌, subst, arith}
use Rattle.std.specs.Prelude.{sum_by, slice_get}
use Rattle.std.proofs.lemmas.List.Sums.{sum_by-cons}
use Rattle.insn_set.specs.declared.form.Insn.{Insn}
use Rattle.insn_set.specs.declared.form.Insn.TheVariants as insn
use Rattle.program_model.specs.declared.body.Body.{Body}
use Rattle.program_model.specs.declared.program.Method.{Method}
use Rattle.program_model.specs.declared.program.Class.{Class}
use Rattle.program_model.specs.declared.program.Program.{Program}
use Rattle.insn_regs.specs.Remade.{remade}
use Rattle.insn_regs.specs.Wides.{widths_of}
use Rattle.walk_marks.specs.Walks.{is_on}
use Rattle.const_prop.specs.Measure.{open_form, open_insns, open_code, open_method, open_class, open_forms}
use Rattle.copy_prop.specs.Rereading.{substituted}
use Rattle.copy_prop.specs.Propagated.{AreEach, IsPropagated, RewritesBody, IsPropagatedMethod, IsPropagatedClass, IsPropagatedProgram}

same_form : (g h : ℕ → ℕ) (i : Insn) → open_form (remade g h i) ≡ open_form i
same_form g h insn.Nop = refl
same_form g h i = refl

-- each instruction of a list weighs as much as the one at its place in another list
abbrev AreAlike : List Insn → List Insn → Type 0
AreAlike is js = (n : ℕ) (i : Insn) → slice_get is n ≡ Some i → (j : Insn) × ((slice_get js n ≡ Some j) × (open_form j ≡ open_form i))

all_open : (is js : List Insn) → length js ≡ length is → AreAlike is js → open_insns js ≡ open_insns is
all_open [] [] e h = refl
all_open [] (j ∷ js) e h = absurd (omega (arith, e))
all_open (i ∷ is) [] e h = absurd (omega (arith, e))
all_open (i ∷ is) (j ∷ js) e h =
    let u = h 0 i refl in
    let same : Some j ≡ Some u.0 = u.1.0 in
    let is_first : j ≡ u.0 = cc in
    ap₂ (λ x y. x + y) (ap open_form is_first ∙ u.1.1) (all_open is js (let f : suc (length js) ≡ suc (length is) = e in omega (arith, f)) (λ n k g. h (suc n) k g))

body_open : (w : List (List Bool)) (b d : Body) → IsPropagated w b d → open_insns d.insns ≡ open_insns b.insns
body_open w b d r = all_open b.insns d.insns r.long (λ n i e. let u = r.insns n i e in (u.0, (u.1, ap open_form u.2.form ∙ same_form (substituted u.2.copies) (λ x. x) i)))

module _ {A : Type 0} (R : A → A → Type 0) (g : A → ℕ) (one : (x y : A) → R x y → g y ≡ g x) where
  added : (x y : A) (xs ys : List A) → g y ≡ g x → sum_by g ys ≡ sum_by g xs → sum_by g (y ∷ ys) ≡ sum_by g (x ∷ xs)
  added x y xs ys e f = omega (arith, e, f, sum_by-cons g y ys, sum_by-cons g x xs)

  same_sums : (xs ys : List A) → AreEach R xs ys → sum_by g ys ≡ sum_by g xs
  same_sums [] [] a = refl
  same_sums [] (y ∷ ys) a = absurd (let e : length (y ∷ ys) ≡ 0 = a.long in omega (arith, e))
  same_sums (x ∷ xs) [] a = absurd (let e : 0 ≡ length (x ∷ xs) = a.long in omega (arith, e))
  same_sums (x ∷ xs) (y ∷ ys) a =
      let u : (z : A) × (slice_get (y ∷ ys) 0 ≡ Some z) × R x z = a.each 0 x refl in
      let same : Some y ≡ Some u.0 = u.1 in
      let is : y ≡ u.0 = cc in
      added x y xs ys (one x y (subst (λ z. R x z) (sym is) u.2))
      (same_sums xs ys (record { long = (let e : suc (length ys) ≡ suc (length xs) = a.long in omega (arith, e)); each = λ k z h. a.each (suc k) z h }))

module _ (w : List (List Bool)) (admitted : List Bool) where
  code_open : (t : Bool) (a o : Option Body) → RewritesBody w t a o → open_code o ≡ open_code a
  code_open true (Some b) (Some d) r = body_open w b d r
  code_open true (Some b) None r = absurd r
  code_open true None (Some d) r = ap open_code r
  code_open true None None r = refl
  code_open false (Some b) (Some d) r = ap open_code r
  code_open false (Some b) None r = ap open_code r
  code_open false None (Some d) r = ap open_code r
  code_open false None None r = refl

  method_open : (m n : Method) → IsPropagatedMethod w admitted m n → open_method n ≡ open_method m
  method_open m n i = code_open (is_on admitted m.name) m.body n.body i.body

  class_open : (c d : Class) → IsPropagatedClass w admitted c d → open_class d ≡ open_class c
  class_open c d i = same_sums (IsPropagatedMethod w admitted) open_method method_open c.methods d.methods i.methods

module _ (admitted : List Bool) (p q : Program) (i : IsPropagatedProgram admitted p q) where
  pub propagated_open : open_forms q ≡ open_forms p
  propagated_open = same_sums (IsPropagatedClass (widths_of p) admitted) open_class (class_open (widths_of p) admitted) p.classes q.classes i.classes
