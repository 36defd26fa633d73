-- A compacted program has as many instructions other than constants, gotos and nops.
use Rattle.std.proofs.Common.{◌≡◌, ℕ, suc, ◌+◌, Bool, true, false, List, [], ◌∷◌, length, map, Option, Some, None, refl, sym, ap, ap₂, ◌∙◌, subst, arith}
use Rattle.std.specs.Prelude.{sum_by, slice_get}
use Rattle.std.proofs.lemmas.List.Sums.{sum_by-cons}
use Rattle.insn_set.specs.declared.form.Insn.{Insn}
use Rattle.insn_set.specs.declared.form.Insn.TheVariants as insn
use Rattle.program_model.specs.declared.body.Body.{Body}
use Rattle.program_model.specs.declared.program.Method.{Method}
use Rattle.program_model.specs.declared.program.Class.{Class}
use Rattle.program_model.specs.declared.program.Program.{Program}
use Rattle.insn_regs.specs.Remade.{remade}
use Rattle.insn_regs.specs.Wides.{widths_of}
use Rattle.walk_marks.specs.Walks.{is_on}
use Rattle.const_prop.specs.Measure.{open_form, open_insns, open_code, open_method, open_class, open_forms}
use Rattle.compact.specs.Renamed.{AreEach, RewritesBody, IsCompactedMethod, IsCompactedClass, IsCompactedProgram}

same_form : (g : ℕ → ℕ) (i : Insn) → open_form (remade g g i) ≡ open_form i
same_form g insn.Nop = refl
same_form g i = refl

all_open : (g : ℕ → ℕ) (is : List Insn) → open_insns (map (remade g g) is) ≡ open_insns is
all_open g [] = refl
all_open g (i ∷ is) = ap₂ (λ x y. x + y) (same_form g i) (all_open g is)

module _ {A : Type 0} (R : A → A → Type 0) (g : A → ℕ) (one : (x y : A) → R x y → g y ≡ g x) where
  added : (x y : A) (xs ys : List A) → g y ≡ g x → sum_by g ys ≡ sum_by g xs → sum_by g (y ∷ ys) ≡ sum_by g (x ∷ xs)
  added x y xs ys e f = omega (arith, e, f, sum_by-cons g y ys, sum_by-cons g x xs)

  same_sums : (xs ys : List A) → AreEach R xs ys → sum_by g ys ≡ sum_by g xs
  same_sums [] [] a = refl
  same_sums [] (y ∷ ys) a = absurd (let e : length (y ∷ ys) ≡ 0 = a.long in omega (arith, e))
  same_sums (x ∷ xs) [] a = absurd (let e : 0 ≡ length (x ∷ xs) = a.long in omega (arith, e))
  same_sums (x ∷ xs) (y ∷ ys) a =
      let u : (z : A) × (slice_get (y ∷ ys) 0 ≡ Some z) × R x z = a.each 0 x refl in
      let same : Some y ≡ Some u.0 = u.1 in
      let is : y ≡ u.0 = cc in
      added x y xs ys (one x y (subst (λ z. R x z) (sym is) u.2))
      (same_sums xs ys (record { long = (let e : suc (length ys) ≡ suc (length xs) = a.long in omega (arith, e)); each = λ k z h. a.each (suc k) z h }))

module _ (w : List (List Bool)) (admitted : List Bool) where
  code_open : (t : Bool) (a o : Option Body) → RewritesBody w t a o → open_code o ≡ open_code a
  code_open true (Some b) (Some d) r = ap open_insns r.insns ∙ all_open r.new b.insns
  code_open true (Some b) None r = absurd r
  code_open true None (Some d) r = ap open_code r
  code_open true None None r = refl
  code_open false (Some b) (Some d) r = ap open_code r
  code_open false (Some b) None r = ap open_code r
  code_open false None (Some d) r = ap open_code r
  code_open false None None r = refl

  method_open : (m n : Method) → IsCompactedMethod w admitted m n → open_method n ≡ open_method m
  method_open m n i = code_open (is_on admitted m.name) m.body n.body i.body

  class_open : (c d : Class) → IsCompactedClass w admitted c d → open_class d ≡ open_class c
  class_open c d i = same_sums (IsCompactedMethod w admitted) open_method method_open c.methods d.methods i.methods

module _ (admitted : List Bool) (p q : Program) (i : IsCompactedProgram admitted p q) where
  pub compacted_open : open_forms q ≡ open_forms p
  compacted_open = same_sums (IsCompactedClass (widths_of p) admitted) open_class (class_open (widths_of p) admitted) p.classes q.classes i.classes
