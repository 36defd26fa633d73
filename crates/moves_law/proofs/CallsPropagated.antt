-- A propagated program's calls weigh as much.
use Rattle.std.proofs.Common.{◌≡◌, ℕ, suc, ◌+◌, Bool, true, false, List, [], ◌∷◌, length, map, Option, Some, None, refl, sym, ap, ap₂, ◌∙◌, subst, arith}
use Rattle.std.specs.Prelude.{sum_by, slice_get}
use Rattle.std.proofs.lemmas.List.Sums.{sum_by-cons}
use Rattle.insn_set.specs.declared.ops.InvokeKind.{InvokeKind}
use Rattle.insn_set.specs.declared.form.Insn.{Insn}
use Rattle.insn_set.specs.declared.form.Insn.TheVariants as insn
use Rattle.program_model.specs.declared.body.Body.{Body}
use Rattle.program_model.specs.declared.program.Method.{Method}
use Rattle.program_model.specs.declared.program.Class.{Class}
use Rattle.program_model.specs.declared.program.Program.{Program}
use Rattle.insn_regs.specs.Remade.{remade}
use Rattle.insn_regs.specs.Wides.{widths_of}
use Rattle.walk_marks.specs.Walks.{is_on}
use Rattle.devirt.specs.Measure.{insn_weight, insns_weight, code_weight, method_weight, class_weight, calls_by, call_weight, calls_in}
use Rattle.copy_prop.specs.Rereading.{substituted}
use Rattle.copy_prop.specs.Propagated.{AreEach, IsPropagated, RewritesBody, IsPropagatedMethod, IsPropagatedClass, IsPropagatedProgram}
use Rattle.moves_law.proofs.Bare.{bare_code, bare_method, bare_class, bare, weight_same}
use Rattle.moves_law.proofs.CallSums.{weighed_same}

module _ {A : Type 0} (R : A → A → Type 0) where
  tail : (x y : A) (xs ys : List A) → AreEach R (x ∷ xs) (y ∷ ys) → AreEach R xs ys
  tail x y xs ys a = record { long = (let e : suc (length ys) ≡ suc (length xs) = a.long in omega (arith, e)); each = λ k z h. a.each (suc k) z h }

  first : (x y : A) (xs ys : List A) → AreEach R (x ∷ xs) (y ∷ ys) → R x y
  first x y xs ys a =
      let u : (z : A) × (slice_get (y ∷ ys) 0 ≡ Some z) × R x z = a.each 0 x refl in
      let same : Some y ≡ Some u.0 = u.1 in
      let is : y ≡ u.0 = cc in
      subst (λ z. R x z) (sym is) u.2

  same_sums : (g : A → ℕ) → ((x y : A) → R x y → g y ≡ g x) → (xs ys : List A) → AreEach R xs ys → sum_by g ys ≡ sum_by g xs
  same_sums g one [] [] a = refl
  same_sums g one [] (y ∷ ys) a = absurd (let e : length (y ∷ ys) ≡ 0 = a.long in omega (arith, e))
  same_sums g one (x ∷ xs) [] a = absurd (let e : 0 ≡ length (x ∷ xs) = a.long in omega (arith, e))
  same_sums g one (x ∷ xs) (y ∷ ys) a =
      let e : g y ≡ g x = one x y (first x y xs ys a) in
      let f : sum_by g ys ≡ sum_by g xs = same_sums g one xs ys (tail x y xs ys a) in
      omega (arith, e, f, sum_by-cons g y ys, sum_by-cons g x xs)

  same_maps : {B : Type 0} (g : A → B) → ((x y : A) → R x y → g y ≡ g x) → (xs ys : List A) → AreEach R xs ys → map g ys ≡ map g xs
  same_maps g one [] [] a = refl
  same_maps g one [] (y ∷ ys) a = absurd (let e : length (y ∷ ys) ≡ 0 = a.long in omega (arith, e))
  same_maps g one (x ∷ xs) [] a = absurd (let e : 0 ≡ length (x ∷ xs) = a.long in omega (arith, e))
  same_maps g one (x ∷ xs) (y ∷ ys) a = ap (λ z. z ∷ map g ys) (one x y (first x y xs ys a)) ∙ ap (λ zs. g x ∷ zs) (same_maps g one xs ys (tail x y xs ys a))

module _ (u : InvokeKind → ℕ → ℕ) where
  same_form : (g h : ℕ → ℕ) (i : Insn) → insn_weight u (remade g h i) ≡ insn_weight u i
  same_form g h (insn.Invoke kind method args) = refl
  same_form g h i = refl

  -- each instruction of a list weighs as much as the one at its place in another list
  abbrev AreAlike : List Insn → List Insn → Type 0
  AreAlike is js = (n : ℕ) (i : Insn) → slice_get is n ≡ Some i → (j : Insn) × ((slice_get js n ≡ Some j) × (insn_weight u j ≡ insn_weight u i))

  all_same : (is js : List Insn) → length js ≡ length is → AreAlike is js → insns_weight u js ≡ insns_weight u is
  all_same [] [] e h = refl
  all_same [] (j ∷ js) e h = absurd (omega (arith, e))
  all_same (i ∷ is) [] e h = absurd (omega (arith, e))
  all_same (i ∷ is) (j ∷ js) e h =
      let v = h 0 i refl in
      let same : Some j ≡ Some v.0 = v.1.0 in
      let is_first : j ≡ v.0 = cc in
      ap₂ (λ x y. x + y) (ap (insn_weight u) is_first ∙ v.1.1) (all_same is js (let f : suc (length js) ≡ suc (length is) = e in omega (arith, f)) (λ n k g. h (suc n) k g))

  body_same : (w : List (List Bool)) (b d : Body) → IsPropagated w b d → insns_weight u d.insns ≡ insns_weight u b.insns
  body_same w b d r = all_same b.insns d.insns r.long (λ n i e. let v = r.insns n i e in (v.0, (v.1, ap (insn_weight u) v.2.form ∙ same_form (substituted v.2.copies) (λ x. x) i)))

module _ (w : List (List Bool)) (admitted : List Bool) where
  -- ---- heads

  bare_codes : (t : Bool) (a o : Option Body) → RewritesBody w t a o → bare_code o ≡ bare_code a
  bare_codes true (Some b) (Some d) r = refl
  bare_codes true (Some b) None r = absurd r
  bare_codes true None (Some d) r = ap bare_code r
  bare_codes true None None r = refl
  bare_codes false (Some b) (Some d) r = refl
  bare_codes false (Some b) None r = ap bare_code r
  bare_codes false None (Some d) r = ap bare_code r
  bare_codes false None None r = refl

  bare_methods : (m n : Method) → IsPropagatedMethod w admitted m n → bare_method n ≡ bare_method m
  bare_methods m n i = ap bare_method i.rest ∙ ap (λ o. record m { body = o }) (bare_codes (is_on admitted m.name) m.body n.body i.body)

  bare_classes : (c d : Class) → IsPropagatedClass w admitted c d → bare_class d ≡ bare_class c
  bare_classes c d i = ap bare_class i.rest ∙ ap (λ ms. record c { methods = ms }) (same_maps (IsPropagatedMethod w admitted) bare_method bare_methods c.methods d.methods i.methods)

  -- ---- calls

  module _ (u : InvokeKind → ℕ → ℕ) where
    code_calls : (t : Bool) (a o : Option Body) → RewritesBody w t a o → code_weight u o ≡ code_weight u a
    code_calls true (Some b) (Some d) r = body_same u w b d r
    code_calls true (Some b) None r = absurd r
    code_calls true None (Some d) r = ap (code_weight u) r
    code_calls true None None r = refl
    code_calls false (Some b) (Some d) r = ap (code_weight u) r
    code_calls false (Some b) None r = ap (code_weight u) r
    code_calls false None (Some d) r = ap (code_weight u) r
    code_calls false None None r = refl

    method_calls : (m n : Method) → IsPropagatedMethod w admitted m n → method_weight u n ≡ method_weight u m
    method_calls m n i = code_calls (is_on admitted m.name) m.body n.body i.body

    class_calls : (c d : Class) → IsPropagatedClass w admitted c d → class_weight u d ≡ class_weight u c
    class_calls c d i = same_sums (IsPropagatedMethod w admitted) (method_weight u) method_calls c.methods d.methods i.methods

module _ (admitted : List Bool) (p q : Program) (i : IsPropagatedProgram admitted p q) where
  bare_same : bare q ≡ bare p
  bare_same = ap bare i.rest ∙ ap (λ cs. record p { classes = cs }) (same_maps (IsPropagatedClass (widths_of p) admitted) bare_class (bare_classes (widths_of p) admitted) p.classes q.classes i.classes)

  by_weight : (u : InvokeKind → ℕ → ℕ) → calls_by u q ≡ calls_by u p
  by_weight u = same_sums (IsPropagatedClass (widths_of p) admitted) (class_weight u) (class_calls (widths_of p) admitted u) p.classes q.classes i.classes

  pub propagated_calls : calls_in q ≡ calls_in p
  propagated_calls = weighed_same (call_weight q) (call_weight p) (weight_same p q bare_same) q ∙ by_weight (call_weight p)
