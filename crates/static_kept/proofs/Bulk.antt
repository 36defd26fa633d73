-- Methods made static are as many as they were, and their code weighs as much.
use Rattle.std.proofs.Common.{◌≡◌, ℕ, zero, suc, ◌+◌, Bool, true, false, List, [], ◌∷◌, map, length, Option, Some, None, refl, sym, ap, ◌∙◌, subst, arith}
use Rattle.std.specs.Prelude.{slice_get, sum_by}
use Rattle.std.specs.List.Sorted.{IsPermutation}
use Rattle.std.proofs.lemmas.List.Sorted.{length_permutation, sum_by-IsPermutation}
use Rattle.std.proofs.lemmas.List.Sums.{sum_by-cons}
use Rattle.lemmas.proofs.Options.{some_same}
use Rattle.insn_set.specs.declared.form.Insn.{Insn}
use Rattle.insn_set.specs.declared.form.Insn.TheVariants as insn
use Rattle.insn_set.specs.declared.ops.InvokeKind.TheVariants as call
use Rattle.program_model.specs.declared.body.Body.{Body}
use Rattle.program_model.specs.declared.pass.Changed.{Changed}
use Rattle.program_model.specs.declared.pass.Outside.{Outside}
use Rattle.program_model.specs.declared.program.Class.{Class}
use Rattle.program_model.specs.declared.program.Method.{Method}
use Rattle.program_model.specs.declared.program.Program.{Program}
use Rattle.facts.specs.declared.facts.Facts.{Facts}
use Rattle.reach.specs.Kept.{class_size, size_of}
use Rattle.thin_pass.specs.Weights.{class_weight, code_weight, insns_weight, method_weight, weight, weight_of}
use Rattle.staticise.specs.Judging.{judged}
use Rattle.staticise.specs.Loosened.{IsLoosenedBy, IsLoosenedClass, IsStaticisedBy, code_loosened, flags_loosened, insn_loosened, is_given, marks_loosened, method_loosened, self_loosened, target_of}

-- ---- lists

mapped_long : {A B : Type 0} (f : A → B) (xs : List A) → length (map f xs) ≡ length xs
mapped_long f [] = refl
mapped_long f (x ∷ xs) = let h = mapped_long f xs in omega (arith, h)

mapped_sum : {A : Type 0} (f : A → ℕ) (g : A → A) → ((x : A) → f (g x) ≡ f x) → (xs : List A) → sum_by f (map g xs) ≡ sum_by f xs
mapped_sum f g h [] = refl
mapped_sum f g h (x ∷ xs) =
    let a = sum_by-cons f (g x) (map g xs) in
    let b = sum_by-cons f x xs in
    let c = h x in
    let d = mapped_sum f g h xs in
    omega (arith, a, b, c, d)

each_sum : {A : Type 0} (R : A → A → Type 0) (f : A → ℕ) → ((x y : A) → R x y → f y ≡ f x) → (xs ys : List A) → length ys ≡ length xs
    → ((k : ℕ) (x : A) → slice_get xs k ≡ Some x → (y : A) × (slice_get ys k ≡ Some y) × R x y) → sum_by f ys ≡ sum_by f xs
each_sum R f h [] [] long each = refl
each_sum R f h [] (y ∷ ys) long each = absurd (omega (arith, long))
each_sum R f h (x ∷ xs) [] long each = absurd (omega (arith, long))
each_sum R f h (x ∷ xs) (y ∷ ys) long each =
    let one = each 0 x refl in
    let a = sum_by-cons f y ys in
    let b = sum_by-cons f x xs in
    let c : f y ≡ f x = h x y (subst (R x) (sym (some_same y one.0 one.1)) one.2) in
    let d = each_sum R f h xs ys (omega (arith, long)) (λ k z e. each (suc k) z e) in
    omega (arith, a, b, c, d)

module _ (p : Program) (given : List (Option ℕ)) where
  -- ---- code

  weight_same : (i : Insn) → weight (insn_loosened p given i) ≡ weight i
  weight_same (insn.Invoke kind method args) = by (target_of p given method)
    where
      by : (o : Option ℕ) → weight (elim o as (λ o. Insn) [ Some t ↦ insn.Invoke call.Static t args | None ↦ insn.Invoke kind method args ]) ≡ 2
      by None = refl
      by (Some t) = refl
  weight_same i = refl

  insns_same : (is : List Insn) → insns_weight (map (insn_loosened p given) is) ≡ insns_weight is
  insns_same [] = refl
  insns_same (i ∷ is) = ap (λ n. n + insns_weight (map (insn_loosened p given) is)) (weight_same i) ∙ ap (λ n. weight i + n) (insns_same is)

  code_same : (o : Option Body) → code_weight (code_loosened p given o) ≡ code_weight o
  code_same None = refl
  code_same (Some b) = insns_same b.insns

  -- ---- methods and classes

  self_body : (m : Method) → (self_loosened given m).body ≡ m.body
  self_body m = by (is_given given m.name)
    where
      by : (b : Bool) → (elim b as (λ b. Method) [ true ↦ record m { flags = flags_loosened m.flags; parameter_marks = marks_loosened m.parameter_marks } | false ↦ m ]).body ≡ m.body
      by true = refl
      by false = refl

  method_same : (m : Method) → method_weight (method_loosened p given m) ≡ method_weight m
  method_same m = ap (λ o. code_weight (code_loosened p given o)) (self_body m) ∙ code_same m.body

  weight_stays : (c d : Class) → IsLoosenedClass p given c d → class_weight d ≡ class_weight c
  weight_stays c d x = sum_by-IsPermutation method_weight (map (method_loosened p given) c.methods) d.methods x.methods ∙ mapped_sum method_weight (method_loosened p given) method_same c.methods

  size_stays : (c d : Class) → IsLoosenedClass p given c d → class_size d ≡ class_size c
  size_stays c d x =
      ap (λ n. 1 + length d.fields + n) (length_permutation (map (method_loosened p given) c.methods) d.methods x.methods ∙ mapped_long (method_loosened p given) c.methods)
      ∙ ap (λ (k : Class). 1 + length k.fields + length c.methods) x.rest

pub bulk_stays : (p : Program) (facts : Facts) (o : Outside) (admitted : List Bool) (c : Changed) → IsStaticisedBy p facts o admitted c → (size_of c.program ≡ size_of p) × (weight_of c.program ≡ weight_of p)
bulk_stays p facts o admitted c x = by c.count refl
  where
    loosened : IsLoosenedBy p (judged p facts o admitted) c.program → (size_of c.program ≡ size_of p) × (weight_of c.program ≡ weight_of p)
    loosened y =
        let g = (judged p facts o admitted).given in (
          each_sum (IsLoosenedClass p g) class_size (size_stays p g) p.classes c.program.classes y.classes.long y.classes.each,
          each_sum (IsLoosenedClass p g) class_weight (weight_stays p g) p.classes c.program.classes y.classes.long y.classes.each,
        )

    by : (n : ℕ) → c.count ≡ n → (size_of c.program ≡ size_of p) × (weight_of c.program ≡ weight_of p)
    by zero e = (ap size_of (x.same e), ap weight_of (x.same e))
    by (suc n) e = loosened (x.loosened (omega (arith, e)))
