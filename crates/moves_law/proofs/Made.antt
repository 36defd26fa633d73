-- A program whose methods are made static has as many classes and members, and instructions that weigh as much.
use Rattle.std.proofs.Common.{◌≡◌, ℕ, zero, suc, ◌+◌, Bool, true, false, List, [], ◌∷◌, map, length, Option, Some, None, refl, ap, ◌∙◌, arith}
use Rattle.std.specs.Prelude.{sum_by}
use Rattle.std.specs.List.Sorted.{IsPermutation}
use Rattle.std.proofs.lemmas.List.Sorted.{length_permutation, sum_by-IsPermutation}
use Rattle.std.proofs.lemmas.List.Sums.{sum_by-cons}
use Rattle.insn_set.specs.declared.form.Insn.{Insn}
use Rattle.insn_set.specs.declared.form.Insn.TheVariants as insn
use Rattle.insn_set.specs.declared.ops.InvokeKind.TheVariants as call
use Rattle.program_model.specs.declared.body.Body.{Body}
use Rattle.program_model.specs.declared.pass.Changed.{Changed}
use Rattle.program_model.specs.declared.pass.Outside.{Outside}
use Rattle.program_model.specs.declared.program.Class.{Class}
use Rattle.program_model.specs.declared.program.Method.{Method}
use Rattle.program_model.specs.declared.program.Program.{Program}
use Rattle.facts.specs.declared.facts.Facts.{Facts}
use Rattle.reach.specs.Kept.{class_size, size_of}
use Rattle.thin_pass.specs.Weights.{class_weight, code_weight, insns_weight, method_weight, weight, weight_of}
use Rattle.staticise.specs.Judging.{judged}
use Rattle.staticise.specs.Loosened.{IsLoosenedBy, IsLoosenedClass, IsStaticisedBy, code_loosened, flags_loosened, insn_loosened, is_given, marks_loosened, method_loosened, self_loosened, target_of}
use Rattle.moves_law.proofs.ReceiverSums.{each_sum}

-- ---- lists

mapped_long : {A B : Type 0} (f : A → B) (xs : List A) → length (map f xs) ≡ length xs
mapped_long f [] = refl
mapped_long f (x ∷ xs) = let h = mapped_long f xs in omega (arith, h)

mapped_sum : {A : Type 0} (f : A → ℕ) (g : A → A) → ((x : A) → f (g x) ≡ f x) → (xs : List A) → sum_by f (map g xs) ≡ sum_by f xs
mapped_sum f g h [] = refl
mapped_sum f g h (x ∷ xs) =
    let a = sum_by-cons f (g x) (map g xs) in
    let b = sum_by-cons f x xs in
    let c = h x in
    let d = mapped_sum f g h xs in
    omega (arith, a, b, c, d)

module _ (p : Program) (given : List (Option ℕ)) where
  -- ---- code

  weight_same : (i : Insn) → weight (insn_loosened p given i) ≡ weight i
  weight_same (insn.Invoke kind method args) = by (target_of p given method)
    where
      by : (o : Option ℕ) → weight (elim o as (λ o. Insn) [ Some t ↦ insn.Invoke call.Static t args | None ↦ insn.Invoke kind method args ]) ≡ 2
      by None = refl
      by (Some t) = refl
  weight_same i = refl

  insns_same : (is : List Insn) → insns_weight (map (insn_loosened p given) is) ≡ insns_weight is
  insns_same [] = refl
  insns_same (i ∷ is) = ap (λ n. n + insns_weight (map (insn_loosened p given) is)) (weight_same i) ∙ ap (λ n. weight i + n) (insns_same is)

  code_same : (o : Option Body) → code_weight (code_loosened p given o) ≡ code_weight o
  code_same None = refl
  code_same (Some b) = insns_same b.insns

  -- ---- methods and classes

  self_body : (m : Method) → (self_loosened given m).body ≡ m.body
  self_body m = by (is_given given m.name)
    where
      by : (b : Bool) → (elim b as (λ b. Method) [ true ↦ record m { flags = flags_loosened m.flags; parameter_marks = marks_loosened m.parameter_marks } | false ↦ m ]).body ≡ m.body
      by true = refl
      by false = refl

  method_same : (m : Method) → method_weight (method_loosened p given m) ≡ method_weight m
  method_same m = ap (λ o. code_weight (code_loosened p given o)) (self_body m) ∙ code_same m.body

  weight_stays : (c d : Class) → IsLoosenedClass p given c d → class_weight d ≡ class_weight c
  weight_stays c d x = sum_by-IsPermutation method_weight (map (method_loosened p given) c.methods) d.methods x.methods ∙ mapped_sum method_weight (method_loosened p given) method_same c.methods

  size_stays : (c d : Class) → IsLoosenedClass p given c d → class_size d ≡ class_size c
  size_stays c d x =
      ap (λ n. 1 + length d.fields + n) (length_permutation (map (method_loosened p given) c.methods) d.methods x.methods ∙ mapped_long (method_loosened p given) c.methods)
      ∙ ap (λ (k : Class). 1 + length k.fields + length c.methods) x.rest

module _ (p : Program) (facts : Facts) (o : Outside) (admitted : List Bool) (c : Changed) (x : IsStaticisedBy p facts o admitted c) where
  module _ (f : Class → ℕ) (one : (given : List (Option ℕ)) (k d : Class) → IsLoosenedClass p given k d → f d ≡ f k) where
    loosened_sum : IsLoosenedBy p (judged p facts o admitted) c.program → sum_by f c.program.classes ≡ sum_by f p.classes
    loosened_sum y =
        let g = (judged p facts o admitted).given in
        each_sum (IsLoosenedClass p g) f (one g) p.classes c.program.classes y.classes.long y.classes.each

    made_sum : sum_by f c.program.classes ≡ sum_by f p.classes
    made_sum = by c.count refl
      where
        by : (n : ℕ) → c.count ≡ n → sum_by f c.program.classes ≡ sum_by f p.classes
        by zero e = ap (λ (q : Program). sum_by f q.classes) (x.same e)
        by (suc n) e = loosened_sum (x.loosened (omega (arith, e)))

  pub made_size : size_of c.program ≡ size_of p
  made_size = made_sum class_size (size_stays p)

  pub made_weight : weight_of c.program ≡ weight_of p
  made_weight = made_sum class_weight (weight_stays p)
