-- A folded program has as many members, and instructions that weigh no more.
use Rattle.std.proofs.Common.{◌≡◌, ℕ, zero, suc, ◌+◌, ◌≤◌, Bool, true, false, true≢false, List, [], ◌∷◌, length, Option, Some, None, ◌⊎◌, inl, inr, refl, sym, ap, ◌∙◌, subst, arith}
use Rattle.std.specs.Prelude.{sum_by, slice_get, slice_index_or}
use Rattle.std.proofs.lemmas.List.Sums.{sum_by-cons}
use Rattle.insn_set.specs.declared.form.Insn.{Insn}
use Rattle.insn_set.specs.declared.form.Insn.TheVariants as insn
use Rattle.program_model.specs.declared.body.Body.{Body}
use Rattle.program_model.specs.declared.pass.Changed.{Changed}
use Rattle.program_model.specs.declared.program.Class.{Class}
use Rattle.program_model.specs.declared.program.Method.{Method}
use Rattle.program_model.specs.declared.program.MethodAt.{MethodAt}
use Rattle.program_model.specs.declared.program.Program.{Program}
use Rattle.hierarchy.specs.declared.build.Hierarchy.{Hierarchy}
use Rattle.domains.specs.Values.{Parts}
use Rattle.dom_frame.specs.declared.frames.Frame.{Frame}
use Rattle.facts.specs.Lent.{frame_at}
use Rattle.facts.specs.declared.facts.Facts.{Facts}
use Rattle.reach.specs.Kept.{class_size, size_of}
use Rattle.thin_pass.specs.Weights.{weight, insns_weight, code_weight, method_weight, class_weight, weight_of}
use Rattle.rewrite_pass.specs.declared.edit.Edit.{Edit}
use Rattle.rewrite_pass.specs.Plans.{body_edited, code_edited, method_by, each_by, class_by, program_by, word, HasEdits, HasPlan}
use Rattle.const_prop.specs.Choices.{chosen}
use Rattle.const_prop.specs.Constants.{result_of, is_result}
use Rattle.const_prop.specs.Known.{way_by}
use Rattle.const_prop.specs.Allowed.{IsAllowed, Constant, Branch, insn_before}
use Rattle.const_prop.specs.Given.{given}
use Rattle.const_prop.specs.Folds.{AreFolds, IsFoldedBy}
use Rattle.facts_kept.specs.Folds.{IsFoldedBody}
use Rattle.facts_kept.proofs.Planned.{get_below, folded_body}

some_is : {A : Type 0} (x y : A) → Some x ≡ Some y → x ≡ y
some_is x y e = cc

light : (g : Insn) → weight g ≤ 2
light insn.Nop = omega arith
light g = omega arith

result_heavy : (f : Insn) → is_result (result_of f) ≡ true → weight f ≡ 2
result_heavy insn.Nop e = absurd (true≢false (sym e))
result_heavy f e = refl

choice_heavy : (f g : Insn) (next : ℕ) (frame : Option Frame) → chosen f next (way_by frame f) ≡ Some g → weight f ≡ 2
choice_heavy insn.Nop g next frame e = absurd (cc)
choice_heavy f g next frame e = refl

allowed_heavy : (p : Program) (given : Parts) (frame : Option Frame) (n : ℕ) (f g : Insn) → IsAllowed p given frame n f g → weight f ≡ 2
allowed_heavy p given frame n f _ (Constant num g e w c) = result_heavy f c.plain
allowed_heavy p given frame n f _ (Branch g e) = choice_heavy f g (n + 1) frame e

-- each instruction of a list weighs no more than the one at its place in another list
lighter : (is js : List Insn) → ((n : ℕ) (f : Insn) → slice_get is n ≡ Some f → (g : Insn) × (slice_get js n ≡ Some g) × (weight g ≤ weight f)) → ((n : ℕ) → slice_get is n ≡ None → slice_get js n ≡ None)
    → insns_weight js ≤ insns_weight is
lighter [] [] h e = omega arith
lighter [] (j ∷ js) h e = let k : Some j ≡ None = e 0 refl in absurd (cc)
lighter (i ∷ is) [] h e = let r : (g : Insn) × (slice_get [] 0 ≡ Some g) × (weight g ≤ weight i) = h 0 i refl in let k : None ≡ Some r.0 = r.1 in absurd (cc)
lighter (i ∷ is) (j ∷ js) h e =
    let r : (g : Insn) × (Some j ≡ Some g) × (weight g ≤ weight i) = h 0 i refl in
    let k : j ≡ r.0 = some_is j r.0 r.1 in
    let l : weight j ≤ weight i = subst (λ g. weight g ≤ weight i) (sym k) r.2 in
    let m : insns_weight js ≤ insns_weight is = lighter is js (λ n f x. h (suc n) f x) (λ n x. e (suc n) x) in
    omega (arith, l, m)

body_lighter : (p : Program) (facts : Facts) (class method : ℕ) (b d : Body) → IsFoldedBody p facts class method b d → insns_weight d.insns ≤ insns_weight b.insns
body_lighter p facts class method b d h = lighter b.insns d.insns (λ n f e. let r = h.insns n f e in (r.0, r.1, by n f r.0 r.2)) h.ends
  where
    by : (n : ℕ) (f g : Insn) → (g ≡ f) ⊎ IsAllowed p (given p facts class (insn_before b.insns n) f) (frame_at facts.frames.items method n) n f g → weight g ≤ weight f
    by n f g (inl s) = let k : weight g ≡ weight f = ap weight s in omega (arith, k)
    by n f g (inr a) = let k : weight f ≡ 2 = allowed_heavy p _ _ n f g a in let l : weight g ≤ 2 = light g in omega (arith, k, l)

-- ---- programs

at_most : {A E : Type 0} (f : A → ℕ) (by : List E → A → A) (xs : List A) (plan : List (List E)) → length plan ≡ length xs
    → ((k : ℕ) (x : A) → slice_get xs k ≡ Some x → f (by (slice_index_or plan k []) x) ≤ f x) → sum_by f (each_by by plan xs) ≤ sum_by f xs
at_most f by [] [] l h = omega arith
at_most f by [] (es ∷ plan) l h = absurd (omega (arith, l))
at_most f by (x ∷ xs) [] l h = absurd (omega (arith, l))
at_most f by (x ∷ xs) (es ∷ plan) l h =
    let one : f (by es x) ≤ f x = h 0 x refl in
    let rest : sum_by f (each_by by plan xs) ≤ sum_by f xs = at_most f by xs plan (omega (arith, l)) (λ k y e. h (suc k) y e) in
    let a : sum_by f (by es x ∷ each_by by plan xs) ≡ f (by es x) + sum_by f (each_by by plan xs) = sum_by-cons f (by es x) (each_by by plan xs) in
    let c : sum_by f (x ∷ xs) ≡ f x + sum_by f xs = sum_by-cons f x xs in
    omega (arith, one, rest, a, c)

as_long : {A E : Type 0} (by : List E → A → A) (xs : List A) (plan : List (List E)) → length plan ≡ length xs → length (each_by by plan xs) ≡ length xs
as_long by [] [] l = refl
as_long by [] (es ∷ plan) l = absurd (omega (arith, l))
as_long by (x ∷ xs) [] l = refl
as_long by (x ∷ xs) (es ∷ plan) l = ap suc (as_long by xs plan (omega (arith, l)))

same_sum : {A E : Type 0} (f : A → ℕ) (by : List E → A → A) (xs : List A) (plan : List (List E)) → length plan ≡ length xs
    → ((k : ℕ) (x : A) → slice_get xs k ≡ Some x → f (by (slice_index_or plan k []) x) ≡ f x) → sum_by f (each_by by plan xs) ≡ sum_by f xs
same_sum f by [] [] l h = refl
same_sum f by [] (es ∷ plan) l h = absurd (omega (arith, l))
same_sum f by (x ∷ xs) [] l h = absurd (omega (arith, l))
same_sum f by (x ∷ xs) (es ∷ plan) l h =
    let one : f (by es x) ≡ f x = h 0 x refl in
    let rest : sum_by f (each_by by plan xs) ≡ sum_by f xs = same_sum f by xs plan (omega (arith, l)) (λ k y e. h (suc k) y e) in
    let a : sum_by f (by es x ∷ each_by by plan xs) ≡ f (by es x) + sum_by f (each_by by plan xs) = sum_by-cons f (by es x) (each_by by plan xs) in
    let c : sum_by f (x ∷ xs) ≡ f x + sum_by f xs = sum_by-cons f x xs in
    omega (arith, one, rest, a, c)

module _ (p : Program) (h : Hierarchy) (facts : Facts) (admitted : List Bool) where
  abbrev W : MethodAt → Method → Body → List Edit → Type 0
  W = AreFolds p h facts

  code_lighter : (at : MethodAt) (m : Method) (adm : Bool) (o : Option Body) (es : List Edit) → HasEdits W adm at m o es → code_weight (code_edited es o) ≤ code_weight o
  code_lighter at m true (Some b) es z = body_lighter p facts at.class m.name b (body_edited es b) (folded_body p facts z.table at m b es z.each)
  code_lighter at m true None es z = omega arith
  code_lighter at m false (Some b) es z = subst (λ es. code_weight (code_edited es (Some b)) ≤ insns_weight b.insns) (sym z) (omega arith)
  code_lighter at m false None es z = omega arith

  method_lighter : (at : MethodAt) (m : Method) (adm : Bool) (es : List Edit) → HasEdits W adm at m m.body es → method_weight (method_by es m) ≤ method_weight m
  method_lighter at m adm [] z = omega arith
  method_lighter at m adm (e ∷ es) z = code_lighter at m adm m.body (e ∷ es) z

  class_lighter : (class : ℕ) (c : Class) (ps : List (List Edit)) → HasPlan W admitted class c.methods ps → class_weight (class_by ps c) ≤ class_weight c
  class_lighter class c ps z = at_most method_weight method_by c.methods ps z.long
      (λ k m e. method_lighter (record { class = class; place = word k }) m (slice_index_or admitted m.name false) (slice_index_or ps k []) (z.each k m (get_below c.methods k m e) e))

  class_sized : (class : ℕ) (c : Class) (ps : List (List Edit)) → HasPlan W admitted class c.methods ps → class_size (class_by ps c) ≡ class_size c
  class_sized class c ps z = ap (λ n. 1 + length c.fields + n) (as_long method_by c.methods ps z.long)

  module _ (c : Changed) (r : IsFoldedBy p h facts admitted c) where
    program_lighter : weight_of (program_by r.plan p) ≤ weight_of p
    program_lighter = at_most class_weight class_by p.classes r.plan r.asked.long
        (λ k d e. class_lighter (word k) d (slice_index_or r.plan k []) (r.asked.each k d (get_below p.classes k d e) e))

    program_sized : size_of (program_by r.plan p) ≡ size_of p
    program_sized = same_sum class_size class_by p.classes r.plan r.asked.long
        (λ k d e. class_sized (word k) d (slice_index_or r.plan k []) (r.asked.each k d (get_below p.classes k d e) e))

    pub folded_weight : weight_of c.program ≤ weight_of p
    folded_weight = subst (λ q. weight_of q ≤ weight_of p) (sym r.written.program) program_lighter

    pub folded_size : size_of c.program ≡ size_of p
    folded_size = ap size_of r.written.program ∙ program_sized
